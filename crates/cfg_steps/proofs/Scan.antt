-- Labels that a scan finds directly in a block get nodes and are put in force.
-- Assumes nothing.
use mathlib.Core.Path.{◌≡◌, refl, sym, ap, ◌∙◌}
use mathlib.Core.List.{List, [], ◌∷◌, ◌++◌}
use mathlib.Core.Bool.{Bool, true, false, cond, ◌&&◌}
use Prim.Native.Nat.{ℕ, zero, suc, ◌+◌, ◌*◌, ◌^◌, ◌<◌}
use native.Mathlib.Numerals.{add-one}
use native.Mathlib.Omega.{arith}
use lib.ListN.{length, drop, get_or, set, length-set, length-append}
use lib.Dec.{eqb}
use Rattle.search.proofs.Bools.{and_both}
use Rattle.flow.specs.Sheet.{kind_of, argument_of}
use Rattle.kinds.specs.Label.{is_label}
use Rattle.blocks.specs.Open.{labels_here, labels_in, ends_at, depth_after}
use Rattle.blocks.proofs.Scan.{label_kind}
use lib.Seq.{take-set-le, get_or-set_same, drop-set-lt, get_or-drop, get_or-append_seam}
use Rattle.std.proofs.lemmas.List.{length-drop}
use Rattle.flow.specs.Graph.{Graph, Label, new_node, new_nodes, with_labels}
use Rattle.cfg_edges.specs.Halves.{hi, label_list}
use Rattle.cfg_steps.specs.Columns.{Place, Cols, cols, graph_of, Good, Entered, LabelsFit}
use Rattle.cfg_steps.proofs.Fits.{each_more, good_of}
use Rattle.cfg_steps.proofs.Ops.{grown_same, grown_trans, same_labels, lo_of, hi_of, new_did}

-- ---- labels in force

new_append : (as' bs : List ℕ) (g : Graph) → new_nodes (as' ++ bs) g ≡ new_nodes bs (new_nodes as' g)
unfolding new_nodes
new_append [] bs g = refl
new_append (a ∷ as') bs g = new_append as' bs (new_node g)

with_append : (as' bs : List ℕ) (v : ℕ) (ls : List Label) → with_labels (as' ++ bs) v ls ≡ with_labels bs (v + length as') (with_labels as' v ls)
unfolding with_labels
with_append [] bs v ls = ap (λ (n : ℕ). with_labels bs n ls) (omega arith)
with_append (a ∷ as') bs v ls = with_append as' bs (v + 1) _ ∙ ap (λ (n : ℕ). with_labels bs n (with_labels as' (v + 1) (record { name = a; node = v } ∷ ls))) (omega arith)

pub entered_none : (ks : List ℕ) (b : Place) (x : Cols) → Good b x → Entered ks [] b x b x
unfolding new_nodes with_labels
entered_none ks b x ok = record {
  good = ok;
  grown = grown_same b x;
  item = refl;
  codes = refl;
  names = refl;
  cursor = refl;
  scope_end = refl;
  break_target = refl;
  continue_target = refl;
  nodes = omega arith;
  labels = omega arith;
  in_force = refl;
  built = λ ss. refl;
}

-- names that are entered after others
pub entered_trans : {ks bs : List ℕ} {b t r : Place} {x y z : Cols} → Entered ks bs t y r z → (as' : List ℕ) → Entered ks as' b x t y → Entered ks (as' ++ bs) b x r z
entered_trans {ks} {bs} {b} {t} {r} {x} {y} {z} q as' p = record {
  good = q.good;
  grown = grown_trans (omega arith) p.grown q.grown;
  item = q.item ∙ p.item;
  codes = q.codes ∙ p.codes;
  names = q.names ∙ p.names;
  cursor = q.cursor ∙ p.cursor;
  scope_end = q.scope_end ∙ p.scope_end;
  break_target = q.break_target ∙ p.break_target;
  continue_target = q.continue_target ∙ p.continue_target;
  nodes = omega (arith, length-append as' bs);
  labels = omega (arith, length-append as' bs);
  in_force = q.in_force ∙ rw (p.in_force, p.nodes) (sym (with_append as' bs b.nodes (label_list b.settings.labels x.labels)));
  built = λ ss. q.built ss ∙ ap (new_nodes bs) (p.built ss) ∙ sym (new_append as' bs (graph_of ks ss b x));
}

list_more : (k : ℕ) (l : List ℕ) (a v : ℕ) → k < length l → a < 2 ^ 32 → label_list (k + 1) (set l k (a + v * 2 ^ 32)) ≡ record { name = a; node = v } ∷ label_list k l
unfolding label_list
list_more k l a v h ha =
    rw (add-one, get_or-set_same l k (a + v * 2 ^ 32) 0 h, lo_of a v ha, hi_of a v ha, same_labels k (set l k (a + v * 2 ^ 32)) l (take-set-le k l k (a + v * 2 ^ 32) (omega arith)))

-- one label more: its word, and its node
pub label_entered : (ks : List ℕ) (b : Place) (e c n l : List ℕ) (a : ℕ) → Good b (cols e c n l) → b.nodes < 1600 → a < 2 ^ 32
    → Entered ks (a ∷ []) b (cols e c n l) (record {
      item = b.item;
      nodes = b.nodes + 1;
      codes = b.codes;
      names = b.names;
      cursor = b.cursor;
      settings = record { labels = b.settings.labels + 1; scope_end = b.settings.scope_end; break_target = b.settings.break_target; continue_target = b.settings.continue_target };
    }) (cols (set e b.nodes 18446744073709551615) c n (set l b.settings.labels (a + b.nodes * 2 ^ 32)))
unfolding new_nodes with_labels graph_of
label_entered ks b e c n l a ok hn ha =
    let d = new_did ks b e c n l ok hn in
    let long : b.settings.labels < length l = omega (arith, ok.wide_labels, ok.labels) in
    let g = d.good in
    record {
      good = good_of (omega (arith, g, ok.labels, length-set l b.settings.labels (a + b.nodes * 2 ^ 32))) g.cursor g.code_nodes g.code_items g.name_items
          (each_more hi b.settings.labels l (a + b.nodes * 2 ^ 32) (b.nodes + 1) long (rw (hi_of a b.nodes ha) (omega arith)) g.label_nodes);
      grown = record {
        nodes = omega arith;
        codes = omega arith;
        names = omega arith;
        edges_past = d.grown.edges_past;
        codes_past = refl;
        names_past = refl;
        labels_past = drop-set-lt (b.nodes + 1) l b.settings.labels _ (omega (arith, ok.labels));
        labels_kept = take-set-le b.settings.labels l b.settings.labels _ (omega arith);
        edges_length = d.grown.edges_length;
        codes_length = refl;
        names_length = refl;
        labels_length = length-set l b.settings.labels _;
      };
      item = refl;
      codes = refl;
      names = refl;
      cursor = refl;
      scope_end = refl;
      break_target = refl;
      continue_target = refl;
      nodes = omega arith;
      labels = omega arith;
      in_force = list_more b.settings.labels l a b.nodes long ha;
      built = d.built;
    }

-- ---- the names of labels fit their words

small_at : (ws : List ℕ) (d : ℕ) → LabelsFit ws → (k : ℕ) → k < length (labels_in ws d) → get_or (labels_in ws d) k 0 < 2 ^ 32
unfolding labels_in labels_here
small_at [] d f k h = absurd (omega arith)
small_at (w ∷ ws) d f k h = go (ends_at (kind_of w) d) (λ j q. small_at ws (depth_after (kind_of w) d) (λ i p e. f (suc i) (omega arith) e) j q) h
  where
    next : ℕ
    next = depth_after (kind_of w) d

    here : (b : Bool) → (b ≡ true → kind_of w ≡ 12) → ((j : ℕ) → j < length (labels_in ws next) → get_or (labels_in ws next) j 0 < 2 ^ 32) → (k : ℕ) → k < length (cond b (argument_of w ∷ []) [] ++ labels_in ws next) → get_or (cond b (argument_of w ∷ []) [] ++ labels_in ws next) k 0 < 2 ^ 32
    here true q r zero h = f 0 (omega arith) (q refl)
    here true q r (suc k) h = r k (omega arith)
    here false q r k h = r k h

    go : (t : Bool) → ((j : ℕ) → j < length (labels_in ws next) → get_or (labels_in ws next) j 0 < 2 ^ 32) → k < length (cond t [] (cond (eqb d 0 && is_label w) (argument_of w ∷ []) [] ++ labels_in ws next)) → get_or (cond t [] (cond (eqb d 0 && is_label w) (argument_of w ∷ []) [] ++ labels_in ws next)) k 0 < 2 ^ 32
    go true r h = absurd (omega arith)
    go false r h = here (eqb d 0 && is_label w) (λ e. label_kind w (and_both (eqb d 0) (is_label w) e).1) r k h

pub small_of : (ws : List ℕ) (d : ℕ) (found rest : List ℕ) {a : ℕ} → LabelsFit ws → labels_in ws d ≡ found ++ (a ∷ rest) → a < 2 ^ 32
small_of ws d found rest {a} f e =
    let p : length found < length (labels_in ws d) = omega (arith, ap length e, length-append found (a ∷ rest)) in
    rw (e, get_or-append_seam found a rest 0) at (small_at ws d f (length found) p)

pub fit_from : (ks : List ℕ) (j : ℕ) → LabelsFit ks → LabelsFit (drop j ks)
fit_from ks j f i h e = rw (get_or-drop) (f (j + i) (omega (arith, length-drop j ks)) (rw (get_or-drop) at e))
