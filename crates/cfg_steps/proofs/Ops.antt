-- Laws of the columns, and what each operation does to the graph that they stand for.
-- Assumes nothing.
use mathlib.Core.Path.{◌≡◌, refl, sym, ap, ◌∙◌, subst}
use mathlib.Core.Logic.{◌⊎◌, inl, inr}
use mathlib.Core.List.{List, [], ◌∷◌, ◌++◌, map, map-append}
use mathlib.Core.Bool.{Bool, true, false, cond}
use Prim.Native.Nat.{ℕ, zero, suc, ◌+◌, ◌-◌, ◌*◌, ◌%◌, ◌^◌, ◌≤◌, ◌<◌}
use native.Mathlib.Numerals.{add-one}
use native.Mathlib.Omega.{arith}
use lib.ListN.{length, take, drop, get_or, set, replicate, length-set, length-map, length-replicate, replicate-append-replicate, get_or-map}
use lib.Seq.{take-suc-set, drop-set-lt, take-set-lt, get_or-take, drop-drop, take-take, length-take-le, map-set_same, set-append_left}
use lib.Dec.{eqb}
use borrow.Author.Tests.{eqb-false, ne_eqb}
use Rattle.flow.specs.Sheet.{start_of}
use Rattle.flow.specs.Graph.{Graph, Nodes, Codes, Names, absent, node_count, new_node, connect, set_current, advance_to, close_into, record_code, set_start, code, jump, declare}
use Rattle.std.specs.Prelude.{Option, Some, None, IfSome}
use Rattle.cfg_edges.specs.Halves.{lo, hi, joined, joined_from, label_list}
use Rattle.cfg_edges.proofs.Lookup.{is_node}
use Rattle.kinds.specs.Starts.{has_start}
use Rattle.cfg_steps.specs.Columns.{Place, Cols, cols, cursor_node, painted, node_of_name, name_item, graph_of, settings_of, Good, Grown, Did}
use Rattle.cfg_steps.proofs.Fits.{each_more, good_of, good_as}

-- one place more
pub take_more : (n v : ℕ) (l : List ℕ) → n < length l → take (n + 1) (set l n v) ≡ take n l ++ (v ∷ [])
take_more n v l h = rw (add-one, take-suc-set)

pub drop_after : (n v : ℕ) (l : List ℕ) → drop (n + 1) (set l n v) ≡ drop (n + 1) l
drop_after n v l = drop-set-lt (n + 1) l n v (omega arith)

-- what is unchanged from n on is unchanged from m on, past n
pub drop_more : {n m : ℕ} (f g : List ℕ) → n ≤ m → drop n f ≡ drop n g → drop m f ≡ drop m g
drop_more {n} {m} f g h e = later (m - n) (omega arith)
  where
    later : (k : ℕ) → n + k ≡ m → drop m f ≡ drop m g
    later k q = rw (← q, ← drop-drop k n f, ← drop-drop k n g) (ap (drop k) e)

pub take_less : {n m : ℕ} (f g : List ℕ) → n ≤ m → take m f ≡ take m g → take n f ≡ take n g
take_less {n} {m} f g h e = sym (take-take n m f h) ∙ ap (take n) e ∙ take-take n m g h

map_set : (f : ℕ → ℕ) (l : List ℕ) (i v : ℕ) → map f (set l i v) ≡ set (map f l) i (f v)
map_set f [] i v = refl
map_set f (x ∷ l) zero v = refl
map_set f (x ∷ l) (suc i) v = ap (λ (m : List ℕ). f x ∷ m) (map_set f l i v)

map_more : (f : ℕ → ℕ) (n v : ℕ) (l : List ℕ) → n < length l → map f (take (n + 1) (set l n v)) ≡ map f (take n l) ++ (f v ∷ [])
map_more f n v l h = rw (take_more n v l h) (map-append f (take n l) (v ∷ []))

-- a word of two halves
pub lo_of : (a b : ℕ) → a < 2 ^ 32 → lo (a + b * 2 ^ 32) ≡ a
lo_of a b h = omega arith

pub hi_of : (a b : ℕ) → a < 2 ^ 32 → hi (a + b * 2 ^ 32) ≡ b
hi_of a b h = omega arith

-- ---- an edge

module _ (n a b : ℕ) (es : List ℕ) (ha : (a < n) ⊎ (a ≡ absent)) (hn : n ≤ length es) (hb : b < 2 ^ 32) where
  pub joined_past : drop n (joined a b es) ≡ drop n es
  unfolding joined
  joined_past = go (eqb a absent) (eqb (lo (get_or es a 0)) absent) (eqb (hi (get_or es a 0)) absent) refl
    where
      inside : eqb a absent ≡ false → a < n
      inside e = is_node ha (eqb-false a absent e)

      go : (t u v : Bool) → eqb a absent ≡ t → drop n (cond t es (cond u (set es a (b + hi (get_or es a 0) * 2 ^ 32)) (cond v (set es a (lo (get_or es a 0) + b * 2 ^ 32)) es))) ≡ drop n es
      go true u v e = refl
      go false true v e = drop-set-lt n es a _ (inside e)
      go false false true e = drop-set-lt n es a _ (inside e)
      go false false false e = refl

  pub joined_length : length (joined a b es) ≡ length es
  unfolding joined
  joined_length = go (eqb a absent) (eqb (lo (get_or es a 0)) absent) (eqb (hi (get_or es a 0)) absent)
    where
      go : (t u v : Bool) → length (cond t es (cond u (set es a (b + hi (get_or es a 0) * 2 ^ 32)) (cond v (set es a (lo (get_or es a 0) + b * 2 ^ 32)) es))) ≡ length es
      go true u v = refl
      go false true v = length-set es a _
      go false false true = length-set es a _
      go false false false = refl

  -- the nodes that the words stand for
  abbrev nodes_of : List ℕ → List ℕ → Nodes
  nodes_of ws ps = record { first = map lo (take n ws); second = map hi (take n ws); start = ps }

  at_half : (f : ℕ → ℕ) → f 0 ≡ 0 → a < n → get_or (map f (take n es)) a 0 ≡ f (get_or es a 0)
  at_half f z h = subst (λ (d : ℕ). get_or (map f (take n es)) a d ≡ f (get_or es a 0)) z (get_or-map f (take n es) a 0 ∙ ap f (get_or-take n es a 0 h))

  set_half : (f : ℕ → ℕ) (w : ℕ) → a < n → map f (take n (set es a w)) ≡ set (map f (take n es)) a (f w)
  set_half f w h = rw (take-set-lt n es a w h) (map_set f (take n es) a w)

  filter_half : (f : ℕ → ℕ) (w : ℕ) → a < n → f w ≡ f (get_or es a 0) → map f (take n (set es a w)) ≡ map f (take n es)
  filter_half f w h e = rw (take-set-lt n es a w h) (map-set_same f (take n es) a w 0 (e ∙ ap f (sym (get_or-take n es a 0 h))))

  same_nodes : {f f' s s' : List ℕ} (p : List ℕ) → f ≡ f' → s ≡ s' → ◌≡◌ {A = Nodes} (record { first = f; second = s; start = p }) (record { first = f'; second = s'; start = p })
  same_nodes p e q = cc

  pub joined_nodes : (ps : List ℕ) → nodes_of (joined a b es) ps
      ≡ cond (eqb a absent) (nodes_of es ps)
      (cond (eqb (get_or (map lo (take n es)) a 0) absent)
      (record { first = set (map lo (take n es)) a b; second = map hi (take n es); start = ps })
      (cond (eqb (get_or (map hi (take n es)) a 0) absent)
      (record { first = map lo (take n es); second = set (map hi (take n es)) a b; start = ps })
      (nodes_of es ps)))
  unfolding joined
  joined_nodes ps = go (eqb a absent) refl
    where
      cases : (u v : Bool) → a < n → nodes_of (cond u (set es a (b + hi (get_or es a 0) * 2 ^ 32)) (cond v (set es a (lo (get_or es a 0) + b * 2 ^ 32)) es)) ps
          ≡ cond u (record { first = set (map lo (take n es)) a b; second = map hi (take n es); start = ps })
          (cond v (record { first = map lo (take n es); second = set (map hi (take n es)) a b; start = ps }) (nodes_of es ps))
      cases true v h =
          same_nodes ps (set_half lo (b + hi (get_or es a 0) * 2 ^ 32) h ∙ ap (set (map lo (take n es)) a) (lo_of b (hi (get_or es a 0)) hb))
          (filter_half hi (b + hi (get_or es a 0) * 2 ^ 32) h (hi_of b (hi (get_or es a 0)) hb))
      cases false true h =
          same_nodes ps (filter_half lo (lo (get_or es a 0) + b * 2 ^ 32) h (lo_of (lo (get_or es a 0)) b (omega arith)))
          (set_half hi (lo (get_or es a 0) + b * 2 ^ 32) h ∙ ap (set (map hi (take n es)) a) (hi_of (lo (get_or es a 0)) b (omega arith)))
      cases false false h = refl

      go : (t : Bool) → eqb a absent ≡ t
          → nodes_of (cond t es (cond (eqb (lo (get_or es a 0)) absent) (set es a (b + hi (get_or es a 0) * 2 ^ 32)) (cond (eqb (hi (get_or es a 0)) absent) (set es a (lo (get_or es a 0) + b * 2 ^ 32)) es))) ps
          ≡ cond t (nodes_of es ps)
          (cond (eqb (get_or (map lo (take n es)) a 0) absent)
          (record { first = set (map lo (take n es)) a b; second = map hi (take n es); start = ps })
          (cond (eqb (get_or (map hi (take n es)) a 0) absent)
          (record { first = map lo (take n es); second = set (map hi (take n es)) a b; start = ps })
          (nodes_of es ps)))
      go true e = refl
      go false e =
          let h : a < n = is_node ha (eqb-false a absent e) in
          rw (at_half lo refl h, at_half hi refl h) (cases (eqb (lo (get_or es a 0)) absent) (eqb (hi (get_or es a 0)) absent) h)

-- ---- the current node

pub cursor_is : {n : ℕ} (o : Option ℕ) → IfSome o (λ a. a < n) → (cursor_node o < n) ⊎ (cursor_node o ≡ absent)
cursor_is None h = inr refl
cursor_is (Some v) h = inl h

-- an edge from a node, if there is one, is one from its number
pub from_joined : (o : Option ℕ) (t n : ℕ) (es : List ℕ) → IfSome o (λ a. a < n) → n ≤ 1600 → joined_from o t es ≡ joined (cursor_node o) t es
unfolding joined
from_joined None t n es h k = refl
from_joined (Some a) t n es h k = rw (ne_eqb a absent (λ z. omega arith))

-- ---- the graph that columns stand for

pub count_of : (ks ss : List ℕ) (b : Place) (x : Cols) → b.nodes ≤ length x.edges → node_count (graph_of ks ss b x) ≡ b.nodes
unfolding graph_of
count_of ks ss b x h = length-map (take b.nodes x.edges) lo ∙ length-take-le b.nodes x.edges h

pub current_of : (ks ss : List ℕ) (b : Place) (x : Cols) → (graph_of ks ss b x).current ≡ cursor_node b.cursor
unfolding graph_of
current_of ks ss b x = refl

same_columns : {f f' s s' p p' : List ℕ} → f ≡ f' → s ≡ s' → p ≡ p' → ◌≡◌ {A = Nodes} (record { first = f; second = s; start = p }) (record { first = f'; second = s'; start = p' })
same_columns a b c = cc

same_names : {f f' s s' p p' : List ℕ} → f ≡ f' → s ≡ s' → p ≡ p' → ◌≡◌ {A = Names} (record { span = f; node = s; scope_end = p }) (record { span = f'; node = s'; scope_end = p' })
same_names a b c = cc

same_graph : {n n' : Nodes} {c c' : Codes} {m m' : Names} {v v' : ℕ} → n ≡ n' → c ≡ c' → m ≡ m' → v ≡ v'
    → ◌≡◌ {A = Graph} (record { nodes = n; codes = c; names = m; current = v }) (record { nodes = n'; codes = c'; names = m'; current = v' })
same_graph a b c d = cc

pub same_labels : (k : ℕ) (l l' : List ℕ) → take k l ≡ take k l' → label_list k l ≡ label_list k l'
unfolding label_list
same_labels zero l l' e = refl
same_labels (suc k) l l' e =
    let h : get_or l k 0 ≡ get_or l' k 0 = sym (get_or-take (suc k) l k 0 (omega arith)) ∙ ap (λ (m : List ℕ). get_or m k 0) e ∙ get_or-take (suc k) l' k 0 (omega arith) in
    rw (h, same_labels k l l' (take_less {n = k} {m = suc k} l l' (omega arith) e))

pub grown_same : (b : Place) (x : Cols) → Grown b x b x
grown_same b x = record {
  nodes = omega arith;
  codes = omega arith;
  names = omega arith;
  edges_past = refl;
  codes_past = refl;
  names_past = refl;
  labels_past = refl;
  labels_kept = refl;
  edges_length = refl;
  codes_length = refl;
  names_length = refl;
  labels_length = refl;
}

pub grown_trans : {b t r : Place} {x y z : Cols} → b.settings.labels ≤ t.settings.labels → Grown b x t y → Grown t y r z → Grown b x r z
grown_trans {b} {t} {r} {x} {y} {z} l p q = record {
  nodes = omega arith;
  codes = omega arith;
  names = omega arith;
  edges_past = q.edges_past ∙ drop_more {n = t.nodes} {m = r.nodes} y.edges x.edges q.nodes p.edges_past;
  codes_past = q.codes_past ∙ drop_more {n = t.codes} {m = r.codes} y.codes x.codes q.codes p.codes_past;
  names_past = q.names_past ∙ drop_more {n = t.names} {m = r.names} y.names x.names q.names p.names_past;
  labels_past = q.labels_past ∙ drop_more {n = t.nodes} {m = r.nodes} y.labels x.labels q.nodes p.labels_past;
  labels_kept = take_less {n = b.settings.labels} {m = t.settings.labels} z.labels y.labels l q.labels_kept ∙ p.labels_kept;
  edges_length = q.edges_length ∙ p.edges_length;
  codes_length = q.codes_length ∙ p.codes_length;
  names_length = q.names_length ∙ p.names_length;
  labels_length = q.labels_length ∙ p.labels_length;
}

pub did_trans : {ks : List ℕ} {f g : List ℕ → Graph → Graph} {n m : ℕ} {b t r : Place} {x y z : Cols} → Did ks f n b x t y → Did ks g m t y r z → Did ks (λ ss h. g ss (f ss h)) (n + m) b x r z
did_trans {g = g} p q = record {
  good = q.good;
  grown = grown_trans (omega arith) p.grown q.grown;
  item = q.item ∙ p.item;
  nodes = omega arith;
  labels = q.labels ∙ p.labels;
  settings = q.settings ∙ p.settings;
  built = λ ss. q.built ss ∙ ap (g ss) (p.built ss);
}

-- ---- code starts

pub painted_length : (ks ss cs ps : List ℕ) → length (painted ks ss cs ps) ≡ length ps
unfolding painted
painted_length ks ss [] ps = refl
painted_length ks ss (c ∷ cs) ps = painted_length ks ss cs _ ∙ go (has_start (get_or ks (hi c) 0))
  where
    go : (t : Bool) → length (cond t (set ps (lo c) (start_of (get_or ss (hi c) 0))) ps) ≡ length ps
    go true = length-set ps (lo c) _
    go false = refl

pub painted_append : (ks ss cs ds ps : List ℕ) → painted ks ss (cs ++ ds) ps ≡ painted ks ss ds (painted ks ss cs ps)
unfolding painted
painted_append ks ss [] ds ps = refl
painted_append ks ss (c ∷ cs) ds ps = painted_append ks ss cs ds _

-- one code more
painted_last : (ks ss c ps : List ℕ) (k w i v : ℕ) (t : Bool) → k < length c → hi w ≡ i → lo w ≡ v → has_start (get_or ks i 0) ≡ t
    → painted ks ss (take (k + 1) (set c k w)) ps ≡ cond t (set (painted ks ss (take k c) ps) v (start_of (get_or ss i 0))) (painted ks ss (take k c) ps)
unfolding painted
painted_last ks ss c ps k w i v t h p q e = rw (take_more k w c h, painted_append ks ss (take k c) (w ∷ []) ps, p, q, e)

-- codes of nodes that are there leave what is added past them
pub painted_left : (ks ss cs ps qs : List ℕ) → ((k : ℕ) → k < length cs → lo (get_or cs k 0) < length ps) → painted ks ss cs (ps ++ qs) ≡ painted ks ss cs ps ++ qs
unfolding painted
painted_left ks ss [] ps qs h = refl
painted_left ks ss (c ∷ cs) ps qs h =
    ap (painted ks ss cs) (go (has_start (get_or ks (hi c) 0)))
    ∙ painted_left ks ss cs _ qs (λ k q. rw (len (has_start (get_or ks (hi c) 0))) (h (suc k) (omega arith)))
  where
    here : lo c < length ps
    here = h 0 (omega arith)

    go : (t : Bool) → cond t (set (ps ++ qs) (lo c) (start_of (get_or ss (hi c) 0))) (ps ++ qs) ≡ cond t (set ps (lo c) (start_of (get_or ss (hi c) 0))) ps ++ qs
    go true = set-append_left ps qs (lo c) _ here
    go false = refl

    len : (t : Bool) → length (cond t (set ps (lo c) (start_of (get_or ss (hi c) 0))) ps) ≡ length ps
    len true = length-set ps (lo c) _
    len false = refl

-- ---- what each operation does

module _ (ks : List ℕ) (b : Place) (e c n l : List ℕ) (ok : Good b (cols e c n l)) where
  -- an edge from the current node to t, after which v is current
  abbrev pub with_cursor : Option ℕ → Place
  with_cursor v = record {
    item = b.item;
    nodes = b.nodes;
    codes = b.codes;
    names = b.names;
    cursor = v;
    settings = b.settings;
  }

  -- an edge from a to t, after which v is current
  pub edge_did : (a t : ℕ) (v : Option ℕ) (e' : List ℕ) → e' ≡ joined a t e → (a < b.nodes) ⊎ (a ≡ absent) → t < b.nodes → IfSome v (λ u. u < b.nodes)
      → Did ks (λ ss g. set_current (cursor_node v) (connect a t g)) 0 b (cols e c n l) (with_cursor v) (cols e' c n l)
  unfolding graph_of settings_of set_current connect
  edge_did a t v e' q ha ht hv =
      let long : b.nodes ≤ length e = omega (arith, ok.wide_edges, ok.nodes) in
      let small : t < 2 ^ 32 = omega (arith, ok.nodes) in
      let len : length e' ≡ length e = ap length q ∙ joined_length b.nodes a t e ha long small in
      record {
        good = good_as ok (omega (arith, ok, len)) hv;
        grown = record {
          nodes = omega arith;
          codes = omega arith;
          names = omega arith;
          edges_past = rw q (joined_past b.nodes a t e ha long small);
          codes_past = refl;
          names_past = refl;
          labels_past = refl;
          labels_kept = refl;
          edges_length = len;
          codes_length = refl;
          names_length = refl;
          labels_length = refl;
        };
        item = refl;
        nodes = omega arith;
        labels = refl;
        settings = refl;
        built = λ ss. same_graph (rw q (joined_nodes b.nodes a t e ha long small _)) refl refl refl;
      }

  from_current : (t : ℕ) (v : Option ℕ) (e' : List ℕ) → e' ≡ joined_from b.cursor t e → t < b.nodes → IfSome v (λ u. u < b.nodes)
      → Did ks (λ ss g. set_current (cursor_node v) (connect g.current t g)) 0 b (cols e c n l) (with_cursor v) (cols e' c n l)
  from_current t v e' q ht hv =
      let d = edge_did (cursor_node b.cursor) t v e' (q ∙ from_joined b.cursor t b.nodes e ok.cursor ok.nodes) (cursor_is b.cursor ok.cursor) ht hv in
      record {
        good = d.good;
        grown = d.grown;
        item = d.item;
        nodes = d.nodes;
        labels = d.labels;
        settings = d.settings;
        built = λ ss. d.built ss ∙ ap (λ (a : ℕ). set_current (cursor_node v) (connect a t (graph_of ks ss b (cols e c n l)))) (sym (current_of ks ss b (cols e c n l)));
      }

  pub advance_did : (t : ℕ) (e' : List ℕ) → e' ≡ joined_from b.cursor t e → t < b.nodes → Did ks (λ ss. advance_to t) 0 b (cols e c n l) (with_cursor (Some t)) (cols e' c n l)
  unfolding advance_to
  advance_did t e' q ht = from_current t (Some t) e' q ht ht

  pub close_did : (t : ℕ) (e' : List ℕ) → e' ≡ joined_from b.cursor t e → t < b.nodes → Did ks (λ ss. close_into t) 0 b (cols e c n l) (with_cursor None) (cols e' c n l)
  unfolding close_into
  close_did t e' q ht = from_current t None e' q ht tt

  -- the counts and the current node anew
  abbrev pub with_counts : ℕ → ℕ → ℕ → Option ℕ → Place
  with_counts nodes codes names v = record {
    item = b.item;
    nodes = nodes;
    codes = codes;
    names = names;
    cursor = v;
    settings = b.settings;
  }

  abbrev free : ℕ
  free = 18446744073709551615

  cursor_more : (o : Option ℕ) → IfSome o (λ v. v < b.nodes) → IfSome o (λ v. v < b.nodes + 1)
  cursor_more None h = tt
  cursor_more (Some v) h = omega arith

  codes_below : (k : ℕ) → k < length (take b.codes c) → lo (get_or (take b.codes c) k 0) < b.nodes
  codes_below k h =
      let len : length (take b.codes c) ≡ b.codes = length-take-le b.codes c (omega (arith, ok.wide_codes, ok.codes, ok.items)) in
      let hk : k < b.codes = omega arith in
      rw (get_or-take b.codes c k 0 hk) (ok.code_nodes k hk)

  pub new_did : b.nodes < 1600 → Did ks (λ ss. new_node) 1 b (cols e c n l) (with_counts (b.nodes + 1) b.codes b.names b.cursor) (cols (set e b.nodes free) c n l)
  unfolding graph_of settings_of new_node
  new_did h =
      let long : b.nodes < length e = omega (arith, ok.wide_edges) in
      record {
        good = good_as ok (omega (arith, ok, length-set e b.nodes free)) (cursor_more b.cursor ok.cursor);
        grown = record {
          nodes = omega arith;
          codes = omega arith;
          names = omega arith;
          edges_past = drop_after b.nodes free e;
          codes_past = refl;
          names_past = refl;
          labels_past = refl;
          labels_kept = refl;
          edges_length = length-set e b.nodes free;
          codes_length = refl;
          names_length = refl;
          labels_length = refl;
        };
        item = refl;
        nodes = refl;
        labels = refl;
        settings = refl;
        built = λ ss. same_graph
            (same_columns (map_more lo b.nodes free e long) (map_more hi b.nodes free e long)
            (ap (painted ks ss (take b.codes c)) (sym (replicate-append-replicate b.nodes 1 0))
            ∙ painted_left ks ss (take b.codes c) (replicate b.nodes 0) (0 ∷ []) (λ k q. rw (length-replicate {A = ℕ} b.nodes 0) (codes_below k q))))
            refl refl refl;
      }

  -- a code's word at its place
  abbrev pub code_word : ℕ → ℕ → ℕ
  code_word i v = v + i * 2 ^ 32

  pub good_code : (i v : ℕ) → i < b.item → b.codes < b.item → v < b.nodes → Good (with_counts b.nodes (b.codes + 1) b.names b.cursor) (cols e (set c b.codes (code_word i v)) n l)
  good_code i v hi' h hv =
      let long : b.codes < length c = omega (arith, ok.wide_codes, ok.items) in
      good_of (omega (arith, ok, length-set c b.codes (code_word i v))) ok.cursor
      (each_more lo b.codes c (code_word i v) b.nodes long (rw (lo_of v i (omega (arith, ok.nodes))) hv) ok.code_nodes)
      (each_more hi b.codes c (code_word i v) b.item long (rw (hi_of v i (omega (arith, ok.nodes))) hi') ok.code_items) ok.name_items ok.label_nodes

  -- the span of item i recorded at the node v, which has a code start where the item's kind gives it one
  abbrev start_if : Bool → ℕ → ℕ → Graph → Graph
  start_if t v s g = cond t (set_start v (start_of s) g) g

  code_did : (i v : ℕ) (t : Bool) → i < b.item → b.codes < b.item → v < b.nodes → has_start (get_or ks i 0) ≡ t
      → Did ks (λ ss g. record_code (get_or ss i 0) v (start_if t v (get_or ss i 0) g)) 0 b (cols e c n l) (with_counts b.nodes (b.codes + 1) b.names b.cursor) (cols e (set c b.codes (code_word i v)) n l)
  unfolding graph_of settings_of record_code set_start painted
  code_did i v t hi' h hv q =
      record {
        good = good_code i v hi' h hv;
        grown = record {
          nodes = omega arith;
          codes = omega arith;
          names = omega arith;
          edges_past = refl;
          codes_past = drop_after b.codes (code_word i v) c;
          names_past = refl;
          labels_past = refl;
          labels_kept = refl;
          edges_length = refl;
          codes_length = length-set c b.codes (code_word i v);
          names_length = refl;
          labels_length = refl;
        };
        item = refl;
        nodes = omega arith;
        labels = refl;
        settings = refl;
        built = λ ss. made ss t q;
      }
    where
      long : b.codes < length c
      long = omega (arith, ok.wide_codes, ok.items)

      small : v < 2 ^ 32
      small = omega (arith, ok.nodes)

      codes_more : (ss : List ℕ)
          → ◌≡◌ {A = Codes} (record { span = map (λ w. get_or ss (hi w) 0) (take (b.codes + 1) (set c b.codes (code_word i v))); node = map lo (take (b.codes + 1) (set c b.codes (code_word i v))) })
          (record { span = map (λ w. get_or ss (hi w) 0) (take b.codes c) ++ (get_or ss i 0 ∷ []); node = map lo (take b.codes c) ++ (v ∷ []) })
      codes_more ss =
          rw (map_more (λ w. get_or ss (hi w) 0) b.codes (code_word i v) c long, map_more lo b.codes (code_word i v) c long, hi_of v i small, lo_of v i small)

      made : (ss : List ℕ) (t : Bool) → has_start (get_or ks i 0) ≡ t
          → graph_of ks ss (with_counts b.nodes (b.codes + 1) b.names b.cursor) (cols e (set c b.codes (code_word i v)) n l)
          ≡ record_code (get_or ss i 0) v (start_if t v (get_or ss i 0) (graph_of ks ss b (cols e c n l)))
      made ss true q = same_graph (same_columns refl refl (painted_last ks ss c _ b.codes (code_word i v) i v true long (hi_of v i small) (lo_of v i small) q)) (codes_more ss) refl refl
      made ss false q = same_graph (same_columns refl refl (painted_last ks ss c _ b.codes (code_word i v) i v false long (hi_of v i small) (lo_of v i small) q)) (codes_more ss) refl refl

  pub record_did : (i v : ℕ) → i < b.item → b.codes < b.item → v < b.nodes → has_start (get_or ks i 0) ≡ false
      → Did ks (λ ss. record_code (get_or ss i 0) v) 0 b (cols e c n l) (with_counts b.nodes (b.codes + 1) b.names b.cursor) (cols e (set c b.codes (code_word i v)) n l)
  record_did i v hi' h hv q = code_did i v false hi' h hv q

  -- a name's word at its place
  abbrev pub name_word : ℕ → ℕ
  name_word i = cursor_node b.cursor % 65536 + i * 65536 + b.settings.scope_end * 2 ^ 32

  name_node : (i : ℕ) → i < 1024 → node_of_name (name_word i) ≡ cursor_node b.cursor
  name_node i h = go (cursor_is b.cursor ok.cursor)
    where
      low : name_word i % 2 ^ 16 ≡ cursor_node b.cursor % 65536
      low = omega arith

      go : (cursor_node b.cursor < b.nodes) ⊎ (cursor_node b.cursor ≡ absent) → node_of_name (name_word i) ≡ cursor_node b.cursor
      go (inl q) =
          let same : cursor_node b.cursor % 65536 ≡ cursor_node b.cursor = omega (arith, ok.nodes) in
          rw (low, same, ne_eqb (cursor_node b.cursor) 65535 (λ z. omega (arith, ok.nodes)))
      go (inr q) = rw (low, q)

  pub declare_did : (i : ℕ) → i < 1024 → i < b.item → b.names < b.item
      → Did ks (λ ss. declare (get_or ss i 0) (settings_of b (cols e c n l))) 0 b (cols e c n l) (with_counts b.nodes b.codes (b.names + 1) b.cursor) (cols e c (set n b.names (name_word i)) l)
  unfolding graph_of settings_of declare
  declare_did i hi' below h =
      let long : b.names < length n = omega (arith, ok.wide_names, ok.items) in
      let an_item : name_item (name_word i) ≡ i = omega (arith, ok.scope_end) in
      let an_end : hi (name_word i) ≡ b.settings.scope_end = omega arith in
      record {
        good = good_of (omega (arith, ok, length-set n b.names (name_word i))) ok.cursor ok.code_nodes ok.code_items
            (each_more name_item b.names n (name_word i) b.item long (rw an_item below) ok.name_items) ok.label_nodes;
        grown = record {
          nodes = omega arith;
          codes = omega arith;
          names = omega arith;
          edges_past = refl;
          codes_past = refl;
          names_past = drop_after b.names (name_word i) n;
          labels_past = refl;
          labels_kept = refl;
          edges_length = refl;
          codes_length = refl;
          names_length = length-set n b.names (name_word i);
          labels_length = refl;
        };
        item = refl;
        nodes = omega arith;
        labels = refl;
        settings = refl;
        built = λ ss. same_graph refl refl
            (same_names
            (map_more (λ w. get_or ss (name_item w) 0) b.names (name_word i) n long ∙ ap (λ (z : ℕ). map (λ w. get_or ss (name_item w) 0) (take b.names n) ++ (get_or ss z 0 ∷ [])) an_item)
            (map_more node_of_name b.names (name_word i) n long ∙ ap (λ (z : ℕ). map node_of_name (take b.names n) ++ (z ∷ [])) (name_node i hi'))
            (map_more hi b.names (name_word i) n long ∙ ap (λ (z : ℕ). map hi (take b.names n) ++ (z ∷ [])) an_end))
            refl;
      }

-- a new node for the code of item i
pub full_code_did : (ks : List ℕ) (b : Place) (e c n l e' : List ℕ) → Good b (cols e c n l) → (i : ℕ) → i < b.item → b.nodes < 1600 → b.codes < b.item → has_start (get_or ks i 0) ≡ true
    → e' ≡ joined_from b.cursor b.nodes (set e b.nodes 18446744073709551615)
    → Did ks (λ ss. code (get_or ss i 0)) 1 b (cols e c n l) (record {
      item = b.item;
      nodes = b.nodes + 1;
      codes = b.codes + 1;
      names = b.names;
      cursor = Some b.nodes;
      settings = b.settings;
    }) (cols e' (set c b.codes (b.nodes + i * 2 ^ 32)) n l)
unfolding code
full_code_did ks b e c n l e' ok i below hn hc hs q =
    let p1 = new_did ks b e c n l ok hn in
    let p2 = code_did ks _ (set e b.nodes 18446744073709551615) c n l p1.good i b.nodes true below hc (omega arith) hs in
    let p3 = advance_did ks _ (set e b.nodes 18446744073709551615) (set c b.codes (b.nodes + i * 2 ^ 32)) n l p2.good b.nodes e' q (omega arith) in
    let p = did_trans (did_trans p1 p2) p3 in
    record {
      good = p.good;
      grown = p.grown;
      item = p.item;
      nodes = refl;
      labels = p.labels;
      settings = p.settings;
      built = λ ss. p.built ss ∙ rw (count_of ks ss b (cols e c n l) (omega (arith, ok.wide_edges, ok.nodes)));
    }

-- code that goes on to a target
pub jump_did : {ks : List ℕ} {b r : Place} {x y : Cols} (e c n l : List ℕ) {t : Place} (i v : ℕ) → Did ks (λ ss. code (get_or ss i 0)) 1 b x t (cols e c n l) → Did ks (λ ss. close_into v) 0 t (cols e c n l) r y
    → Did ks (λ ss. jump (get_or ss i 0) v) 1 b x r y
unfolding jump
jump_did e c n l i v p q =
    let d = did_trans p q in
    record { good = d.good; grown = d.grown; item = d.item; nodes = omega arith; labels = d.labels; settings = d.settings; built = d.built }
