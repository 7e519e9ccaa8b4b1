-- Statements of one item.
-- Assumes nothing.
use mathlib.Core.Path.{◌≡◌, refl, sym, ◌∙◌}
use Rattle.std.specs.Prelude.{Option, Some, MatchOption, None}
use Rattle.kinds.specs.declared.Kind.{Kind}
use Rattle.kinds.specs.Numbers.{kind_number}
use mathlib.Core.Logic.{◌⊎◌}
use mathlib.Core.List.{List}
use mathlib.Core.Bool.{Bool, true, false, cond}
use Prim.Native.Nat.{ℕ, zero, suc, ◌≤◌, ◌<◌}
use native.Mathlib.Omega.{arith}
use lib.ListN.{length, get_or, take}
use lib.Seq.{length-take-le, take-take}
use lib.Dec.{eqb}
use borrow.Author.Tests.{eq-eqb, ne_eqb}
use Rattle.flow.specs.Sheet.{kind_of}
use Rattle.flow.specs.Kinds.{raises}
use Rattle.flow.specs.Graph.{Graph, Label, label_node, or_break, jump, code, declare, simple_stmt, advance_to, record_code}
use Rattle.cfg_edges.specs.Halves.{hi, label_list}
use Rattle.kinds.specs.Starts.{has_start}
use Rattle.cfg_steps.specs.Columns.{Place, Cols, settings_of, labelled, simple_made, Good, Did}
use Rattle.cfg_steps.proofs.Ops.{grown_same, same_labels}

pub did_none : (ks : List ℕ) (b : Place) (x : Cols) → Good b x → Did ks (λ ss g. g) 0 b x b x
did_none ks b x ok = record {
  good = ok;
  grown = grown_same b x;
  item = refl;
  nodes = omega arith;
  labels = refl;
  settings = refl;
  built = λ ss. refl;
}

-- the same operation under another name
pub did_as : {ks : List ℕ} {f h : List ℕ → Graph → Graph} {n m : ℕ} {b r : Place} {x y : Cols} → n ≡ m → ((ss : List ℕ) (g : Graph) → f ss g ≡ h ss g) → Did ks f n b x r y → Did ks h m b x r y
did_as q e d = record {
  good = d.good;
  grown = d.grown;
  item = d.item;
  nodes = omega (arith, d.nodes);
  labels = d.labels;
  settings = d.settings;
  built = λ ss. d.built ss ∙ e ss _;
}

-- ---- labels

found_node : (n a v k : ℕ) (ls : List ℕ) → ((j : ℕ) → j < k → hi (get_or ls j 0) < n) → label_node a (label_list k ls) ≡ Some v → v < n
unfolding label_node label_list
found_node n a v zero ls h e = absurd (let z : ◌≡◌ {A = ℕ} 0 1 = cc in omega arith)
found_node n a v (suc k) ls h e = go (eqb a _) (found_node n a v k ls (λ j r. h j (omega arith))) e
  where
    go : (t : Bool) → (label_node a (label_list k ls) ≡ Some v → v < n) → cond t (Some (hi (get_or ls k 0))) (label_node a (label_list k ls)) ≡ Some v → v < n
    go true r q = let z : hi (get_or ls k 0) ≡ v = cc in rw (← z) (h k (omega arith))
    go false r q = r q

pub label_below : {b : Place} {x : Cols} {v : ℕ} (a : ℕ) → Good b x → label_node a (label_list b.settings.labels x.labels) ≡ Some v → v < b.nodes
label_below {b} {x} {v} a ok e = found_node b.nodes a v b.settings.labels x.labels ok.label_nodes e

module _ (a : ℕ) (ls : List Label) (s : ℕ) (g : Graph) where
  pub labelled_none : a ≡ 0 → g ≡ labelled a ls s g
  unfolding labelled
  labelled_none e = rw (eq-eqb a 0 e)

  pub labelled_lost : label_node a ls ≡ None → g ≡ labelled a ls s g
  unfolding labelled
  labelled_lost e = rw e (go (eqb a 0))
    where
      go : (t : Bool) → g ≡ cond t g g
      go true = refl
      go false = refl

  pub labelled_at : (v : ℕ) → (a ≡ 0 → ⊥) → label_node a ls ≡ Some v → advance_to v (record_code s v g) ≡ labelled a ls s g
  unfolding labelled
  labelled_at v q e = rw (ne_eqb a 0 q, e)

-- ---- a statement of one item

pub starts : (w : ℕ) → (kind_of w ≡ 8 → ⊥) → (kind_of w ≡ 9 → ⊥) → (kind_of w ≡ 12 → ⊥) → has_start w ≡ true
starts w p q r = rw (ne_eqb (kind_of w) 8 p, ne_eqb (kind_of w) 9 q, ne_eqb (kind_of w) 12 r)

-- a kind whose statement is code that goes on, or no statement of one item
abbrev pub Other : ℕ → Type 0
Other k = (k ≡ 11 → ⊥) × (k ≡ 12 → ⊥) × (k ≡ 13 → ⊥) × (k ≡ 14 → ⊥) × (k ≡ 15 → ⊥) × (k ≡ 16 → ⊥) × (k ≡ 17 → ⊥) × (k ≡ 19 → ⊥)

module _ (k a s : ℕ) (b : Place) (x : Cols) (g : Graph) where
  pub simple_name : k ≡ 11 → declare s (settings_of b x) g ≡ simple_stmt k a s (settings_of b x) g
  unfolding simple_stmt
  simple_name e = rw e

  pub simple_label : k ≡ 12 → labelled a (label_list b.settings.labels x.labels) s g ≡ simple_stmt k a s (settings_of b x) g
  unfolding simple_stmt labelled settings_of
  simple_label e = rw e

  pub simple_goto : k ≡ 13 → jump s (or_break (label_node a (label_list b.settings.labels x.labels))) g ≡ simple_stmt k a s (settings_of b x) g
  unfolding simple_stmt settings_of
  simple_goto e = rw e

  pub simple_empty : k ≡ 19 → g ≡ simple_stmt k a s (settings_of b x) g
  unfolding simple_stmt
  simple_empty e = rw e

  pub simple_break : k ≡ 14 → jump s b.settings.break_target g ≡ simple_stmt k a s (settings_of b x) g
  unfolding simple_stmt settings_of
  simple_break e = rw e

  pub simple_continue : k ≡ 15 → jump s b.settings.continue_target g ≡ simple_stmt k a s (settings_of b x) g
  unfolding simple_stmt settings_of
  simple_continue e = rw e

  pub simple_return : (t : ℕ) → k ≡ 16 → t ≡ cond (eqb a 1) 2 3 → jump s t g ≡ simple_stmt k a s (settings_of b x) g
  unfolding simple_stmt
  simple_return t e r = rw (e, r)

  pub simple_raise : k ≡ 17 → raises a ≡ true → jump s 4 g ≡ simple_stmt k a s (settings_of b x) g
  unfolding simple_stmt
  simple_raise e r = rw (e, r)

  pub simple_call : k ≡ 17 → raises a ≡ false → code s g ≡ simple_stmt k a s (settings_of b x) g
  unfolding simple_stmt
  simple_call e r = rw (e, r)

  pub simple_code : Other k → code s g ≡ simple_stmt k a s (settings_of b x) g
  unfolding simple_stmt
  simple_code h = rw (ne_eqb k 11 h.0, ne_eqb k 12 h.1, ne_eqb k 13 h.2, ne_eqb k 14 h.3, ne_eqb k 15 h.4, ne_eqb k 16 h.5, ne_eqb k 17 h.6, ne_eqb k 19 h.7)

pub made_one : (k : ℕ) → Other k → 1 ≡ simple_made k
made_one k h = rw (ne_eqb k 11 h.0, ne_eqb k 12 h.1, ne_eqb k 19 h.7)

-- the kind that a word is found to have
pub kind_is : {o : Option Kind} (w : ℕ) {j k : Kind} → MatchOption o ((kind_of w ≡ 0) ⊎ (19 < kind_of w)) (λ j. kind_number j ≡ kind_of w) → o ≡ Some j → j ≡ k → kind_of w ≡ kind_number k
kind_is w q e f = sym (rw (e, f) at q)

-- the labels in force, cut off from the column
pub cut_labels : (k : ℕ) (l : List ℕ) → k ≤ length l → label_list (length (take k l)) (take k l) ≡ label_list k l
cut_labels k l h = rw (length-take-le k l h) (same_labels k (take k l) l (take-take k k l (omega arith)))
