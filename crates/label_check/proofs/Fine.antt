-- What an item leaves to check, in terms of what the items after it leave.
-- Assumes nothing.
use mathlib.Core.Path.{◌≡◌, refl, sym, ap, ◌∙◌}
use mathlib.Core.List.{List, [], ◌∷◌, ◌++◌}
use mathlib.Core.Bool.{Bool, true, false, ◌&&◌, and_assoc, and-true}
use Prim.Native.Nat.{ℕ, ◌≤◌}
use native.Mathlib.Omega.{arith}
use native.Mathlib.Decide.{ℕ_discrete}
use lib.Dec.{eqb, lit≤}
use Rattle.flow.specs.Sheet.{Item, kind, kind_of, argument_of, member}
use Rattle.flow.specs.Tree.{Stmt, Arms, Open, simple, no_more, nothing_read, outer, in_front, opened, read, labels_of}
use Rattle.flow.specs.Labels.{distinct, labels_fine_in, block_fine, arms_fine}
use Rattle.flow.proofs.Nesting.{Made, a_do, a_while, a_repeat, a_for, an_if}
use Rattle.blocks.proofs.Parse.{read_elseif, read_else}
use Rattle.label_check.specs.Walk.{visible, outside_fine, open_fine}

-- ---- a statement in front, a block opened, nothing read

front_outside : (st : Stmt) (o : Open) (around : List (List ℕ)) → outside_fine (in_front st o) around ≡ outside_fine o around
unfolding in_front outside_fine
front_outside st o [] = refl
front_outside st o (s ∷ ss) = refl

pub front_fine : (st : Stmt) (o : Open) (top : List ℕ) (around : List (List ℕ)) → open_fine (in_front st o) top around ≡ (labels_fine_in st (visible (top ∷ around)) && open_fine o top around)
unfolding in_front open_fine block_fine
front_fine st o top around =
    ap (λ (b : Bool). block_fine (in_front st o).top.body (visible (top ∷ around)) && b) (front_outside st o around) ∙ and_assoc (labels_fine_in st (visible (top ∷ around))) (block_fine o.top.body (visible (top ∷ around))) (outside_fine o around)

pub close_fine : (c : ℕ) (o : Open) (top s : List ℕ) (around : List (List ℕ)) → open_fine (opened no_more c o) top (s ∷ around) ≡ open_fine o s around
unfolding opened open_fine outside_fine block_fine arms_fine
close_fine c o top s around = refl

pub end_fine : (top : List ℕ) (around : List (List ℕ)) → open_fine (record { top = nothing_read; below = [] }) top around ≡ true
unfolding open_fine outside_fine block_fine arms_fine
end_fine top [] = refl
end_fine top (s ∷ around) = end_fine s around

-- ---- a block entered: its labels, the block, its arms, and what is outside

abbrev pub Enters : Open → (List ℕ → Bool) → Type 0
Enters o f = (v : List ℕ) → f v ≡ (distinct (labels_of o.top.body) && (block_fine o.top.body (labels_of o.top.body ++ v) && arms_fine o.top.arms v))

regroup : (d b a r : Bool) → ((d && (b && a)) && r) ≡ (d && (b && (a && r)))
regroup true true a r = refl
regroup true false a r = refl
regroup false b a r = refl

module _ (o : Open) (top : List ℕ) (around : List (List ℕ)) where
  enters_rest : {f : List ℕ → Bool} → Enters o f → (f (visible (top ∷ around)) && open_fine (outer o) top around) ≡ (distinct (labels_of o.top.body) && open_fine o (labels_of o.top.body) (top ∷ around))
  unfolding open_fine outside_fine visible
  enters_rest h =
      ap (λ (b : Bool). b && open_fine (outer o) top around) (h (visible (top ∷ around)))
      ∙ regroup (distinct (labels_of o.top.body)) (block_fine o.top.body (labels_of o.top.body ++ visible (top ∷ around))) (arms_fine o.top.arms (visible (top ∷ around))) (open_fine (outer o) top around)

  pub opener_fine : (st : Stmt) → Enters o (labels_fine_in st) → open_fine (in_front st (outer o)) top around ≡ (distinct (labels_of o.top.body) && open_fine o (labels_of o.top.body) (top ∷ around))
  opener_fine st h = front_fine st (outer o) top around ∙ enters_rest h

  pub arm_fine : (as' : Arms) → Enters o (arms_fine as') → (left : List ℕ) → open_fine (opened as' 0 (outer o)) left (top ∷ around) ≡ (distinct (labels_of o.top.body) && open_fine o (labels_of o.top.body) (top ∷ around))
  unfolding opened open_fine outside_fine block_fine
  arm_fine as' h left = enters_rest h

-- ---- by kind

module _ (o : Open) (bare : o.top.arms ≡ no_more) where
  no_arms : (v : List ℕ) → (distinct (labels_of o.top.body) && block_fine o.top.body (labels_of o.top.body ++ v)) ≡ (distinct (labels_of o.top.body) && (block_fine o.top.body (labels_of o.top.body ++ v) && arms_fine o.top.arms v))
  unfolding arms_fine
  no_arms v = rw bare (ap (λ (b : Bool). distinct (labels_of o.top.body) && b) (sym (and-true (block_fine o.top.body (labels_of o.top.body ++ v)))))

arm_made : {f : List ℕ → Bool} (o : Open) → ((v : List ℕ) → f v ≡ ((distinct (labels_of o.top.body) && block_fine o.top.body (labels_of o.top.body ++ v)) && arms_fine o.top.arms v)) → Enters o f
arm_made o h v = h v ∙ and_assoc (distinct (labels_of o.top.body)) (block_fine o.top.body (labels_of o.top.body ++ v)) (arms_fine o.top.arms v)

-- a block that DO, WHILE, REPEAT or FOR opens has no arms
pub opener_enters : {i : Item} {k : ℕ} {st : Stmt} (o : Open) → Made i o.top k st → (k ≤ 4 → o.top.arms ≡ no_more) → Enters o (labels_fine_in st)
unfolding labels_fine_in
opener_enters o (a_do e) h v = no_arms o (h (lit≤ tt)) v
opener_enters o (a_while e) h v = no_arms o (h (lit≤ tt)) v
opener_enters o (a_repeat e) h v = no_arms o (h (lit≤ tt)) v
opener_enters o (a_for e) h v = no_arms o (h (lit≤ tt)) v
opener_enters o (an_if e) h v = arm_made o (λ u. refl) v

pub arm_enters : (i : Item) (o : Open) → 6 ≤ kind i → kind i ≤ 7 → (as' : Arms) × (read i o ≡ opened as' 0 (outer o)) × Enters o (arms_fine as')
unfolding arms_fine
arm_enters i o a b = elim (ℕ_discrete (kind i) 6) [
  | yes e ↦ (_, read_elseif i o e, arm_made o (λ v. refl))
  | no q ↦ (_, read_else i o (omega arith), arm_made o (λ v. refl))
]

-- a statement with no block: a GOTO, and any other
pub goto_fine : (w s : ℕ) (v : List ℕ) → kind_of w ≡ 13 → labels_fine_in (simple w s) v ≡ member (argument_of w) v
unfolding labels_fine_in
goto_fine w s v e = rw e

pub simple_fine : (w s : ℕ) (v : List ℕ) → eqb (kind_of w) 13 ≡ false → labels_fine_in (simple w s) v ≡ true
unfolding labels_fine_in
simple_fine w s v e = rw e
