-- The walk of the label check over a sheet's kinds: the blocks that are open at an item, the labels that are in sight there, and what is left to check.
-- Assumes nothing: these are definitions.
use Rattle.std.specs.Prelude.{◌≡◌, Bool, true, false, ◌&&◌, List, [], ◌∷◌, ◌++◌, ℕ, ◌+◌, ◌≤◌, length}
use Rattle.arrayvec.specs.ArrayVec.{array_vec_len}
use Rattle.flow.specs.Sheet.{zip}
use Rattle.flow.specs.Tree.{Block, Open, outer, parse, tree, labels_of}
use Rattle.flow.specs.Labels.{distinct, block_fine, arms_fine}
use Rattle.flow.specs.Admitted.{Tidy}
use Rattle.blocks.specs.Open.{open_at, labels_at}
use Rattle.label_sight.specs.declared.LabelStack.{LabelStack}
use Rattle.label_sight.specs.Labels.{labels_to_come}

-- ---- what is in sight

-- the labels of the open blocks, the innermost block first
unfoldable pub visible : List (List ℕ) → List ℕ
visible [] = []
visible (s ∷ ss) = s ++ visible ss

-- the same, as they were found: the outermost block first
unfoldable pub flat : List (List ℕ) → List ℕ
flat [] = []
flat (s ∷ ss) = flat ss ++ s

-- how many labels are in sight outside each of the open blocks, the outermost block first
unfoldable pub bases : List (List ℕ) → List ℕ
bases [] = []
bases (s ∷ ss) = bases ss ++ (length (flat ss) ∷ [])

-- the labels of the innermost block and of those around it
pub record Holds (top : List ℕ) (around : List (List ℕ)) (x : LabelStack) : Type 0 where
  pub labels : x.labels.items ≡ flat around ++ top
  pub marks : x.marks.items ≡ bases around
  pub base : x.base ≡ length (flat around)

-- ---- what is left to check

-- "distinct" and "found" of a block with no block around it
abbrev pub whole_fine : Block → Bool
whole_fine b = distinct (labels_of b) && block_fine b (labels_of b)

-- past the innermost block: its arms, and the rest of the blocks around it, whose labels are given
unfoldable pub outside_fine : Open → List (List ℕ) → Bool
outside_fine o [] = true
outside_fine o (s ∷ ss) = arms_fine o.top.arms (visible (s ∷ ss)) && (block_fine (outer o).top.body (visible (s ∷ ss)) && outside_fine (outer o) ss)

unfoldable pub open_fine : Open → List ℕ → List (List ℕ) → Bool
open_fine o top around = block_fine o.top.body (visible (top ∷ around)) && outside_fine o around

-- ---- the contracts

-- the kinds of a sheet that is admitted: few, each opener's block without arms but for an IF's, and each block closed
pub record Checkable (ks : List ℕ) : Type 0 where
  pub few : length ks ≤ 1024
  pub tidy : Tidy ks
  pub closed : (ss : List ℕ) → length ss ≡ length ks → (parse (zip ks ss)).below ≡ []

-- a block starts at item j, and its labels are not in sight yet
pub record Entering (ks ss : List ℕ) (j : ℕ) (x : LabelStack) : Type 0 where
  pub around : List (List ℕ)
  pub holds : Holds [] around x
  pub opened : length around ≤ j
  pub closed : length (open_at ks ss j).below ≤ length around
  pub room : array_vec_len x.labels + length (labels_at ks ss j) ≤ j + labels_to_come (open_at ks ss j)
  pub left : whole_fine (tree (zip ks ss)) ≡ (distinct (labels_at ks ss j) && open_fine (open_at ks ss j) (labels_at ks ss j) around)

-- the walk stands at item j, and what is left to check there decides
pub record Walking (ks ss : List ℕ) (j : ℕ) (x : LabelStack) : Type 0 where
  pub top : List ℕ
  pub around : List (List ℕ)
  pub holds : Holds top around x
  pub opened : length around ≤ j
  pub closed : length (open_at ks ss j).below ≤ length around
  pub room : array_vec_len x.labels ≤ j + labels_to_come (open_at ks ss j)
  pub left : whole_fine (tree (zip ks ss)) ≡ open_fine (open_at ks ss j) top around

-- past an item of which fine tells whether it repeats no label of its block and misses none
pub record After (ks ss : List ℕ) (j : ℕ) (fine : Bool) (x : LabelStack) : Type 0 where
  pub walking : fine ≡ true → Walking ks ss j x
  pub lost : fine ≡ false → whole_fine (tree (zip ks ss)) ≡ false
