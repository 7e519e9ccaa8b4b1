-- The blocks that are open at an item of a sheet, and the labels that stand directly in one of them, found by a scan that counts how deep it is.
-- Assumes nothing: these are definitions.
use Rattle.std.specs.Prelude.{Bool, cond, ◌&&◌, List, [], ◌∷◌, ◌++◌, ℕ, zero, suc, ◌+◌, ◌-◌, ◌≤◌, drop, get_or, eqb}
use Rattle.flow.specs.Sheet.{Item, zip, kind_of, argument_of}
use Rattle.flow.specs.Kinds.{opens, closes}
use Rattle.flow.specs.Tree.{Frame, Open, nothing_read, parse, labels_of}
use Rattle.flow.specs.Locals.{only_if}
use Rattle.kinds.specs.Ends.{ends_block}
use Rattle.kinds.specs.Label.{is_label}

-- ---- the open blocks

-- the item j of a sheet of the kinds ks and the spans ss, and what is open there
abbrev pub item_at : List ℕ → List ℕ → ℕ → Item
item_at ks ss j = record { word = get_or ks j 0; span = get_or ss j 0 }

unfoldable pub open_at : List ℕ → List ℕ → ℕ → Open
open_at ks ss j = parse (drop j (zip ks ss))

-- the labels standing directly in the innermost block at an item, of what is still to come
abbrev pub labels_at : List ℕ → List ℕ → ℕ → List ℕ
labels_at ks ss j = labels_of (open_at ks ss j).top.body

-- the block d blocks out from the innermost, and the labels still to come there
abbrev pub frame_at : ℕ → Open → Frame
frame_at zero o = o.top
frame_at (suc d) o = get_or o.below d nothing_read

abbrev pub to_come : ℕ → Open → List ℕ
to_come d o = labels_of (frame_at d o).body

-- ---- one item of the scan

-- the label that an item is, where it stands directly in the block
unfoldable pub labels_here : ℕ → ℕ → List ℕ
labels_here w d = only_if (eqb d 0 && is_label w) (argument_of w ∷ [])

-- an item that ends a block: ELSEIF, ELSE, END, UNTIL
pub record Ender (k : ℕ) : Type 0 where
  pub least : 6 ≤ k
  pub most : k ≤ 9

-- a kind that ends the block
unfoldable pub ends_at : ℕ → ℕ → Bool
ends_at k d = eqb d 0 && ends_block k

unfoldable pub depth_after : ℕ → ℕ → ℕ
depth_after k d = cond (opens k) (d + 1) (cond (closes k) (d - 1) d)

-- the labels standing directly in the block d blocks out, of a scan that has the words ws left
unfoldable pub labels_in : List ℕ → ℕ → List ℕ
labels_in [] d = []
labels_in (w ∷ ws) d = cond (ends_at (kind_of w) d) [] (labels_here w d ++ labels_in ws (depth_after (kind_of w) d))
