-- 01, "Label check": "Yes exactly when no two labels with the same name number, not 0, stand directly in the same block and every GOTO finds a label."
-- Every GOTO finds a label: the manual of Lua 5.2, section 3.3.4 (read in Debian's lua5.2-doc): "A label is visible in the entire block where it is defined, except inside nested blocks where a label with the same name is defined and inside nested functions. A goto may jump to any visible label as long as it does not enter into the scope of a local variable." So a label of an enclosing block is found, too.
-- No label twice in one block: that section does not say it; luac5.2, luac5.3 and luac5.4, when run, refuse it. By 02's account of its goto section (C-16), 5.4's manual forbids even a name that a label of an enclosing block has. That, and that no goto enters the scope of a local, come with C-16.
-- 5.1 and Luau have no goto. Of the manuals only 5.2's was at hand, and no compiler of 5.5: `export/` reads 5.1 to 5.5, and nothing here rests on 5.5 (`docs/DECISIONS.md`, 16).
-- Assumes nothing: these are definitions.
use Rattle.std.specs.Prelude.{Bool, true, false, ◌&&◌, ◌||◌, not, List, [], ◌∷◌, ◌++◌, ℕ, eqb}
use Rattle.flow.specs.Sheet.{Word, items, member, kind_of, argument_of}
use Rattle.flow.specs.Kinds.{kinds}
use Rattle.flow.specs.Refusals.{one, sheet_verdict}
use Rattle.flow.specs.Answers.{Told, tells}
use Rattle.flow.specs.Tree.{Stmt, Block, Arms, simple, do_block, while_loop, repeat_loop, for_loop, if_stmt, done, then, no_more, elseif, otherwise, tree, labels_of}
open kinds use {GOTO}

-- "no two labels with the same name number, not 0, stand directly in the same block": of a block's labels, none of which is 0
unfoldable pub distinct : List ℕ → Bool
distinct [] = true
distinct (a ∷ as') = not (member a as') && distinct as'

-- "every GOTO finds a label": of the statements of a block, with the labels that are visible there
unfoldable mutual
  pub labels_fine_in : Stmt → List ℕ → Bool
  labels_fine_in (simple w s) visible = not (eqb (kind_of w) GOTO) || member (argument_of w) visible
  labels_fine_in (do_block w b) visible = distinct (labels_of b) && block_fine b (labels_of b ++ visible)
  labels_fine_in (while_loop w s b) visible = distinct (labels_of b) && block_fine b (labels_of b ++ visible)
  labels_fine_in (repeat_loop w b until) visible = distinct (labels_of b) && block_fine b (labels_of b ++ visible)
  labels_fine_in (for_loop w s b) visible = distinct (labels_of b) && block_fine b (labels_of b ++ visible)
  labels_fine_in (if_stmt w s b arms) visible = distinct (labels_of b) && block_fine b (labels_of b ++ visible) && arms_fine arms visible

  pub block_fine : Block → List ℕ → Bool
  block_fine done visible = true
  block_fine (then stmt b) visible = labels_fine_in stmt visible && block_fine b visible

  pub arms_fine : Arms → List ℕ → Bool
  arms_fine no_more visible = true
  arms_fine (elseif w s b arms) visible = distinct (labels_of b) && block_fine b (labels_of b ++ visible) && arms_fine arms visible
  arms_fine (otherwise w b arms) visible = distinct (labels_of b) && block_fine b (labels_of b ++ visible) && arms_fine arms visible

-- of a sheet, whose outer block has no labels around it
unfoldable pub labels_fine : List Word → Bool
labels_fine S =
    let b : Block = tree (items S) in
    distinct (labels_of b) && block_fine b (labels_of b)

-- the label check's number and value
unfoldable pub label_check : List Word → Told
label_check S = tells (sheet_verdict false S) (one (labels_fine S) ∷ [])
