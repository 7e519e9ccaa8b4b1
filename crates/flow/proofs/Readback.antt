-- The law of the tree: among the trees of the right kinds, that of an admitted sheet is the one whose items are the sheet's.
-- Assumes nothing.
use Prim.Native.Nat.{ℕ}
use mathlib.Core.Path.{◌≡◌, refl, sym, ap, ◌∙◌}
use mathlib.Core.Logic.{◌↔◌}
use mathlib.Core.Bool.{true, false, false≢true}
use mathlib.Core.List.{List, [], ◌∷◌, ◌++◌, append_assoc, append-nil}
use borrow.Author.Tests.{ne_eqb}
use lib.Dec.{eqb}
use Rattle.std.specs.Prelude.{Ok}
use Rattle.flow.specs.Sheet.{Item, items, kind_of}
use Rattle.flow.specs.Kinds.{kinds}
use Rattle.flow.specs.Refusals.{sheet_verdict}
use Rattle.flow.specs.Tree.{Stmt, Block, Arms, simple, do_block, while_loop, repeat_loop, for_loop, if_stmt, done, then, no_more, elseif, otherwise, Open, in_front, opened, read, parse, tree}
use Rattle.flow.proofs.Nesting.{nests}
use Rattle.flow.proofs.Flatten.{item, stmt_items, flatten, arm_items, StmtKinds, BlockKinds, ArmKinds, flatten_tree, tree_kinds}
open kinds use {END, UNTIL}

-- the block read last, where none was
abbrev filled : Block → Open → Open
filled b o = record { top = record { body = b; arms = o.top.arms; close = o.top.close }; below = o.below }

-- a block in front of the innermost block
in_fronts : Block → Open → Open
in_fronts done o = o
in_fronts (then st b) o = in_front st (in_fronts b o)

fills : (b : Block) (o : Open) → in_fronts b (filled done o) ≡ filled b o
unfolding in_fronts in_front
fills done o = refl
fills (then st b) o = ap (in_front st) (fills b o)

abbrev BlockRead : Block → Type 0
BlockRead b = (is : List Item) → parse (flatten b ++ is) ≡ in_fronts b (parse is)

-- a block, with the items behind it that end it
behind : (b : Block) (cs is : List Item) (as' : Arms) (c : ℕ) → BlockRead b → parse (cs ++ is) ≡ opened as' c (parse is) → parse (flatten b ++ cs ++ is) ≡ filled b (opened as' c (parse is))
unfolding opened
behind b cs is as' c f e = ap parse (append_assoc (flatten b) cs is) ∙ f (cs ++ is) ∙ ap (in_fronts b) e ∙ fills b (opened as' c (parse is))

behind_end : (b : Block) (is : List Item) → BlockRead b → parse (flatten b ++ (item END 0 ∷ []) ++ is) ≡ filled b (opened no_more 0 (parse is))
unfolding parse read
behind_end b is f = behind b (item END 0 ∷ []) is no_more 0 f refl

behind_until : (b : Block) (u : ℕ) (is : List Item) → BlockRead b → parse (flatten b ++ (item UNTIL u ∷ []) ++ is) ≡ filled b (opened no_more u (parse is))
unfolding parse read
behind_until b u is f = behind b (item UNTIL u ∷ []) is no_more u f refl

other : (k j : ℕ) → nests k ≡ false → nests j ≡ true → eqb k j ≡ false
other k j h l = ne_eqb k j (λ e. false≢true (sym h ∙ ap nests e ∙ l))

simple_read : (w s : ℕ) (o : Open) → nests (kind_of w) ≡ false → read (item w s) o ≡ in_front (simple w s) o
unfolding read
simple_read w s o h =
    let n : (j : ℕ) → nests j ≡ true → eqb (kind_of w) j ≡ false = λ j. other (kind_of w) j h in
    rw (n 8 refl, n 9 refl, n 1 refl, n 2 refl, n 3 refl, n 4 refl, n 5 refl, n 6 refl, n 7 refl)

mutual
  unfolding stmt_items flatten arm_items StmtKinds BlockKinds ArmKinds parse read opened in_fronts

  stmt_read : (st : Stmt) (is : List Item) → StmtKinds st → parse (stmt_items st ++ is) ≡ in_front st (parse is)
  stmt_read (simple w s) is k = simple_read w s (parse is) k
  stmt_read (do_block w b) is k = rw (behind_end b is (block_read b k.1), k.0)
  stmt_read (while_loop w s b) is k = rw (behind_end b is (block_read b k.1), k.0)
  stmt_read (repeat_loop w b u) is k = rw (behind_until b u is (block_read b k.1), k.0)
  stmt_read (for_loop w s b) is k = rw (behind_end b is (block_read b k.1), k.0)
  stmt_read (if_stmt w s b as') is k = rw (behind b (arm_items as') is as' 0 (block_read b k.1) (arms_read as' is k.2), k.0)

  block_read : (b : Block) → BlockKinds b → BlockRead b
  block_read done k = λ is. refl
  block_read (then st b) k = λ is. rw (append_assoc (stmt_items st) (flatten b) is, stmt_read st (flatten b ++ is) k.0, block_read b k.1 is)

  arms_read : (as' : Arms) (is : List Item) → ArmKinds as' → parse (arm_items as' ++ is) ≡ opened as' 0 (parse is)
  arms_read no_more is k = refl
  arms_read (elseif w s b as') is k = rw (behind b (arm_items as') is as' 0 (block_read b k.1) (arms_read as' is k.2), k.0)
  arms_read (otherwise w b as') is k = rw (behind b (arm_items as') is as' 0 (block_read b k.1) (arms_read as' is (rw k.2 tt)), k.0)

-- a tree of the right kinds is read back from its items
pub tree_flatten : (b : Block) → BlockKinds b → tree (flatten b) ≡ b
unfolding tree parse
tree_flatten b k =
    let e : parse (flatten b) ≡ filled b (parse []) = ap parse (sym (append-nil (flatten b))) ∙ block_read b k [] ∙ fills b (parse []) in
    ap (λ (o : Open). o.top.body) e

module _ (S : List ℕ) (e : sheet_verdict false S ≡ Ok tt) where
  -- which statements and blocks there are the items say, whatever the order of reading
  pub tree_law : (b : Block) → (b ≡ tree (items S)) ↔ (BlockKinds b × (flatten b ≡ items S))
  tree_law b = (λ q. rw q (tree_kinds S e, flatten_tree S e), λ q. sym (tree_flatten b q.0) ∙ ap tree q.1)
