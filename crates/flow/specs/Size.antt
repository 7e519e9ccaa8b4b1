-- How many nodes a block makes, by its statements. A named LABEL is counted where it stands; its node is made as its block is entered.
-- Assumes nothing: these are definitions.
use Rattle.std.specs.Prelude.{cond, ◌&&◌, [], ◌∷◌, ℕ, ◌+◌, eqb}
use Rattle.flow.specs.Sheet.{member, kind_of, argument_of}
use Rattle.flow.specs.Kinds.{kinds}
use Rattle.flow.specs.Tree.{Stmt, Block, Arms, simple, do_block, while_loop, repeat_loop, for_loop, if_stmt, done, then, no_more, elseif, otherwise}
open kinds use {NAME, LABEL, EMPTY}

-- a statement of one item, by its kind and argument
abbrev pub simple_nodes : ℕ → ℕ → ℕ
simple_nodes k a = cond (member k (NAME ∷ EMPTY ∷ [])) 0 (cond (eqb k LABEL && eqb a 0) 0 1)

abbrev mutual
  pub stmt_nodes : Stmt → ℕ
  stmt_nodes (simple w s) = simple_nodes (kind_of w) (argument_of w)
  stmt_nodes (do_block w b) = block_nodes b
  stmt_nodes (while_loop w s b) = 2 + block_nodes b
  stmt_nodes (repeat_loop w b until) = 3 + block_nodes b
  stmt_nodes (for_loop w s b) = 3 + block_nodes b
  stmt_nodes (if_stmt w s b arms) = 2 + block_nodes b + arm_nodes arms

  pub block_nodes : Block → ℕ
  block_nodes done = 0
  block_nodes (then stmt b) = stmt_nodes stmt + block_nodes b

  pub arm_nodes : Arms → ℕ
  arm_nodes no_more = 0
  arm_nodes (elseif w s b arms) = 1 + block_nodes b + arm_nodes arms
  arm_nodes (otherwise w b arms) = block_nodes b + arm_nodes arms
