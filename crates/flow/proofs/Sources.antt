-- The spans of a tree, in the order of the source.
-- Assumes nothing.
use Prim.Native.Nat.{ℕ}
use mathlib.Core.Bool.{Bool, true, false, ◌&&◌, not}
use mathlib.Core.List.{List, [], ◌∷◌, ◌++◌}
use lib.Dec.{eqb}
use Rattle.flow.specs.Sheet.{member, kind_of, argument_of}
use Rattle.flow.specs.Kinds.{kinds}
use Rattle.flow.specs.Tree.{Stmt, Block, Arms, simple, do_block, while_loop, repeat_loop, for_loop, if_stmt, done, then, no_more, elseif, otherwise}
open kinds use {NAME, LABEL, EMPTY}

abbrev pub put : Bool → ℕ → List ℕ → List ℕ
put true s cs = cs ++ (s ∷ [])
put false s cs = cs

-- behind those that came before: of the headers and UNTILs if h, of the statements of one item whose word passes p
module _ (h : Bool) (p : ℕ → Bool) where
  abbrev mutual
    pub of_stmt : Stmt → List ℕ → List ℕ
    of_stmt (simple w s) cs = put (p w) s cs
    of_stmt (do_block w b) cs = of_block b cs
    of_stmt (while_loop w s b) cs = of_block b (put h s cs)
    of_stmt (repeat_loop w b u) cs = put h u (of_block b cs)
    of_stmt (for_loop w s b) cs = of_block b (put h s cs)
    of_stmt (if_stmt w s b as') cs = of_arms as' (of_block b (put h s cs))

    pub of_block : Block → List ℕ → List ℕ
    of_block done cs = cs
    of_block (then s b) cs = of_block b (of_stmt s cs)

    pub of_arms : Arms → List ℕ → List ℕ
    of_arms no_more cs = cs
    of_arms (elseif w s b as') cs = of_arms as' (of_block b (put h s cs))
    of_arms (otherwise w b as') cs = of_arms as' (of_block b cs)

-- a statement of one item is code, or is a name
abbrev pub makes_code : ℕ → Bool → Bool
makes_code k nameless = not (member k (NAME ∷ EMPTY ∷ [])) && not (eqb k LABEL && nameless)

abbrev pub code_word : ℕ → Bool
code_word w = makes_code (kind_of w) (eqb (argument_of w) 0)

abbrev pub name_word : ℕ → Bool
name_word w = eqb (kind_of w) NAME
