-- 01, "From items to edges": "A block holds statements and a statement holds blocks". The tree of a sheet's items.
-- Assumes nothing: these are definitions.
use Rattle.std.specs.Prelude.{cond, ◌&&◌, not, List, [], ◌∷◌, ◌++◌, ℕ, eqb}
use Rattle.flow.specs.Sheet.{Word, Span, Item, kind, kind_of, argument_of}
use Rattle.flow.specs.Kinds.{kinds, closes}
open kinds use {DO, WHILE, REPEAT, FOR, IF, ELSEIF, ELSE, LABEL}

-- a word w and a span s are those of the statement's first item
mutual
  pub data Stmt : Type 0 where
    simple : (w : Word) (s : Span) → Stmt
    do_block : (w : Word) → Block → Stmt
    while_loop for_loop : (w : Word) (s : Span) → Block → Stmt
    repeat_loop : (w : Word) → Block → (until : Span) → Stmt
    if_stmt : (w : Word) (s : Span) → Block → Arms → Stmt

  pub data Block : Type 0 where
    done : Block
    then : Stmt → Block → Block

  pub data Arms : Type 0 where
    no_more : Arms
    elseif : (w : Word) (s : Span) → Block → Arms → Arms
    otherwise : (w : Word) → Block → Arms → Arms

-- an open block as far as it has been read, from its end on; the arms that follow it; the span of the item that closes it
abbrev pub Frame : Type 0
Frame = record { body : Block; arms : Arms; close : Span }

-- the open blocks, of which there is always one
abbrev pub Open : Type 0
Open = record { top : Frame; below : List Frame }

abbrev pub nothing_read : Frame
nothing_read = record { body = done; arms = no_more; close = 0 }

abbrev pub outer : Open → Open
outer o = elim o.below [ [] ↦ record { top = nothing_read; below = [] } | f ∷ fs ↦ record { top = f; below = fs } ]

-- a statement put in front of the innermost block
unfoldable pub in_front : Stmt → Open → Open
in_front stmt o = record { top = record { body = then stmt o.top.body; arms = o.top.arms; close = o.top.close }; below = o.below }

-- a new innermost block, with the arms that follow it
unfoldable pub opened : Arms → Span → Open → Open
opened arms s o = record { top = record { body = done; arms = arms; close = s }; below = o.top ∷ o.below }

-- the item i, with all that stands after it read already: a closer starts a block, an opener ends one, ELSEIF and ELSE make it an arm
unfoldable pub read : Item → Open → Open
read i o =
    cond (closes (kind i)) (opened no_more i.span o)
    (cond (eqb (kind i) DO) (in_front (do_block i.word o.top.body) (outer o))
    (cond (eqb (kind i) WHILE) (in_front (while_loop i.word i.span o.top.body) (outer o))
    (cond (eqb (kind i) REPEAT) (in_front (repeat_loop i.word o.top.body o.top.close) (outer o))
    (cond (eqb (kind i) FOR) (in_front (for_loop i.word i.span o.top.body) (outer o))
    (cond (eqb (kind i) IF) (in_front (if_stmt i.word i.span o.top.body o.top.arms) (outer o))
    (cond (eqb (kind i) ELSEIF) (opened (elseif i.word i.span o.top.body o.top.arms) 0 (outer o))
    (cond (eqb (kind i) ELSE) (opened (otherwise i.word o.top.body o.top.arms) 0 (outer o))
    (in_front (simple i.word i.span) o))))))))

-- the items from the right
unfoldable pub parse : List Item → Open
parse [] = record { top = nothing_read; below = [] }
parse (i ∷ is) = read i (parse is)

unfoldable pub tree : List Item → Block
tree is = (parse is).top.body

-- the name of a statement that is a named LABEL: "name number 0 to 65,535; 0 has no identifier"
abbrev pub label_name : Stmt → List ℕ
label_name stmt =
    let name : Word → List ℕ = λ w. cond (eqb (kind_of w) LABEL && not (eqb (argument_of w) 0)) (argument_of w ∷ []) [] in
    elim stmt [ simple w s ↦ name w | do_block w b ↦ [] | while_loop w s b ↦ [] | repeat_loop w b until ↦ [] | for_loop w s b ↦ [] | if_stmt w s b arms ↦ [] ]

-- "each named LABEL standing directly in it", in a block, "in order"
unfoldable pub labels_of : Block → List ℕ
labels_of done = []
labels_of (then stmt b) = label_name stmt ++ labels_of b
