-- At most 1,024 items that pair up make at most 1,542 nodes: an opener and its closer make 3 together, any other item makes 1.
-- Assumes nothing.
use Prim.Native.Nat.{ℕ, ◌+◌, ◌*◌, ◌≤◌}
use mathlib.Core.Path.{◌≡◌, refl, ◌∙◌}
use mathlib.Core.Bool.{Bool, true, false, cond, ◌&&◌}
use mathlib.Core.List.{List, [], ◌∷◌}
use native.Mathlib.Omega.{arith}
use lib.Dec.{eqb}
use lib.ListN.{length}
use Rattle.flow.specs.Sheet.{Item, member, kind_of, argument_of, zip}
use Rattle.flow.specs.Kinds.{kinds}
use Rattle.flow.specs.Refusals.{pairs_up}
use Rattle.flow.specs.Tree.{Stmt, Frame, Open, outer, in_front, opened, tree}
use Rattle.flow.specs.Size.{simple_nodes, stmt_nodes, block_nodes, arm_nodes}
use Rattle.flow.specs.Admitted.{Roomy}
use Rattle.flow.proofs.Nesting.{Made, a_do, a_while, a_repeat, a_for, an_if, Parsed, nothing, opening, ending, until, an_elseif, an_else, plain, parsed, pairs_kinds}
open kinds use {NAME, LABEL, EMPTY}

-- the nodes of an open block and of its arms, and of all the open blocks
abbrev frame_nodes : Frame → ℕ
frame_nodes f = block_nodes f.body + arm_nodes f.arms

abbrev frames_nodes : List Frame → ℕ
frames_nodes [] = 0
frames_nodes (f ∷ fs) = frame_nodes f + frames_nodes fs

abbrev open_nodes : Open → ℕ
open_nodes o = frame_nodes o.top + frames_nodes o.below

outer_nodes : (f : Frame) (fs : List Frame) → open_nodes (outer (record { top = f; below = fs })) ≡ frames_nodes fs
outer_nodes f [] = refl
outer_nodes f (g ∷ gs) = refl

made_nodes : {i : Item} {f : Frame} {k : ℕ} {st : Stmt} → Made i f k st → stmt_nodes st ≤ 3 + frame_nodes f
made_nodes (a_do e) = omega arith
made_nodes (a_while e) = omega arith
made_nodes (a_repeat e) = omega arith
made_nodes (a_for e) = omega arith
made_nodes (an_if e) = omega arith

simple_nodes_law : (k a : ℕ) → simple_nodes k a ≤ 1
simple_nodes_law k a = go (member k (NAME ∷ EMPTY ∷ [])) (eqb k LABEL && eqb a 0)
  where
    go : (b c : Bool) → cond b 0 (cond c 0 1) ≤ 1
    go true c = omega arith
    go false true = omega arith
    go false false = omega arith

parsed_nodes : {os : List ℕ} {is : List Item} {o : Open} → Parsed os is o → 2 * open_nodes o + 3 * length os ≤ 3 * length is
unfolding in_front opened
parsed_nodes nothing = omega arith
parsed_nodes (opening {o = o} m p) = omega (arith, made_nodes m, outer_nodes o.top o.below, parsed_nodes p)
parsed_nodes (ending e n p) = omega (arith, parsed_nodes p)
parsed_nodes (until e p) = omega (arith, parsed_nodes p)
parsed_nodes (an_elseif {o = o} e p) = omega (arith, outer_nodes o.top o.below, parsed_nodes p)
parsed_nodes (an_else {o = o} e p) = omega (arith, outer_nodes o.top o.below, parsed_nodes p)
parsed_nodes (plain {i = i} h p) = omega (arith, simple_nodes_law (kind_of i.word) (argument_of i.word), parsed_nodes p)

pub length_zip : (ks ss : List ℕ) → length ss ≡ length ks → length (zip ks ss) ≡ length ks
length_zip [] ss e = refl
length_zip (k ∷ ks) [] e = absurd (omega arith)
length_zip (k ∷ ks) (s ∷ ss) e = omega (arith, length_zip ks ss (omega arith))

pub roomy : (ks ss : List ℕ) → length ss ≡ length ks → length ks ≤ 1024 → pairs_up [] (zip ks ss) ≡ true → Roomy ks
unfolding tree
roomy ks ss e l u ts f = omega (arith, parsed_nodes (parsed [] (zip ks ts) tt (pairs_kinds ks ts ss [] f e ∙ u)), length_zip ks ts f)
