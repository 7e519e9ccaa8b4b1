-- On a sheet that is admitted, a name's node is a node of the graph: a NAME stands behind its LOCAL, whose node is current.
-- Assumes nothing.
use Prim.Native.Nat.{ℕ, ◌<◌}
use mathlib.Core.Path.{◌≡◌, refl}
use mathlib.Core.Bool.{Bool, true, false, ◌&&◌, ◌||◌, not}
use mathlib.Core.List.{List, [], ◌∷◌}
use native.Mathlib.Omega.{arith}
use lib.Dec.{eqb}
use lib.ListN.{length, get_or}
use Rattle.std.specs.Prelude.{Ok}
use Rattle.search.proofs.Bools.{and_both}
use Rattle.flow.specs.Sheet.{Item, items, kind}
use Rattle.flow.specs.Kinds.{kinds}
use Rattle.flow.specs.Refusals.{may_follow, side_by_side, sheet_verdict}
use Rattle.flow.specs.Tree.{Stmt, Block, then, Frame, Open, outer, in_front, opened, tree}
use Rattle.flow.specs.Graph.{node_count, new_node, connect, set_current, record_code, set_start, declare, start_graph, graph}
use Rattle.flow.proofs.Tests.{sheet_passed}
use Rattle.flow.proofs.Nesting.{Made, a_do, a_while, a_repeat, a_for, an_if, Parsed, nothing, opening, ending, until, an_elseif, an_else, plain, parsed}
use Rattle.flow.proofs.Builds.{names, Follow, FollowArms, Kept, whole}
use Rattle.flow.proofs.CodeNodes.{AllBelow, snoc_below}
open kinds use {LOCAL, NAME}

-- ---- along the parse

abbrev FollowFrame : Bool → Frame → Type 0
FollowFrame q f = Follow q f.body × FollowArms f.arms

abbrev FollowFrames : List Frame → Type 0
FollowFrames [] = Unit {0}
FollowFrames (f ∷ fs) = FollowFrame false f × FollowFrames fs

record FollowOpen (q : Bool) (o : Open) : Type 0 where
  top : FollowFrame q o.top
  below : FollowFrames o.below

follow_outer : (f : Frame) (fs : List Frame) → FollowFrames fs → FollowOpen false (outer (record { top = f; below = fs }))
follow_outer f [] r = record { top = (tt, tt); below = tt }
follow_outer f (g ∷ fs) r = record { top = r.0; below = r.1 }

-- a block behind an item that leads no NAME
shut : {q : Bool} {o : Open} → q ≡ false → FollowOpen q o → FollowFrames (o.top ∷ o.below)
shut e r = let u = rw e at r in (u.top, u.below)

-- a statement that opens a block leads none
follow_made : {i : Item} {f : Frame} {k : ℕ} {st : Stmt} → Made i f k st → (q : Bool) (b : Block) → FollowFrame (names (kind i)) f → Follow false b → Follow q (then st b)
follow_made (a_do e) q b r h = ((rw e at r).0, h)
follow_made (a_while e) q b r h = ((rw e at r).0, h)
follow_made (a_repeat e) q b r h = ((rw e at r).0, h)
follow_made (a_for e) q b r h = ((rw e at r).0, h)
follow_made (an_if e) q b r h = (rw e at r, h)

beside : (k : ℕ) (i : Item) (is : List Item) → side_by_side k (i ∷ is) ≡ true → ((not (eqb (kind i) NAME) || names k) ≡ true) × (side_by_side (kind i) is ≡ true)
unfolding side_by_side may_follow
beside k i is e =
    let l = and_both (may_follow k (kind i)) _ e in
    let n = not (eqb k LOCAL) || eqb (kind i) NAME in
    ((and_both n _ (and_both (n && (not (eqb (kind i) NAME) || names k)) _ l.0).0).1, l.1)

follow : {os : List ℕ} {is : List Item} {o : Open} → Parsed os is o → (k : ℕ) → side_by_side k is ≡ true → FollowOpen (names k) o
unfolding in_front opened
follow nothing k e = record { top = (tt, tt); below = tt }
follow (opening {is = is} {o = o} {i = i} m p) k e =
    let r = follow p (kind i) (beside k i is e).1 in
    let u = follow_outer o.top o.below r.below in
    record { top = (follow_made m (names k) (outer o).top.body r.top u.top.0, u.top.1); below = u.below }
follow (ending {is = is} {i = i} t n p) k e = record { top = (tt, tt); below = shut (rw t) (follow p (kind i) (beside k i is e).1) }
follow (until {is = is} {i = i} t p) k e = record { top = (tt, tt); below = shut (rw t) (follow p (kind i) (beside k i is e).1) }
follow (an_elseif {is = is} {o = o} {i = i} t p) k e =
    let r = shut {o = o} (rw t) (follow p (kind i) (beside k i is e).1) in
    record { top = (tt, r.0); below = shut refl (follow_outer o.top o.below r.1) }
follow (an_else {is = is} {o = o} {i = i} t p) k e =
    let r = shut {o = o} (rw t) (follow p (kind i) (beside k i is e).1) in
    record { top = (tt, r.0); below = shut refl (follow_outer o.top o.below r.1) }
follow (plain {is = is} {i = i} l p) k e =
    let b = beside k i is e in
    let r = follow p (kind i) b.1 in
    record { top = ((b.0, r.top.0), r.top.1); below = r.below }

-- ---- along the build

names_kept : Kept true true (λ n cs ns g. AllBelow n g.names.node)
unfolding new_node connect set_current record_code set_start declare
names_kept = record {
  new = λ r i. omega (arith, r i);
  edge = λ a b h r. r;
  move = λ v r. r;
  begin = λ v p r. r;
  span = λ s v h r. r;
  name = λ {n} {g = g} s st h r. snoc_below g.names.node g.current n (h refl refl).1 r;
}

module _ (S : List ℕ) (e : sheet_verdict false S ≡ Ok tt) where
  follow_tree : Follow false (tree (items S))
  unfolding tree
  follow_tree = let p = sheet_passed false S e in (follow (parsed [] (items S) tt p.pairs) 0 p.beside).top.0

  pub name_node : (ℓ : ℕ) → ℓ < length (graph S).names.node → get_or (graph S).names.node ℓ 0 < node_count (graph S)
  unfolding start_graph new_node
  name_node ℓ h = let r = whole names_kept S (λ t. follow_tree) (λ i. omega arith) in rw r.count (r.holds ℓ)
