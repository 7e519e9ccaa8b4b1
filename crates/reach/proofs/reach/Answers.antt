-- `reach::reach` meets its contract: the law of a search by the stamp 1, from the entry over the two columns.
-- Assumes nothing.
use mathlib.Core.Path.{◌≡◌, ap, ◌∙◌}
use mathlib.Core.List.{List}
use Prim.Native.Nat.{ℕ}
use native.Mathlib.Omega.{arith}
use lib.ListN.{length, length-replicate}
use Rattle.std.proofs.Common.{rules}
use Rattle.search.specs.Worklist.{State}
use Rattle.search.proofs.Stamps.{unmarked_zeros, unmarked_on}
use Rattle.reach.proofs.Columns.{reach_begin, reach_ready, reach_turn, reach_falls, reach_over}
use Rattle.reach.proofs.reach.Goals as goal

pub loop-u-init : goal.loop-u-init
loop-u-init c =
    let k = length c.args.reachable.now in
    let zeros = unmarked_on (unmarked_zeros (length c.args.first.now) k (omega arith)) (omega (arith, length-replicate {A = ℕ} k 0)) in
    reach_begin c.fill.new.self c.args.stack.now c.requires.entry_in_bounds (rw (c.fill.ensures.after (λ y q. q)) zeros) c.insert.ensures.same.1 c.insert.ensures.inserted

pub expand-requires-clause-same_length : goal.expand-requires-clause-same_length
expand-requires-clause-same_length c =
    (c.requires.same_length.0, omega (arith, c.pop.ensures.same.0.marks_len, c.loop-u.invariant.same.marks_len, c.insert.ensures.same.0.marks_len, c.fill.ensures.len), (reach_ready c.loop-u.invariant c.in-Some.ensures.popped c.pop.ensures.same).1)

pub loop-u-smaller : goal.loop-u-smaller
loop-u-smaller c = reach_falls c.loop-u.invariant c.in-Some.ensures.popped c.pop.ensures.same c.expand.ensures.same c.expand.ensures.pushed

pub loop-u-preserved : goal.loop-u-preserved
loop-u-preserved c = reach_turn c.loop-u.invariant c.in-Some.ensures.popped c.pop.ensures.same c.expand.ensures.same c.expand.ensures.pushed

-- the column that the search was lent holds what it left
left : {column marks flags : List ℕ} → marks ≡ flags → column ≡ marks → column ≡ flags
left e q = q ∙ e

pub returns : goal.returns
returns c = λ g x y.
    let p = c.in_default.ensures.popped in
    let long : length c.loop-u.search.marks.now ≡ length c.args.first.now = omega (arith, c.loop-u.invariant.same.marks_len, c.insert.ensures.same.0.marks_len, c.fill.ensures.len) in
    left (ap (λ (s : State). s.marks) p.1 ∙ reach_over c.loop-u.invariant c.requires.entry_in_bounds p.0 long g x y) (search rules)
