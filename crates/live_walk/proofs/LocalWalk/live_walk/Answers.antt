-- `live_walk::LocalWalk::live_walk` meets its contract: the law of a search by a stamp that counts its turns, from after the writes.
-- Assumes nothing.
use mathlib.Core.Path.{ap}
use Rattle.search.specs.Worklist.{State}
use Rattle.search.proofs.Stamps.{ready_empty}
use Rattle.live_steps.specs.Walk.{nodes_of}
use Rattle.live_walk.proofs.Walk.{walk_begin, walk_ready, walk_turn, walk_falls, walk_over}
use Rattle.live_walk.proofs.LocalWalk.live_walk.Goals as goal

pub seed-requires : goal.seed-requires
seed-requires c =
    let s = c.args.search.now in
    let b = c.begin.ensures.begun in
    rw (b.1, b.0) (ready_empty c.args.stamp (nodes_of c.args.self.now.graph) s.marks.now s.stack.now c.requires.marks_hold c.requires.stack_holds)

pub loop-u-init : goal.loop-u-init
loop-u-init c = walk_begin c.requires c.begin.ensures.same c.begin.ensures.begun c.seed.ensures.same c.seed.ensures.seeded

pub expand-requires : goal.expand-requires
expand-requires c = walk_ready c.loop-u.invariant c.in-Some.ensures.popped c.pop.ensures.same

pub loop-u-smaller : goal.loop-u-smaller
loop-u-smaller c = walk_falls c.loop-u.invariant c.in-Some.ensures.popped c.pop.ensures.same c.expand.ensures.same c.expand.ensures.pushed

pub loop-u-preserved : goal.loop-u-preserved
loop-u-preserved c = walk_turn c.loop-u.invariant c.in-Some.ensures.popped c.pop.ensures.same c.expand.ensures.same c.expand.ensures.pushed

pub returns-clause-walks : goal.returns-clause-walks
returns-clause-walks c =
    let p = c.in_default.ensures.popped in
    rw (ap (λ (s : State). s.marks) p.1) (walk_over c.loop-u.invariant p.0)
