-- `live_walk::LocalWalk::seed` meets its contract: what the uses from the turn's on push now is what all push from the start.
-- Assumes nothing.
use Rattle.live_walk.proofs.Walk.{seed_turn, seed_over}
use Rattle.live_walk.proofs.LocalWalk.seed.Goals as goal

pub loop-used-preserved : goal.loop-used-preserved
loop-used-preserved c = seed_turn c.loop-used.invariant c.loop-used-test.true c.push_after.ensures.same c.push_after.ensures.pushed

pub returns-clause-seeded : goal.returns-clause-seeded
returns-clause-seeded c = seed_over c.loop-used.invariant c.loop-used-test.false
