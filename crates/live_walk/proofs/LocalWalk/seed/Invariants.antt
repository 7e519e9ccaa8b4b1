-- `live_walk::LocalWalk::seed` meets its contract: what the uses from the turn's on push now is what all push from the start.
-- Assumes nothing.
use Rattle.live_steps.specs.Walk.{declared}
use Rattle.live_walk.proofs.Walk.{Seeding}
use Rattle.live_walk.proofs.LocalWalk.seed.Given as goal

abbrev pub invariant-loop-used : goal.invariant-loop-used
invariant-loop-used l = Seeding l.self.graph (declared l.self.declaration) l.self.mine.now l.used-index l.initial.search l.search
