-- The way back from a local's uses, as the code has it: the nodes of the graph, and those that a path goes on through.
-- Assumes nothing: these are definitions.
use Rattle.std.specs.Prelude.{ℕ, Bool, length}
use Rattle.live_steps.specs.Walk.{declared}
use Rattle.predecessors.specs.declared.WayBack.{WayBack}
use Rattle.predecessors.specs.Predecessors.{passes}

abbrev pub nodes_back : WayBack → ℕ
nodes_back w = length w.chain.now

abbrev pub goes_on : WayBack → ℕ → Bool
goes_on w v = passes w.start.now (declared w.declaration) w.stamp w.used.now v
