-- `live_steps::FlowGraph::push_alive` meets its contract: a node without a mark has room on the stack.
-- Assumes nothing.
use native.Mathlib.Omega.{arith}
use Rattle.search.specs.Running.{state_of}
use Rattle.search.proofs.Stamps.{push_room}
use Rattle.live_steps.specs.Walk.{nodes_of}
use Rattle.live_steps.proofs.FlowGraph.push_alive.Goals as goal

pub insert-requires-clause-top_in_bounds : goal.insert-requires-clause-top_in_bounds
insert-requires-clause-top_in_bounds c =
    let a = c.args in
    λ q. omega (arith, push_room a.search.now.stamp (nodes_of a.self.now) a.v {s = state_of a.search.now} (omega arith) c.requires q, c.requires.fits.stack_long)
