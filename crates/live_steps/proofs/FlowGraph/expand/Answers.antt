-- `live_steps::FlowGraph::expand` meets its contract: two pushes.
-- Assumes nothing.
use mathlib.Core.Path.{refl}
use native.Mathlib.Omega.{arith}
use Rattle.search.specs.Running.{state_of}
use Rattle.live_steps.specs.Walk.{nodes_of, declared}
use Rattle.live_steps.proofs.Steps.{still_ready, expanded}
use Rattle.live_steps.proofs.FlowGraph.expand.Goals as goal

pub push_alive-requires-2 : goal.push_alive-requires-2
push_alive-requires-2 c =
    let g = c.args.self.now in
    rw c.push_alive.ensures.same.1 (still_ready (nodes_of g) g.edges.first.now g.edges.second.now g.start.now (declared c.args.declaration) c.args.search.now.stamp _ c.requires.0 c.push_alive.ensures.pushed)

pub returns-clause-pushed : goal.returns-clause-pushed
returns-clause-pushed c =
    let g = c.args.self.now in
    let s = c.args.search.now in
    expanded (nodes_of g) g.edges.first.now g.edges.second.now g.start.now (declared c.args.declaration) (omega arith) (omega arith) s.stamp c.args.u c.requires.1 refl refl (state_of s) (state_of c.push_alive.new.search) (state_of c.push_alive-2.new.search) c.push_alive.ensures.pushed (rw c.push_alive.ensures.same.1 at c.push_alive-2.ensures.pushed)
