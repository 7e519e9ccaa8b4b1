-- `predecessors::build_predecessors` meets its contract. The loop's invariant: the chains have the edges of the nodes passed, and the two columns are passed as far.
-- Assumes nothing.
use Rattle.std.proofs.Common.{◌≡◌, ◌≤◌, length, drop}
use Rattle.live_steps.specs.Walk.{nodes_in}
use Rattle.predecessors.specs.Predecessors.{Linked}
use Rattle.predecessors.proofs.build_predecessors.Given as goal

abbrev pub invariant-loop-u : goal.invariant-loop-u
invariant-loop-u l =
    record {
      linked : Linked l.edges.first.now l.edges.second.now (nodes_in l.edges) l.u-iterator.count l.chain;
      long : length l.chain ≡ nodes_in l.edges;
      passed : l.u-iterator.count ≤ nodes_in l.edges;
      firsts : l.u-iterator.iter.a.rest.now ≡ drop l.u-iterator.count l.edges.first.now;
      seconds : l.u-iterator.iter.b.rest.now ≡ drop l.u-iterator.count l.edges.second.now;
    }
