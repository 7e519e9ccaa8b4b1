-- `predecessors::WayBack::push_predecessors` meets its contract. The loop's invariant: to push the nodes that are left is what is left to do.
-- Assumes nothing.
use Rattle.std.proofs.Common.{◌≡◌}
use Rattle.search.specs.Search.{filter}
use Rattle.search.specs.Stamps.{Ready, stamp_all}
use Rattle.search.specs.Running.{state_of, SameColumns}
use Rattle.search.proofs.Closure.{Nodes}
use Rattle.predecessors.specs.Predecessors.{left_on}
use Rattle.predecessors.specs.Ways.{nodes_back, goes_on}
use Rattle.predecessors.proofs.WayBack.push_predecessors.Given as goal

abbrev pub invariant-loop-u : goal.invariant-loop-u
invariant-loop-u l =
    record {
      same : SameColumns l.fn.search l.search;
      same_stamp : l.search.stamp ≡ l.fn.search.stamp;
      ready : Ready l.search.stamp (nodes_back l.self) (state_of l.search);
      nodes : Nodes (nodes_back l.self) (left_on l.u-iterator.chain.now l.u-iterator.edge);
      rest : stamp_all l.fn.search.stamp (filter (goes_on l.self) (left_on l.initial.u-iterator.chain.now l.initial.u-iterator.edge)) (state_of l.fn.search) ≡ stamp_all l.fn.search.stamp (filter (goes_on l.self) (left_on l.u-iterator.chain.now l.u-iterator.edge)) (state_of l.search);
    }
