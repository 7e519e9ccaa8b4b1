-- `next_uses::SearchBack::push_begins` meets its contract. The loop's invariant: the nodes that the places passed begin at are pushed.
-- Assumes nothing.
use Rattle.std.proofs.Common.{◌≡◌}
use Rattle.search.specs.Stamps.{Ready, stamp_all}
use Rattle.search.specs.Running.{state_of, SameColumns}
use Rattle.live_steps.specs.Walk.{declared}
use Rattle.predecessors.specs.Ways.{nodes_back}
use Rattle.next_uses.specs.Backwards.{starts_to}
use Rattle.next_uses.proofs.SearchBack.push_begins.Given as goal

abbrev pub invariant-loop-i : goal.invariant-loop-i
invariant-loop-i l =
    record {
      same : SameColumns l.fn.search l.search;
      same_stamp : l.search.stamp ≡ l.fn.search.stamp;
      ready : Ready l.search.stamp (nodes_back l.self.way) (state_of l.search);
      pushed : state_of l.search ≡ stamp_all l.fn.search.stamp (starts_to l.self.way.start.now (declared l.self.way.declaration) l.self.uses.now l.sought l.i) (state_of l.fn.search);
    }
