-- `next_uses::SearchBack::mark` meets its contract: the law of a search by a stamp, for every graph whose chains these are.
-- Assumes nothing.
use Rattle.search.specs.Stamps.{flagged}
use Rattle.search.specs.Running.{state_of}
use Rattle.search.proofs.Worklist.{measure}
use Rattle.predecessors.specs.Ways.{nodes_back}
use Rattle.next_uses.proofs.Backing.{Backing}
use Rattle.next_uses.proofs.SearchBack.mark.Given as goal

abbrev pub invariant-loop-u : goal.invariant-loop-u
invariant-loop-u l = Backing l.self.way l.self.uses.now l.fn.sought l.initial.search l.search

abbrev pub decreases-loop-u : goal.decreases-loop-u
decreases-loop-u l = measure (nodes_back l.self.way) (flagged l.self.way.stamp (nodes_back l.self.way) (state_of l.search))
