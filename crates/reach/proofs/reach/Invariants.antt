-- `reach::reach` meets its contract: the law of a search by the stamp 1, from the entry over the two columns.
-- Assumes nothing.
use lib.ListN.{length}
use Rattle.search.specs.Stamps.{flagged}
use Rattle.search.specs.Running.{state_of}
use Rattle.search.proofs.Worklist.{measure}
use Rattle.reach.proofs.Columns.{Reaching}
use Rattle.reach.proofs.reach.Given as goal

abbrev pub invariant-loop-u : goal.invariant-loop-u
invariant-loop-u l = Reaching l.first l.second l.initial.search l.search

abbrev pub decreases-loop-u : goal.decreases-loop-u
decreases-loop-u l = measure (length l.first) (flagged 1 (length l.first) (state_of l.search))
