-- `next_uses::mark_used` meets its contract. The loop's invariant: the nodes of the uses passed are marked.
-- Assumes nothing.
use Rattle.search.specs.Stamps.{Stamped}
use Rattle.next_uses.specs.Backwards.{Used}
use Rattle.next_uses.proofs.mark_used.Given as goal

abbrev pub invariant-loop-u : goal.invariant-loop-u
invariant-loop-u l = Used l.stamp l.uses l.u-index l.used × Stamped l.stamp l.used
