-- `empty_read::first_unassigned_use` meets its contract: what the marks leave to the uses from the turn's on is what they left to all at the start.
-- Assumes nothing.
use Rattle.empty_read.proofs.EmptyReads.{Reading}
use Rattle.empty_read.proofs.first_unassigned_use.Given as goal

abbrev pub invariant-loop-used : goal.invariant-loop-used
invariant-loop-used l = Reading l.mine l.used-index l.initial.search l.search
