-- `replay::replay_cases` is safe: fewer cases differ than the next one's number.
-- Assumes nothing.
use Rattle.std.proofs.Common.{◌<◌}
use Rattle.replay.proofs.replay_cases.Given as goal

abbrev pub invariant-loop-case : goal.invariant-loop-case
invariant-loop-case g l = l.tally.differ < l.case-counter
