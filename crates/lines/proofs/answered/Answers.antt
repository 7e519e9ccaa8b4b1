-- `lines::answered` meets its contract, by judge's answer.
-- Assumes nothing.
use Rattle.flow.specs.Listing.{report}
use Rattle.lines.proofs.answered.Goals as goal

pub returns-in-Ok : goal.returns-in-Ok
unfolding report
returns-in-Ok c = rw c.in-Ok.is c.report.ensures
