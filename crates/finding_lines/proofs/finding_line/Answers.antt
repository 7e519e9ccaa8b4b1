-- `finding_lines::finding_line` meets its contract, by the finding's list.
-- Assumes nothing.
use Rattle.finding_lines.proofs.Texts.{unassigned, overwritten}
use Rattle.finding_lines.proofs.finding_line.Goals as goal

pub line-requires : goal.line-requires
line-requires c = rw (unassigned c.args.word c.args.span c.if-word-eq0.true c.saturating_sub-read.ensures) at c.requires

pub line-requires-else-word-eq0 : goal.line-requires-else-word-eq0
line-requires-else-word-eq0 c = rw (overwritten c.args.word c.args.span c.if-word-eq0.false) at c.requires

pub returns-then-word-eq0-clause-appended : goal.returns-then-word-eq0-clause-appended
returns-then-word-eq0-clause-appended c = rw (unassigned c.args.word c.args.span c.if-word-eq0.true c.saturating_sub-read.ensures) c.line.ensures.appended

pub returns-else-word-eq0-clause-appended : goal.returns-else-word-eq0-clause-appended
returns-else-word-eq0-clause-appended c = rw (overwritten c.args.word c.args.span c.if-word-eq0.false) c.line-else-word-eq0.ensures.appended
