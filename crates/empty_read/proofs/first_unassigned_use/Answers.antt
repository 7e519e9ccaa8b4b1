-- `empty_read::first_unassigned_use` meets its contract: what the marks leave to the uses from the turn's on is what they left to all at the start.
-- Assumes nothing.
use Rattle.empty_read.proofs.EmptyReads.{reading_turn, reading_found, reading_over}
use Rattle.empty_read.proofs.first_unassigned_use.Goals as goal

pub returns-then-test_and_mark-clause-first : goal.returns-then-test_and_mark-clause-first
returns-then-test_and_mark-clause-first c =
    let t = c.test_and_mark.ensures in
    reading_found c.loop-used.invariant c.loop-used-test.true c.requires t.same t.marked _ t.tested c.if-test_and_mark.true

pub loop-used-preserved : goal.loop-used-preserved
loop-used-preserved c =
    let t = c.test_and_mark.ensures in
    reading_turn c.loop-used.invariant c.loop-used-test.true c.requires t.same t.marked _ t.tested c.if-test_and_mark.false

pub returns-clause-first : goal.returns-clause-first
returns-clause-first c = reading_over c.loop-used.invariant c.loop-used-test.false
