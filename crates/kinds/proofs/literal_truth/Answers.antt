-- `kinds::literal_truth` meets its contract, by the codes of conditions.
-- Assumes nothing.
use borrow.Author.Tests.{le-leb, lt-leb}
use Rattle.flow.specs.Kinds.{literal_truth}
use Rattle.kinds.proofs.literal_truth.Goals as goal

pub returns-then-condition-le-LAST_FALSE : goal.returns-then-condition-le-LAST_FALSE
unfolding literal_truth
returns-then-condition-le-LAST_FALSE c = simp (le-leb _ _ c.if-condition-le-LAST_FALSE.true)

pub returns-then-condition-le-LAST_TRUE : goal.returns-then-condition-le-LAST_TRUE
unfolding literal_truth
returns-then-condition-le-LAST_TRUE c = simp (lt-leb _ _ c.if-condition-le-LAST_FALSE.false, le-leb _ _ c.if-condition-le-LAST_TRUE.true)

pub returns : goal.returns
unfolding literal_truth
returns c = simp (lt-leb _ _ c.if-condition-le-LAST_FALSE.false, lt-leb _ _ c.if-condition-le-LAST_TRUE.false)
