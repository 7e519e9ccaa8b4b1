-- `code_columns::set_start` meets its contract, by whether the code's item gives a start.
-- Assumes nothing.
use mathlib.Core.Path.{sym, ◌∙◌}
use Rattle.cfg_steps.specs.Columns.{painted}
use Rattle.code_columns.proofs.set_start.Goals as goal

pub returns-then-has_start : goal.returns-then-has_start
unfolding painted
returns-then-has_start c = rw (sym c.has_start.ensures ∙ c.if-has_start.true)

pub returns-else-has_start : goal.returns-else-has_start
unfolding painted
returns-else-has_start c = rw (sym c.has_start.ensures ∙ c.if-has_start.false)
