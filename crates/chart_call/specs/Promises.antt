-- What chart answers and leaves in the columns that it is lent, accepted or refused, whatever the columns held before.
-- Assumes nothing: these are definitions.
use Rattle.std.specs.Prelude.{◌≡◌, List, ℕ, Ok}
use Rattle.flow.specs.Refusals.{sheet_verdict}
use Rattle.flow.specs.Answers.{ChartAnswer, chart_told}
use Rattle.flow.specs.Reachable.{chart}
use Rattle.chart.specs.Lent.{Lent, chart_short, chart_leaves, Shown}

-- chart: its number and values, every lent cell, and what the columns of an accepted call show
pub record ChartPromise (S : List ℕ) (r : ChartAnswer) (l : Lent) : Type 0 where
  pub told : chart_told r ≡ chart (chart_short l.before) S
  pub columns : l.after ≡ chart_leaves (sheet_verdict (chart_short l.before) S) S l.before
  pub shown : sheet_verdict (chart_short l.before) S ≡ Ok tt → Shown S l.after
