-- `chart_run::run_in` meets its contract: the columns that the chart is written to stay wide. Assumes nothing.
use Rattle.chart.proofs.Widths.{wide_after}
use Rattle.chart_run.proofs.run_in.Goals as goal

pub invariant_of-chart : goal.invariant_of-chart
invariant_of-chart c = record { wide = wide_after c.of_sheet-counts.ensures.charted c.args.chart.wide }
