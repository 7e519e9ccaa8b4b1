-- `chart::of_sheet` meets its contract: the graph of the sheet's parts, in the lent columns.
-- Assumes nothing.
use Rattle.flow.proofs.Admission.{admitted}
use Rattle.chart.specs.Lent.{PartsOf}
use Rattle.chart.proofs.of_sheet.Goals as goal
use Rattle.chart.proofs.of_sheet.Goals.{After-scope_end-scope_end}

parts : (c : After-scope_end-scope_end) → PartsOf c.args.sheet.words.now c.items-items.result.words.now c.items-items.result.spans.now c.scope_end-scope_end.result
parts c = record { kinds = c.items-items.ensures.words; spans = c.items-items.ensures.spans; outer = c.scope_end-scope_end.ensures; admitted = admitted c.args.sheet.words.now c.args.sheet.admitted }

pub write_chart-requires-clause-by_index : goal.write_chart-requires-clause-by_index
write_chart-requires-clause-by_index c = (c.args.sheet.words.now, parts (goal.at.write_chart-requires-clause-by_index c).After-scope_end-scope_end)

pub returns-clause-charted : goal.returns-clause-charted
returns-clause-charted c = c.write_chart.ensures.charted c.args.sheet.words.now (parts (goal.at.returns-clause-charted c).After-scope_end-scope_end)
