-- `judging::of_sheets` meets its contract: a chart's columns are what the search for findings asks.
-- Assumes nothing.
use Rattle.flow.specs.Admitted.{AdmittedUses}
use Rattle.flow.proofs.Admission.{admitted}
use Rattle.flow.proofs.Scopes.{crossed_admitted}
use Rattle.sheet_parts.specs.Sheets.{uses_of, judged_uses}
use Rattle.chart.proofs.Widths.{wide_after}
use Rattle.findings.proofs.Judging.{sheets, accepted}
use Rattle.judging.proofs.of_sheets.Goals as goal
use Rattle.judging.proofs.of_sheets.Goals.{Start}

judged : (c : Start) → AdmittedUses c.args.sheets.pair.sheet.words.now (judged_uses c.args.sheets)
judged c = crossed_admitted c.args.sheets.pair.sheet.words.now (uses_of c.args.sheets.pair) c.args.sheets.scopes.now c.args.sheets.pair.admitted

-- ---- where the chart is written
pub find_scoped-findings-requires : goal.find_scoped-findings-requires
find_scoped-findings-requires c =
    let v = c.args.sheets.pair.sheet.admitted in
    let a = admitted c.args.sheets.pair.sheet.words.now v in
    let u = judged (goal.at.find_scoped-findings-requires c).Start in
    let h = c.of_sheet-counts.ensures.charted in
    record { searchable = sheets v a u h; long = c.requires }

pub invariant_of-chart : goal.invariant_of-chart
invariant_of-chart c = record { wide = wide_after c.of_sheet-counts.ensures.charted c.args.chart.wide }

pub returns-clause-accepted : goal.returns-clause-accepted
returns-clause-accepted c = accepted (admitted c.args.sheets.pair.sheet.words.now c.args.sheets.pair.sheet.admitted) c.of_sheet-counts.ensures.charted c.find_scoped-findings.ensures.written
