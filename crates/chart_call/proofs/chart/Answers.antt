-- `chart_call::chart` meets its contract: refused, no column was touched; admitted, the columns are wide enough for the graph.
-- Assumes nothing.
use mathlib.Core.Path.{◌≡◌, sym, ap, ◌∙◌, subst}
use mathlib.Core.Bool.{Bool}
use mathlib.Core.List.{List}
use Prim.Native.Nat.{ℕ}
use Rattle.std.proofs.lemmas.Result.{err_from_is_err_and}
use Rattle.flow.specs.Refusals.{sheet_verdict}
use Rattle.sheet_parts.specs.Sheets.{verdict_of}
use Rattle.chart.specs.Lent.{Columns, chart_short, Charted}
use Rattle.chart.specs.Loan.{cells, chart_lent}
use Rattle.chart_call.proofs.Promises.{wide_enough, chart_refused, chart_accepted}
use Rattle.chart_call.proofs.chart.Goals as goal
use Rattle.chart_call.proofs.chart.Goals.{After-admit_sheet}

-- ---- where the verdict is known
abbrev S : (c : After-admit_sheet) → List ℕ
S c = c.args.sheet.now

abbrev x : (c : After-admit_sheet) → Columns
x c = cells c.args.chart.now

verdict_is : (c : After-admit_sheet) → sheet_verdict (chart_short (x c)) (S c) ≡ verdict_of c.admit_sheet.result
verdict_is c = sym (c.admit_sheet.ensures.verdict ∙ ap (λ (b : Bool). sheet_verdict b (S c)) c.is_short.ensures)

pub returns-in_err-sheet-clause-promise : goal.returns-in_err-sheet-clause-promise
returns-in_err-sheet-clause-promise c =
    let d = (goal.at.returns-in_err-sheet-clause-promise c).After-admit_sheet in
    let p = err_from_is_err_and c.from_residual.result c.from_residual.ensures.1 in
    rw (p.1, p.2) (chart_refused (x d) (S d) (verdict_is d ∙ ap verdict_of c.in_err-sheet.was))

pub invariant_of-of_sheet : goal.invariant_of-of_sheet
invariant_of-of_sheet c =
    let d = (goal.at.invariant_of-of_sheet c).After-admit_sheet in
    record { wide = wide_enough (x d) (S d) (verdict_is d ∙ ap verdict_of c.in_ok-sheet.was) }

pub returns-clause-promise : goal.returns-clause-promise
returns-clause-promise c =
    let d = (goal.at.returns-clause-promise c).After-admit_sheet in
    let charted = subst (λ T. Charted T c.of_sheet.result (chart_lent c.args.chart.now c.of_sheet.new.chart.0)) c.in_ok-sheet.ensures.same c.of_sheet.ensures.charted in
    chart_accepted (x d) (S d) (verdict_is d ∙ ap verdict_of c.in_ok-sheet.was) charted
