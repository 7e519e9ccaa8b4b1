-- `judge::judge` meets its contract: refused, no column was touched; admitted, the columns are wide enough for chart and findings.
-- Assumes nothing.
use mathlib.Core.Path.{◌≡◌, sym, ap, ◌∙◌}
use mathlib.Core.Bool.{Bool}
use mathlib.Core.List.{List}
use Prim.Native.Nat.{ℕ}
use Rattle.std.specs.Prelude.{Ok}
use Rattle.std.proofs.lemmas.Result.{err_from_is_err_and}
use Rattle.flow.specs.Scopes.{scoped_verdict}
use Rattle.sheet_parts.specs.Sheets.{verdict_of}
use Rattle.chart.specs.Lent.{Columns}
use Rattle.chart.specs.Loan.{cells}
use Rattle.findings.specs.Accepted.{FindingColumns, found_short}
use Rattle.findings.specs.Loan.{found_cells}
use Rattle.judge.specs.Lent.{judge_short}
use Rattle.judge.proofs.Promises.{wide_enough, accepted_lent, judge_refused, judge_accepted}
use Rattle.judge.proofs.judge.Goals as goal
use Rattle.judge.proofs.judge.Goals.{After-admit_scoped, In_ok-sheets}

-- ---- where the verdict is known
abbrev S : (c : After-admit_scoped) → List ℕ
S c = c.args.sheet.now

abbrev U : (c : After-admit_scoped) → List ℕ
U c = c.args.uses.now

abbrev C : (c : After-admit_scoped) → List ℕ
C c = c.args.scopes.now

abbrev x : (c : After-admit_scoped) → Columns
x c = cells c.args.chart.now

abbrev f : (c : After-admit_scoped) → FindingColumns
f c = found_cells c.args.found.now

verdict_is : (c : After-admit_scoped) → scoped_verdict (judge_short (x c) (f c)) (S c) (U c) (C c) ≡ verdict_of c.admit_scoped.result
verdict_is c =
    let measured = c.is_short-short.ensures ∙ ap (found_short (f c)) c.is_short.ensures in
    sym (c.admit_scoped.ensures.verdict ∙ ap (λ (b : Bool). scoped_verdict b (S c) (U c) (C c)) measured)

pub returns-in_err-sheets-clause-promise : goal.returns-in_err-sheets-clause-promise
returns-in_err-sheets-clause-promise c =
    let d = (goal.at.returns-in_err-sheets-clause-promise c).After-admit_scoped in
    let p = err_from_is_err_and c.from_residual.result c.from_residual.ensures.1 in
    rw (p.1, p.2) (judge_refused (S d) (U d) (C d) (x d) (f d) (verdict_is d ∙ ap verdict_of c.in_err-sheets.was))

admitted : (c : In_ok-sheets) → let d = (goal.at.In_ok-sheets c).After-admit_scoped in scoped_verdict (judge_short (x d) (f d)) (S d) (U d) (C d) ≡ Ok tt
admitted c = verdict_is (goal.at.In_ok-sheets c).After-admit_scoped ∙ ap verdict_of c.in_ok-sheets.was

pub invariant_of-wide : goal.invariant_of-wide
invariant_of-wide c =
    let d = (goal.at.invariant_of-wide c).After-admit_scoped in
    record { wide = (wide_enough (S d) (U d) (C d) (x d) (f d) (admitted (goal.at.invariant_of-wide c).In_ok-sheets)).0 }

pub of_sheets-requires : goal.of_sheets-requires
of_sheets-requires c =
    let d = (goal.at.of_sheets-requires c).After-admit_scoped in
    (wide_enough (S d) (U d) (C d) (x d) (f d) (admitted (goal.at.of_sheets-requires c).In_ok-sheets)).1

pub returns-clause-promise : goal.returns-clause-promise
returns-clause-promise c =
    let d = (goal.at.returns-clause-promise c).After-admit_scoped in
    judge_accepted (S d) (U d) (C d) (x d) (f d) (admitted (goal.at.returns-clause-promise c).In_ok-sheets) (accepted_lent c.in_ok-sheets.ensures.same c.of_sheets.ensures.accepted)
