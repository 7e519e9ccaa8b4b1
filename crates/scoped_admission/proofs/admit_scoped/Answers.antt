-- `scoped_admission::admit_scoped` meets its contract: 9 stands behind the tests of the pair.
-- Assumes nothing.
use mathlib.Core.List.{List, [], ◌∷◌}
use mathlib.Core.Path.{◌≡◌, sym, ap, ap₂, ◌∙◌}
use Rattle.std.proofs.lemmas.Result.{err_from_is_err_and}
use Rattle.flow.specs.declared.Refusal.TheVariants.{BadScope}
use Rattle.flow.specs.Refusals.{Verdict, Test, first_applying, pair_tests, pair_verdict}
use Rattle.flow.specs.Scopes.{bad_scopes, scoped_tests, scoped_verdict}
use Rattle.sheet_parts.specs.Sheets.{verdict_of}
use Rattle.admission.proofs.Verdicts.{applies_first, passes_first, refused_before, admitted_before}
use Rattle.scoped_admission.proofs.admit_scoped.Goals as goal
use Rattle.scoped_admission.proofs.admit_scoped.Goals.{After-admit_pair, In_ok-pair, After-scope_is_bad}

-- ---- where 1 to 8 are tested
abbrev before_9 : (c : After-admit_pair) → List Test
before_9 c = pair_tests c.args.short c.args.sheet.now c.args.uses.now

-- the test behind them
abbrev from_9 : (c : After-admit_pair) → List Test
from_9 c = (BadScope, bad_scopes c.args.sheet.now c.args.uses.now c.args.scopes.now) ∷ []

abbrev verdict : (c : After-admit_pair) → Verdict
verdict c = scoped_verdict c.args.short c.args.sheet.now c.args.uses.now c.args.scopes.now

pair_is : (c : After-admit_pair) → first_applying (before_9 c) ≡ verdict_of c.admit_pair.result
unfolding pair_verdict
pair_is c = sym c.admit_pair.ensures.verdict

-- where they pass
behind_8 : (c : In_ok-pair) → verdict (goal.at.In_ok-pair c).After-admit_pair ≡ first_applying (from_9 (goal.at.In_ok-pair c).After-admit_pair)
unfolding scoped_verdict scoped_tests
behind_8 c =
    let d = (goal.at.In_ok-pair c).After-admit_pair in
    admitted_before (before_9 d) (from_9 d) (pair_is d ∙ ap verdict_of c.in_ok-pair.was)

nine : (c : After-scope_is_bad) → bad_scopes c.args.sheet.now c.args.uses.now c.args.scopes.now ≡ c.scope_is_bad.result
nine c = sym (c.scope_is_bad.ensures ∙ ap₂ (λ S U. bad_scopes S U c.args.scopes.now) c.in_ok-pair.ensures.same.sheet c.in_ok-pair.ensures.same.uses)

pub returns-in_err-pair-clause-verdict : goal.returns-in_err-pair-clause-verdict
unfolding scoped_verdict scoped_tests
returns-in_err-pair-clause-verdict c =
    let d = (goal.at.returns-in_err-pair-clause-verdict c).After-admit_pair in
    let p = err_from_is_err_and c.from_residual.result c.from_residual.ensures.1 in
    rw (p.1, p.2) (sym (refused_before (before_9 d) (from_9 d) _ (pair_is d ∙ ap verdict_of c.in_err-pair.was)))

pub returns-then-scope_is_bad-clause-verdict : goal.returns-then-scope_is_bad-clause-verdict
returns-then-scope_is_bad-clause-verdict c =
    let d = (goal.at.returns-then-scope_is_bad-clause-verdict c).After-scope_is_bad in
    sym (behind_8 (goal.at.returns-then-scope_is_bad-clause-verdict c).In_ok-pair ∙ applies_first _ _ (nine d ∙ c.if-scope_is_bad.true))

pub returns-clause-verdict : goal.returns-clause-verdict
unfolding first_applying
returns-clause-verdict c =
    let d = (goal.at.returns-clause-verdict c).After-scope_is_bad in
    sym (behind_8 (goal.at.returns-clause-verdict c).In_ok-pair ∙ passes_first _ [] (nine d ∙ c.if-scope_is_bad.false))
