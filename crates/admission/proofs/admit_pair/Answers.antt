-- `admission::admit_pair` meets its contract: the tests in their turn. Assumes nothing.
use Prim.Native.Nat.{ℕ}
use mathlib.Core.Bool.{false}
use mathlib.Core.List.{List, [], ◌++◌}
use mathlib.Core.Path.{◌≡◌, sym, ap, ap₂, ◌∙◌, subst}
use Rattle.std.specs.Prelude.{Ok}
use Rattle.std.proofs.lemmas.Result.{err_from_is_err_and}
use Rattle.flow.specs.Sheet.{use_words, use_spans}
use Rattle.flow.specs.Refusals.{Verdict, Test, first_applying, item_tests, bad_use, pair_verdict}
use Rattle.flow.specs.Scopes.{use_sheet}
use Rattle.flow.specs.Admitted.{AdmittedUses}
use Rattle.flow.proofs.Admission.{of_pair}
use Rattle.flow.proofs.Scopes.{sheet_again}
use Rattle.sheet_parts.specs.Sheets.{verdict_of}
use Rattle.admission.proofs.Verdicts.{applies_first, passes_first, refused_before, admitted_before, from_1, from_2, from_8, pair_turns}
use Rattle.admission.proofs.admit_pair.Goals as goal
use Rattle.admission.proofs.admit_pair.Goals.{After-counted_sheet, In_ok-counted_sheet, In_ok-counted_uses, After-item_verdict, In_ok-item_verdict, After-use_is_bad, After-items-uses}

-- ---- the tests: 2 of the uses, 3 to 7 and 8
abbrev verdict : (c : After-counted_sheet) → Verdict
verdict c = pair_verdict c.args.short c.args.sheet.now c.args.uses.now

abbrev uses_counted : (c : After-counted_sheet) → List Test
uses_counted c = from_2 c.args.short c.args.sheet.now c.args.uses.now

abbrev items_fit : (c : After-counted_sheet) → List Test
items_fit c = item_tests c.args.sheet.now

abbrev uses_fit : (c : After-counted_sheet) → List Test
uses_fit c = from_8 c.args.short c.args.sheet.now c.args.uses.now

-- those that are left
behind_count : (c : In_ok-counted_sheet) → let d = (goal.at.In_ok-counted_sheet c).After-counted_sheet in verdict d ≡ first_applying (uses_counted d ++ (items_fit d ++ uses_fit d))
behind_count c =
    pair_turns c.args.short c.args.sheet.now c.args.uses.now ∙ admitted_before (from_1 c.args.short c.args.sheet.now) _ (sym c.counted_sheet.ensures.verdict ∙ ap verdict_of c.in_ok-counted_sheet.was)

behind_counts : (c : In_ok-counted_uses) → let d = (goal.at.In_ok-counted_uses c).After-counted_sheet in verdict d ≡ first_applying (items_fit d ++ uses_fit d)
behind_counts c =
    let d = (goal.at.In_ok-counted_uses c).After-counted_sheet in
    behind_count (goal.at.In_ok-counted_uses c).In_ok-counted_sheet ∙ admitted_before (uses_counted d) _ (sym c.counted.ensures.verdict ∙ ap verdict_of c.in_ok-counted_uses.was)

items_are : (c : After-item_verdict) → first_applying (item_tests c.args.sheet.now) ≡ c.item_verdict.result
items_are c = sym (c.item_verdict.ensures ∙ ap (λ S. first_applying (item_tests S)) c.in_ok-counted_sheet.ensures.same)

behind_7 : (c : In_ok-item_verdict) → let d = (goal.at.In_ok-item_verdict c).After-counted_sheet in verdict d ≡ first_applying (uses_fit d)
behind_7 c =
    let d = (goal.at.In_ok-item_verdict c).After-counted_sheet in
    behind_counts (goal.at.In_ok-item_verdict c).In_ok-counted_uses ∙ admitted_before (items_fit d) _ (items_are (goal.at.In_ok-item_verdict c).After-item_verdict ∙ c.in_ok-item_verdict.was)

eight : (c : After-use_is_bad) → bad_use c.args.sheet.now c.args.uses.now ≡ c.use_is_bad.result
eight c = sym (c.use_is_bad.ensures ∙ ap₂ bad_use c.in_ok-counted_sheet.ensures.same c.in_ok-counted_uses.ensures.same)

-- none applies
admitted : (c : After-use_is_bad) → c.use_is_bad.result ≡ false → verdict (goal.at.After-use_is_bad c).After-counted_sheet ≡ Ok tt
unfolding first_applying
admitted c e = behind_7 (goal.at.After-use_is_bad c).In_ok-item_verdict ∙ passes_first _ [] (eight c ∙ e)

pub returns-in_err-counted_sheet-clause-verdict : goal.returns-in_err-counted_sheet-clause-verdict
returns-in_err-counted_sheet-clause-verdict c =
    let p = err_from_is_err_and c.from_residual.result c.from_residual.ensures.1 in
    let e = sym c.counted_sheet.ensures.verdict ∙ ap verdict_of c.in_err-counted_sheet.was in
    rw (p.1, p.2) (sym (pair_turns c.args.short c.args.sheet.now c.args.uses.now ∙ refused_before (from_1 c.args.short c.args.sheet.now) _ _ e))

pub returns-in_err-counted_uses-clause-verdict : goal.returns-in_err-counted_uses-clause-verdict
returns-in_err-counted_uses-clause-verdict c =
    let d = (goal.at.returns-in_err-counted_uses-clause-verdict c).After-counted_sheet in
    let p = err_from_is_err_and c.from_residual-in_err-counted_uses.result c.from_residual-in_err-counted_uses.ensures.1 in
    let e = sym c.counted.ensures.verdict ∙ ap verdict_of c.in_err-counted_uses.was in
    rw (p.1, p.2) (sym (behind_count (goal.at.returns-in_err-counted_uses-clause-verdict c).In_ok-counted_sheet ∙ refused_before (uses_counted d) _ _ e))

pub returns-in_err-item_verdict-clause-verdict : goal.returns-in_err-item_verdict-clause-verdict
returns-in_err-item_verdict-clause-verdict c =
    let d = (goal.at.returns-in_err-item_verdict-clause-verdict c).After-counted_sheet in
    let p = err_from_is_err_and c.from_residual-in_err-item_verdict.result c.from_residual-in_err-item_verdict.ensures.1 in
    let e = items_are (goal.at.returns-in_err-item_verdict-clause-verdict c).After-item_verdict ∙ c.in_err-item_verdict.was in
    rw (p.1, p.2) (sym (behind_counts (goal.at.returns-in_err-item_verdict-clause-verdict c).In_ok-counted_uses ∙ refused_before (items_fit d) _ _ e))

pub returns-then-use_is_bad-clause-verdict : goal.returns-then-use_is_bad-clause-verdict
returns-then-use_is_bad-clause-verdict c =
    let d = (goal.at.returns-then-use_is_bad-clause-verdict c).After-use_is_bad in
    sym (behind_7 (goal.at.returns-then-use_is_bad-clause-verdict c).In_ok-item_verdict ∙ applies_first _ _ (eight d ∙ c.if-use_is_bad.true))

pub invariant_of-sheet : goal.invariant_of-sheet
invariant_of-sheet c = record { admitted = (of_pair c.args.short c.args.sheet.now c.args.uses.now (admitted (goal.at.invariant_of-sheet c).After-use_is_bad c.if-use_is_bad.false)).sheet }

-- the uses as they are lent
facts : (c : After-items-uses) → c.use_is_bad.result ≡ false → AdmittedUses c.args.sheet.now c.args.uses.now
facts c e = (of_pair c.args.short c.args.sheet.now c.args.uses.now (admitted (goal.at.After-items-uses c).After-use_is_bad e)).uses

uses_again : (c : After-items-uses) → c.use_is_bad.result ≡ false → use_sheet c.items-uses.result.words.now c.items-uses.result.spans.now ≡ c.args.uses.now
uses_again c e =
    ap₂ use_sheet c.items-uses.ensures.words c.items-uses.ensures.spans ∙ ap (λ U. use_sheet (use_words U) (use_spans U)) c.in_ok-counted_uses.ensures.same
    ∙ sheet_again c.args.uses.now (facts c e).words

pub invariant_of-result : goal.invariant_of-result
invariant_of-result c =
    let d = (goal.at.invariant_of-result c).After-items-uses in
    record { admitted = subst (AdmittedUses c.args.sheet.now) (sym (uses_again d c.if-use_is_bad.false)) (facts d c.if-use_is_bad.false) }

pub returns-clause-verdict : goal.returns-clause-verdict
returns-clause-verdict c = sym (admitted (goal.at.returns-clause-verdict c).After-use_is_bad c.if-use_is_bad.false)
