-- `admission::sheet_verdict` meets its contract. Assumes nothing.
use mathlib.Core.Path.{sym, ap, ◌∙◌}
use Rattle.std.proofs.lemmas.Result.{err_from_is_err_and}
use Rattle.flow.specs.Refusals.{first_applying, item_tests}
use Rattle.sheet_parts.specs.Sheets.{verdict_of}
use Rattle.admission.proofs.Verdicts.{refused_before, admitted_before, from_1, sheet_turns}
use Rattle.admission.proofs.sheet_verdict.Goals as goal

pub returns-in_err-counted_sheet : goal.returns-in_err-counted_sheet
returns-in_err-counted_sheet c =
    let p = err_from_is_err_and c.from_residual.result c.from_residual.ensures.1 in
    let e = sym c.counted_sheet.ensures.verdict ∙ ap verdict_of c.in_err-counted_sheet.was in
    rw (p.1, p.2) (sym (sheet_turns c.args.short c.args.sheet.now ∙ refused_before (from_1 c.args.short c.args.sheet.now) _ _ e))

pub returns : goal.returns
returns c =
    let e = sym c.counted_sheet.ensures.verdict ∙ ap verdict_of c.in_ok-counted_sheet.was in
    c.item_verdict.ensures ∙ ap (λ S. first_applying (item_tests S)) c.in_ok-counted_sheet.ensures.same
    ∙ sym (sheet_turns c.args.short c.args.sheet.now ∙ admitted_before (from_1 c.args.short c.args.sheet.now) _ e)
