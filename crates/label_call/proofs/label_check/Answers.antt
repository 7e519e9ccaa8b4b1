-- `label_call::label_check` meets its contract. Assumes nothing.
use mathlib.Core.Path.{◌≡◌, refl, sym, ap, ◌∙◌}
use mathlib.Core.Bool.{Bool, true, false}
use mathlib.Core.List.{List, [], ◌∷◌}
use Prim.Native.Nat.{ℕ}
use Rattle.std.proofs.lemmas.Result.{err_from_is_err_and}
use Rattle.std.specs.Prelude.{Ok}
use Rattle.flow.specs.Refusals.{one, sheet_verdict}
use Rattle.flow.specs.Answers.{told, label_told}
use Rattle.flow.specs.Labels.{labels_fine, label_check}
use Rattle.sheet_parts.specs.Sheets.{verdict_of}
use Rattle.label_check.proofs.Admission.{checkable, labels_fine_law}
use Rattle.label_call.proofs.label_check.Goals as goal

answers : (S : List ℕ) (b : Bool) → sheet_verdict false S ≡ Ok tt → labels_fine S ≡ b → label_check S ≡ told 0 (one b ∷ [])
unfolding label_check
answers S b v e = rw (v, e)

tells : (b : Bool) → label_told (Ok b) ≡ told 0 (one b ∷ [])
tells true = refl
tells false = refl

pub returns-in_err-sheet : goal.returns-in_err-sheet
unfolding label_check
returns-in_err-sheet c =
    let p = err_from_is_err_and c.from_residual.result c.from_residual.ensures.1 in rw (p.1, p.2, sym c.admit_sheet.ensures.verdict ∙ ap verdict_of c.in_err-sheet.was)

pub labels_fine-requires : goal.labels_fine-requires
labels_fine-requires c = checkable c.in_ok-sheet.sheet.words.now c.in_ok-sheet.sheet.admitted _ c.items.ensures.words

pub returns : goal.returns
returns c =
    let s = c.in_ok-sheet.sheet in
    let fine = sym (labels_fine_law s.words.now s.admitted _ c.items.ensures.words c.labels_fine.result c.labels_fine.ensures) in
    tells c.labels_fine.result ∙ sym (answers s.words.now _ s.admitted fine) ∙ ap label_check c.in_ok-sheet.ensures.same
