-- `admission::admit_sheet` meets its contract: the sheet's verdict is that of a call that lends nothing. Assumes nothing.
use mathlib.Core.Path.{sym, ◌∙◌}
use Rattle.flow.proofs.Admission.{of_sheet}
use Rattle.admission.proofs.admit_sheet.Goals as goal

pub invariant_of-result : goal.invariant_of-result
invariant_of-result c = record { admitted = (of_sheet _ c.args.sheet.now (sym c.sheet_verdict.ensures ∙ c.in_ok-sheet_verdict.was)).1 }
