-- A search's columns stay the same over several calls.
-- Assumes nothing.
use mathlib.Core.Path.{refl, ◌∙◌}
use Rattle.search.specs.declared.Search.{Search}
use Rattle.search.specs.Running.{SameColumns}

pub same_none : {T : Type 0} (s : Search T) → SameColumns s s
same_none s = record { marks_name = refl; stack_name = refl; marks_len = refl; stack_len = refl }

pub same_on : {T : Type 0} {r s t : Search T} → SameColumns r s → SameColumns s t → SameColumns r t
same_on p q = record { marks_name = q.marks_name ∙ p.marks_name; stack_name = q.stack_name ∙ p.stack_name; marks_len = q.marks_len ∙ p.marks_len; stack_len = q.stack_len ∙ p.stack_len }
