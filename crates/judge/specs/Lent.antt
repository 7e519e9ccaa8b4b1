-- What judge answers and leaves in the columns that it is lent, accepted or refused, whatever the columns held before.
-- Assumes nothing: these are definitions.
use Rattle.std.specs.Prelude.{◌≡◌, Bool, List, [], ◌∷◌, ℕ, ◌≤◌, ◌<◌, length, get_or, take, drop, Ok, Err}
use Rattle.column_lengths.specs.Lengths.{judge_too_short}
use Rattle.flow.specs.Scopes.{Replaced, crossed, scoped_verdict}
use Rattle.flow.specs.Answers.{JudgeAnswer, judge_told, findings_told}
use Rattle.flow.specs.Graph.{node_count, graph}
use Rattle.flow.specs.Locals.{locals}
use Rattle.flow.specs.Findings.{findings}
use Rattle.flow.specs.Judge.{words_of, spans_of, judged}
use Rattle.flow.specs.Demand.{Demand3}
use Rattle.search.specs.Lent.{Column}
use Rattle.chart.specs.Lent.{overlay, Columns, Lent, chart_short, chart_leaves, Shown}
use Rattle.chart.specs.declared.ChartColumns.{ChartColumns}
use Rattle.chart.specs.Loan.{chart_lent}
use Rattle.findings.specs.declared.FoundColumns.{FoundColumns}
use Rattle.findings.specs.Loan.{found_lent}
use Rattle.findings.specs.Accepted.{FindingColumns, FindingsLent, findings_lent}
use Rattle.flow.specs.Refusals.{Verdict}

-- all of judge's columns: chart's, and those of findings and mark figures
abbrev pub JudgeLent : Type 0
JudgeLent = record { chart : Lent; found : FindingsLent }

abbrev pub judge_lent : Lent → Column → Column → Column → JudgeLent
judge_lent l word span mark = record { chart = l; found = findings_lent word span mark }

-- the same of the columns as they are lent together, at a call's entry and at its exit
abbrev pub judge_lent_in : ChartColumns → ChartColumns → FoundColumns → FoundColumns → JudgeLent
judge_lent_in x y f g = record { chart = chart_lent x y; found = found_lent f g }

-- 1: chart's columns, "or (judge) 3,072 findings"
abbrev pub judge_short : Columns → FindingColumns → Bool
judge_short x f = judge_too_short (length f.word ∷ length f.span ∷ []) (length f.mark ∷ []) (chart_short x)

abbrev pub short : JudgeLent → Bool
short l = judge_short l.chart.before l.found.before

-- "A refusal writes nothing."
abbrev pub leaves : Verdict → List ℕ → List ℕ → List ℕ
leaves v written old = elim v [ Err r ↦ old | Ok tt ↦ overlay written old ]

-- "one mark figure per local .. free in this paper save that it is at most the node count"
pub record MarksLeft (v : Verdict) (S old new : List ℕ) : Type 0 where
  pub refused : (v ≡ Ok tt → ⊥) → new ≡ old
  pub figure : v ≡ Ok tt → (ℓ : ℕ) → ℓ < length (locals S) → get_or new ℓ 0 ≤ node_count (graph S)
  pub past : drop (length (locals S)) new ≡ drop (length (locals S)) old
  pub long : length new ≡ length old

-- how many findings an answer of judge tells
abbrev pub found_in : JudgeAnswer → ℕ
found_in r = findings_told (judge_told r)

-- its number and values, every lent cell, and what the columns of an accepted call show, by the verdict and the uses that are judged. Demand 3 is of what it wrote: as many cells of the two finding columns as it tells.
pub record Judges (v : Verdict) (S U : List ℕ) (r : JudgeAnswer) (l : JudgeLent) : Type 0 where
  pub told : judge_told r ≡ judged v S U
  pub columns : l.chart.after ≡ chart_leaves v S l.chart.before
  pub shown : v ≡ Ok tt → Shown S l.chart.after
  pub finding_words : l.found.after.word ≡ leaves v (words_of (findings S U)) l.found.before.word
  pub finding_spans : l.found.after.span ≡ leaves v (spans_of (findings S U)) l.found.before.span
  pub mark_figures : MarksLeft v S l.found.before.mark l.found.after.mark
  pub demand3 : v ≡ Ok tt → Demand3 S U (take (found_in r) l.found.after.word) (take (found_in r) l.found.after.span)

-- judge, of a sheet, a use sheet and a scope sheet, or [] where none comes. "Uses with a supplied bit are still taken when no scope sheet (0 words) comes. When one comes it replaces the bit, and lists are compared after that": everything is of one use sheet, `crossed`, which is the supplied one or the replaced one. So without a scope sheet it is the promise of the pair (`without_scopes` in `proofs/Promises.antt`).
pub record JudgePromise (S U C : List ℕ) (r : JudgeAnswer) (l : JudgeLent) : Type 0 where
  pub judges : Judges (scoped_verdict (short l) S U C) S (crossed S U C) r l
  pub supplied : C ≡ [] → crossed S U C ≡ U
  pub replaced : scoped_verdict (short l) S U C ≡ Ok tt → (C ≡ [] → ⊥) → Replaced S U C (crossed S U C)
