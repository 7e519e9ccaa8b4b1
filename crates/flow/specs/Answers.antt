-- 01, "Where an answer is an enum, a definition sets out this paper's number and values for each of its cases. The promises use that definition."
-- Promises, the words for C, the printed lines and the replay all read an answer here. `proofs/Answers.antt` shows that number and values tell the answer.
-- Assumes nothing: these are definitions.
use Rattle.std.specs.Prelude.{List, [], ◌∷◌, ◌++◌, ℕ, get_or, true, false, Bool, Option, Some, None, Result, Ok, Err}
use Rattle.flow.specs.declared.Refusal.{Refusal}
use Rattle.flow.specs.declared.Counts.{Counts}
use Rattle.flow.specs.declared.Ran.{Ran}
use Rattle.flow.specs.declared.Judgement.{Judgement}
use Rattle.flow.specs.Refusals.{Verdict, one, number}

-- what each call answers, or why it is refused
abbrev pub ChartAnswer : Type 0
ChartAnswer = Result Counts Refusal

abbrev pub RunAnswer : Type 0
RunAnswer = Result Ran Refusal

abbrev pub JudgeAnswer : Type 0
JudgeAnswer = Result Judgement Refusal

abbrev pub LabelAnswer : Type 0
LabelAnswer = Result Bool Refusal

-- what an answer tells: the table's number of a refusal, or 0 where the call is accepted; and the values that 01 has it return
abbrev pub Told : Type 0
Told = record { number : ℕ; values : List ℕ }

abbrev pub told : ℕ → List ℕ → Told
told k values = record { number = k; values = values }

-- the number alone, of any answer
abbrev pub number_told : {A : Type 0} → Result A Refusal → ℕ
number_told a = elim a [ Err r ↦ number r | Ok x ↦ 0 ]

-- a verdict, by its number and the values of an accepted call
abbrev pub tells : Verdict → List ℕ → Told
tells verdict values = elim verdict [ Err r ↦ told (number r) [] | Ok tt ↦ told 0 values ]

-- "that node or none"
abbrev pub found_values : Option ℕ → List ℕ
found_values f = elim f [ Some v ↦ v ∷ [] | None ↦ [] ]

-- "the three counts"
abbrev pub count_values : Counts → List ℕ
count_values c = c.nodes ∷ c.codes ∷ c.names ∷ []

-- chart "returns the three counts"
abbrev pub chart_told : ChartAnswer → Told
chart_told a = elim a [ Err r ↦ told (number r) [] | Ok c ↦ told 0 (count_values c) ]

-- run gives "yes" 1 or no 0, and "that node or none"
abbrev pub run_told : RunAnswer → Told
run_told a = elim a [ Err r ↦ told (number r) [] | Ok r ↦ told 0 (one r.can_run ∷ found_values r.node) ]

-- "Judge writes and returns the same, then the findings and their count."
abbrev pub judge_told : JudgeAnswer → Told
judge_told a = elim a [ Err r ↦ told (number r) [] | Ok j ↦ told 0 (count_values j.counts ++ (j.findings ∷ [])) ]

-- how many findings judge tells: its fourth value
abbrev pub findings_told : Told → ℕ
findings_told t = get_or t.values 3 0

-- the label check says yes, 1, or no, 0
abbrev pub label_told : LabelAnswer → Told
label_told a = elim a [ Err r ↦ told (number r) [] | Ok true ↦ told 0 (1 ∷ []) | Ok false ↦ told 0 (0 ∷ []) ]
