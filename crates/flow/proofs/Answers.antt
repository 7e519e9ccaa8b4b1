-- Number and values tell the answer: a promise of what an answer tells is one of the answer itself. For readers: `chart_told_law`, `run_told_law`, `judge_told_law` and `label_told_law` say it of each call.
-- Assumes nothing.
use mathlib.Core.Path.{◌≡◌, refl, sym, ap, ◌∙◌}
use mathlib.Core.Bool.{Bool, true, false, cond}
use mathlib.Core.List.{List, [], ◌∷◌, tail}
use Prim.Native.Nat.{ℕ}
use lib.Dec.{eqb}
use lib.ListN.{get_or}
use Rattle.std.specs.Prelude.{Option, Some, None, Ok, Err}
use Rattle.flow.specs.declared.Refusal.{Refusal}
use Rattle.flow.specs.declared.Refusal.TheVariants.{BenchTooSmall, Miscount, BadItem, TooDeep, BadNesting, OffTheLine, BadName, BadUse, BadScope}
use Rattle.flow.specs.declared.Counts.{Counts}
use Rattle.flow.specs.Refusals.{Verdict, number, one}
use Rattle.flow.specs.Answers.{ChartAnswer, JudgeAnswer, LabelAnswer, RunAnswer, Told, number_told, tells, found_values, chart_told, run_told, judge_told, label_told}

-- the refusal that has a number
abbrev with_number : ℕ → Refusal
with_number k = get_or (BenchTooSmall ∷ BenchTooSmall ∷ Miscount ∷ BadItem ∷ TooDeep ∷ BadNesting ∷ OffTheLine ∷ BadName ∷ BadUse ∷ BadScope ∷ []) k BenchTooSmall

-- a refusal is read back from its number
read_back : (r : Refusal) → with_number (number r) ≡ r
read_back r = elim r as (λ k. with_number (number k) ≡ k) [ BenchTooSmall ↦ refl | Miscount ↦ refl | BadItem ↦ refl | TooDeep ↦ refl | BadNesting ↦ refl | OffTheLine ↦ refl | BadName ↦ refl | BadUse ↦ refl | BadScope ↦ refl ]

-- and its number is not that of an accepted call
pub refuses : (r : Refusal) → eqb (number r) 0 ≡ false
refuses r = elim r as (λ k. eqb (number k) 0 ≡ false) [ BenchTooSmall ↦ refl | Miscount ↦ refl | BadItem ↦ refl | TooDeep ↦ refl | BadNesting ↦ refl | OffTheLine ↦ refl | BadName ↦ refl | BadUse ↦ refl | BadScope ↦ refl ]

abbrev counts_from : List ℕ → Counts
counts_from vs = record { nodes = get_or vs 0 0; codes = get_or vs 1 0; names = get_or vs 2 0 }

abbrev found_from : List ℕ → Option ℕ
found_from [] = None
found_from (v ∷ vs) = Some v

found_back : (f : Option ℕ) → found_from (found_values f) ≡ f
found_back (Some v) = refl
found_back None = refl

yes_back : (b : Bool) → eqb (one b) 1 ≡ b
yes_back true = refl
yes_back false = refl

-- the answer that number and values tell

abbrev chart_from : Told → ChartAnswer
chart_from t = cond (eqb t.number 0) (Ok (counts_from t.values)) (Err (with_number t.number))

abbrev run_from : Told → RunAnswer
run_from t = cond (eqb t.number 0) (Ok (record { node = found_from (tail t.values); can_run = eqb (get_or t.values 0 0) 1 })) (Err (with_number t.number))

abbrev judge_from : Told → JudgeAnswer
judge_from t = cond (eqb t.number 0) (Ok (record { counts = counts_from t.values; findings = get_or t.values 3 0 })) (Err (with_number t.number))

abbrev label_from : Told → LabelAnswer
label_from t = cond (eqb t.number 0) (Ok (eqb (get_or t.values 0 0) 1)) (Err (with_number t.number))

chart_back : (a : ChartAnswer) → chart_from (chart_told a) ≡ a
chart_back (Err r) = rw (refuses r, read_back r)
chart_back (Ok c) = refl

run_back : (a : RunAnswer) → run_from (run_told a) ≡ a
run_back (Err r) = rw (refuses r, read_back r)
run_back (Ok r) = rw (found_back r.node, yes_back r.can_run)

judge_back : (a : JudgeAnswer) → judge_from (judge_told a) ≡ a
judge_back (Err r) = rw (refuses r, read_back r)
judge_back (Ok j) = refl

label_back : (a : LabelAnswer) → label_from (label_told a) ≡ a
label_back (Err r) = rw (refuses r, read_back r)
label_back (Ok true) = refl
label_back (Ok false) = refl

-- the number of any answer is the one that it tells

pub verdict_number : (v : Verdict) (values : List ℕ) → number_told v ≡ (tells v values).number
verdict_number (Err r) values = refl
verdict_number (Ok tt) values = refl

pub chart_number : (a : ChartAnswer) → number_told a ≡ (chart_told a).number
chart_number (Err r) = refl
chart_number (Ok c) = refl

pub run_number : (a : RunAnswer) → number_told a ≡ (run_told a).number
run_number (Err r) = refl
run_number (Ok r) = refl

pub judge_number : (a : JudgeAnswer) → number_told a ≡ (judge_told a).number
judge_number (Err r) = refl
judge_number (Ok j) = refl

pub label_number : (a : LabelAnswer) → number_told a ≡ (label_told a).number
label_number (Err r) = refl
label_number (Ok true) = refl
label_number (Ok false) = refl

-- two answers that tell the same are the same

pub chart_told_law : (a b : ChartAnswer) → chart_told a ≡ chart_told b → a ≡ b
chart_told_law a b e = sym (chart_back a) ∙ ap chart_from e ∙ chart_back b

pub run_told_law : (a b : RunAnswer) → run_told a ≡ run_told b → a ≡ b
run_told_law a b e = sym (run_back a) ∙ ap run_from e ∙ run_back b

pub judge_told_law : (a b : JudgeAnswer) → judge_told a ≡ judge_told b → a ≡ b
judge_told_law a b e = sym (judge_back a) ∙ ap judge_from e ∙ judge_back b

pub label_told_law : (a b : LabelAnswer) → label_told a ≡ label_told b → a ≡ b
label_told_law a b e = sym (label_back a) ∙ ap label_from e ∙ label_back b
