-- "The lowest number that applies is returned, and no other case refuses": the tests stand in the order of their numbers, a refusal is that of the first that applies, and a call is admitted where none does. For readers: `foremost_refused`, the converse; `sheet_place`, `pair_place`, `scoped_place`, the test's place in the list; `run_number`, `label_number` beside those of chart and judge.
-- Assumes nothing.
use mathlib.Core.Path.{◌≡◌, refl, sym, ap, ◌∙◌, subst}
use mathlib.Core.Bool.{Bool, true, false, cond, true≢false}
use mathlib.Core.List.{List, [], ◌∷◌, ◌++◌, map}
use Prim.Native.Nat.{ℕ, zero, suc, ◌+◌, ◌<◌}
use native.Mathlib.Omega.{arith}
use lib.Dec.{eqb}
use lib.ListN.{length, get_or, length-append}
use Rattle.std.specs.Prelude.{Ok, Err}
use Rattle.flow.specs.declared.Refusal.{Refusal}
use Rattle.flow.specs.Refusals.{Verdict, one, number, Test, first_applying, item_tests, sheet_tests, pair_tests, sheet_verdict}
use Rattle.flow.specs.Answers.{tells, found_values, count_values}
use Rattle.flow.specs.Graph.{graph}
use Rattle.flow.specs.Reachable.{node_at, can_run, run, counts_of, chart}
use Rattle.flow.specs.Findings.{findings}
use Rattle.flow.specs.Scopes.{crossed, scoped_tests, scoped_verdict}
use Rattle.flow.specs.Judge.{judge}
use Rattle.flow.specs.Labels.{labels_fine, label_check}
use Rattle.flow.proofs.Tests.{passed_one}
use Rattle.flow.proofs.Answers.{refuses}

-- ---- the order of precedence

abbrev pub numbers_of : List Test → List ℕ
numbers_of ts = map (λ t. number t.0) ts

pub sheet_numbers : (short : Bool) (S : List ℕ) → numbers_of (sheet_tests short S) ≡ 1 ∷ 2 ∷ 3 ∷ 4 ∷ 5 ∷ 6 ∷ 7 ∷ []
unfolding sheet_tests item_tests
sheet_numbers short S = refl

pub pair_numbers : (short : Bool) (S U : List ℕ) → numbers_of (pair_tests short S U) ≡ 1 ∷ 2 ∷ 3 ∷ 4 ∷ 5 ∷ 6 ∷ 7 ∷ 8 ∷ []
unfolding pair_tests item_tests
pair_numbers short S U = refl

pub scoped_numbers : (short : Bool) (S U C : List ℕ) → numbers_of (scoped_tests short S U C) ≡ 1 ∷ 2 ∷ 3 ∷ 4 ∷ 5 ∷ 6 ∷ 7 ∷ 8 ∷ 9 ∷ []
unfolding scoped_tests pair_tests item_tests
scoped_numbers short S U C = refl

-- ---- the first that applies

abbrev pub NoneApplies : List Test → Type 0
NoneApplies [] = Unit {0}
NoneApplies (t ∷ ts) = (t.1 ≡ false) × NoneApplies ts

-- the test with the number k applies, and none before it does
pub record Foremost (ts : List Test) (k : ℕ) : Type 0 where
  pub before : List Test
  pub refusal : Refusal
  pub after : List Test
  pub order : ts ≡ before ++ ((refusal, true) ∷ after)
  pub none : NoneApplies before
  pub numbered : number refusal ≡ k

pub admitted_none : (ts : List Test) → first_applying ts ≡ Ok tt → NoneApplies ts
unfolding first_applying
admitted_none [] e = tt
admitted_none (t ∷ ts) e = let p = passed_one t.1 t.0 (first_applying ts) e in (p.0, admitted_none ts p.1)

-- "Sheets are admitted when none applies"; nothing rests on it
pub none_admitted : (ts : List Test) → NoneApplies ts → first_applying ts ≡ Ok tt
unfolding first_applying
none_admitted [] n = refl
none_admitted (t ∷ ts) n = rw n.0 (none_admitted ts n.1)

abbrev refusal_of : Verdict → Refusal → Refusal
refusal_of v r = elim v [ Err q ↦ q | Ok tt ↦ r ]

either_foremost : (t : Test) (ts : List Test) (r : Refusal) → (first_applying ts ≡ Err r → Foremost ts (number r)) → (b : Bool) → t.1 ≡ b → cond b (Err t.0) (first_applying ts) ≡ Err r → Foremost (t ∷ ts) (number r)
either_foremost t ts r rest true p q = record { before = []; refusal = t.0; after = ts; order = λ i. (t.0, p i) ∷ ts; none = tt; numbered = ap (λ (v : Verdict). number (refusal_of v r)) q }
either_foremost t ts r rest false p q = let f = rest q in record { before = t ∷ f.before; refusal = f.refusal; after = f.after; order = λ i. t ∷ f.order i; none = (p, f.none); numbered = f.numbered }

pub refused_foremost : (ts : List Test) (r : Refusal) → first_applying ts ≡ Err r → Foremost ts (number r)
unfolding first_applying
refused_foremost [] r e = let z : ◌≡◌ {A = ℕ} 0 1 = cc in absurd (omega arith)
refused_foremost (t ∷ ts) r e = either_foremost t ts r (refused_foremost ts r) t.1 refl e

behind : (r : Refusal) (xs ys : List Test) → NoneApplies xs → first_applying (xs ++ ((r, true) ∷ ys)) ≡ Err r
unfolding first_applying
behind r [] ys n = refl
behind r (x ∷ xs) ys n = rw n.0 (behind r xs ys n.1)

pub foremost_refused : (ts : List Test) (k : ℕ) (f : Foremost ts k) → first_applying ts ≡ Err f.refusal
foremost_refused ts k f = ap first_applying f.order ∙ behind f.refusal f.before f.after f.none

-- ---- by number: k - 1 tests stand before the one with the number k

abbrev up_from : ℕ → ℕ → List ℕ
up_from a zero = []
up_from a (suc n) = a ∷ up_from (a + 1) n

up_at : (a n i : ℕ) → i < n → get_or (up_from a n) i 0 ≡ a + i
up_at a zero i h = absurd (omega arith)
up_at a (suc n) zero h = omega arith
up_at a (suc n) (suc i) h = up_at (a + 1) n i (omega arith) ∙ omega arith

number_at : (xs ys : List Test) (t : Test) → get_or (numbers_of (xs ++ (t ∷ ys))) (length xs) 0 ≡ number t.0
number_at [] ys t = refl
number_at (x ∷ xs) ys t = number_at xs ys t

place_number : (n : ℕ) (ts : List Test) → numbers_of ts ≡ up_from 1 n → length ts ≡ n → (k : ℕ) (f : Foremost ts k) → k ≡ length f.before + 1
place_number n ts e l k f =
    let here : length f.before < n = omega (arith, ap length f.order, length-append f.before ((f.refusal, true) ∷ f.after)) in
    let at = number_at f.before f.after (f.refusal, true) in
    let same : get_or (up_from 1 n) (length f.before) 0 ≡ k = ap (λ (ns : List ℕ). get_or ns (length f.before) 0) (sym e ∙ ap numbers_of f.order) ∙ at ∙ f.numbered in
    omega (arith, same, up_at 1 n (length f.before) here)

pub sheet_place : (short : Bool) (S : List ℕ) (k : ℕ) (f : Foremost (sheet_tests short S) k) → k ≡ length f.before + 1
unfolding sheet_tests item_tests
sheet_place short S = place_number 7 (sheet_tests short S) (sheet_numbers short S) refl

pub pair_place : (short : Bool) (S U : List ℕ) (k : ℕ) (f : Foremost (pair_tests short S U) k) → k ≡ length f.before + 1
unfolding pair_tests item_tests
pair_place short S U = place_number 8 (pair_tests short S U) (pair_numbers short S U) refl

pub scoped_place : (short : Bool) (S U C : List ℕ) (k : ℕ) (f : Foremost (scoped_tests short S U C) k) → k ≡ length f.before + 1
unfolding scoped_tests pair_tests item_tests
scoped_place short S U C = place_number 9 (scoped_tests short S U C) (scoped_numbers short S U C) refl

-- ---- by what a call tells: a number that is not 0 is that of the foremost test, and 0 means that none applies

module _ (ts : List Test) (values : List ℕ) where
  applies_by : (k : ℕ) (v : Verdict) → first_applying ts ≡ v → (tells v values).number ≡ suc k → Foremost ts (suc k)
  applies_by k (Ok tt) e n = absurd (omega arith)
  applies_by k (Err r) e n = subst (Foremost ts) n (refused_foremost ts r e)

  pub number_applies : (k : ℕ) → (tells (first_applying ts) values).number ≡ suc k → Foremost ts (suc k)
  number_applies k = applies_by k (first_applying ts) refl

  none_by : (v : Verdict) → first_applying ts ≡ v → (tells v values).number ≡ 0 → NoneApplies ts
  none_by (Ok tt) e n = admitted_none ts e
  none_by (Err r) e n = absurd (true≢false (sym (ap (λ (k : ℕ). eqb k 0) n) ∙ refuses r))

  pub zero_admits : (tells (first_applying ts) values).number ≡ 0 → NoneApplies ts
  zero_admits = none_by (first_applying ts) refl

-- so it is of each call

pub chart_number_law : (short : Bool) (S : List ℕ) (k : ℕ) → (chart short S).number ≡ suc k → Foremost (sheet_tests short S) (suc k)
unfolding chart sheet_verdict
chart_number_law short S = number_applies (sheet_tests short S) (count_values (counts_of (graph S)))

pub run_number : (S : List ℕ) (o k : ℕ) → (run S o).number ≡ suc k → Foremost (sheet_tests false S) (suc k)
unfolding run sheet_verdict
run_number S o = number_applies (sheet_tests false S) (one (can_run (graph S) (node_at (graph S) o)) ∷ found_values (node_at (graph S) o))

pub judge_number_law : (short : Bool) (S U C : List ℕ) (k : ℕ) → (judge short S U C).number ≡ suc k → Foremost (scoped_tests short S U C) (suc k)
unfolding judge scoped_verdict
judge_number_law short S U C = number_applies (scoped_tests short S U C) (count_values (counts_of (graph S)) ++ (length (findings S (crossed S U C)) ∷ []))

pub label_number : (S : List ℕ) (k : ℕ) → (label_check S).number ≡ suc k → Foremost (sheet_tests false S) (suc k)
unfolding label_check sheet_verdict
label_number S = number_applies (sheet_tests false S) (one (labels_fine S) ∷ [])
