-- The first of tests that applies: it is the first in the list, or stands behind tests that pass. Assumes nothing.
use Prim.Native.Nat.{ℕ}
use mathlib.Core.Bool.{Bool, true, false, cond, ◌||◌}
use mathlib.Core.List.{List, [], ◌∷◌, ◌++◌}
use mathlib.Core.Path.{◌≡◌, refl, ap, ◌∙◌}
use Rattle.std.specs.Prelude.{Ok, Err}
use Rattle.flow.specs.Refusals.{Verdict, Test, miscount, bad_use, first_applying, leading_tests, item_tests, sheet_tests, pair_tests, sheet_verdict, pair_verdict}
use Rattle.flow.specs.declared.Refusal.{Refusal}
use Rattle.flow.specs.declared.Refusal.TheVariants.{BenchTooSmall, Miscount, BadUse}

pub applies_first : (t : Test) (ts : List Test) → t.1 ≡ true → first_applying (t ∷ ts) ≡ Err t.0
unfolding first_applying
applies_first t ts e = rw e

pub passes_first : (t : Test) (ts : List Test) → t.1 ≡ false → first_applying (t ∷ ts) ≡ first_applying ts
unfolding first_applying
passes_first t ts e = rw e

-- ---- 1 and 2, and the tests behind them

module _ (short miscounted : Bool) (ws : List ℕ) where
  pub too_short : short ≡ true → first_applying (leading_tests short miscounted ws) ≡ Err BenchTooSmall
  too_short e = applies_first _ _ e

  pub wrong_count : short ≡ false → miscounted ≡ true → first_applying (leading_tests short miscounted ws) ≡ Err Miscount
  wrong_count e q = passes_first _ _ e ∙ applies_first _ _ q

  pub well_counted : short ≡ false → miscounted ≡ false → first_applying (leading_tests short miscounted ws) ≡ first_applying (item_tests ws)
  well_counted e q = passes_first _ _ e ∙ passes_first _ _ q

-- ---- tests with further tests behind them

abbrev or_else : Verdict → Verdict → Verdict
or_else (Ok tt) v = v
or_else (Err r) v = Err r

pick : (b : Bool) (r : Refusal) (u v w : Verdict) → u ≡ or_else v w → cond b (Err r) u ≡ or_else (cond b (Err r) v) w
pick true r u v w e = refl
pick false r u v w e = e

behind : (xs ts : List Test) → first_applying (xs ++ ts) ≡ or_else (first_applying xs) (first_applying ts)
unfolding first_applying
behind [] ts = refl
behind (x ∷ xs) ts = pick x.1 x.0 (first_applying (xs ++ ts)) (first_applying xs) (first_applying ts) (behind xs ts)

pub refused_before : (xs ts : List Test) (r : Refusal) → first_applying xs ≡ Err r → first_applying (xs ++ ts) ≡ Err r
refused_before xs ts r e = behind xs ts ∙ ap (λ (v : Verdict). or_else v (first_applying ts)) e

pub admitted_before : (xs ts : List Test) → first_applying xs ≡ Ok tt → first_applying (xs ++ ts) ≡ first_applying ts
admitted_before xs ts e = behind xs ts ∙ ap (λ (v : Verdict). or_else v (first_applying ts)) e

-- ---- the tests of a sheet and of a pair, in the turn in which they are made

module _ (short : Bool) (S : List ℕ) where
  -- 1, and 2 of the sheet
  abbrev pub from_1 : List Test
  from_1 = (BenchTooSmall, short) ∷ (Miscount, miscount 2 S) ∷ []

  pub sheet_turns : sheet_verdict short S ≡ first_applying (from_1 ++ item_tests S)
  unfolding sheet_verdict sheet_tests
  sheet_turns = refl

  module _ (U : List ℕ) where
    -- 2 of the use sheet, and 8
    abbrev pub from_2 : List Test
    from_2 = (Miscount, miscount 1 U) ∷ []

    abbrev pub from_8 : List Test
    from_8 = (BadUse, bad_use S U) ∷ []

    one_by_one : (a b : Bool) (v : Verdict) → cond (a || b) (Err Miscount) v ≡ cond a (Err Miscount) (cond b (Err Miscount) v)
    one_by_one true b v = refl
    one_by_one false b v = refl

    pub pair_turns : pair_verdict short S U ≡ first_applying (from_1 ++ (from_2 ++ (item_tests S ++ from_8)))
    unfolding pair_verdict pair_tests first_applying
    pair_turns = ap (λ (v : Verdict). cond short (Err BenchTooSmall) v) (one_by_one (miscount 2 S) (miscount 1 U) (first_applying (item_tests S ++ from_8)))
