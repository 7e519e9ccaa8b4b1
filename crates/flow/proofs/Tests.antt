-- From a verdict to what its tests say: a call is admitted exactly when none of them applies.
-- Assumes nothing.
use Prim.Native.Nat.{ℕ, zero, suc, ◌+◌, ◌*◌, ◌^◌, ◌≤◌, ◌<◌}
use mathlib.Core.Path.{◌≡◌, refl}
use mathlib.Core.Bool.{Bool, true, false, cond, ◌&&◌, ◌||◌}
use mathlib.Core.List.{List, [], ◌∷◌}
use native.Mathlib.Omega.{arith}
use borrow.Author.Tests.{ltb-true, ltb-false, leb-true, eqb-true, not-false}
use lib.Dec.{eqb, leb, ltb}
use lib.ListN.{length, get_or}
use Rattle.std.specs.Prelude.{Ok, Err}
use Rattle.search.proofs.Bools.{neither, and_both}
use Rattle.search.specs.Search.{In, filter}
use Rattle.flow.specs.declared.Refusal.{Refusal}
use Rattle.flow.specs.Sheet.{Item, all, kind, count_word, outer_end, items, start_of, end_of, argument_of}
use Rattle.flow.specs.Kinds.{argument_fits, item_fits}
use Rattle.flow.specs.Refusals.{Verdict, number, Test, first_applying, miscount, bad_item, pairs_up, bad_nesting, in_order, off_the_line, item_tests, sheet_tests, sheet_verdict, outnumbered, too_deep, side_by_side, inside_scopes, names_fit, bad_name}
use Rattle.flow.specs.Admitted.{an_item}
use Rattle.search.proofs.Worklist.{filter_in}

-- a test's two cases
pub split : {A B : Type 0} (f : A → B) (b : Bool) (x y : A) → f (cond b x y) ≡ cond b (f x) (f y)
split f true x y = refl
split f false x y = refl

pub same : {A : Type 0} (b : Bool) (x : A) → cond b x x ≡ x
same true x = refl
same false x = refl

-- what holds of each of a list by one evaluation
pub every : (t : ℕ → Bool) (xs : List ℕ) (x : ℕ) → filter t xs ≡ xs → In x xs → t x ≡ true
every t xs x e i = (filter_in t xs x (rw e i)).1

-- ---- the verdict

-- whether the test that has a number applies
abbrev pub applies : ℕ → List Test → Bool
applies k [] = false
applies k (t ∷ ts) = cond (eqb (number t.0) k) t.1 (applies k ts)

pub passed_one : (b : Bool) (r : Refusal) (v : Verdict) → cond b (Err r) v ≡ Ok tt → (b ≡ false) × (v ≡ Ok tt)
passed_one true r v e = let z : ◌≡◌ {A = ℕ} 0 1 = cc in absurd (omega arith)
passed_one false r v e = (refl, e)

-- where a call is admitted no test applies, by its number: a test more moves none of the others
pub passed : (ts : List Test) → first_applying ts ≡ Ok tt → (k : ℕ) → applies k ts ≡ false
unfolding first_applying
passed [] e k = refl
passed (t ∷ ts) e k = let p = passed_one t.1 t.0 (first_applying ts) e in rw (p.0, passed ts p.1 k) (same (eqb (number t.0) k) false)

-- ---- a sheet

-- the count of either sheet, with k words before its two arrays
pub counted : (k : ℕ) (ws : List ℕ) → miscount k ws ≡ false → (length ws ≡ 2 * count_word ws + k) × (count_word ws ≤ 1024)
unfolding miscount
counted k ws e =
    let m = neither (ltb (length ws) k || ltb 1024 (count_word ws)) _ e in
    (eqb-true _ _ (not-false _ m.1), ltb-false _ _ (neither (ltb (length ws) k) _ m.0).1)

pub record Passed (ws : List ℕ) : Type 0 where
  pub words : length ws ≡ 2 * count_word ws + 2
  pub few : count_word ws ≤ 1024
  pub outer_end : outer_end ws < 2 ^ 32
  pub fits : all item_fits (items ws) ≡ true
  pub pairs : pairs_up [] (items ws) ≡ true
  pub in_order : in_order 0 (items ws) ≡ true
  pub shallow : outnumbered 0 0 (items ws) ≡ false
  pub beside : side_by_side 0 (items ws) ≡ true
  pub inside_scopes : inside_scopes (Rattle.flow.specs.Sheet.outer_end ws ∷ []) (items ws) ≡ true
  pub named : names_fit 0 0 (items ws) ≡ true

pub sheet_passed : (short : Bool) (ws : List ℕ) → sheet_verdict short ws ≡ Ok tt → Passed ws
unfolding sheet_verdict sheet_tests item_tests bad_item too_deep bad_nesting off_the_line bad_name
sheet_passed short ws e =
    let p = passed (sheet_tests short ws) e in
    let c = counted 2 ws (p 2) in
    let i = and_both (ltb (outer_end ws) (2 ^ 32)) _ (not-false _ (p 3)) in
    let nests = and_both (pairs_up [] (items ws)) _ (not-false _ (p 5)) in
    let lies = and_both (in_order 0 (items ws)) _ (not-false _ (p 6)) in
    record {
      words = c.0;
      few = c.1;
      outer_end = ltb-true _ _ i.0;
      fits = i.1;
      pairs = nests.0;
      in_order = lies.0;
      shallow = p 4;
      beside = nests.1;
      inside_scopes = lies.1;
      named = not-false _ (p 7);
    }

-- ---- an item

pub fits_at : (is : List Item) → all item_fits is ≡ true → (k : ℕ) → k < length is → item_fits (get_or is k an_item) ≡ true
unfolding all
fits_at [] e k h = absurd (omega arith)
fits_at (i ∷ is) e zero h = (and_both (item_fits i) (all item_fits is) e).0
fits_at (i ∷ is) e (suc k) h = fits_at is (and_both (item_fits i) (all item_fits is) e).1 k (omega arith)

pub record Fitting (i : Item) : Type 0 where
  pub low : 1 ≤ kind i
  pub high : kind i ≤ 19
  pub order : start_of i.span ≤ end_of i.span

pub fitting : (i : Item) → item_fits i ≡ true → Fitting i
unfolding item_fits
fitting i e =
    let kinds : Bool = leb 1 (kind i) && leb (kind i) 19 in
    let upto : Bool = kinds && argument_fits (kind i) (argument_of i.word) in
    let s = and_both (upto && leb (start_of i.span) (end_of i.span)) _ e in
    let o = and_both upto _ s.0 in
    let k = and_both (leb 1 (kind i)) _ (and_both kinds _ o.0).0 in
    record { low = leb-true _ _ k.0; high = leb-true _ _ k.1; order = leb-true _ _ o.1 }
