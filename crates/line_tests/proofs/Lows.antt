-- The least scope end around: a span ends within all scopes around where it ends within the least. Assumes nothing.
use Prim.Native.Nat.{ℕ, zero, suc, ◌-◌, ◌<◌, min}
use mathlib.Core.Bool.{Bool, true, false, ◌&&◌, and-true}
use mathlib.Core.List.{List, [], ◌∷◌, map, tail}
use mathlib.Core.Path.{◌≡◌, refl, sym, ap, ◌∙◌}
use native.Mathlib.Omega.{arith}
use lib.Dec.{eqb, leb}
use lib.ListN.{length, get_or}
use borrow.Author.Tests.{le-leb, lt-leb, leb-true, leb-false, eqb-true, ne_eqb}
use Rattle.std.proofs.Common.{reverse}
use Rattle.std.proofs.lemmas.List.{get_or-reverse, length-reverse, length-map}
use Rattle.flow.specs.Kinds.{is_code}
use Rattle.flow.specs.Sheet.{Item, all, kind}
use Rattle.line_tests.specs.declared.Scope.{Scope}
use Rattle.line_tests.specs.Scopes.{least, lows_of, scope_ends, scope_lows, Lowest}
use Rattle.line_tests.specs.Turn.{end_held_here}

leb_min : (e s m : ℕ) → (leb e s && leb e m) ≡ leb e (min s m)
leb_min e s m = go (leb e s) (leb e m) refl refl
  where
    go : (a b : Bool) → leb e s ≡ a → leb e m ≡ b → (a && b) ≡ leb e (min s m)
    go true true p q = sym (le-leb e (min s m) (omega (arith, leb-true e s p, leb-true e m q)))
    go true false p q = sym (lt-leb e (min s m) (omega (arith, leb-false e m q)))
    go false b p q = sym (lt-leb e (min s m) (omega (arith, leb-false e s p)))

within_least : (e s : ℕ) (ss : List ℕ) → all (leb e) (s ∷ ss) ≡ leb e (least s ss)
unfolding all
within_least e s [] = and-true (leb e s)
within_least e s (t ∷ ts) = ap (λ (b : Bool). leb e s && b) (within_least e t ts) ∙ leb_min e s (least t ts)

-- where each low is the least of those from it on, the first alone decides, and so does the second of those behind the first
first_low : (e : ℕ) (ss ls : List ℕ) → 0 < length ss → ls ≡ lows_of ss → all (leb e) ss ≡ leb e (get_or ls 0 0)
first_low e [] ls h p = absurd (omega arith)
first_low e (s ∷ ss) ls h p = rw p (within_least e s ss)

second_low : (e : ℕ) (ss ls : List ℕ) → 1 < length ss → ls ≡ lows_of ss → all (leb e) (tail ss) ≡ leb e (get_or ls 1 0)
second_low e [] ls h p = absurd (omega arith)
second_low e (s ∷ ss) ls h p = rw p (first_low e ss (lows_of ss) (omega arith) refl)

-- places of the list that ends with the innermost
nth_mapped : (f : Scope → ℕ) (ss : List Scope) (i : ℕ) (d : Scope) → i < length ss → get_or (map f ss) i 0 ≡ f (get_or ss i d)
nth_mapped f [] i d h = absurd (omega arith)
nth_mapped f (s ∷ ss) zero d h = refl
nth_mapped f (s ∷ ss) (suc i) d h = nth_mapped f ss i d (omega arith)

nth : (f : Scope → ℕ) (ss : List Scope) (i : ℕ) (d : Scope) → i < length ss → get_or (map f (reverse ss)) i 0 ≡ f (get_or ss (length ss - 1 - i) d)
nth f ss i d h =
    let l : i < length (reverse ss) = omega (arith, length-reverse ss) in
    nth_mapped f (reverse ss) i d l ∙ ap f (get_or-reverse ss i d h)

pub length_ends : (ss : List Scope) → length (scope_ends ss) ≡ length ss
length_ends ss = simp (length-map, length-reverse)

module _ (ss : List Scope) (d : Scope) (low : Lowest ss) where
  pub all_within : (e : ℕ) → 0 < length ss → all (leb e) (scope_ends ss) ≡ leb e (get_or ss (length ss - 1) d).low
  all_within e h =
      let z : length ss - 1 - 0 ≡ length ss - 1 = omega arith in
      first_low e (scope_ends ss) (scope_lows ss) (omega (arith, length_ends ss)) low
      ∙ ap (leb e) (nth (λ (s : Scope). s.low) ss 0 d h ∙ ap (λ (i : ℕ). (get_or ss i d).low) z)

  pub outer_within : (e : ℕ) → 1 < length ss → all (leb e) (tail (scope_ends ss)) ≡ leb e (get_or ss (length ss - 1 - 1) d).low
  outer_within e h = second_low e (scope_ends ss) (scope_lows ss) (omega (arith, length_ends ss)) low ∙ ap (leb e) (nth (λ (s : Scope). s.low) ss 1 d h)

pub innermost_end : (ss : List Scope) (d : Scope) → 0 < length ss → get_or (scope_ends ss) 0 0 ≡ (get_or ss (length ss - 1) d).end
innermost_end ss d h =
    let z : length ss - 1 - 0 ≡ length ss - 1 = omega arith in
    nth (λ (s : Scope). s.end) ss 0 d h ∙ ap (λ (i : ℕ). (get_or ss i d).end) z

-- what is asked of code that ends at e, by its kind
module _ (k e : ℕ) (ss : List Scope) (d : Scope) (low : Lowest ss) where
  pub arm_held : k ≡ 6 → 1 < length ss → leb e (get_or ss (length ss - 1 - 1) d).low ≡ end_held_here (scope_ends ss) k e
  arm_held p h = rw (p, outer_within ss d low e h) (sym (and-true _))

  pub until_held : k ≡ 9 → 0 < length ss → (leb e (get_or ss (length ss - 1) d).low && eqb e (get_or ss (length ss - 1) d).end) ≡ end_held_here (scope_ends ss) k e
  until_held p h = rw (p, all_within ss d low e h, innermost_end ss d h)

  pub other_held : (k ≡ 6 → ⊥) → (k ≡ 9 → ⊥) → 0 < length ss → leb e (get_or ss (length ss - 1) d).low ≡ end_held_here (scope_ends ss) k e
  other_held p q h = rw (ne_eqb k 6 p, ne_eqb k 9 q, all_within ss d low e h) (sym (and-true _))

-- an UNTIL is code
pub no_until : (i : Item) → is_code i ≡ false → eqb (kind i) 9 ≡ false
unfolding is_code
no_until i h = go (eqb (kind i) 9) refl
  where
    go : (t : Bool) → eqb (kind i) 9 ≡ t → t ≡ false
    go true e =
        let code : is_code i ≡ true = rw (eqb-true (kind i) 9 e) in
        sym code ∙ h
    go false e = refl
