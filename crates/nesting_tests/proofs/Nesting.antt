-- How many items are open: at most 64 where 4 does not apply, and at least one where a closer or an arm may stand.
-- Assumes nothing.
use Prim.Native.Nat.{ℕ, suc, ◌+◌, ◌-◌, ◌≤◌, ◌<◌}
use mathlib.Core.Bool.{Bool, true, false, cond, ◌||◌, true≢false, false≢true}
use mathlib.Core.List.{List, [], ◌∷◌, tail}
use mathlib.Core.Path.{◌≡◌, refl, sym, ap, ap₂, ◌∙◌}
use native.Mathlib.Nat.{suc-add}
use native.Mathlib.Omega.{arith}
use lib.Dec.{eqb, leb, ltb, leb-suc-suc}
use lib.ListN.{length}
use borrow.Author.Tests.{ltb-false, eqb-true, leb-true}
use Rattle.search.proofs.Bools.{neither, and_both}
use Rattle.flow.specs.Kinds.{opens, closes}
use Rattle.flow.specs.Refusals.{one, outnumbered, may_stand, open_after}
use Rattle.flow.specs.Sheet.{Item, kind, member}

-- an opener and a closer more cancel out
ltb_suc : (c o : ℕ) → ltb (suc c + 64) (suc o) ≡ ltb (c + 64) o
ltb_suc c o = ap (λ (n : ℕ). ltb n (suc o)) (suc-add c 64) ∙ leb-suc-suc (suc (c + 64)) o

cancel : (o c : ℕ) (is : List Item) → outnumbered (suc o) (suc c) is ≡ outnumbered o c is
unfolding outnumbered
cancel o c [] = ltb_suc c o
cancel o c (i ∷ is) =
    ap₂ ◌||◌ (ltb_suc c o)
    (ap₂ (λ (x y : ℕ). outnumbered x y is) (suc-add o (one (opens (kind i)))) (suc-add c (one (closes (kind i)))) ∙ cancel (o + one (opens (kind i))) (c + one (closes (kind i))) is)

first_most : (o c : ℕ) (is : List Item) → outnumbered o c is ≡ false → o ≤ c + 64
unfolding outnumbered
first_most o c [] e = ltb-false (c + 64) o e
first_most o c (i ∷ is) e = ltb-false (c + 64) o (neither _ _ e).0

later : (o c : ℕ) (i : Item) (is : List Item) → outnumbered o c (i ∷ is) ≡ false → outnumbered (o + one (opens (kind i))) (c + one (closes (kind i))) is ≡ false
unfolding outnumbered
later o c i is e = (neither (ltb (c + 64) o) _ e).1

-- no closer is an opener
not_both : (k : ℕ) (b : Bool) → closes k ≡ true → opens k ≡ b → b ≡ false
not_both k false e h = refl
not_both k true e h = absurd (go (eqb k 8) refl e)
  where
    small : k ≤ 5
    small = leb-true k 5 (and_both (leb 1 k) (leb k 5) h).1

    go : (t : Bool) → eqb k 8 ≡ t → (t || eqb k 9) ≡ true → ⊥
    go true p q = omega (arith, small, eqb-true k 8 p)
    go false p q = omega (arith, small, eqb-true k 9 q)

pub most : (d : ℕ) (i : Item) (is : List Item) → outnumbered d 0 (i ∷ is) ≡ false → d + one (opens (kind i)) ≤ 64
most d i is e = go (closes (kind i)) refl
  where
    go : (t : Bool) → closes (kind i) ≡ t → d + one (opens (kind i)) ≤ 64
    go true p = rw (not_both (kind i) _ p refl) (omega (arith, first_most d 0 (i ∷ is) e))
    go false p = omega (arith, first_most (d + one (opens (kind i))) (0 + one (closes (kind i))) is (later d 0 i is e), ap one p)

pub deep_next : (d : ℕ) (i : Item) (is : List Item) → one (closes (kind i)) ≤ d → outnumbered d 0 (i ∷ is) ≡ false → outnumbered (d + one (opens (kind i)) - one (closes (kind i))) 0 is ≡ false
deep_next d i is h e = go (closes (kind i)) (one (opens (kind i))) h (later d 0 i is e)
  where
    go : (t : Bool) (o : ℕ) → one t ≤ d → outnumbered (d + o) (0 + one t) is ≡ false → outnumbered (d + o - one t) 0 is ≡ false
    go true o q f = let z : d + o ≡ suc (d + o - 1) = omega arith in sym (cancel (d + o - 1) 0 is) ∙ ap (λ (n : ℕ). outnumbered n 1 is) (sym z) ∙ f
    go false o q f = let z : d + o - 0 ≡ d + o = omega arith in ap (λ (n : ℕ). outnumbered n 0 is) z ∙ f

-- nothing is open where nothing may stand that needs it
nothing_open : (a b c : Bool) → cond a false (cond b false (cond c false true)) ≡ true → (a || b || c) ≡ true → ⊥
nothing_open true b c e h = false≢true e
nothing_open false true c e h = false≢true e
nothing_open false false true e h = false≢true e
nothing_open false false false e h = false≢true h

pub stands_in : (k : ℕ) (os : List ℕ) → may_stand k os ≡ true → (closes k || member k (6 ∷ 7 ∷ [])) ≡ true → 0 < length os
unfolding may_stand
stands_in k [] e h = absurd (nothing_open (eqb k 8) (eqb k 9) (member k (6 ∷ 7 ∷ [])) e h)
stands_in k (o ∷ os) e h = omega arith

pub closer_in : (k : ℕ) (os : List ℕ) → may_stand k os ≡ true → one (closes k) ≤ length os
closer_in k os e = go (closes k) refl
  where
    go : (t : Bool) → closes k ≡ t → one t ≤ length os
    go true p = stands_in k os e (rw p)
    go false p = omega arith

pub arm_in : (k : ℕ) (os : List ℕ) → may_stand k os ≡ true → one (member k (6 ∷ 7 ∷ [])) ≤ length os
arm_in k os e = go (closes k) (member k (6 ∷ 7 ∷ [])) refl refl
  where
    go : (s t : Bool) → closes k ≡ s → member k (6 ∷ 7 ∷ []) ≡ t → one t ≤ length os
    go true true p q = stands_in k os e (rw p)
    go false true p q = stands_in k os e (rw (p, q))
    go s false p q = omega arith

-- how many are open past an item
length_tail : (os : List ℕ) → length (tail os) ≡ length os - 1
length_tail [] = refl
length_tail (o ∷ os) = omega arith

-- a list that an opener adds x to, a closer takes the first from, and a kind of its own puts y first in
pub turned_length : (k x y : ℕ) (l : List ℕ) (t : Bool) → (t ≡ true → 0 < length l) → length (cond (opens k) (x ∷ l) (cond (closes k) (tail l) (cond t (y ∷ tail l) l))) ≡ length l + one (opens k) - one (closes k)
turned_length k x y l t h = go (opens k) (closes k) t refl refl refl
  where
    go : (b e u : Bool) → opens k ≡ b → closes k ≡ e → t ≡ u → length (cond b (x ∷ l) (cond e (tail l) (cond u (y ∷ tail l) l))) ≡ length l + one b - one e
    go true true u p q r = absurd (true≢false (not_both k true q p))
    go true false u p q r = omega arith
    go false true u p q r = omega (arith, length_tail l)
    go false false true p q r = omega (arith, length_tail l, h r)
    go false false false p q r = omega arith

pub open_length : (k : ℕ) (os : List ℕ) → may_stand k os ≡ true → length (open_after k os) ≡ length os + one (opens k) - one (closes k)
unfolding open_after
open_length k os e = turned_length k k 7 os (eqb k 7) (λ p. stands_in k os e (rw (eqb-true k 7 p)))
