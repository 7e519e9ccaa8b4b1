-- How many of a list's first n numbers are 0, and what a 1 written there does to the count; a list of zeros.
-- Assumes nothing.
use Prim.Native.Nat.{ℕ, zero, suc, ◌+◌, ◌≤◌, ◌<◌}
use mathlib.Core.Path.{◌≡◌, refl}
use mathlib.Core.List.{List, [], ◌∷◌}
use native.Mathlib.Omega.{arith}
use native.Mathlib.Nat.{le_of_suc-le-suc, not-suc-le-zero}
use lib.ListN.{length, get_or, set, replicate}
use Rattle.search.specs.Search.{is_zero, zeros}

is_zero_at : (x : ℕ) → x ≡ 0 → is_zero x ≡ 1
is_zero_at x e = rw e

is_zero_le : (x : ℕ) → is_zero x ≤ 1
is_zero_le zero = omega arith
is_zero_le (suc n) = omega arith

pub zeros_set : (n : ℕ) (l : List ℕ) (v : ℕ) → v < n → v < length l → get_or l v 0 ≡ 0 → zeros n l ≡ zeros n (set l v 1) + 1
zeros_set zero l v h k e = absurd (not-suc-le-zero h)
zeros_set (suc n) [] v h k e = absurd (not-suc-le-zero k)
zeros_set (suc n) (x ∷ l) zero h k e = omega (arith, is_zero_at x e)
zeros_set (suc n) (x ∷ l) (suc v) h k e = omega (arith, zeros_set n l v (le_of_suc-le-suc h) (le_of_suc-le-suc k) e)

pub zeros_le : (n : ℕ) (l : List ℕ) → zeros n l ≤ n
zeros_le zero l = omega arith
zeros_le (suc n) [] = omega arith
zeros_le (suc n) (x ∷ l) = omega (arith, zeros_le n l, is_zero_le x)

pub zeros_all : (n : ℕ) (l : List ℕ) → n ≤ length l → ((v : ℕ) → v < n → get_or l v 0 ≡ 0) → zeros n l ≡ n
zeros_all zero l k z = refl
zeros_all (suc n) [] k z = absurd (not-suc-le-zero k)
zeros_all (suc n) (x ∷ l) k z = omega (arith, is_zero_at x (z 0 (omega arith)), zeros_all n l (le_of_suc-le-suc k) (λ v h. z (suc v) (omega arith)))

pub zero_at : (k v : ℕ) → get_or {A = ℕ} (replicate k 0) v 0 ≡ 0
zero_at zero v = refl
zero_at (suc k) zero = refl
zero_at (suc k) (suc v) = zero_at k v
