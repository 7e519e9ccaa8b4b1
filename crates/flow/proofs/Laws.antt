-- Laws that the proofs of the findings share: what tests decide, the first number with a property, and what stands in a list.
-- Assumes nothing.
use Prim.Native.Nat.{ℕ, zero, suc, ◌≤◌, ◌<◌}
use mathlib.Core.Path.{◌≡◌, refl, sym, ap, subst}
use mathlib.Core.Logic.{◌⊎◌, inl, inr, ⊎_elim, ⊎_map, ◌↔◌}
use mathlib.Core.Bool.{Bool, true, false, cond, ◌&&◌, ◌||◌, not, false≢true}
use mathlib.Core.List.Memᴰ
use mathlib.Core.List.{List, [], ◌∷◌, ◌++◌, map, Memᴰ}
use native.Mathlib.Omega.{arith}
use native.Mathlib.Decide.{ℕ_discrete, dec_lt}
use borrow.Author.Tests.{eqb-true, eq-eqb}
use lib.Dec.{eqb}
use lib.ListN.{length, get_or}
use Rattle.std.specs.Prelude.{Option, Some, None}
use Rattle.flow.specs.Locals.{only_if}
use Rattle.flow.specs.Findings.{is_found}

-- ---- tests

pub either : {A : Type 0} (P : A → Type 0) (b : Bool) {x y : A} → P x → P y → P (cond b x y)
either P true p q = p
either P false p q = q

-- the second where the first holds
pub and_then : {a b : Bool} {A B : Type 0} → (a ≡ true) ↔ A → (A → (b ≡ true) ↔ B) → (a && b ≡ true) ↔ (A × B)
and_then {a = true} {b = b} f g = (λ e. (f.0 refl, (g (f.0 refl)).0 e), λ p. (g p.0).1 p.1)
and_then {a = false} {b = b} f g = (λ e. absurd (false≢true e), λ p. f.1 p.0)

pub and_law : {a b : Bool} {A B : Type 0} → (a ≡ true) ↔ A → (b ≡ true) ↔ B → (a && b ≡ true) ↔ (A × B)
and_law f g = and_then f (λ x. g)

pub or_law : {a b : Bool} {A B : Type 0} → (a ≡ true) ↔ A → (b ≡ true) ↔ B → (a || b ≡ true) ↔ (A ⊎ B)
or_law {a = true} {b = b} f g = (λ e. inl (f.0 refl), λ p. refl)
or_law {a = false} {b = b} f g = (λ e. inr (g.0 e), λ p. ⊎_elim (λ x. absurd (false≢true (f.1 x))) g.1 p)

pub or_map : {A B C D : Type 0} → A ↔ C → B ↔ D → (A ⊎ B) ↔ (C ⊎ D)
or_map f g = (⊎_map f.0 g.0, ⊎_map f.1 g.1)

pub not_law : {a : Bool} {A : Type 0} → (a ≡ true) ↔ A → (not a ≡ true) ↔ (A → ⊥)
not_law {a = true} f = (λ e. absurd (false≢true e), λ n. absurd (n (f.0 refl)))
not_law {a = false} f = (λ e x. false≢true (f.1 x), λ n. refl)

pub eqb_law : (a b : ℕ) → (eqb a b ≡ true) ↔ (a ≡ b)
eqb_law a b = (eqb-true a b, eq-eqb a b)

-- what is found is a node
pub found_law : (f : Option ℕ) → (is_found f ≡ true) ↔ ((v : ℕ) × (f ≡ Some v))
found_law (Some v) = (λ e. (v, refl), λ q. refl)
found_law None = (λ e. absurd (false≢true e), λ q. ap is_found q.1)

-- ---- the first number from k on with a property

pub record Next (P : ℕ → Type 0) (k u : ℕ) : Type 0 where
  pub here : P u
  pub from : k ≤ u
  pub first : (x : ℕ) → k ≤ x → x < u → P x → ⊥

-- from k on, a number with the property is the first or past it
pub next_split : {P : ℕ → Type 0} {k u : ℕ} → Next P k u → (y : ℕ) → k ≤ y → P y → (y ≡ u) ⊎ (suc u ≤ y)
next_split {u} n y h p = elim (dec_lt y u) [
  | yes l ↦ absurd (n.first y h l p)
  | no l ↦ elim (ℕ_discrete y u) [ yes e ↦ inl e | no e ↦ inr (omega arith) ]
]

pub next_unique : {P : ℕ → Type 0} {k u y : ℕ} → Next P k u → Next P k y → y ≡ u
next_unique {u} {y} n m = ⊎_elim (λ e. e) (λ h. absurd (m.first u n.from h n.here)) (next_split n y m.from m.here)

-- of a property that is rarer
module _ {P Q : ℕ → Type 0} (sub : (x : ℕ) → Q x → P x) {k u : ℕ} (n : Next P k u) where
  pub next_here : Q u → Next Q k u
  next_here q = record { here = q; from = n.from; first = λ x h l r. n.first x h l (sub x r) }

  pub next_past : (Q u → ⊥) → (x : ℕ) → k ≤ x → Q x → suc u ≤ x
  next_past q x h r = ⊎_elim (λ (e : x ≡ u). absurd (q (subst Q e r))) (λ l. l) (next_split n x h (sub x r))

  pub next_skip : (Q u → ⊥) → (y : ℕ) → Next Q (suc u) y ↔ Next Q k y
  next_skip q y =
      (λ m. record { here = m.here; from = omega (arith, m.from, n.from); first = λ x h l r. m.first x (next_past q x h r) l r }, λ m. record { here = m.here; from = next_past q y m.from m.here; first = λ x h l r. m.first x (omega (arith, n.from)) l r })

-- ---- what stands in a list

module _ {A : Type 0} {x : A} where
  pub mem_append : (s t : List A) → Memᴰ x (s ++ t) ↔ (Memᴰ x s ⊎ Memᴰ x t)
  mem_append s t = (Memᴰ.append_cases s, λ q. ⊎_elim (Memᴰ.append_left t) (Memᴰ.append_right s) q)

  pub mem_one : (y : A) → Memᴰ x (y ∷ []) ↔ (x ≡ y)
  mem_one y = (Memᴰ.eq_of_singleton, Memᴰ.head)

  pub mem_only : {b : Bool} {B C : Type 0} {l : List A} → (b ≡ true) ↔ B → (B → Memᴰ x l ↔ C) → Memᴰ x (only_if b l) ↔ (B × C)
  mem_only {b = true} f g = (λ m. (f.0 refl, (g (f.0 refl)).0 m), λ q. (g q.0).1 q.1)
  mem_only {b = false} f g = (λ m. absurd (Memᴰ.not-nil m), λ q. absurd (false≢true (f.1 q.0)))

pub mem_map : {A B : Type 0} (f : A → B) (l : List A) {y : B} → Memᴰ y (map f l) ↔ ((x : A) × Memᴰ x l × (y ≡ f x))
mem_map f l = (λ m. let q = Memᴰ.of_map f l m in (q.0, q.1, sym q.2), λ q. Memᴰ.cast q.2 (Memᴰ.map f q.1))

-- what stands at a place
pub mem_at : {A : Type 0} (d : A) (l : List A) (i : ℕ) → i < length l → Memᴰ (get_or l i d) l
mem_at d [] i h = absurd (omega arith)
mem_at d (x ∷ l) zero h = Memᴰ.head refl
mem_at d (x ∷ l) (suc i) h = Memᴰ.tail (mem_at d l i (omega arith))

pub mem_place : {A : Type 0} (d : A) {x : A} {l : List A} → Memᴰ x l → (i : ℕ) × (i < length l) × (get_or l i d ≡ x)
mem_place d (Memᴰ.head e) = (zero, omega arith, sym e)
mem_place d (Memᴰ.tail m) = let q = mem_place d m in (suc q.0, omega (arith, q.1), q.2)
