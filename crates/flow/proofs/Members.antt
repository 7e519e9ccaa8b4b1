-- Who is a member of the lists of `specs/`: of a joined list, a kept one, the numbers below n. And what the test of a live node says.
-- Assumes nothing.
use Prim.Native.Nat.{ℕ, zero, suc, ◌<◌}
use mathlib.Core.Path.{◌≡◌, refl}
use mathlib.Core.Logic.{◌⊎◌, inl, inr, ⊎_elim}
use mathlib.Core.Bool.{Bool, true, false, ◌&&◌, ◌||◌, false≢true}
use mathlib.Core.List.{List, [], ◌∷◌, ◌++◌}
use native.Mathlib.Omega.{arith}
use native.Mathlib.Decide.{ℕ_discrete}
use borrow.Author.Tests.{ltb-true, lt-ltb, eqb-true, eqb-false, eq-eqb, ne_eqb, not-true}
use lib.Dec.{eqb}
use Rattle.search.proofs.Bools.{and_both}
use Rattle.search.specs.Search.{In, cons_if, filter}
use Rattle.flow.specs.Sheet.{member}
use Rattle.flow.specs.Graph.{Graph}
use Rattle.flow.specs.Locals.{Declaration}
use Rattle.flow.specs.Findings.{is_alive_at, range}
use Rattle.flow.specs.Paths.{Alive}

-- ---- tests joined

pub both_and : {a b : Bool} → a ≡ true → b ≡ true → (a && b) ≡ true
both_and p q = rw (p, q)

-- ---- lists joined

pub append_in : (xs ys : List ℕ) (v : ℕ) → In v (xs ++ ys) → In v xs ⊎ In v ys
append_in [] ys v i = inr i
append_in (x ∷ xs) ys v (inl e) = inl (inl e)
append_in (x ∷ xs) ys v (inr i) = ⊎_elim (λ j. inl (inr j)) (λ j. inr j) (append_in xs ys v i)

pub in_append : (xs ys : List ℕ) (v : ℕ) → In v xs ⊎ In v ys → In v (xs ++ ys)
in_append [] ys v (inl i) = absurd i
in_append [] ys v (inr i) = i
in_append (x ∷ xs) ys v (inl (inl e)) = inl e
in_append (x ∷ xs) ys v (inl (inr i)) = inr (in_append xs ys v (inl i))
in_append (x ∷ xs) ys v (inr i) = inr (in_append xs ys v (inr i))

-- ---- what is kept

in_cons_if : (b : Bool) (x : ℕ) (vs : List ℕ) (v : ℕ) → ((v ≡ x) × (b ≡ true)) ⊎ In v vs → In v (cons_if b x vs)
in_cons_if true x vs v (inl q) = inl q.0
in_cons_if true x vs v (inr i) = inr i
in_cons_if false x vs v (inl q) = absurd (false≢true q.1)
in_cons_if false x vs v (inr i) = i

pub in_filter : (p : ℕ → Bool) (vs : List ℕ) (v : ℕ) → In v vs → p v ≡ true → In v (filter p vs)
in_filter p [] v i e = absurd i
in_filter p (x ∷ vs) v (inl q) e = in_cons_if (p x) x (filter p vs) v (inl (q, rw (← q) e))
in_filter p (x ∷ vs) v (inr i) e = in_cons_if (p x) x (filter p vs) v (inr (in_filter p vs v i e))

-- ---- the numbers below n

pub range_in : (n v : ℕ) → v < n → In v (range n)
range_in zero v h = absurd (omega arith)
range_in (suc n) v h =
    in_append (range n) (n ∷ []) v (elim (ℕ_discrete v n) [ yes e ↦ inr (inl e) | no q ↦ inl (range_in n v (omega arith)) ])

pub in_range : (n v : ℕ) → In v (range n) → v < n
in_range zero v i = absurd i
in_range (suc n) v i =
    ⊎_elim (λ j. let h : v < n = in_range n v j in omega arith) (⊎_elim (λ e. omega arith) (λ b. absurd b)) (append_in (range n) (n ∷ []) v i)

-- ---- the test of membership

or_in : (b c : Bool) → (b || c) ≡ true → (b ≡ true) ⊎ (c ≡ true)
or_in true c e = inl refl
or_in false c e = inr e

in_or : (b c : Bool) → (b ≡ true) ⊎ (c ≡ true) → (b || c) ≡ true
in_or true c e = refl
in_or false c (inl e) = absurd (false≢true e)
in_or false c (inr e) = e

pub member_in : (v : ℕ) (vs : List ℕ) → member v vs ≡ true → In v vs
member_in v [] e = absurd (false≢true e)
member_in v (x ∷ vs) e = ⊎_elim (λ p. inl (eqb-true v x p)) (λ q. inr (member_in v vs q)) (or_in (eqb v x) (member v vs) e)

pub in_member : (v : ℕ) (vs : List ℕ) → In v vs → member v vs ≡ true
in_member v [] i = absurd i
in_member v (x ∷ vs) (inl e) = in_or (eqb v x) (member v vs) (inl (eq-eqb v x e))
in_member v (x ∷ vs) (inr i) = in_or (eqb v x) (member v vs) (inr (in_member v vs i))

-- ---- a live node

module _ (g : Graph) (d : Declaration) (v : ℕ) where
  pub true_alive : is_alive_at g d v ≡ true → Alive g d v
  unfolding is_alive_at
  true_alive e =
      let p = and_both _ _ e in
      record { other = eqb-false v d.node (not-true _ p.0); in_scope = ltb-true _ _ p.1 }

  pub alive_true : Alive g d v → is_alive_at g d v ≡ true
  unfolding is_alive_at
  alive_true a = rw (ne_eqb v d.node a.other) (lt-ltb _ _ a.in_scope)
