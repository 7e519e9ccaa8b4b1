-- Lists that rise in a relation, and how a finding's word decodes: its list, its local and its use.
-- Assumes nothing.
use Prim.Native.Nat.{ℕ, zero, suc, ◌-◌, ◌/◌, ◌%◌, ◌^◌, ◌≤◌, ◌<◌, min}
use mathlib.Core.Path.{◌≡◌, refl, sym, ap, subst, subst₂}
use mathlib.Core.Logic.Iff
use mathlib.Core.Logic.{inl, inr, ⊎_elim, ◌↔◌}
use mathlib.Core.Bool.{Bool, true, false}
use mathlib.Core.List.Memᴰ
use mathlib.Core.List.{List, [], ◌∷◌, ◌++◌, map, Memᴰ}
use native.Mathlib.Omega.{arith}
use native.Mathlib.Decide.{ℕ_discrete}
use lib.ListN.{length, get_or}
use Rattle.flow.specs.Locals.{Finding, finding_word, only_if}
use Rattle.flow.specs.Findings.{Use, Ahead, of_each, overwritten_at, overwritten_below}
use Rattle.flow.specs.Sheet.{start_of}
use Rattle.flow.specs.Answers.{found_values}
use Rattle.flow.specs.Graph.{Graph, graph}
use Rattle.flow.specs.Reachable.{node_at}
use Rattle.flow.specs.Demand.{use_span, order, Before}
use Rattle.flow.proofs.Laws.{mem_append, mem_map, mem_at}

-- ---- the lists of the numbers below n, one after the other

abbrev pub each : {A : Type 0} → (ℕ → List A) → ℕ → List A
each f zero = []
each f (suc n) = each f n ++ f n

pub each_findings : (f : ℕ → List Finding) (n : ℕ) → of_each f n ≡ each f n
unfolding of_each
each_findings f zero = refl
each_findings f (suc n) = ap (λ (l : List Finding). l ++ f n) (each_findings f n)

pub each_node : (g : Graph) (a : Ahead) (n : ℕ) (us : List Use) → overwritten_below g a n us ≡ each (λ v. overwritten_at g a v us) n
unfolding overwritten_below
each_node g a zero us = refl
each_node g a (suc n) us = ap (λ (l : List Use). l ++ overwritten_at g a n us) (each_node g a n us)

pub mem_each : {A : Type 0} {x : A} (f : ℕ → List A) (n : ℕ) → Memᴰ x (each f n) ↔ ((i : ℕ) × (i < n) × Memᴰ x (f i))
mem_each f zero = (λ m. absurd (Memᴰ.not-nil m), λ q. absurd (omega arith))
mem_each {A} {x} f (suc n) =
    let ih = mem_each {x = x} f n in
    Iff.trans (mem_append (each f n) (f n)) (
      λ q. ⊎_elim (λ m. let r = ih.0 m in (r.0, omega (arith, r.1), r.2)) (λ m. (n, omega arith, m)) q,
      λ q. elim (ℕ_discrete q.0 n) [
        | yes e ↦ inr (subst (λ (i : ℕ). Memᴰ x (f i)) e q.2)
        | no e ↦ inl (ih.1 (q.0, omega (arith, q.1), q.2))
      ],
    )

-- ---- rising lists

-- each stands in R to all after it
pub data Rising {A : Type 0} (R : A → A → Type 0) : List A → Type 0 where
  nil : Rising R []
  cons : {x : A} {l : List A} → ((y : A) → Memᴰ y l → R x y) → Rising R l → Rising R (x ∷ l)

module _ {A : Type 0} {R : A → A → Type 0} where
  pub rising_append : (s t : List A) → Rising R s → Rising R t → ((x y : A) → Memᴰ x s → Memᴰ y t → R x y) → Rising R (s ++ t)
  rising_append [] t a b c = b
  rising_append (x ∷ s) t (cons h a) b c =
      cons (λ y m. ⊎_elim (h y) (c x y (Memᴰ.head refl)) ((mem_append s t).0 m)) (rising_append s t a b (λ z y m k. c z y (Memᴰ.tail m) k))

  pub rising_one : (x : A) → Rising R (x ∷ [])
  rising_one x = cons (λ y m. absurd (Memᴰ.not-nil m)) nil

  pub rising_only : {b : Bool} {B : Type 0} {l : List A} → (b ≡ true) ↔ B → (B → Rising R l) → Rising R (only_if b l)
  rising_only {b = true} f h = h (f.0 refl)
  rising_only {b = false} f h = nil

  pub rising_each : (f : ℕ → List A) (n : ℕ) → ((i : ℕ) → i < n → Rising R (f i)) → ((i j : ℕ) → i < j → j < n → (x y : A) → Memᴰ x (f i) → Memᴰ y (f j) → R x y) → Rising R (each f n)
  rising_each f zero h c = nil
  rising_each f (suc n) h c =
      rising_append (each f n) (f n) (rising_each f n (λ i l. h i (omega arith)) (λ i j l k. c i j l (omega arith))) (h n (omega arith))
      (λ x y m k. let q = (mem_each f n).0 m in c q.0 n q.1 (omega arith) x y q.2 k)

  pub rising_at : (d : A) {l : List A} → Rising R l → (i j : ℕ) → i < j → j < length l → R (get_or l i d) (get_or l j d)
  rising_at d nil i j h k = absurd (omega arith)
  rising_at d (cons a r) zero zero h k = absurd (omega arith)
  rising_at d (cons {l = l} a r) zero (suc j) h k = a _ (mem_at d l j (omega arith))
  rising_at d (cons a r) (suc i) zero h k = absurd (omega arith)
  rising_at d (cons a r) (suc i) (suc j) h k = rising_at d r i j (omega arith) (omega arith)

pub rising_map : {A B : Type 0} (R : B → B → Type 0) (f : A → B) {l : List A} → Rising (λ x y. R (f x) (f y)) l → Rising R (map f l)
rising_map R f nil = nil
rising_map R f (cons {x = x} {l = l} a r) = cons (λ y m. let q = (mem_map f l).0 m in subst (R (f x)) (sym q.2) (a q.0 q.1)) (rising_map R f r)

-- ---- words

-- the node of a use, if it finds one
abbrev nodes_for : List ℕ → List ℕ → ℕ → List ℕ
nodes_for S U u = found_values (node_at (graph S) (start_of (use_span U u)))

-- what such a word is ordered by
abbrev pub key : List ℕ → List ℕ → ℕ → List ℕ
key S U zero = 0 ∷ nodes_for S U 0 ++ (0 ∷ [])
key S U (suc u) = 1 ∷ nodes_for S U u ++ (suc u ∷ [])

min_one : (u : ℕ) → min 1 (suc u) ≡ 1
min_one u = omega arith

pred_suc : (u : ℕ) → suc u - 1 ≡ u
pred_suc u = omega arith

key_is : (S U : List ℕ) (c : ℕ) → ◌≡◌ {A = List ℕ} (min 1 c ∷ nodes_for S U (c - 1) ++ (c ∷ [])) (key S U c)
key_is S U zero = refl
key_is S U (suc u) = rw (min_one u, pred_suc u)

-- a finding has such a word
pub record Coded (f : Finding) (list ℓ c : ℕ) : Type 0 where
  pub small : list ≤ 1
  pub few : ℓ < 1024
  pub coded : f.word ≡ finding_word list ℓ c

module _ (list ℓ c : ℕ) (hl : list ≤ 1) (hℓ : ℓ < 1024) where
  word_list : finding_word list ℓ c % 2 ≡ list
  word_list = omega arith

  word_local : finding_word list ℓ c / 2 % 2 ^ 31 ≡ ℓ
  word_local = omega arith

  word_use : finding_word list ℓ c / 2 ^ 32 ≡ c
  word_use = omega arith

order_key : (S U : List ℕ) {f : Finding} {list ℓ c : ℕ} → Coded f list ℓ c → order S U f.word ≡ list ∷ ℓ ∷ key S U c
order_key S U {f} {list} {ℓ} {c} k =
    rw (k.coded, word_list list ℓ c k.small k.few, word_local list ℓ c k.small k.few, word_use list ℓ c k.small k.few) (ap (λ (l : List ℕ). list ∷ ℓ ∷ l) (key_is S U c))

-- a word says its list, its local and its use
pub same_word : {f : Finding} {a b c a' b' c' : ℕ} → Coded f a b c → Coded f a' b' c' → (a' ≡ a) × (b' ≡ b) × (c' ≡ c)
same_word k l = omega arith

unfoldable pub Prior : List ℕ → List ℕ → Finding → Finding → Type 0
Prior S U f h = Before (order S U f.word) (order S U h.word)

pub prior_by : (S U : List ℕ) {f h : Finding} {list ℓ c list' ℓ' c' : ℕ} → Coded f list ℓ c → Coded h list' ℓ' c' → Before (list ∷ ℓ ∷ key S U c) (list' ∷ ℓ' ∷ key S U c') → Prior S U f h
unfolding Prior
prior_by S U k l p = subst₂ Before (sym (order_key S U k)) (sym (order_key S U l)) p
