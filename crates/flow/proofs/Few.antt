-- 3,072 findings suffice: at most one unassigned use and one initial value a local, and one write a use.
-- Assumes nothing.
use Prim.Native.Nat.{ℕ, zero, suc, ◌+◌, ◌≤◌}
use mathlib.Core.Path.{◌≡◌, refl, ap}
use mathlib.Core.Bool.{Bool, true, false, cond, ◌&&◌}
use mathlib.Core.List.{List, [], ◌∷◌, ◌++◌, map, tail}
use native.Mathlib.Omega.{arith}
use native.Mathlib.Decide.{ℕ_discrete}
use borrow.Author.Tests.{eq-eqb, ne_eqb}
use lib.Dec.{eqb}
use lib.ListN.{length, get_or, length-append, length-map}
use Rattle.flow.specs.Sheet.{use_words, use_spans, local_of}
use Rattle.flow.specs.Refusals.{one}
use Rattle.flow.specs.Graph.{Graph, node_count, graph}
use Rattle.flow.specs.Locals.{Local, Declaration, Finding, only_if, tracked, no_value, writes_judged, declaration, locals, local_at}
use Rattle.flow.specs.Findings.{Use, Ahead, node, is_write, is_empty_read, first_empty_read, live_after_writes, is_overwritten, overwritten_at, overwritten_below, all_found, ahead, uses_from, uses_of, first_unassigned_use, initial_overwritten, writes_overwritten, of_use, of_initial, unassigned_of, overwritten_of, of_each, findings}

-- ---- how often each key stands in a list, and in all

abbrev total : (ℕ → ℕ) → ℕ → ℕ
total f zero = 0
total f (suc n) = total f n + f n

total_add : (f g : ℕ → ℕ) (n : ℕ) → total (λ v. f v + g v) n ≡ total f n + total g n
total_add f g zero = refl
total_add f g (suc n) = omega (arith, total_add f g n)

total_zero : (n : ℕ) → total (λ v. 0) n ≡ 0
total_zero zero = refl
total_zero (suc n) = omega (arith, total_zero n)

total_le : (f g : ℕ → ℕ) → ((v : ℕ) → f v ≤ g v) → (n : ℕ) → total f n ≤ total g n
total_le f g h zero = omega arith
total_le f g h (suc n) = omega (arith, total_le f g h n, h n)

-- one key stands at one place
none_yet : (a n : ℕ) → n ≤ a → total (λ v. one (eqb a v)) n ≡ 0
none_yet a zero h = refl
none_yet a (suc n) h = omega (arith, none_yet a n (omega arith), ap one (ne_eqb a n (λ e. omega arith)))

at_most_one : (a n : ℕ) → total (λ v. one (eqb a v)) n ≤ 1
at_most_one a zero = omega arith
at_most_one a (suc n) = elim (ℕ_discrete a n) [
  | yes e ↦ omega (arith, none_yet a n (omega arith), ap one (eq-eqb a n e))
  | no q ↦ omega (arith, at_most_one a n, ap one (ne_eqb a n q))
]

module _ {A : Type 0} (key : A → ℕ) where
  abbrev often : ℕ → List A → ℕ
  often v [] = 0
  often v (x ∷ xs) = one (eqb (key x) v) + often v xs

  all_keys : (xs : List A) (n : ℕ) → total (λ v. often v xs) n ≤ length xs
  all_keys [] n = omega (arith, total_zero n)
  all_keys (x ∷ xs) n = omega (arith, total_add (λ v. one (eqb (key x) v)) (λ v. often v xs) n, at_most_one (key x) n, all_keys xs n)

only_one : {A : Type 0} (b c : Bool) (x : A) → length (only_if (b && c) (x ∷ [])) ≤ one b
only_one true true x = omega arith
only_one true false x = omega arith
only_one false c x = omega arith

only_few : {A : Type 0} (b : Bool) (l : List A) → length (only_if b l) ≤ length l
only_few true l = omega arith
only_few false l = omega arith

-- ---- the first unassigned use of one local

pub first_few : (live written : List ℕ) (us : List Use) → length (first_empty_read live written us) ≤ 1
unfolding first_empty_read
first_few live written [] = omega arith
first_few live written (u ∷ us) = go (is_empty_read live written u) _ (first_few live (only_if (is_write u) (node u ∷ []) ++ written) us)
  where
    go : (b : Bool) (l : List Use) → length l ≤ 1 → length (cond b (u ∷ []) l) ≤ 1
    go true l h = omega arith
    go false l h = h

unassigned_few : (S U : List ℕ) (ℓ : ℕ) → length (unassigned_of S U ℓ) ≤ 1
unfolding unassigned_of first_unassigned_use
unassigned_few S U ℓ =
    let g : Graph = graph S in
    let us : List Use = uses_of S U ℓ in
    let live : List ℕ = live_after_writes g (declaration g ℓ) us in
    omega (arith, length-map (first_unassigned_use g (local_at S ℓ) (declaration g ℓ) us) (of_use 0 ℓ), only_few (tracked (local_at S ℓ) && all_found us && no_value (local_at S ℓ)) (first_empty_read live [] us), first_few live [] us)

each_few : (f : ℕ → List Finding) → ((ℓ : ℕ) → length (f ℓ) ≤ 1) → (k : ℕ) → length (of_each f k) ≤ k
unfolding of_each
each_few f h zero = omega arith
each_few f h (suc k) = omega (arith, length-append (of_each f k) (f k), each_few f h k, h k)

-- of the locals below k
pub all_unassigned_few : (S U : List ℕ) (k : ℕ) → length (of_each (unassigned_of S U) k) ≤ k
all_unassigned_few S U k = each_few (unassigned_of S U) (unassigned_few S U) k

-- ---- the writes of one local

at_few : (g : Graph) (a : Ahead) (v : ℕ) (us : List Use) → length (overwritten_at g a v us) ≤ often node v us
unfolding overwritten_at
at_few g a v [] = omega arith
at_few g a v (u ∷ us) =
    omega (arith, length-append (only_if (eqb (node u) v && is_overwritten g a u us) (u ∷ [])) (overwritten_at g a v us), only_one (eqb (node u) v) (is_overwritten g a u us) u, at_few g a v us)

below_few : (g : Graph) (a : Ahead) (n : ℕ) (us : List Use) → length (overwritten_below g a n us) ≤ total (λ v. often node v us) n
unfolding overwritten_below
below_few g a zero us = omega arith
below_few g a (suc n) us = omega (arith, length-append (overwritten_below g a n us) (overwritten_at g a n us), below_few g a n us, at_few g a n us)

uses_few : (g : Graph) (l : Local) (ℓ k : ℕ) (ws ss : List ℕ) → length (uses_from g l ℓ k ws ss) ≤ often local_of ℓ ws
unfolding uses_from
uses_few g l ℓ k [] ss = omega arith
uses_few g l ℓ k (w ∷ ws) ss = go (eqb (local_of w) ℓ) _ _ (uses_few g l ℓ (k + 1) ws (tail ss))
  where
    go : (b : Bool) (u : Use) (us : List Use) → length us ≤ often local_of ℓ ws → length (only_if b (u ∷ []) ++ us) ≤ one b + often local_of ℓ ws
    go true u us h = omega arith
    go false u us h = omega arith

module _ (S U : List ℕ) where
  local_few : (ℓ : ℕ) → length (overwritten_of S U ℓ) ≤ 1 + often local_of ℓ (use_words U)
  unfolding overwritten_of writes_overwritten uses_of
  local_few ℓ =
      let g : Graph = graph S in
      let us : List Use = uses_of S U ℓ in
      let l : Local = local_at S ℓ in
      let d : Declaration = declaration g ℓ in
      let first : List Finding = of_initial ℓ (get_or g.names.span ℓ 0) ∷ [] in
      let rest : List Use = overwritten_below g (ahead g d us) (node_count g) us in
      omega (arith, length-append (only_if (initial_overwritten g l d us) first) (map (of_use 1 ℓ) (writes_overwritten g l d us)), length-map (writes_overwritten g l d us) (of_use 1 ℓ), only_few (initial_overwritten g l d us) first, only_few (tracked l && all_found us && writes_judged l) rest, below_few g (ahead g d us) (node_count g) us, all_keys node us (node_count g), uses_few g l ℓ 0 (use_words U) (use_spans U))

  each_local : (n : ℕ) → length (of_each (overwritten_of S U) n) ≤ n + total (λ ℓ. often local_of ℓ (use_words U)) n
  unfolding of_each
  each_local zero = omega arith
  each_local (suc n) = omega (arith, length-append (of_each (overwritten_of S U) n) (overwritten_of S U n), each_local n, local_few n)

  pub findings_few : length (locals S) ≤ 1024 → length (use_words U) ≤ 1024 → length (findings S U) ≤ 3072
  unfolding findings
  findings_few h k =
      let n : ℕ = length (locals S) in
      omega (arith, length-append (of_each (unassigned_of S U) n) (of_each (overwritten_of S U) n), all_unassigned_few S U n, each_local n, all_keys local_of (use_words U) n)
