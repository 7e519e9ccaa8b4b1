-- A local's uses by node: each node's first use is the one that it has in use order, so that the same is ahead of each node; those overwritten are the same in the same order; and placed uses that stand for them rise by node.
-- Assumes nothing.
use Prim.Native.Nat.{ℕ, zero, suc, ◌+◌, ◌≤◌, ◌<◌}
use mathlib.Core.Path.{◌≡◌, refl, sym, ap, ap₂, fun_ext, ◌∙◌}
use mathlib.Core.Logic.{◌⊎◌, inl, inr, ⊎_elim}
use mathlib.Core.Bool.{Bool, true, false, cond, ◌&&◌}
use mathlib.Core.List.Memᴰ
use mathlib.Core.List.{List, [], ◌∷◌, ◌++◌, append_assoc, map, map-append, Memᴰ}
use native.Mathlib.Omega.{arith}
use native.Mathlib.Decide.{ℕ_discrete}
use borrow.Author.Tests.{eq-eqb, ne_eqb}
use lib.Dec.{eqb}
use lib.ListN.{length, get_or, length-map, get_or-map}
use Rattle.search.specs.Search.{In, cons_if, filter, closure}
use Rattle.flow.specs.Sheet.{member}
use Rattle.flow.specs.Graph.{Graph, node_count}
use Rattle.flow.specs.Reachable.{successors}
use Rattle.flow.specs.Locals.{only_if, Declaration}
use Rattle.flow.specs.Findings.{Use, node, is_read, is_write, is_alive_at, Meeting, no_use, a_read, a_pure_write, meeting, first_at, is_no_use, is_a_read, is_a_pure_write, range, meets_here, predecessors, meets, or_else, Ahead, ahead, is_overwritten, is_overwritten_unread, overwritten_at, overwritten_below}
use Rattle.flow.proofs.Laws.{mem_append}
use Rattle.flow.proofs.Members.{in_range}
use Rattle.flow.proofs.OwnUses.{renumbered_overwritten}
use Rattle.flow.proofs.Order.{Rising as RisingBy, nil, cons, rising_append, rising_at}
use Rattle.use_words.specs.declared.PlacedUse.{PlacedUse}
use Rattle.use_words.specs.Words.{node_in, use_of, uses_in, spanless, no_use as blank}
use Rattle.use_words.proofs.Words.{spanless_renumbers}
use Rattle.bucket_sort.specs.Grouped.{grouped}
use Rattle.bucket_sort.proofs.Grouped.{of_here, of_other}
use Rattle.uses_by_node.specs.Uses.{uses_at, by_node, Rising, overwritten_in}

-- ---- lists joined

first_skip : (v : ℕ) (xs ys : List Use) → first_at v xs ≡ no_use → first_at v (xs ++ ys) ≡ first_at v ys
unfolding first_at
first_skip v [] ys e = refl
first_skip v (u ∷ us) ys e = elim (ℕ_discrete (node u) v) [
  | yes p ↦ absurd (used (meeting_used u) (rw (eq-eqb _ _ p) at e))
  | no q ↦ rw (ne_eqb _ _ q) (first_skip v us ys (rw (ne_eqb _ _ q) at e))
]
  where
    used : {m : Meeting} → (m ≡ a_read) ⊎ (m ≡ a_pure_write) → m ≡ no_use → ⊥
    used (inl p) q = let z : ◌≡◌ {A = ℕ} 0 1 = cc in omega arith
    used (inr p) q = let z : ◌≡◌ {A = ℕ} 0 1 = cc in omega arith

    meeting_used : (u : Use) → (meeting u ≡ a_read) ⊎ (meeting u ≡ a_pure_write)
    meeting_used u = by (is_read u)
      where
        by : (b : Bool) → (cond b a_read a_pure_write ≡ a_read) ⊎ (cond b a_read a_pure_write ≡ a_pure_write)
        by true = inl refl
        by false = inr refl

first_stop : (v : ℕ) (xs ys : List Use) → first_at v ys ≡ no_use → first_at v (xs ++ ys) ≡ first_at v xs
unfolding first_at
first_stop v [] ys e = e
first_stop v (u ∷ us) ys e = ap (cond (eqb (node u) v) (meeting u)) (first_stop v us ys e)

-- ---- the uses at one node

uses_here : (v : ℕ) (u : Use) (us : List Use) → node u ≡ v → uses_at v (u ∷ us) ≡ u ∷ uses_at v us
uses_here v u us e = of_here node v u us e

uses_past : (v : ℕ) (u : Use) (us : List Use) → (node u ≡ v → ⊥) → uses_at v (u ∷ us) ≡ uses_at v us
uses_past v u us q = of_other node v u us q

uses_own : (v : ℕ) (us : List Use) → first_at v (uses_at v us) ≡ first_at v us
unfolding first_at
uses_own v [] = refl
uses_own v (u ∷ us) = elim (ℕ_discrete (node u) v) [
  | yes e ↦ rw (uses_here v u us e, eq-eqb _ _ e)
  | no q ↦ rw (uses_past v u us q, ne_eqb _ _ q) (uses_own v us)
]

uses_other : (v w : ℕ) (us : List Use) → (w ≡ v → ⊥) → first_at v (uses_at w us) ≡ no_use
unfolding first_at
uses_other v w [] q = refl
uses_other v w (u ∷ us) q = elim (ℕ_discrete (node u) w) [
  | yes e ↦ rw (uses_here w u us e, ne_eqb (node u) v (λ p. q (sym e ∙ p))) (uses_other v w us q)
  | no r ↦ rw (uses_past w u us r) (uses_other v w us q)
]

-- who stands in it
uses_mem : (v : ℕ) (us : List Use) (x : Use) → Memᴰ x (uses_at v us) → Memᴰ x us × (node x ≡ v)
uses_mem v [] x m = absurd (Memᴰ.not-nil m)
uses_mem v (u ∷ us) x m = elim (ℕ_discrete (node u) v) [
  | yes e ↦ ⊎_elim (λ p. (Memᴰ.head p, ap node p ∙ e)) (λ k. let r = uses_mem v us x k in (Memᴰ.tail r.0, r.1)) (front (rw (uses_here v u us e) at m))
  | no q ↦ let r = uses_mem v us x (rw (uses_past v u us q) at m) in (Memᴰ.tail r.0, r.1)
]
  where
    front : Memᴰ x (u ∷ uses_at v us) → (x ≡ u) ⊎ Memᴰ x (uses_at v us)
    front (Memᴰ.head p) = inl p
    front (Memᴰ.tail k) = inr k

-- ---- the uses by node

pub by_mem : (n : ℕ) (us : List Use) (x : Use) → Memᴰ x (by_node n us) → Memᴰ x us × (node x < n)
unfolding grouped
by_mem zero us x m = absurd (Memᴰ.not-nil m)
by_mem (suc n) us x m =
    ⊎_elim (λ k. let r = by_mem n us x k in (r.0, omega (arith, r.1))) (λ k. let r = uses_mem n us x k in (r.0, omega (arith, r.1)))
    ((mem_append (by_node n us) (uses_at n us)).0 m)

by_beyond : (v n : ℕ) (us : List Use) → n ≤ v → first_at v (by_node n us) ≡ no_use
unfolding first_at grouped
by_beyond v zero us h = refl
by_beyond v (suc n) us h = first_skip v (by_node n us) (uses_at n us) (by_beyond v n us (omega arith)) ∙ uses_other v n us (λ e. omega arith)

-- each node's first use is the same
pub first_by : (v n : ℕ) (us : List Use) → v < n → first_at v (by_node n us) ≡ first_at v us
unfolding grouped
first_by v zero us h = absurd (omega arith)
first_by v (suc n) us h = elim (ℕ_discrete n v) [
  | yes e ↦ first_skip v (by_node n us) (uses_at n us) (by_beyond v n us (omega arith)) ∙ ap (λ (k : ℕ). first_at v (uses_at k us)) e ∙ uses_own v us
  | no q ↦ first_stop v (by_node n us) (uses_at n us) (uses_other v n us q) ∙ first_by v n us (omega arith)
]

abbrev Earlier : Use → Use → Type 0
Earlier x y = node x ≤ node y

uses_rising : (v : ℕ) (us : List Use) → RisingBy Earlier (uses_at v us)
uses_rising v [] = nil
uses_rising v (u ∷ us) = elim (ℕ_discrete (node u) v) [
  | yes e ↦ rw (uses_here v u us e) (cons {x = u} {l = uses_at v us} (λ y m. omega (arith, (uses_mem v us y m).1)) (uses_rising v us))
  | no q ↦ rw (uses_past v u us q) (uses_rising v us)
]

by_rising : (n : ℕ) (us : List Use) → RisingBy Earlier (by_node n us)
unfolding grouped
by_rising zero us = nil
by_rising (suc n) us =
    rising_append (by_node n us) (uses_at n us) (by_rising n us) (uses_rising n us) (λ x y m k. omega (arith, (by_mem n us x m).1, (uses_mem n us y k).1))

-- ---- placed uses that stand for them

module _ (ws : List PlacedUse) (l : List Use) (e : uses_in ws ≡ map spanless l) where
  words_length : length ws ≡ length l
  words_length = sym (length-map ws use_of) ∙ ap length e ∙ length-map l spanless

  words_node : (i : ℕ) → node_in (get_or ws i blank) ≡ node (get_or l i (use_of blank))
  unfolding use_of
  words_node i =
      ap node (sym (get_or-map use_of ws i blank) ∙ ap (λ (x : List Use). get_or x i (use_of blank)) e ∙ get_or-map spanless l i (use_of blank))

module _ (n : ℕ) (us : List Use) (ws : List PlacedUse) (e : uses_in ws ≡ map spanless (by_node n us)) where
  pub words_rise : Rising ws
  words_rise i h =
      omega (arith, words_node ws (by_node n us) e i, words_node ws (by_node n us) e (i + 1), rising_at (use_of blank) (by_rising n us) i (i + 1) (omega arith) (omega (arith, words_length ws (by_node n us) e)))

-- ---- what is ahead

filter_same : (p q : ℕ → Bool) (vs : List ℕ) → ((v : ℕ) → In v vs → p v ≡ q v) → filter p vs ≡ filter q vs
filter_same p q [] h = refl
filter_same p q (v ∷ vs) h = ap₂ (λ (b : Bool) (l : List ℕ). cons_if b v l) (h v (inl refl)) (filter_same p q vs (λ u i. h u (inr i)))

-- goes by the first uses of the nodes
module _ (g : Graph) (d : Declaration) (us vs : List Use) (same : (v : ℕ) → v < node_count g → first_at v us ≡ first_at v vs) where
  here_alike : (m : Meeting → Bool) (v : ℕ) → v < node_count g → meets_here g d us m v ≡ meets_here g d vs m v
  unfolding meets_here
  here_alike m v h = ap (λ (x : Meeting). is_alive_at g d v && m x) (same v h)

  from_alike : (v : ℕ) → predecessors g d us v ≡ predecessors g d vs v
  unfolding predecessors
  from_alike v =
      filter_same _ _ (range (node_count g)) (λ u i. ap (λ (b : Bool). member v (successors g u) && b) (here_alike is_no_use u (in_range (node_count g) u i)))

  meets_alike : (m : Meeting → Bool) → meets g d us m ≡ meets g d vs m
  unfolding meets
  meets_alike m =
      ap₂ (λ (starts : List ℕ) (next : ℕ → List ℕ). closure starts next (node_count g))
      (filter_same _ _ (range (node_count g)) (λ v i. here_alike m v (in_range (node_count g) v i))) (fun_ext from_alike)

  pub ahead_alike : ahead g d us ≡ ahead g d vs
  unfolding ahead
  ahead_alike = ap₂ (λ (r w : List ℕ). record { reads = r; writes = w }) (meets_alike is_a_read) (meets_alike is_a_pure_write)

pub ahead_by : (g : Graph) (d : Declaration) (n : ℕ) (us : List Use) → node_count g ≡ n → ahead g d (by_node n us) ≡ ahead g d us
ahead_by g d n us e = ahead_alike g d (by_node n us) us (λ v h. first_by v n us (omega arith))

-- ---- what is overwritten

module _ (g : Graph) (a : Ahead) where
  over_same : (u : Use) (xs ys : List Use) → first_at (node u) xs ≡ first_at (node u) ys → is_overwritten g a u xs ≡ is_overwritten g a u ys
  unfolding is_overwritten
  over_same u xs ys e = ap (λ (m : Meeting). is_write u && or_else m (is_overwritten_unread g a (node u))) e

  over_append : (xs ys : List Use) → ((x : Use) → Memᴰ x xs → first_at (node x) ys ≡ no_use) → overwritten_in g a (xs ++ ys) ≡ overwritten_in g a xs ++ overwritten_in g a ys
  over_append [] ys h = refl
  over_append (x ∷ xs) ys h =
      ap₂ (λ (b : Bool) (l : List Use). only_if b (x ∷ []) ++ l) (over_same x (xs ++ ys) xs (first_stop (node x) xs ys (h x (Memᴰ.head refl)))) (over_append xs ys (λ y m. h y (Memᴰ.tail m)))
      ∙ sym (append_assoc (only_if (is_overwritten g a x xs) (x ∷ [])) (overwritten_in g a xs) (overwritten_in g a ys))

  over_own : (v : ℕ) (us : List Use) → overwritten_in g a (uses_at v us) ≡ overwritten_at g a v us
  unfolding overwritten_at
  over_own v [] = refl
  over_own v (u ∷ us) = elim (ℕ_discrete (node u) v) [
    | yes e ↦ rw (uses_here v u us e, eq-eqb _ _ e) (ap₂ (λ (b : Bool) (l : List Use). only_if b (u ∷ []) ++ l) (over_same u (uses_at v us) us (rw e (uses_own v us))) (over_own v us))
    | no q ↦ rw (uses_past v u us q, ne_eqb _ _ q) (over_own v us)
  ]

  -- the writes that are overwritten, from left to right by node, are those of the specification
  pub overwritten_by : (n : ℕ) (us : List Use) → overwritten_in g a (by_node n us) ≡ overwritten_below g a n us
  unfolding overwritten_below grouped
  overwritten_by zero us = refl
  overwritten_by (suc n) us =
      over_append (by_node n us) (uses_at n us) (λ x m. uses_other (node x) n us (λ e. omega (arith, (by_mem n us x m).1)))
      ∙ ap₂ ◌++◌ (overwritten_by n us) (over_own n us)

-- ---- spans are of no account

module _ (g : Graph) (a : Ahead) where
  only_spanless : (b : Bool) (u : Use) → only_if b (spanless u ∷ []) ≡ map spanless (only_if b (u ∷ []))
  only_spanless true u = refl
  only_spanless false u = refl

  pub over_spanless : (us : List Use) → overwritten_in g a (map spanless us) ≡ map spanless (overwritten_in g a us)
  over_spanless [] = refl
  over_spanless (u ∷ us) =
      ap₂ (λ (b : Bool) (l : List Use). only_if b (spanless u ∷ []) ++ l) (renumbered_overwritten spanless_renumbers g a u us) (over_spanless us)
      ∙ ap (λ (l : List Use). l ++ map spanless (overwritten_in g a us)) (only_spanless (is_overwritten g a u us) u)
      ∙ sym (map-append spanless (only_if (is_overwritten g a u us) (u ∷ [])) (overwritten_in g a us))
