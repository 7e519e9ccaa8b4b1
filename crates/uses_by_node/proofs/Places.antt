-- The places of a column of uses: a node's first use and its place, and whether the use at a place is overwritten, where the nodes rise: by its kind, the use at the next place and, where that is at another node, the paths ahead.
-- Assumes nothing.
use Prim.Native.Nat.{ℕ, zero, suc, ◌+◌, ◌≤◌, ◌<◌}
use mathlib.Core.Path.{◌≡◌, refl, sym, ap, ◌∙◌}
use mathlib.Core.Logic.{◌⊎◌, inl, inr, ⊎_elim}
use mathlib.Core.Bool.{Bool, true, false, cond, ◌&&◌, not, false≢true}
use mathlib.Core.List.{List, [], ◌∷◌}
use native.Mathlib.Omega.{arith}
use native.Mathlib.Numerals.{add-one}
use native.Mathlib.Decide.{ℕ_discrete, dec_lt}
use borrow.Author.Tests.{eq-eqb, ne_eqb, lt-ltb, eqb-true, ltb-true}
use lib.Dec.{eqb, ltb}
use lib.ListN.{length, get_or, drop, length-drop}
use lib.Seq.{drop-cons, get_or-drop}
use Rattle.search.proofs.Bools.{and_both}
use Rattle.flow.specs.Graph.{Graph}
use Rattle.flow.specs.Findings.{Use, node, is_read, is_write, Meeting, no_use, a_read, a_pure_write, meeting, first_at, or_else, Ahead, is_overwritten, is_overwritten_unread}
use Rattle.flow.proofs.Members.{both_and}
use Rattle.use_words.specs.declared.PlacedUse.{PlacedUse}
use Rattle.use_words.specs.Words.{node_in, use_of, uses_in, no_use as blank}
use Rattle.use_words.proofs.Words.{node_is}
use Rattle.uses_by_node.specs.Uses.{Rising, next_in_node}

abbrev pub node_at : List PlacedUse → ℕ → ℕ
node_at ws i = node_in (get_or ws i blank)

-- ---- the first use at a node

-- no use at v
pub record NoPlace (v : ℕ) (ws : List PlacedUse) : Type 0 where
  pub none : (j : ℕ) → j < length ws → node_at ws j ≡ v → ⊥
  pub is : first_at v (uses_in ws) ≡ no_use

-- the first use at v, and its place
pub record FirstPlace (v : ℕ) (ws : List PlacedUse) : Type 0 where
  pub at : ℕ
  pub below : at < length ws
  pub here : node_at ws at ≡ v
  pub before : (j : ℕ) → j < at → node_at ws j ≡ v → ⊥
  pub is : first_at v (uses_in ws) ≡ meeting (use_of (get_or ws at blank))

module _ (v : ℕ) (w : PlacedUse) (us : List Use) where
  first_here : node_in w ≡ v → first_at v (use_of w ∷ us) ≡ meeting (use_of w)
  unfolding first_at use_of
  first_here e = rw (eq-eqb (node_in w) v e)

  first_past : (node_in w ≡ v → ⊥) → first_at v (use_of w ∷ us) ≡ first_at v us
  unfolding first_at use_of
  first_past q = rw (ne_eqb (node_in w) v q)

pub find : (v : ℕ) (ws : List PlacedUse) → NoPlace v ws ⊎ FirstPlace v ws
unfolding first_at
find v [] = inl (record { none = λ j h. absurd (omega arith); is = refl })
find v (w ∷ ws) = elim (ℕ_discrete (node_in w) v) [
  | yes e ↦ inr (record { at = 0; below = omega arith; here = e; before = λ j h. absurd (omega arith); is = first_here v w (uses_in ws) e })
  | no q ↦ ⊎_elim
      (λ p. inl (record { none = λ j. elim j as (λ (i : ℕ). i < length (w ∷ ws) → node_at (w ∷ ws) i ≡ v → ⊥) [ zero ↦ λ h. q | suc k ↦ λ h. p.none k (omega arith) ]; is = first_past v w (uses_in ws) q ∙ p.is }))
      (λ p. inr (record { at = suc p.at; below = omega (arith, p.below); here = p.here; before = λ j. elim j as (λ (i : ℕ). i < suc p.at → node_at (w ∷ ws) i ≡ v → ⊥) [ zero ↦ λ h. q | suc k ↦ λ h. p.before k (omega arith) ]; is = first_past v w (uses_in ws) q ∙ p.is }))
      (find v ws)
]

-- where no place before i has its node, place i is the node's first
pub first_is : (ws : List PlacedUse) (i : ℕ) → i < length ws → ((j : ℕ) → j < i → node_at ws j ≡ node_at ws i → ⊥) → first_at (node_at ws i) (uses_in ws) ≡ meeting (use_of (get_or ws i blank))
first_is ws i h b =
    ⊎_elim (λ p. absurd (p.none i h refl))
    (λ p. p.is ∙ ap (λ (k : ℕ). meeting (use_of (get_or ws k blank))) (same p)) (find (node_at ws i) ws)
  where
    same : (p : FirstPlace (node_at ws i) ws) → p.at ≡ i
    same p = elim (dec_lt p.at i) [
      | yes l ↦ absurd (b p.at l p.here)
      | no l ↦ elim (dec_lt i p.at) [ yes k ↦ absurd (p.before i k refl) | no k ↦ omega arith ]
    ]

none_first : (v : ℕ) (ws : List PlacedUse) → ((j : ℕ) → j < length ws → node_at ws j ≡ v → ⊥) → first_at v (uses_in ws) ≡ no_use
none_first v ws q = ⊎_elim (λ p. p.is) (λ p. absurd (q p.at p.below p.here)) (find v ws)

-- ---- the next place

pub rises : (ws : List PlacedUse) → Rising ws → (i j : ℕ) → i ≤ j → j < length ws → node_at ws i ≤ node_at ws j
rises ws r i zero h l = let e : i ≡ 0 = omega arith in rw e (omega arith)
rises ws r i (suc j) h l = elim (ℕ_discrete i (suc j)) [
  | yes e ↦ rw e (omega arith)
  | no q ↦ omega (arith, rises ws r i j (omega arith) (omega arith), rw (add-one j) at (r j (omega arith)))
]

module _ (ws : List PlacedUse) (i : ℕ) where
  pub next_node : next_in_node ws i ≡ true → (i + 1 < length ws) × (node_at ws i ≡ node_at ws (i + 1))
  unfolding next_in_node
  next_node e =
      let b = and_both (ltb (i + 1) (length ws)) (eqb (node_at ws i) (node_at ws (i + 1))) e in
      (ltb-true (i + 1) (length ws) b.0, eqb-true (node_at ws i) (node_at ws (i + 1)) b.1)

  pub node_next : i + 1 < length ws → node_at ws i ≡ node_at ws (i + 1) → next_in_node ws i ≡ true
  unfolding next_in_node
  node_next l e = both_and (lt-ltb (i + 1) (length ws) l) (eq-eqb (node_at ws i) (node_at ws (i + 1)) e)

  -- the next use in the node, if there is one
  next_first : next_in_node ws i ≡ true → first_at (node_at ws i) (uses_in (drop (i + 1) ws)) ≡ meeting (use_of (get_or ws (i + 1) blank))
  next_first q =
      let k = next_node q in
      rw (drop-cons ws (i + 1) blank k.0) (first_here (node_at ws i) (get_or ws (i + 1) blank) (uses_in (drop (suc (i + 1)) ws)) (sym k.1))

  no_first : Rising ws → next_in_node ws i ≡ false → first_at (node_at ws i) (uses_in (drop (i + 1) ws)) ≡ no_use
  no_first r q = none_first (node_at ws i) (drop (i + 1) ws) none
    where
      none : (j : ℕ) → j < length (drop (i + 1) ws) → node_at (drop (i + 1) ws) j ≡ node_at ws i → ⊥
      none j k p =
          let b : i + 1 + j < length ws = omega (arith, length-drop (i + 1) ws) in
          let e : node_at ws (i + 1 + j) ≡ node_at ws i = ap node_in (sym (get_or-drop (i + 1) ws j blank)) ∙ p in
          false≢true (sym q ∙ node_next (omega arith) (omega (arith, rises ws r i (i + 1) (omega arith) (omega arith), rises ws r (i + 1) (i + 1 + j) (omega arith) b)))

-- ---- the three cases of the code

pure_next : (b other : Bool) → or_else (cond b a_read a_pure_write) other ≡ not b
pure_next true other = refl
pure_next false other = refl

module _ (g : Graph) (a : Ahead) (ws : List PlacedUse) (i : ℕ) where
  abbrev here : Use
  here = use_of (get_or ws i blank)

  abbrev after : List Use
  after = uses_in (drop (i + 1) ws)

  pub no_write : is_write here ≡ false → false ≡ is_overwritten g a here after
  unfolding is_overwritten
  no_write z = rw z

  module _ (w : is_write here ≡ true) where
    -- by what follows in the node
    by_first : (m : Meeting) → first_at (node_at ws i) after ≡ m → or_else m (is_overwritten_unread g a (node_at ws i)) ≡ is_overwritten g a here after
    unfolding is_overwritten
    by_first m e =
        sym (ap (λ (b : Bool). b && or_else (first_at (node here) after) (is_overwritten_unread g a (node here))) w
        ∙ ap (λ (v : ℕ). or_else (first_at v after) (is_overwritten_unread g a v)) (node_is (get_or ws i blank))
        ∙ ap (λ (x : Meeting). or_else x (is_overwritten_unread g a (node_at ws i))) e)

    pub by_next : next_in_node ws i ≡ true → not (is_read (use_of (get_or ws (i + 1) blank))) ≡ is_overwritten g a here after
    by_next q = sym (pure_next (is_read (use_of (get_or ws (i + 1) blank))) (is_overwritten_unread g a (node_at ws i))) ∙ by_first _ (next_first ws i q)

    pub by_paths : Rising ws → next_in_node ws i ≡ false → is_overwritten_unread g a (node_at ws i) ≡ is_overwritten g a here after
    by_paths r q = by_first no_use (no_first ws i r q)
