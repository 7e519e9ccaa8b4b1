-- The search backwards over the code's columns marks the nodes of the specification: it starts where a path's last node meets a use of the sort, and goes back through nodes that are alive and hold no use.
-- Assumes nothing.
use Prim.Native.Nat.{ℕ, zero, suc, ◌≤◌, ◌<◌}
use mathlib.Core.Path.{◌≡◌, refl, sym, ap, ap₂, ◌∙◌, subst}
use mathlib.Core.Logic.{◌⊎◌, inl, inr, ⊎_elim}
use mathlib.Core.Bool.{Bool, true, false, cond, ◌&&◌, not, false≢true}
use mathlib.Core.List.{List, [], ◌∷◌}
use native.Mathlib.Omega.{arith}
use native.Mathlib.Numerals.{add-one}
use native.Mathlib.Decide.{ℕ_discrete}
use borrow.Author.Tests.{eq-eqb, ne_eqb, eqb-true, lt-ltb, not-true}
use lib.Dec.{eqb, ltb}
use lib.ListN.{length, get_or}
use Rattle.flow.proofs.Flags.{edge_cell}
use Rattle.search.proofs.Bools.{and_both}
use Rattle.search.specs.Search.{In, cons_if, filter, closure}
use Rattle.search.proofs.Worklist.{filter_in}
use Rattle.search.proofs.Alike.{closure_alike}
use Rattle.flow.specs.Sheet.{member}
use Rattle.flow.specs.Graph.{Graph, absent, node_count}
use Rattle.flow.specs.Reachable.{successors}
use Rattle.flow.specs.Locals.{Declaration}
use Rattle.flow.specs.Findings.{Use, is_read, is_alive_at, no_use, a_read, a_pure_write, meeting, first_at, is_no_use, range, meets_here, predecessors, meets}
use Rattle.flow.proofs.Members.{both_and, append_in, in_append, in_filter, range_in, in_range, member_in, in_member}
use Rattle.use_words.specs.declared.PlacedUse.{PlacedUse}
use Rattle.use_words.specs.Words.{use_of, uses_in, no_use as blank, AllPlaced}
use Rattle.next_uses.specs.declared.Sought.{Sought}
use Rattle.next_uses.specs.declared.Sought.TheVariants.{Read, PureWrite}
use Rattle.live_steps.specs.Walk.{chart, alive_in}
use Rattle.live_steps.proofs.Steps.{alive_in_law, count_is}
use Rattle.predecessors.specs.Predecessors.{preds_of, passes}
use Rattle.uses_by_node.specs.Uses.{Rising, next_in_node, opens_node}
use Rattle.uses_by_node.proofs.Places.{node_at, NoPlace, FirstPlace, find, first_is, rises, next_node, node_next}
use Rattle.next_uses.specs.Backwards.{sort_of, starts_here, starts_to, all_starts, Used, back_flags}
use Rattle.next_uses.proofs.Walks.{back_search}

-- ---- who stands in the lists

in_front_law : (b : Bool) (x : ℕ) (vs : List ℕ) (v : ℕ) → In v (cons_if b x vs) → ((b ≡ true) × (v ≡ x)) ⊎ In v vs
in_front_law true x vs v (inl e) = inl (refl, e)
in_front_law true x vs v (inr i) = inr i
in_front_law false x vs v i = inr i

front_in : (b : Bool) (x : ℕ) (vs : List ℕ) (v : ℕ) → ((b ≡ true) × (v ≡ x)) ⊎ In v vs → In v (cons_if b x vs)
front_in true x vs v (inl p) = inl p.1
front_in true x vs v (inr i) = inr i
front_in false x vs v (inl p) = absurd (false≢true p.0)
front_in false x vs v (inr i) = i

module _ (start : List ℕ) (d : Declaration) (ws : List PlacedUse) (sought : Sought) where
  abbrev starts : ℕ → Bool
  starts = starts_here start d ws sought

  in_starts : (k v : ℕ) → In v (starts_to start d ws sought k) → (i : ℕ) × (i < k) × (starts i ≡ true) × (v ≡ node_at ws i)
  in_starts zero v j = absurd j
  in_starts (suc k) v j =
      ⊎_elim (λ p. let r = in_starts k v p in (r.0, omega (arith, r.1), r.2, r.3)) (λ p. ⊎_elim (λ r. (k, omega arith, r.0, r.1)) (λ z. absurd z) (in_front_law (starts k) (node_at ws k) [] v p))
      (append_in (starts_to start d ws sought k) (cons_if (starts k) (node_at ws k) []) v j)

  starts_in : (k i : ℕ) → i < k → starts i ≡ true → In (node_at ws i) (starts_to start d ws sought k)
  starts_in zero i h e = absurd (omega arith)
  starts_in (suc k) i h e =
      in_append (starts_to start d ws sought k) (cons_if (starts k) (node_at ws k) []) (node_at ws i)
      (elim (ℕ_discrete i k) [
        | yes p ↦ inr (rw p (front_in (starts k) (node_at ws k) [] (node_at ws k) (inl (subst (λ (x : ℕ). starts x ≡ true) p e, refl))))
        | no q ↦ inl (starts_in k i (omega arith) e)
      ])

module _ (f s : List ℕ) (v : ℕ) where
  -- u has an edge to v
  abbrev Leads : ℕ → Type 0
  Leads u = (get_or f u 0 ≡ v) ⊎ (get_or s u 0 ≡ v)

  in_preds : (k u : ℕ) → In u (preds_of f s v k) → (u < k) × Leads u
  in_preds zero u i = absurd i
  in_preds (suc k) u i =
      ⊎_elim (λ p. (omega (arith, p.1), inr (rw p.1 (eqb-true _ _ p.0))))
      (λ j. ⊎_elim (λ p. (omega (arith, p.1), inl (rw p.1 (eqb-true _ _ p.0)))) (λ m. let r = in_preds k u m in (omega (arith, r.0), r.1)) (in_front_law (eqb (get_or f k 0) v) k (preds_of f s v k) u j))
      (in_front_law (eqb (get_or s k 0) v) k (cons_if (eqb (get_or f k 0) v) k (preds_of f s v k)) u i)

  preds_in : (k u : ℕ) → u < k → Leads u → In u (preds_of f s v k)
  preds_in zero u h p = absurd (omega arith)
  preds_in (suc k) u h p = front_in (eqb (get_or s k 0) v) k (cons_if (eqb (get_or f k 0) v) k (preds_of f s v k)) u (elim (ℕ_discrete u k) [
    | yes e ↦ ⊎_elim
        (λ q. inr (front_in (eqb (get_or f k 0) v) k (preds_of f s v k) u (inl (eq-eqb _ _ (rw e at q), e))))
        (λ q. inl (eq-eqb _ _ (rw e at q), e)) p
    | no q ↦ inr (front_in (eqb (get_or f k 0) v) k (preds_of f s v k) u (inr (preds_in k u (omega arith) p)))
  ])

-- ---- tests

no_use_law : (sought : Sought) → sort_of sought no_use ≡ false
no_use_law PureWrite = refl
no_use_law Read = refl

and_swap : (a b : Bool) → (a && b) ≡ (b && a)
and_swap true true = refl
and_swap true false = refl
and_swap false true = refl
and_swap false false = refl

meeting_use : (u : Use) → is_no_use (meeting u) ≡ false
meeting_use u = by (is_read u)
  where
    by : (b : Bool) → is_no_use (cond b a_read a_pure_write) ≡ false
    by true = refl
    by false = refl

-- ---- a node's first place

module _ (ws : List PlacedUse) where
  -- the place that opens a node holds the node's first use
  opens_first : Rising ws → (i : ℕ) → i < length ws → opens_node ws i ≡ true → first_at (node_at ws i) (uses_in ws) ≡ meeting (use_of (get_or ws i blank))
  opens_first r i l o = first_is ws i l (earlier i l o)
    where
      earlier : (i : ℕ) → i < length ws → opens_node ws i ≡ true → (j : ℕ) → j < i → node_at ws j ≡ node_at ws i → ⊥
      earlier zero l o j k e = omega arith
      earlier (suc i) l o j k e =
          let q : node_at ws i ≡ node_at ws (suc i) = omega (arith, rises ws r j i (omega arith) (omega arith), rises ws r i (suc i) (omega arith) l) in
          false≢true (sym (not-true _ o) ∙ node_next ws i (omega arith) (rw (add-one i) q))

  first_opens : (v : ℕ) (p : FirstPlace v ws) → opens_node ws p.at ≡ true
  first_opens v p = by p.at refl
    where
      by : (i : ℕ) → p.at ≡ i → opens_node ws i ≡ true
      by zero e = refl
      by (suc i) e = other (next_in_node ws i) refl
        where
          other : (x : Bool) → next_in_node ws i ≡ x → not x ≡ true
          other true q = absurd (p.before i (omega arith) ((next_node ws i q).1 ∙ ap (node_at ws) (add-one i ∙ sym e) ∙ p.here))
          other false q = refl

-- ---- the columns of a graph and of a local's uses

module _ (n : ℕ) (first second start : List ℕ) (h : n ≤ length first) (j : n ≤ length second) (d : Declaration) where
  abbrev g : Graph
  g = chart n first second start

  count : node_count g ≡ n
  count = count_is n first second start d h

  alive_is : (v : ℕ) → v < n → alive_in start d v ≡ is_alive_at g d v
  alive_is = alive_in_law n first second start d

  -- an edge, by the successors
  module _ (u v : ℕ) (k : u < n) where
    abbrev cells : List ℕ
    cells = get_or g.nodes.first u absent ∷ get_or g.nodes.second u absent ∷ []

    leads_edge : v < n → Leads first second v u → member v (successors g u) ≡ true
    leads_edge l p =
        in_member v (successors g u)
        (in_filter (λ x. ltb x (node_count g)) cells v
        (⊎_elim (λ e. inl (sym (edge_cell n first u k h ∙ e))) (λ e. inr (inl (sym (edge_cell n second u k j ∙ e)))) p) (lt-ltb v (node_count g) (omega (arith, count))))

    edge_leads : member v (successors g u) ≡ true → Leads first second v u
    edge_leads e =
        ⊎_elim (λ q. inl (sym (q ∙ edge_cell n first u k h))) (⊎_elim (λ q. inr (sym (q ∙ edge_cell n second u k j))) (λ z. absurd z))
        (filter_in (λ x. ltb x (node_count g)) cells v (member_in v (successors g u) e)).0

  module _ (ws : List PlacedUse) (placed : AllPlaced n ws) where
    abbrev us : List Use
    us = uses_in ws

    -- ---- where the search starts

    module _ (sought : Sought) where
      starts_meet : Rising ws → (i : ℕ) → i < length ws → starts_here start d ws sought i ≡ true → meets_here g d us (sort_of sought) (node_at ws i) ≡ true
      unfolding starts_here meets_here
      starts_meet r i l e =
          let sort : Bool = sort_of sought (meeting (use_of (get_or ws i blank))) in
          let q = and_both (opens_node ws i && sort) (alive_in start d (node_at ws i)) e in
          let o = and_both (opens_node ws i) sort q.0 in
          both_and (sym (alive_is (node_at ws i) (placed i blank l)) ∙ q.1) (ap (sort_of sought) (opens_first ws r i l o.0) ∙ o.1)

      meet_starts : (v : ℕ) → v < n → meets_here g d us (sort_of sought) v ≡ true → In v (all_starts start d ws sought)
      unfolding starts_here meets_here
      meet_starts v k e = ⊎_elim none some (find v ws)
        where
          q : (is_alive_at g d v ≡ true) × (sort_of sought (first_at v us) ≡ true)
          q = and_both (is_alive_at g d v) (sort_of sought (first_at v us)) e

          none : NoPlace v ws → In v (all_starts start d ws sought)
          none p = absurd (false≢true (sym (no_use_law sought) ∙ ap (sort_of sought) (sym p.is) ∙ q.1))

          some : FirstPlace v ws → In v (all_starts start d ws sought)
          some p =
              let sort : sort_of sought (meeting (use_of (get_or ws p.at blank))) ≡ true = ap (sort_of sought) (sym p.is) ∙ q.1 in
              let alive : alive_in start d (node_at ws p.at) ≡ true = rw p.here (alive_is v k ∙ q.0) in
              subst (λ (x : ℕ). In x (all_starts start d ws sought)) p.here
              (starts_in start d ws sought (length ws) p.at p.below (both_and (both_and (first_opens ws v p) sort) alive))

    -- ---- where it goes on

    module _ (stamp : ℕ) (used : List ℕ) (m : Used stamp ws (length ws) used) where
      unused : (v : ℕ) → not (eqb (get_or used v 0) stamp) ≡ is_no_use (first_at v us)
      unused v = ⊎_elim none some (find v ws)
        where
          none : NoPlace v ws → not (eqb (get_or used v 0) stamp) ≡ is_no_use (first_at v us)
          none p =
              ap not (ne_eqb (get_or used v 0) stamp (λ e. let r = m.sound v e in p.none r.0 r.1 r.2)) ∙ sym (ap is_no_use p.is)

          some : FirstPlace v ws → not (eqb (get_or used v 0) stamp) ≡ is_no_use (first_at v us)
          some p =
              let marked : get_or used v 0 ≡ stamp = subst (λ (x : ℕ). get_or used x 0 ≡ stamp) p.here (m.complete p.at p.below) in
              ap not (eq-eqb (get_or used v 0) stamp marked) ∙ sym (ap is_no_use p.is ∙ meeting_use (use_of (get_or ws p.at blank)))

      passes_is : (v : ℕ) → v < n → passes start d stamp used v ≡ meets_here g d us is_no_use v
      unfolding passes meets_here
      passes_is v k = ap₂ ◌&&◌ (unused v) (alive_is v k) ∙ and_swap (is_no_use (first_at v us)) (is_alive_at g d v)

      -- ---- the flags

      abbrev from : ℕ → ℕ → List ℕ
      from k v = filter (λ u. member v (successors g u) && meets_here g d us is_no_use u) (range k)

      abbrev next : ℕ → List ℕ
      next v = filter (passes start d stamp used) (preds_of first second v n)

      goes : (v u : ℕ) → v < n → In u (next v) → In u (from n v)
      goes v u k i =
          let q = filter_in (passes start d stamp used) (preds_of first second v n) u i in
          let r = in_preds first second v n u q.0 in
          in_filter (λ x. member v (successors g x) && meets_here g d us is_no_use x) (range n) u (range_in n u r.0) (both_and (leads_edge u v r.0 k r.1) (sym (passes_is u r.0) ∙ q.1))

      comes : (v u : ℕ) → v < n → In u (from n v) → In u (next v)
      comes v u k i =
          let q = filter_in (λ x. member v (successors g x) && meets_here g d us is_no_use x) (range n) u i in
          let r = and_both (member v (successors g u)) (meets_here g d us is_no_use u) q.1 in
          let l : u < n = in_range n u q.0 in
          in_filter (passes start d stamp used) (preds_of first second v n) u (preds_in first second v n u l (edge_leads u v l r.0)) (passes_is u l ∙ r.1)

      module _ (sought : Sought) (rising : Rising ws) where
        abbrev meeting_here : ℕ → Bool
        meeting_here = meets_here g d us (sort_of sought)

        at_count : back_flags start d ws sought stamp used first second n ≡ closure (filter meeting_here (range n)) (from n) n
        at_count =
            let s = back_search start d ws sought n placed stamp used first second in
            closure_alike n (all_starts start d ws sought) (filter meeting_here (range n)) next (from n)
            s.starts_in s.next_in
            (λ v i. in_range n v (filter_in meeting_here (range n) v i).0)
            (λ v u i. in_range n u (filter_in (λ x. member v (successors g x) && meets_here g d us is_no_use x) (range n) u i).0)
            (λ v i. let r = in_starts start d ws sought (length ws) v i in
            rw r.3 (in_filter meeting_here (range n) (node_at ws r.0) (range_in n (node_at ws r.0) (placed r.0 blank r.1)) (starts_meet sought rising r.0 r.1 r.2)))
            (λ v i. let r = filter_in meeting_here (range n) v i in meet_starts sought v (in_range n v r.0) r.1)
            goes comes

        pub meets_are : back_flags start d ws sought stamp used first second n ≡ meets g d us (sort_of sought)
        unfolding meets predecessors
        meets_are =
            subst (λ (k : ℕ). back_flags start d ws sought stamp used first second n ≡ closure (filter meeting_here (range k)) (from k) k) (sym count) at_count
