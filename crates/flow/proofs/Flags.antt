-- The flags that a search computes say where its paths lead: `reachable`, `live_after_writes` and `meets` decide the relations of `specs/`.
-- Assumes nothing.
use Prim.Native.Nat.{ℕ, zero, suc, ◌≤◌, ◌<◌}
use mathlib.Core.Path.{◌≡◌, refl, sym, ◌∙◌}
use mathlib.Core.Logic.{◌↔◌, ⊎_elim, ⊎_map}
use mathlib.Core.Bool.{Bool, true, false, ◌&&◌, false≢true}
use mathlib.Core.List.Memᴰ
use mathlib.Core.List.{List, [], ◌∷◌, Memᴰ}
use native.Mathlib.Omega.{arith}
use borrow.Author.Tests.{ltb-true, eqb-true}
use lib.Dec.{ltb}
use lib.ListN.{length, get_or, take}
use Rattle.std.specs.Prelude.{Option, Some, None}
use Rattle.search.proofs.Bools.{and_both, not_false_true}
use Rattle.search.specs.Search.{In, Reach, here, on, closure, filter}
use Rattle.search.proofs.Closure.{Nodes, closure_length, closure_bits, closure_sound, closure_complete}
use Rattle.flow.specs.Sheet.{member}
use Rattle.flow.specs.Graph.{Graph, absent, node_count, entry_node, graph}
use Rattle.flow.specs.Reachable.{successors, Reachable, Flagged, reachable, CanRun, can_run}
use Rattle.flow.specs.Locals.{Declaration, only_if}
use Rattle.flow.specs.Findings.{Use, node, is_write, is_alive_at, live_successors, after_writes, live_after_writes, Meeting, no_use, a_read, a_pure_write, is_no_use, first_at, range, meets_here, predecessors, meets}
use Rattle.flow.specs.Paths.{Edge, Alive, Live, last, more, After, Meets, met, past}
use Rattle.search.proofs.Worklist.{filter_in}
use Rattle.flow.proofs.Members.{both_and, append_in, in_append, in_filter, range_in, in_range, member_in, in_member, true_alive, alive_true}
use Rattle.flow.proofs.NodeCount.{graph_count}

-- a flag 0 or 1 for each of n nodes, 1 exactly where P holds
pub record Decides (n : ℕ) (flags : List ℕ) (P : ℕ → Type 0) : Type 0 where
  pub size : length flags ≡ n
  pub bits : (v : ℕ) → get_or flags v 0 ≤ 1
  pub sound : (v : ℕ) → get_or flags v 0 ≡ 1 → P v
  pub complete : (v : ℕ) → P v → get_or flags v 0 ≡ 1

-- `closure_decides`: of any search over nodes
closure_decides : (n : ℕ) (starts : List ℕ) (next : ℕ → List ℕ) → Nodes n starts → ((u : ℕ) → Nodes n (next u)) → Decides n (closure starts next n) (Reach starts next)
closure_decides n starts next hs hn =
    record {
      size = closure_length n starts next hs hn;
      bits = closure_bits n starts next hs hn;
      sound = closure_sound n starts next hs hn;
      complete = closure_complete n starts next hs hn;
    }

-- the cell of a node's successor, in a column whose first n cells count
pub edge_cell : (n : ℕ) (l : List ℕ) (u : ℕ) → u < n → n ≤ length l → get_or (take n l) u absent ≡ get_or l u 0
edge_cell zero l u h k = absurd (omega arith)
edge_cell (suc n) [] u h k = absurd (omega arith)
edge_cell (suc n) (x ∷ l) zero h k = refl
edge_cell (suc n) (x ∷ l) (suc u) h k = edge_cell n l u (omega arith) (omega arith)

-- an edge leads to a node
pub edge_node : (g : Graph) (u v : ℕ) → Edge g u v → v < node_count g
edge_node g u v i = ltb-true v (node_count g) (filter_in (λ x. ltb x (node_count g)) (get_or g.nodes.first u absent ∷ get_or g.nodes.second u absent ∷ []) v i).1

-- ---- reachability

module _ (ws : List ℕ) where
  pub node_count_law : 6 ≤ node_count (graph ws)
  node_count_law = omega (arith, graph_count ws)

  reachable_flags : Decides (node_count (graph ws)) (reachable (graph ws)) (Reachable (graph ws))
  unfolding reachable
  reachable_flags =
      closure_decides (node_count (graph ws)) (entry_node ∷ []) (successors (graph ws))
      (λ v. ⊎_elim (λ e. omega (arith, node_count_law)) (λ b. absurd b)) (edge_node (graph ws))

  pub reachable_decides : (v : ℕ) → (get_or (reachable (graph ws)) v 0 ≡ 1) ↔ Reachable (graph ws) v
  reachable_decides v = (reachable_flags.sound v, reachable_flags.complete v)

  pub reachable_flagged : Flagged (graph ws) (reachable (graph ws))
  reachable_flagged = record { bit = λ v h. reachable_flags.bits v; exactly = λ v h. reachable_decides v }

  -- "yes exactly when there is none or the node is reachable"
  pub can_run_decides : (f : Option ℕ) → (can_run (graph ws) f ≡ true) ↔ CanRun (graph ws) f
  unfolding can_run
  can_run_decides (Some v) = (λ e. (reachable_decides v).0 (eqb-true (get_or (reachable (graph ws)) v 0) 1 e), λ r. rw ((reachable_decides v).1 r))
  can_run_decides None = (λ e. tt, λ u. refl)

  pub reachable_length : length (reachable (graph ws)) ≡ node_count (graph ws)
  reachable_length = reachable_flags.size

-- ---- live paths

only_in : (v : ℕ) (b : Bool) (xs : List ℕ) → In v (only_if b xs) → (b ≡ true) × In v xs
only_in v true xs i = (refl, i)
only_in v false xs i = absurd i

module _ (g : Graph) (d : Declaration) where
  live_step : (u v : ℕ) → In v (live_successors g d u) → Edge g u v × Alive g d v
  live_step u v i = let k = filter_in (is_alive_at g d) (successors g u) v i in (k.0, true_alive g d v k.1)

  step_live : (u v : ℕ) → Edge g u v → Alive g d v → In v (live_successors g d u)
  step_live u v e a = in_filter (is_alive_at g d) (successors g u) v e (alive_true g d v a)

  first_alive : {u v : ℕ} → Live g d u v → Alive g d u
  first_alive (last a) = a
  first_alive (more a e l) = a

  -- one node more at a live path's end
  longer : {u v w : ℕ} → Live g d u v → Edge g v w × Alive g d w → Live g d u w
  longer (last a) s = more a s.0 (last s.1)
  longer (more a e l) s = more a e (longer l s)

  reach_on : {starts : List ℕ} {u v : ℕ} → Reach starts (live_successors g d) u → Live g d u v → Reach starts (live_successors g d) v
  reach_on r (last a) = r
  reach_on r (more {x = u} {y = v} a e l) = reach_on (on r (step_live u v e (first_alive l))) l

  module _ (v : ℕ) where
    -- where a search from after the writes starts
    writes_in : (us : List Use) → In v (after_writes g d us) → (w : Use) × Memᴰ w us × (is_write w ≡ true) × In v (live_successors g d (node w))
    unfolding after_writes
    writes_in [] i = absurd i
    writes_in (u ∷ us) i =
        ⊎_elim (λ j. let k = only_in v (is_write u) (live_successors g d (node u)) j in (u, Memᴰ.head refl, k.0, k.1))
        (λ j. let k = writes_in us j in (k.0, Memᴰ.tail k.1, k.2, k.3))
        (append_in (only_if (is_write u) (live_successors g d (node u))) (after_writes g d us) v i)

    in_writes : (us : List Use) (w : Use) → Memᴰ w us → is_write w ≡ true → In v (live_successors g d (node w)) → In v (after_writes g d us)
    unfolding after_writes
    in_writes [] w m p i = absurd (Memᴰ.not-nil m)
    in_writes (u ∷ us) w m p i =
        in_append (only_if (is_write u) (live_successors g d (node u))) (after_writes g d us) v
        (⊎_map (λ e. rw (← e, p) i) (λ n. in_writes us w n p i) (Memᴰ.cases_cons m))

  module _ (us : List Use) where
    live_flags : Decides (node_count g) (live_after_writes g d us) (Reach (after_writes g d us) (live_successors g d))
    unfolding live_after_writes
    live_flags =
        closure_decides (node_count g) (after_writes g d us) (live_successors g d)
        (λ v i. let k = writes_in v us i in live_node (node k.0) v k.3) live_node
      where
        live_node : (u : ℕ) → Nodes (node_count g) (live_successors g d u)
        live_node u v i = edge_node g u v (live_step u v i).0

    -- a live path from after one of the writes ends at v
    abbrev AfterWrite : ℕ → Type 0
    AfterWrite v = (w : Use) × Memᴰ w us × (is_write w ≡ true) × After g d (node w) v

    reach_after : {v : ℕ} → Reach (after_writes g d us) (live_successors g d) v → AfterWrite v
    reach_after (here {v = v} i) =
        let k = writes_in v us i in
        let s = live_step (node k.0) v k.3 in
        (k.0, k.1, k.2, record { begin = v; edge = s.0; path = last s.1 })
    reach_after (on {u = u} {v = v} r i) =
        let k = reach_after r in
        (k.0, k.1, k.2, record { begin = k.3.begin; edge = k.3.edge; path = longer k.3.path (live_step u v i) })

    after_reach : (v : ℕ) → AfterWrite v → Reach (after_writes g d us) (live_successors g d) v
    after_reach v k =
        let a = k.3 in
        reach_on (here (in_writes a.begin us k.0 k.1 k.2 (step_live (node k.0) a.begin a.edge (first_alive a.path)))) a.path

    pub live_decides : (v : ℕ) → (get_or (live_after_writes g d us) v 0 ≡ 1) ↔ ((w : Use) × Memᴰ w us × (is_write w ≡ true) × After g d (node w) v)
    live_decides v = (λ e. reach_after (live_flags.sound v e), λ k. live_flags.complete v (after_reach v k))

-- ---- what a path meets

-- the node v holds one of the uses us
abbrev pub HoldsIn : List Use → ℕ → Type 0
HoldsIn us v = is_no_use (first_at v us) ≡ false

true_not_false : {b : Bool} → b ≡ true → b ≡ false → ⊥
true_not_false p q = false≢true (sym q ∙ p)

module _ (g : Graph) (d : Declaration) (us : List Use) where
  here_in : (m : Meeting → Bool) (v : ℕ) → meets_here g d us m v ≡ true → Alive g d v × (m (first_at v us) ≡ true)
  unfolding meets_here
  here_in m v e = let k = and_both (is_alive_at g d v) (m (first_at v us)) e in (true_alive g d v k.0, k.1)

  in_here : (m : Meeting → Bool) (v : ℕ) → Alive g d v → m (first_at v us) ≡ true → meets_here g d us m v ≡ true
  unfolding meets_here
  in_here m v a e = both_and (alive_true g d v a) e

  abbrev before : ℕ → ℕ → Bool
  before v u = member v (successors g u) && meets_here g d us is_no_use u

  from_in : (u v : ℕ) → In u (predecessors g d us v) → (u < node_count g) × Edge g u v × Alive g d u × (is_no_use (first_at u us) ≡ true)
  unfolding predecessors
  from_in u v i =
      let k = filter_in (before v) (range (node_count g)) u i in
      let b = and_both (member v (successors g u)) (meets_here g d us is_no_use u) k.1 in
      let h = here_in is_no_use u b.1 in
      (in_range (node_count g) u k.0, member_in v (successors g u) b.0, h.0, h.1)

  in_from : (u v : ℕ) → u < node_count g → Edge g u v → Alive g d u → is_no_use (first_at u us) ≡ true → In u (predecessors g d us v)
  unfolding predecessors
  in_from u v l e a z =
      in_filter (before v) (range (node_count g)) u (range_in (node_count g) u l) (both_and (in_member v (successors g u) e) (in_here is_no_use u a z))

  module _ (m : Meeting → Bool) where
    abbrev ends : List ℕ
    ends = filter (meets_here g d us m) (range (node_count g))

    meets_flags : Decides (node_count g) (meets g d us m) (Reach ends (predecessors g d us))
    unfolding meets
    meets_flags =
        closure_decides (node_count g) ends (predecessors g d us)
        (λ v i. in_range (node_count g) v (filter_in (meets_here g d us m) (range (node_count g)) v i).0) (λ v u i. (from_in u v i).0)

    module _ (q : m no_use ≡ false) where
      is_use : (x : Meeting) → m x ≡ true → is_no_use x ≡ false
      is_use no_use e = absurd (true_not_false e q)
      is_use a_read e = refl
      is_use a_pure_write e = refl

      reach_meets : {a : ℕ} → Reach ends (predecessors g d us) a → (b : ℕ) × Meets g d (HoldsIn us) a b × (m (first_at b us) ≡ true)
      reach_meets (here {v = v} i) =
          let h = here_in m v (filter_in (meets_here g d us m) (range (node_count g)) v i).1 in
          (v, met h.0 (is_use (first_at v us) h.1), h.1)
      reach_meets (on {u = u} {v = v} r i) =
          let k = reach_meets r in
          let f = from_in v u i in
          (k.0, past f.2 (true_not_false f.3) f.1 k.1, k.2)

    meets_reach : {a b : ℕ} → Meets g d (HoldsIn us) a b → a < node_count g → m (first_at b us) ≡ true → Reach ends (predecessors g d us) a
    meets_reach (met {v = v} a h) l e =
        here (in_filter (meets_here g d us m) (range (node_count g)) v (range_in (node_count g) v l) (in_here m v a e))
    meets_reach (past {x = u} {y = v} a z i r) l e =
        on (meets_reach r (edge_node g u v i) e) (in_from u v l i a (not_false_true (is_no_use (first_at u us)) z))

    pub meets_decides : m no_use ≡ false → (a : ℕ) → a < node_count g → (get_or (meets g d us m) a 0 ≡ 1) ↔ ((b : ℕ) × Meets g d (HoldsIn us) a b × (m (first_at b us) ≡ true))
    meets_decides q a l = (λ e. reach_meets q (meets_flags.sound a e), λ k. meets_flags.complete a (meets_reach k.1 l k.2))
