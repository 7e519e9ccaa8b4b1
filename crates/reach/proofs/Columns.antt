-- The search from the entry over the graph's columns gives `reachable`.
-- Assumes nothing.
use Prim.Native.Nat.{ℕ, ◌<◌}
use mathlib.Core.Path.{◌≡◌, sym, ◌∙◌}
use mathlib.Core.List.{List, [], ◌∷◌}
use native.Mathlib.Omega.{arith}
use borrow.Author.Tests.{lt-ltb}
use lib.Dec.{ltb}
use lib.ListN.{length, get_or}
use Rattle.search.specs.Search.{closure, filter}
use Rattle.search.specs.Worklist.{State, st, topmost, pop}
use Rattle.search.specs.Stamps.{stamp_all, stamp_when, stamp_push, Ready, Unmarked, flagged}
use Rattle.search.specs.Running.{NumberSearch as Running, state_of, SameColumns}
use Rattle.search.proofs.Running.{same_none, same_on}
use Rattle.search.proofs.Worklist.{Search, flags, filter_below, measure}
use Rattle.search.proofs.Stamps.{when_one, all_ready, Underway, stamp_begin, stamp_turn, stamp_falls, stamp_end, node_below, pop_ready, flags_marks}
use Rattle.flow.specs.Graph.{Graph, absent, entry_node}
use Rattle.flow.specs.Reachable.{reachable}
use Rattle.reach.specs.Columns.{edges, Flags}

-- ---- the successors of a node

-- a node pushed, if it is one, leaves room for more
pub still_ready : (n stamp v : ℕ) {s t : State} → Ready stamp n s → t ≡ stamp_when stamp (ltb v n) v s → Ready stamp n t
still_ready n stamp v {s} r e = all_ready stamp n (filter (λ x. ltb x n) (v ∷ [])) (filter_below n (v ∷ [])) r (e ∙ when_one stamp (ltb v n) v s)

-- ---- the search

-- from the entry over two columns
abbrev pub from_entry : List ℕ → List ℕ → Search
from_entry first second =
    record {
      n = length first;
      starts = filter (λ v. ltb v (length first)) (entry_node ∷ []);
      next = edges first second;
      starts_in = filter_below (length first) (entry_node ∷ []);
      next_in = λ u. filter_below (length first) (get_or first u absent ∷ get_or second u absent ∷ []);
    }

entry_kept : (n : ℕ) → entry_node < n → filter (λ v. ltb v n) (entry_node ∷ []) ≡ entry_node ∷ []
entry_kept n h = rw (lt-ltb entry_node n h)

flags_are : (first second : List ℕ) → entry_node < length first → (g : Graph) → g.nodes.first ≡ first → g.nodes.second ≡ second → flags (from_entry first second) ≡ reachable g
unfolding reachable
flags_are first second h g e f = sym (λ i. closure (sym (entry_kept (length first) h) i) (edges (e i) (f i)) (length (e i)))

-- ---- the same in code: turns have led from e to s

pub record Reaching (first second : List ℕ) (e s : Running) : Type 0 where
  pub same : SameColumns e s
  pub stamp : s.stamp ≡ 1
  pub underway : Underway 1 (from_entry first second) (state_of s)

module _ {first second : List ℕ} where
  pub reach_begin : {s : Running} (m k : List ℕ) → entry_node < length first → Unmarked 1 (length first) m k → s.stamp ≡ 1 → state_of s ≡ stamp_push 1 entry_node (st m k 0) → Reaching first second s s
  reach_begin {s} m k h u q p =
      record { same = same_none s; stamp = q; underway = stamp_begin 1 (from_entry first second) m k (state_of s) u (rw (entry_kept (length first) h) p) }

  module _ {e s : Running} (w : Reaching first second e s) where
    -- a turn: u is taken off the stack, and what follows it is pushed
    module _ {p : Running} {u : ℕ} (q : (0 < s.top) × (u ≡ topmost (state_of s)) × (state_of p ≡ pop (state_of s))) (c : SameColumns s p × (p.stamp ≡ s.stamp)) where
      same_stamp : p.stamp ≡ 1
      same_stamp = c.1 ∙ w.stamp

      pub reach_ready : Ready p.stamp (length first) (state_of p) × (u < length first)
      reach_ready =
          (rw (same_stamp, q.2) (pop_ready 1 (from_entry first second) w.underway q.0), rw q.1 (node_below 1 (from_entry first second) w.underway _ (omega arith)))

      module _ {t : Running} (b : SameColumns p t × (t.stamp ≡ p.stamp)) (r : state_of t ≡ stamp_all p.stamp (edges first second u) (state_of p)) where
        pushes : state_of t ≡ stamp_all 1 (edges first second (topmost (state_of s))) (pop (state_of s))
        pushes = rw (same_stamp, q.1, q.2) at r

        pub reach_turn : Reaching first second e t
        reach_turn = record { same = same_on w.same (same_on c.0 b.0); stamp = b.1 ∙ same_stamp; underway = stamp_turn 1 (from_entry first second) w.underway q.0 (state_of t) pushes }

        pub reach_falls : measure (length first) (flagged 1 (length first) (state_of t)) < measure (length first) (flagged 1 (length first) (state_of s))
        reach_falls = stamp_falls 1 (from_entry first second) w.underway q.0 (state_of t) pushes

    pub reach_over : entry_node < length first → s.top ≡ 0 → length s.marks.now ≡ length first → Flags first second s.marks.now
    reach_over h z l g x y =
        sym (rw l at (flags_marks s.marks.now w.underway.bounded)) ∙ stamp_end 1 (from_entry first second) w.underway z ∙ flags_are first second h g x y
