-- The live walk of one local over the columns that code has, as a search.
-- Assumes nothing.
use Prim.Native.Nat.{ℕ, ◌+◌, ◌<◌, ◌≤◌}
use mathlib.Core.Path.{◌≡◌, refl, sym, ap, ◌∙◌}
use mathlib.Core.Logic.{⊎_elim}
use mathlib.Core.Bool.{Bool, true, false}
use mathlib.Core.List.{List, [], ◌∷◌}
use native.Mathlib.Omega.{arith}
use lib.ListN.{length, get_or, drop, drop_of_length-le}
use Rattle.search.specs.Search.{closure}
use Rattle.search.specs.Worklist.{State, st, topmost, pop}
use Rattle.search.specs.Stamps.{stamp_all, Ready, Unmarked, flagged}
use Rattle.search.specs.Running.{NumberSearch as Running}
use Rattle.search.specs.Running.{state_of, SameColumns}
use Rattle.search.proofs.Running.{same_none, same_on}
use Rattle.search.proofs.Closure.{Nodes}
use Rattle.search.proofs.Worklist.{Search, flags, measure}
use Rattle.search.proofs.Stamps.{all_append, all_ready, node_below, pop_ready, stamp_falls, stamp_end, Counted, count_begin, count_turn, count_end}
use Rattle.flow.specs.Graph.{Graph}
use Rattle.flow.specs.Locals.{Declaration, only_if}
use Rattle.flow.specs.Findings.{Use, node, is_write, live_successors, after_writes, live_after_writes}
use Rattle.flow.proofs.Members.{append_in}
use Rattle.use_words.specs.declared.PlacedUse.{PlacedUse}
use Rattle.use_words.specs.Words.{use_of, uses_in, no_use}
use Rattle.use_words.proofs.Words.{uses_next}
use Rattle.live_steps.specs.declared.FlowGraph.{FlowGraph}
use Rattle.live_steps.specs.Walk.{chart, charted, nodes_of}
use Rattle.live_steps.proofs.Steps.{live_nodes, count_is}
use Rattle.live_walk.specs.Walk.{after_write, Walks}

module _ (n : ℕ) (first second start : List ℕ) (d : Declaration) where
  abbrev nodes : Graph
  nodes = chart n first second start

  only_nodes : (b : Bool) (u : ℕ) → Nodes n (only_if b (live_successors nodes d u))
  only_nodes true u v i = live_nodes n first second start d u v i
  only_nodes false u v i = absurd i

  pub after_nodes : (us : List Use) → Nodes n (after_writes nodes d us)
  unfolding after_writes
  after_nodes [] v i = absurd i
  after_nodes (u ∷ us) v i =
      ⊎_elim (only_nodes (is_write u) (node u) v) (after_nodes us v) (append_in (after_write nodes d u) (after_writes nodes d us) v i)

  -- the search from after the writes among us
  abbrev pub from_writes : List Use → Search
  from_writes us = record { n = n; starts = after_writes nodes d us; next = live_successors nodes d; starts_in = after_nodes us; next_in = live_nodes n first second start d }

  -- its flags are what the definitions name
  pub walked_is : (us : List Use) → n ≤ length first → flags (from_writes us) ≡ live_after_writes nodes d us
  unfolding live_after_writes
  walked_is us l = ap (closure (after_writes nodes d us) (live_successors nodes d)) (sym (count_is n first second start d l))

  -- ---- where the walk starts, one use after the other

  module _ (mine : List PlacedUse) where
    -- what the uses from place i on are to push
    abbrev pub seeds : ℕ → List ℕ
    seeds i = after_writes nodes d (uses_in (drop i mine))

    module _ (stamp i : ℕ) (s : State) where
      seed_step : i < length mine → (t : State) → t ≡ stamp_all stamp (after_write nodes d (use_of (get_or mine i no_use))) s → stamp_all stamp (seeds (i + 1)) t ≡ stamp_all stamp (seeds i) s
      unfolding after_writes
      seed_step h t e =
          ap (stamp_all stamp (seeds (i + 1))) e ∙ sym (all_append stamp (after_write nodes d (use_of (get_or mine i no_use))) (seeds (i + 1)) s)
          ∙ ap (λ (us : List Use). stamp_all stamp (after_writes nodes d us) s) (sym (uses_next mine i h))

      seed_done : length mine ≤ i → s ≡ stamp_all stamp (seeds i) s
      unfolding after_writes
      seed_done h = ap (λ (l : List PlacedUse). stamp_all stamp (after_writes nodes d (uses_in l)) s) (sym (drop_of_length-le mine h))

  -- a use's pushes leave room for more
  write_ready : (stamp : ℕ) (u : Use) {s t : State} → Ready stamp n s → t ≡ stamp_all stamp (after_write nodes d u) s → Ready stamp n t
  write_ready stamp u = all_ready stamp n (after_write nodes d u) (only_nodes (is_write u) (node u))

-- ---- the same in code: the first i uses' pushes have led from e to s

pub record Seeding (g : FlowGraph) (d : Declaration) (mine : List PlacedUse) (i : ℕ) (e s : Running) : Type 0 where
  pub same : SameColumns e s
  pub stamp : s.stamp ≡ e.stamp
  pub ready : Ready e.stamp (nodes_of g) (state_of s)
  pub pushes : stamp_all e.stamp (seeds (nodes_of g) g.edges.first.now g.edges.second.now g.start.now d mine i) (state_of s) ≡ stamp_all e.stamp (seeds (nodes_of g) g.edges.first.now g.edges.second.now g.start.now d mine 0) (state_of e)

module _ {g : FlowGraph} {d : Declaration} {mine : List PlacedUse} where
  pub seed_none : {e : Running} → Ready e.stamp (nodes_of g) (state_of e) → Seeding g d mine 0 e e
  seed_none {e} r = record { same = same_none e; stamp = refl; ready = r; pushes = refl }

  module _ {i : ℕ} {e s : Running} (w : Seeding g d mine i e s) where
    pub seed_turn : i < length mine → {t : Running} → SameColumns s t × (t.stamp ≡ s.stamp) → state_of t ≡ stamp_all s.stamp (after_write (charted g) d (use_of (get_or mine i no_use))) (state_of s) → Seeding g d mine (i + 1) e t
    seed_turn h {t} c p =
        let p' = rw w.stamp at p in
        record {
          same = same_on w.same c.0;
          stamp = c.1 ∙ w.stamp;
          ready = write_ready (nodes_of g) g.edges.first.now g.edges.second.now g.start.now d e.stamp (use_of (get_or mine i no_use)) w.ready p';
          pushes = seed_step (nodes_of g) g.edges.first.now g.edges.second.now g.start.now d mine e.stamp i (state_of s) h (state_of t) p' ∙ w.pushes;
        }

    pub seed_over : length mine ≤ i → state_of s ≡ stamp_all e.stamp (after_writes (charted g) d (uses_in mine)) (state_of e)
    seed_over h = seed_done (nodes_of g) g.edges.first.now g.edges.second.now g.start.now d mine e.stamp i (state_of s) h ∙ w.pushes

-- ---- the walk in code: so many turns have led from e to s

abbrev walk : FlowGraph → Declaration → List Use → Search
walk g d us = from_writes (nodes_of g) g.edges.first.now g.edges.second.now g.start.now d us

pub record Walking (g : FlowGraph) (d : Declaration) (us : List Use) (stamp count : ℕ) (e s : Running) : Type 0 where
  pub same : SameColumns e s
  pub stamped : s.stamp ≡ stamp
  pub counted : Counted stamp (walk g d us) (state_of s) count

module _ {g : FlowGraph} {d : Declaration} {us : List Use} {stamp : ℕ} where
  -- b is the search begun in the columns of e, and s that with the nodes from after the writes
  pub walk_begin : {e b s : Running} → Unmarked stamp (nodes_of g) e.marks.now e.stack.now → SameColumns e b → (state_of b ≡ st e.marks.now e.stack.now 0) × (b.stamp ≡ stamp) → SameColumns b s × (s.stamp ≡ b.stamp) → state_of s ≡ stamp_all b.stamp (after_writes (charted g) d us) (state_of b) → Walking g d us stamp 0 e s
  walk_begin {e} {b} {s} u c q k p = record { same = same_on c k.0; stamped = k.1 ∙ q.1; counted = count_begin stamp (walk g d us) e.marks.now e.stack.now (state_of s) u (rw (q.1, q.0) at p) }

  module _ {count : ℕ} {e s : Running} (w : Walking g d us stamp count e s) where
    -- a turn: u is taken off the stack, and what follows it is pushed
    module _ {p : Running} {u : ℕ} (q : (0 < s.top) × (u ≡ topmost (state_of s)) × (state_of p ≡ pop (state_of s))) (c : SameColumns s p × (p.stamp ≡ s.stamp)) where
      pub walk_ready : Ready p.stamp (nodes_of g) (state_of p) × (u < nodes_of g)
      walk_ready =
          let same : p.stamp ≡ stamp = c.1 ∙ w.stamped in
          (rw (same, q.2) (pop_ready stamp (walk g d us) w.counted.underway q.0), rw q.1 (node_below stamp (walk g d us) w.counted.underway _ (omega arith)))

      module _ {t : Running} (b : SameColumns p t × (t.stamp ≡ p.stamp)) (r : state_of t ≡ stamp_all p.stamp (live_successors (charted g) d u) (state_of p)) where
        pushes : state_of t ≡ stamp_all stamp (live_successors (charted g) d (topmost (state_of s))) (pop (state_of s))
        pushes =
            let same : p.stamp ≡ stamp = c.1 ∙ w.stamped in
            rw (same, q.1, q.2) at r

        pub walk_turn : Walking g d us stamp (count + 1) e t
        walk_turn = record { same = same_on w.same (same_on c.0 b.0); stamped = b.1 ∙ c.1 ∙ w.stamped; counted = count_turn stamp (walk g d us) w.counted q.0 (state_of t) pushes }

        pub walk_falls : measure (nodes_of g) (flagged t.stamp (nodes_of g) (state_of t)) < measure (nodes_of g) (flagged s.stamp (nodes_of g) (state_of s))
        walk_falls = let now : t.stamp ≡ stamp = b.1 ∙ c.1 ∙ w.stamped in
            rw (now, w.stamped) (stamp_falls stamp (walk g d us) w.counted.underway q.0 (state_of t) pushes)

    pub walk_over : s.top ≡ 0 → Walks stamp (nodes_of g) (charted g) d us count s.marks.now
    walk_over z =
        let is = walked_is (nodes_of g) g.edges.first.now g.edges.second.now g.start.now d us (omega arith) in
        record {
          marks = stamp_end stamp (walk g d us) w.counted.underway z ∙ is;
          count = rw (← is) (count_end stamp (walk g d us) w.counted z);
          stamped = w.counted.underway.bounded;
        }
