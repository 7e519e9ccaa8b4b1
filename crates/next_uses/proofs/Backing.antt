-- The turns of a search back in the code's columns, for every graph whose chains these are.
-- Assumes nothing.
use Prim.Native.Nat.{ℕ, ◌≤◌, ◌<◌, ◌-◌}
use mathlib.Core.Path.{◌≡◌, ◌∙◌}
use mathlib.Core.List.{List}
use native.Mathlib.Omega.{arith}
use lib.ListN.{length}
use Rattle.search.specs.Running.{NumberSearch as Running}
use Rattle.search.specs.Search.{filter}
use Rattle.search.specs.Worklist.{st, pop, topmost}
use Rattle.search.specs.Stamps.{Ready, Unmarked, Stamped, stamp_all, flagged}
use Rattle.search.specs.Running.{state_of, SameColumns}
use Rattle.search.proofs.Worklist.{Search, measure}
use Rattle.search.proofs.Running.{same_none, same_on}
use Rattle.search.proofs.Stamps.{Underway, stamp_begin, node_below, top_in, pop_ready, stamp_turn, stamp_falls, stamp_end}
use Rattle.use_words.specs.declared.PlacedUse.{PlacedUse}
use Rattle.use_words.specs.Words.{AllPlaced}
use Rattle.live_steps.specs.Walk.{declared}
use Rattle.predecessors.specs.declared.WayBack.{WayBack}
use Rattle.predecessors.specs.Predecessors.{preds_of, Linked, Chained, HasChain, ChainOf}
use Rattle.predecessors.specs.Ways.{nodes_back, goes_on}
use Rattle.predecessors.proofs.Chains.{chain_of, some_chain}
use Rattle.next_uses.specs.declared.Sought.{Sought}
use Rattle.next_uses.specs.Searches.{all_begins, Finds}
use Rattle.next_uses.proofs.Walks.{back_search}

module _ (w : WayBack) (us : List PlacedUse) (k : Sought) where
  abbrev LinkedFor : List ℕ → List ℕ → Type 0
  LinkedFor f s = Linked f s (nodes_back w) (nodes_back w) w.chain.now

  -- the search over the graph of two columns
  abbrev pub back : List ℕ → List ℕ → AllPlaced (nodes_back w) us → Search
  back f s p = back_search w.start.now (declared w.declaration) us k (nodes_back w) p w.stamp w.used.now f s

  pub record Backing (e s : Running) : Type 0 where
    pub same : SameColumns e s
    pub stamp : s.stamp ≡ w.stamp
    pub underway : (first second : List ℕ) → LinkedFor first second → (p : AllPlaced (nodes_back w) us) → Underway w.stamp (back first second p) (state_of s)

  pub back_begin : {s : Running} {marks stack : List ℕ} → Unmarked w.stamp (nodes_back w) marks stack → s.stamp ≡ w.stamp → state_of s ≡ stamp_all w.stamp (all_begins w us k) (st marks stack 0) → Backing s s
  back_begin {s} {marks} {stack} u q p = record { same = same_none s; stamp = q; underway = λ f t l a. stamp_begin w.stamp (back f t a) marks stack (state_of s) u p }

  module _ {e s : Running} (b : Backing e s) (a : AllPlaced (nodes_back w) us) (g : Chained (nodes_back w) w.chain.now) where
    -- over the graph that the chains are known to be of
    known : Underway w.stamp (back g.first g.second a) (state_of s)
    known = b.underway g.first g.second g.linked a

    pub back_top : s.top ≤ length s.stack.now
    back_top = top_in w.stamp (back g.first g.second a) known

    pub back_stamped : Stamped w.stamp s.marks.now
    back_stamped = known.bounded

    -- a turn: u is taken off the stack, and its predecessors are pushed
    module _ {p : Running} {u : ℕ} (q : (0 < s.top) × (u ≡ topmost (state_of s)) × (state_of p ≡ pop (state_of s))) (c : SameColumns s p × (p.stamp ≡ s.stamp)) where
      stamp_on : p.stamp ≡ w.stamp
      stamp_on = c.1 ∙ b.stamp

      pub back_ready : Ready p.stamp (nodes_back w) (state_of p)
      back_ready = rw (stamp_on, q.2) (pop_ready w.stamp (back g.first g.second a) known q.0)

      back_node : u < nodes_back w
      back_node = rw q.1 (node_below w.stamp (back g.first g.second a) known (s.top - 1) (omega arith))

      pub back_chain : HasChain u w.chain.now
      back_chain = (back_node, some_chain g u back_node)

      module _ {t : Running} (d : SameColumns p t × (t.stamp ≡ p.stamp)) (r : (vs : List ℕ) → ChainOf u w.chain.now vs → state_of t ≡ stamp_all p.stamp (filter (goes_on w) vs) (state_of p)) where
        pushes : (first second : List ℕ) → LinkedFor first second → state_of t ≡ stamp_all w.stamp (filter (goes_on w) (preds_of first second (topmost (state_of s)) (nodes_back w))) (pop (state_of s))
        pushes f h l = rw (stamp_on, q.1, q.2) at (r (preds_of f h u (nodes_back w)) (chain_of f h (nodes_back w) w.chain.now l u back_node))

        pub back_turn : Backing e t
        back_turn = record { same = same_on b.same (same_on c.0 d.0); stamp = d.1 ∙ stamp_on; underway = λ f h l o. stamp_turn w.stamp (back f h o) (b.underway f h l o) q.0 (state_of t) (pushes f h l) }

        pub back_falls : measure (nodes_back w) (flagged w.stamp (nodes_back w) (state_of t)) < measure (nodes_back w) (flagged w.stamp (nodes_back w) (state_of s))
        back_falls = stamp_falls w.stamp (back g.first g.second a) known q.0 (state_of t) (pushes g.first g.second g.linked)

    pub back_over : s.top ≡ 0 → Finds w us k s.marks.now
    back_over z f h l = stamp_end w.stamp (back f h a) (b.underway f h l a) z
