-- One step of the live walk over the columns that code has, in the graph's terms.
-- Assumes nothing.
use Prim.Native.Nat.{ℕ, ◌<◌, ◌≤◌}
use mathlib.Core.Path.{◌≡◌, refl, sym, ap, ◌∙◌}
use mathlib.Core.Bool.{Bool, true, false, ◌&&◌, not}
use mathlib.Core.List.{List, [], ◌∷◌}
use native.Mathlib.Omega.{arith}
use borrow.Author.Tests.{ltb-true}
use lib.Dec.{eqb, ltb}
use lib.ListN.{length, get_or, take, length-take}
use lib.Seq.{length-take-le, get_or-take}
use Rattle.search.specs.Search.{cons_if, filter}
use Rattle.search.specs.Worklist.{State}
use Rattle.search.specs.Stamps.{stamp_all, stamp_when, Ready}
use Rattle.search.proofs.Closure.{Nodes}
use Rattle.search.proofs.Worklist.{filter_in, filter_filter}
use Rattle.search.proofs.Stamps.{when_one, two_whens, when_nodes, all_ready}
use Rattle.flow.specs.Graph.{Graph, absent, node_count}
use Rattle.flow.specs.Reachable.{successors}
use Rattle.flow.specs.Locals.{Declaration}
use Rattle.flow.specs.Findings.{is_alive_at, live_successors}
use Rattle.flow.proofs.Flags.{edge_node, edge_cell}
use Rattle.live_steps.specs.Walk.{chart, alive_in}

module _ (n : ℕ) (first second start : List ℕ) (d : Declaration) where
  abbrev charted : Graph
  charted = chart n first second start

  -- the column of code starts says where the local is alive in the graph
  pub alive_in_law : (v : ℕ) → v < n → alive_in start d v ≡ is_alive_at charted d v
  unfolding alive_in is_alive_at
  alive_in_law v h = ap (λ (x : ℕ). not (eqb v d.node) && ltb x d.scope_end) (sym (get_or-take n start v 0 h))

  -- a live path leads to nodes
  pub live_nodes : (u : ℕ) → Nodes n (live_successors charted d u)
  live_nodes u v i = omega (arith, length-take n first, edge_node charted u v (filter_in (is_alive_at charted d) (successors charted u) v i).0)

  -- v is a node that a live path can enter
  abbrev pub enters : ℕ → Bool
  enters v = ltb v n && alive_in start d v

  enters_is : (v : ℕ) (b : Bool) → ltb v n ≡ b → b && is_alive_at charted d v ≡ b && alive_in start d v
  enters_is v true e = sym (alive_in_law v (ltb-true v n e))
  enters_is v false e = refl

  enters_nodes : (v : ℕ) (b : Bool) → ltb v n ≡ b → Nodes n (cons_if (b && alive_in start d v) v [])
  enters_nodes v true e = when_nodes n (alive_in start d v) v (ltb-true v n e)
  enters_nodes v false e = λ x i. absurd i

  -- such a node pushed leaves room for more
  pub still_ready : (stamp v : ℕ) {s t : State} → Ready stamp n s → t ≡ stamp_when stamp (enters v) v s → Ready stamp n t
  still_ready stamp v {s} r e =
      all_ready stamp n (cons_if (enters v) v []) (enters_nodes v (ltb v n) refl) r (e ∙ when_one stamp (enters v) v s)

  module _ (l : n ≤ length first) where
    pub count_is : node_count charted ≡ n
    count_is = length-take-le n first l

    -- the live successors of a node, by one test of what its two cells hold
    live_edges : n ≤ length second → (u : ℕ) → u < n → live_successors charted d u ≡ filter enters (get_or first u 0 ∷ get_or second u 0 ∷ [])
    live_edges m u h =
        filter_filter (λ v. ltb v (node_count charted)) (is_alive_at charted d) (get_or (take n first) u absent ∷ get_or (take n second) u absent ∷ [])
        ∙ (λ i. filter (λ v. ltb v (count_is i) && is_alive_at charted d v) (edge_cell n first u h l i ∷ edge_cell n second u h m i ∷ []))
        ∙ (λ i. filter (λ v. enters_is v (ltb v n) refl i) (get_or first u 0 ∷ get_or second u 0 ∷ []))

    -- two pushes of what the cells hold
    pub expanded : n ≤ length second → (stamp u : ℕ) → u < n → {a b : ℕ} → a ≡ get_or first u 0 → b ≡ get_or second u 0 → (s s₁ s₂ : State) → s₁ ≡ stamp_when stamp (enters a) a s → s₂ ≡ stamp_when stamp (enters b) b s₁ → s₂ ≡ stamp_all stamp (live_successors charted d u) s
    expanded m stamp u h {a} {b} ea eb s s₁ s₂ q r =
        two_whens stamp enters a b s s₁ s₂ q r
        ∙ (λ i. stamp_all stamp (filter enters (ea i ∷ eb i ∷ [])) s)
        ∙ ap (λ (vs : List ℕ). stamp_all stamp vs s) (sym (live_edges m u h))
