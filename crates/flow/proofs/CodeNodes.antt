-- A code's node is a node of the graph.
-- Assumes nothing.
use Prim.Native.Nat.{ℕ, zero, suc, ◌<◌}
use mathlib.Core.Path.{◌≡◌, refl, subst}
use mathlib.Core.Bool.{true, false}
use mathlib.Core.List.{List, [], ◌∷◌, ◌++◌}
use native.Mathlib.Omega.{arith}
use lib.ListN.{get_or}
use lib.Dec.{ltb}
use Rattle.std.specs.Prelude.{Option, Some, None}
use Rattle.flow.specs.Sheet.{end_of}
use Rattle.flow.specs.Graph.{node_count, new_node, connect, set_current, record_code, set_start, declare, start_graph, graph}
use Rattle.flow.specs.Reachable.{node_among, node_at}
use Rattle.flow.proofs.Laws.{either}
use Rattle.flow.proofs.Builds.{Kept, nothing_known, whole}

abbrev pub AllBelow : ℕ → List ℕ → Type 0
AllBelow n vs = (i : ℕ) → get_or vs i 0 < n

-- one more at the end
pub snoc_below : (vs : List ℕ) (v n : ℕ) → v < n → AllBelow n vs → AllBelow n (vs ++ (v ∷ []))
snoc_below [] v n h k zero = h
snoc_below [] v n h k (suc i) = omega arith
snoc_below (x ∷ vs) v n h k zero = k zero
snoc_below (x ∷ vs) v n h k (suc i) = snoc_below vs v n h (λ j. k (suc j)) i

codes_kept : Kept true false (λ n cs ns g. AllBelow n g.codes.node)
unfolding new_node connect set_current record_code set_start declare
codes_kept = record {
  new = λ r i. omega (arith, r i);
  edge = λ a b h r. r;
  move = λ v r. r;
  begin = λ v p r. r;
  span = λ {n} {g = g} s v h r. snoc_below g.codes.node v n (h refl).1 r;
  name = λ s st h r. r;
}

codes_below : (S : List ℕ) → AllBelow (node_count (graph S)) (graph S).codes.node
unfolding start_graph new_node
codes_below S = let r = whole codes_kept S nothing_known (λ i. omega arith) in rw r.count r.holds

abbrev Within : ℕ → Option ℕ → Type 0
Within n (Some v) = v < n
Within n None = Unit {0}

among : (ss vs : List ℕ) (o n : ℕ) → AllBelow n vs → Within n (node_among ss vs o)
unfolding node_among
among [] vs o n h = tt
among (s ∷ ss) [] o n h = tt
among (s ∷ ss) (v ∷ vs) o n h = either (Within n) (ltb o (end_of s)) (h 0) (among ss vs o n (λ i. h (suc i)))

-- the node of an offset is a node
pub code_node_law : (S : List ℕ) (o v : ℕ) → node_at (graph S) o ≡ Some v → v < node_count (graph S)
unfolding node_at
code_node_law S o v e = subst (Within (node_count (graph S))) e (among _ _ o _ (codes_below S))
