-- 01, "From items to edges", its last paragraph: reachability, the node of an offset, and what run and chart answer.
-- Assumes nothing: these are definitions.
use Rattle.std.specs.Prelude.{◌≡◌, ◌↔◌, Bool, true, false, cond, List, [], ◌∷◌, ℕ, ◌≤◌, ◌<◌, length, get_or, eqb, ltb, Option, Some, None}
use Rattle.search.specs.Search.{Reach, closure, filter}
use Rattle.flow.specs.declared.Counts.{Counts}
use Rattle.flow.specs.Sheet.{Word, Span, Node, end_of}
use Rattle.flow.specs.Refusals.{one, sheet_verdict}
use Rattle.flow.specs.Answers.{Told, tells, found_values, count_values}
use Rattle.flow.specs.Graph.{Graph, node_count, absent, entry_node, graph}

-- the edges of a node: its successors that are nodes, which `absent` is not. A number that is no node has none
abbrev pub successors : Graph → Node → List Node
successors g x = filter (λ v. ltb v (node_count g)) (get_or g.nodes.first x absent ∷ get_or g.nodes.second x absent ∷ [])

-- "Reachable: from node 5 along edges."
abbrev pub Reachable : Graph → Node → Type 0
Reachable g = Reach (entry_node ∷ []) (successors g)

-- "a reachable flag 0 or 1", of each node: 1 exactly where a path from the entry leads
pub record Flagged (g : Graph) (flags : List ℕ) : Type 0 where
  pub bit : (v : Node) → v < node_count g → get_or flags v 0 ≤ 1
  pub exactly : (v : Node) → v < node_count g → (get_or flags v 0 ≡ 1) ↔ Reachable g v

-- the flags, computed; `proofs/Flags.antt` shows that they are `Flagged`
unfoldable pub reachable : Graph → List ℕ
reachable g = closure (entry_node ∷ []) (successors g) (node_count g)

-- "The node of an offset is that of the first code whose end is greater than the offset."
unfoldable pub node_among : List Span → List Node → ℕ → Option ℕ
node_among [] vs o = None
node_among (s ∷ ss) [] o = None
node_among (s ∷ ss) (v ∷ vs) o = cond (ltb o (end_of s)) (Some v) (node_among ss vs o)

unfoldable pub node_at : Graph → ℕ → Option ℕ
node_at g o = node_among g.codes.span g.codes.node o

-- "yes exactly when there is none or the node is reachable": over paths, and computed
abbrev pub CanRun : Graph → Option ℕ → Type 0
CanRun g f = elim f [ Some v ↦ Reachable g v | None ↦ Unit {0} ]

unfoldable pub can_run : Graph → Option ℕ → Bool
can_run g f = elim f [ Some v ↦ eqb (get_or (reachable g) v 0) 1 | None ↦ true ]

-- "Run takes a 32-bit offset and gives that node or none, and yes": its number and values
unfoldable pub run : List Word → ℕ → Told
run S o = tells (sheet_verdict false S) (one (can_run (graph S) (node_at (graph S) o)) ∷ found_values (node_at (graph S) o))

-- "and returns the three counts"
abbrev pub counts_of : Graph → Counts
counts_of g = record { nodes = node_count g; codes = length g.codes.span; names = length g.names.span }

-- chart's number and values, where `short` says whether a lent column is too short
unfoldable pub chart : Bool → List Word → Told
chart short S = tells (sheet_verdict short S) (count_values (counts_of (graph S)))

-- the parallel columns of a chart: those of one count are equally long
pub record Parallel (g : Graph) : Type 0 where
  pub seconds : length g.nodes.second ≡ node_count g
  pub starts : length g.nodes.start ≡ node_count g
  pub flags : length (reachable g) ≡ node_count g
  pub code_nodes : length g.codes.node ≡ length g.codes.span
  pub name_nodes : length g.names.node ≡ length g.names.span
  pub name_ends : length g.names.scope_end ≡ length g.names.span
