-- The pair's tables: what the columns that the passes over locals read stand for, of a sheet S and a use sheet U.
-- Assumes nothing: these are definitions.
use Rattle.std.specs.Prelude.{ℕ, ◌+◌, ◌<◌, ◌≤◌, ◌≡◌, List, map, length, get_or, take}
use Rattle.flow.specs.Sheet.{use_words}
use Rattle.flow.specs.Graph.{node_count, graph}
use Rattle.flow.specs.Locals.{locals, local_at}
use Rattle.flow.specs.Findings.{Use, node, uses_of, all_found}
use Rattle.use_words.specs.declared.PlacedUse.{PlacedUse}
use Rattle.use_words.specs.Words.{uses_in, spanless, AllPlaced}
use Rattle.bucket_sort.specs.Grouped.{part, grouped}
use Rattle.live_steps.specs.Walk.{Charts, Long, nodes_of}
use Rattle.locals.specs.declared.PassTables.{PassTables}
use Rattle.facts.specs.declared.NameFacts.{NameFacts}
use Rattle.facts.specs.Facts.{facts_with, no_facts}

-- the first n cells are the nodes of the graph
pub record Charted (S : List ℕ) (n : ℕ) (first second start : List ℕ) : Type 0 where
  pub count : node_count (graph S) ≡ n
  pub some : 6 ≤ n
  pub few : n ≤ 1600
  pub charts : Charts (graph S) n first second start
  pub long : Long n first second start

-- the first cells are the names' nodes and scope ends
pub record Named (S : List ℕ) (n names : ℕ) (node_of_name name_end : List ℕ) : Type 0 where
  pub count : length (locals S) ≡ names
  pub few : names ≤ 1024
  pub nodes : (graph S).names.node ≡ take names node_of_name
  pub nodes_long : names ≤ length node_of_name
  pub ends : (graph S).names.scope_end ≡ take names name_end
  pub ends_long : names ≤ length name_end
  pub within : (ℓ : ℕ) → ℓ < names → get_or node_of_name ℓ 0 < n

-- the facts of each name, with whether all its uses find a node
pub record Known (S U : List ℕ) (names : ℕ) (facts : List NameFacts) : Type 0 where
  pub long : names ≤ length facts
  pub facts_are : (ℓ : ℕ) → ℓ < names → get_or facts ℓ no_facts ≡ facts_with (local_at S ℓ) (all_found (uses_of S U ℓ))

-- the local ℓ has a part of a column, by its start and the next one's
pub record Cut {A : Type 0} (ℓ : ℕ) (starts : List ℕ) (column : List A) : Type 0 where
  pub inside : ℓ + 1 < length starts
  pub rising : get_or starts ℓ 0 ≤ get_or starts (ℓ + 1) 0
  pub within : get_or starts (ℓ + 1) 0 ≤ length column

abbrev pub part_at : {A : Type 0} → ℕ → List ℕ → List A → List A
part_at ℓ starts column = part (get_or starts ℓ 0) (get_or starts (ℓ + 1) 0) column

-- a column of m uses, with a part for each local: its uses, as `list` orders them
pub record Parts (list : ℕ → List Use) (m n names : ℕ) (starts : List ℕ) (column : List PlacedUse) : Type 0 where
  pub few : m ≤ 1024
  pub starts_long : names < length starts
  pub column_long : m ≤ length column
  pub rising : (ℓ : ℕ) → ℓ < names → get_or starts ℓ 0 ≤ get_or starts (ℓ + 1) 0
  pub within : (ℓ : ℕ) → ℓ ≤ names → get_or starts ℓ 0 ≤ m
  pub holds : (ℓ : ℕ) → ℓ < names → uses_in (part_at ℓ starts column) ≡ map spanless (list ℓ)
  pub placed : (ℓ : ℕ) → ℓ < names → AllPlaced n (part_at ℓ starts column)

-- "writes by node, use order within a node": a local's uses so
abbrev pub uses_by_node : List ℕ → List ℕ → ℕ → ℕ → List Use
uses_by_node S U n ℓ = grouped node n (uses_of S U ℓ)

-- a table of a pair: facts of names, and the uses by local, as `list` orders them
pub record Table (list : ℕ → List Use) (S U : List ℕ) (n names : ℕ) (facts : List NameFacts) (starts : List ℕ) (column : List PlacedUse) : Type 0 where
  pub known : Known S U names facts
  pub parts : Parts list (length (use_words U)) n names starts column

-- the tables of a pair: in use order and by node
pub record Tables (S U : List ℕ) (n names : ℕ) (facts : List NameFacts) (starts : List ℕ) (byLocal by_node : List PlacedUse) : Type 0 where
  pub in_use_order : Table (uses_of S U) S U n names facts starts byLocal
  pub in_node_order : Table (uses_by_node S U n) S U n names facts starts by_node

-- what a pass over all locals reads: the graph, the names, and one of the tables
pub record Pass (list : ℕ → List Use) (S U : List ℕ) (n names : ℕ) (first second start node_of_name name_end : List ℕ) (facts : List NameFacts) (starts : List ℕ) (column : List PlacedUse) : Type 0 where
  pub charted : Charted S n first second start
  pub named : Named S n names node_of_name name_end
  pub table : Table list S U n names facts starts column

-- code's tables are those of a pair, with the uses of each local as `list` orders them
abbrev pub PassOf : (list : ℕ → List Use) → PassTables → (S U : List ℕ) → Type 0
PassOf list p S U =
    Pass list S U (nodes_of p.graph) (length p.facts.now) p.graph.edges.first.now p.graph.edges.second.now p.graph.start.now p.names.node.now p.names.scope_end.now p.facts.now p.uses.starts.now p.uses.uses.now
