-- A local's uses by node, in a column, and the marks of what is ahead in two others.
-- Assumes nothing: these are definitions.
use Rattle.std.specs.Prelude.{ℕ, zero, suc, ◌+◌, ◌<◌, ◌≤◌, Bool, true, ◌&&◌, not, List, [], ◌∷◌, ◌++◌, length, get_or, eqb, ltb}
use Rattle.search.specs.Stamps.{flags_of}
use Rattle.flow.specs.Graph.{Graph}
use Rattle.flow.specs.Locals.{only_if}
use Rattle.flow.specs.Findings.{Use, node, Ahead, is_overwritten}
use Rattle.use_words.specs.declared.PlacedUse.{PlacedUse}
use Rattle.use_words.specs.Words.{node_in, no_use}
use Rattle.bucket_sort.specs.Grouped.{of_key, grouped}
use Rattle.live_steps.specs.declared.Edges.{Edges}
use Rattle.live_steps.specs.Walk.{chart, nodes_in}

-- the uses at the node v, in order
abbrev pub uses_at : ℕ → List Use → List Use
uses_at v us = of_key node v us

-- "by node, use order within a node": those at the nodes below n
abbrev pub by_node : ℕ → List Use → List Use
by_node n us = grouped node n us

-- uses whose nodes rise
abbrev pub Rising : List PlacedUse → Type 0
Rising ws = (i : ℕ) → i + 1 < length ws → node_in (get_or ws i no_use) ≤ node_in (get_or ws (i + 1) no_use)

-- whether the next place holds a use at the same node
unfoldable pub next_in_node : List PlacedUse → ℕ → Bool
next_in_node ws i = ltb (i + 1) (length ws) && eqb (node_in (get_or ws i no_use)) (node_in (get_or ws (i + 1) no_use))

-- whether place i is the first of its node
abbrev pub opens_node : List PlacedUse → ℕ → Bool
opens_node ws zero = true
opens_node ws (suc i) = not (next_in_node ws i)

-- the graph of two columns of edges
abbrev pub edges : ℕ → List ℕ → List ℕ → Graph
edges n first second = chart n first second []

-- that of code's columns
abbrev pub edges_of : Edges → Graph
edges_of e = edges (nodes_in e) e.first.now e.second.now

-- what is ahead, by the marks in two columns
abbrev pub marked : ℕ → ℕ → List ℕ → List ℕ → Ahead
marked stamp n reads writes = record { reads = flags_of stamp n reads; writes = flags_of stamp n writes }

-- the overwritten writes of a list, in its order
abbrev pub overwritten_in : Graph → Ahead → List Use → List Use
overwritten_in g a [] = []
overwritten_in g a (u ∷ us) = only_if (is_overwritten g a u us) (u ∷ []) ++ overwritten_in g a us
