-- The graph that three columns hold, and where a local is alive in it.
-- Assumes nothing: these are definitions.
use Rattle.std.specs.Prelude.{ℕ, ◌≤◌, ◌≡◌, Bool, ◌&&◌, not, List, [], length, get_or, take, eqb, ltb}
use Rattle.live_steps.specs.declared.LocalDeclaration.{LocalDeclaration}
use Rattle.live_steps.specs.declared.Edges.{Edges}
use Rattle.live_steps.specs.declared.FlowGraph.{FlowGraph}
use Rattle.flow.specs.Graph.{Graph, Nodes}
use Rattle.flow.specs.Locals.{Declaration}

-- the first n cells of three columns are the nodes of g
pub record Charts (g : Graph) (n : ℕ) (first second start : List ℕ) : Type 0 where
  pub firsts : g.nodes.first ≡ take n first
  pub seconds : g.nodes.second ≡ take n second
  pub starts : g.nodes.start ≡ take n start

-- the columns have so many cells
pub record Long (n : ℕ) (first second start : List ℕ) : Type 0 where
  pub firsts : n ≤ length first
  pub seconds : n ≤ length second
  pub starts : n ≤ length start

-- a graph with nodes alone
abbrev pub bare : Nodes → Graph
bare ns = record { nodes = ns; codes = record { span = []; node = [] }; names = record { span = []; node = []; scope_end = [] }; current = 0 }

-- that of such columns
abbrev pub chart : ℕ → List ℕ → List ℕ → List ℕ → Graph
chart n first second start = bare (record { first = take n first; second = take n second; start = take n start })

-- how many nodes code's edges are of
abbrev pub nodes_in : Edges → ℕ
nodes_in e = length e.first.now

-- and those of a graph, and it
abbrev pub nodes_of : FlowGraph → ℕ
nodes_of g = nodes_in g.edges

abbrev pub charted : FlowGraph → Graph
charted g = chart (nodes_of g) g.edges.first.now g.edges.second.now g.start.now

-- a declaration as 01's definitions have it
abbrev pub declared : LocalDeclaration → Declaration
declared d = record { node = d.node; scope_end = d.scope_end }

-- whether the local is alive at v, by the column of code starts
unfoldable pub alive_in : List ℕ → Declaration → ℕ → Bool
alive_in start d v = not (eqb v d.node) && ltb (get_or start v 0) d.scope_end
