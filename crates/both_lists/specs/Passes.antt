-- What both passes ask of their tables, and of the memory that their walks take place in.
-- Assumes nothing: these are definitions.
use Rattle.std.specs.Prelude.{ℕ, List, length}
use Rattle.search.specs.Stamps.{Unmarked}
use Rattle.flow.specs.Findings.{findings}
use Rattle.flow.specs.Judge.{words_of}
use Rattle.use_words.specs.declared.PlacedUse.{PlacedUse}
use Rattle.live_steps.specs.Walk.{nodes_of}
use Rattle.locals.specs.declared.PassTables.{PassTables}
use Rattle.locals.specs.declared.FindingList.{FindingList}
use Rattle.locals.specs.Columns.{Charted, Named, Tables}
use Rattle.locals.specs.Entries.{AddsTo}
use Rattle.unassigned.specs.Pass.{Figures}
use Rattle.overwritten.specs.Pass.{Lent}
use Rattle.both_lists.specs.declared.GraphWalk.{GraphWalk}

-- the graph, the names, and the tables of a pair
pub record Pair (S U : List ℕ) (p : PassTables) (by_node : List PlacedUse) : Type 0 where
  pub charted : Charted S (nodes_of p.graph) p.graph.edges.first.now p.graph.edges.second.now p.graph.start.now
  pub named : Named S (nodes_of p.graph) (length p.facts.now) p.names.node.now p.names.scope_end.now
  pub tables : Tables S U (nodes_of p.graph) (length p.facts.now) p.facts.now p.uses.starts.now p.uses.uses.now by_node

-- tables are those of some pair
abbrev pub AnyPair : PassTables → List PlacedUse → Type 0
AnyPair p by_node = (S : List ℕ) × (U : List ℕ) × Pair S U p by_node

-- the findings of the pair that the tables are of were added to a list, and a mark figure for each local was written
abbrev pub Finds : PassTables → List PlacedUse → (old new : FindingList) (mark mark' : List ℕ) → Type 0
Finds p by_node old new mark mark' =
    (S U : List ℕ) → Pair S U p by_node → AddsTo (words_of (findings S U)) old new × Figures S U (length p.facts.now) mark mark'

-- memory for the walks in a graph of n nodes: there is room in it, and its marks are 0
pub record Walks (n : ℕ) (w : GraphWalk) : Type 0 where
  pub unmarked : Unmarked 1 n w.visited.now w.stack.now
  pub lent : Lent n w.chain.now w.used.now w.reads.now w.writes.now w.stack.now
