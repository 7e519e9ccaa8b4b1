-- What the tables of the pass over all locals stand for, and what it lists.
-- Assumes nothing: these are definitions.
use Rattle.std.specs.Prelude.{ℕ, List, length}
use Rattle.flow.specs.Findings.{overwritten_of, of_each}
use Rattle.flow.specs.Judge.{words_of}
use Rattle.live_steps.specs.Walk.{nodes_of}
use Rattle.predecessors.specs.declared.Links.{Links}
use Rattle.predecessors.specs.Predecessors.{Blank}
use Rattle.next_uses.specs.Backwards.{AllUnmarked}
use Rattle.locals.specs.declared.PassTables.{PassTables}
use Rattle.locals.specs.declared.FindingList.{FindingList}
use Rattle.locals.specs.Columns.{PassOf, uses_by_node}
use Rattle.locals.specs.Entries.{AddsTo}

-- the tables are those of some pair of sheets, with the uses by node
abbrev pub AnyPass : PassTables → Type 0
AnyPass p = (S : List ℕ) × (U : List ℕ) × PassOf (uses_by_node S U (nodes_of p.graph)) p S U

-- the overwritten values of all locals were added to a list
abbrev pub AddsAll : PassTables → FindingList → FindingList → Type 0
AddsAll p old new =
    (S U : List ℕ) → PassOf (uses_by_node S U (nodes_of p.graph)) p S U → AddsTo (words_of (of_each (overwritten_of S U) (length p.facts.now))) old new

-- the work columns as the pass begins: they hold n nodes, no chain has an edge, and no mark is set
pub record Lent (n : ℕ) (chain : List Links) (used reads writes stack : List ℕ) : Type 0 where
  pub blank : Blank n chain
  pub unmarked : AllUnmarked 1 n used reads writes stack
