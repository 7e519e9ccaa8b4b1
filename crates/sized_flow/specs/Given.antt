-- What the columns of a chart and of a use sheet stand for, with the facts of the names.
-- Assumes nothing: these are definitions.
use Rattle.std.specs.Prelude.{ℕ, List, length}
use Rattle.flow.specs.Locals.{local_at}
use Rattle.flow.specs.Findings.{findings}
use Rattle.flow.specs.Judge.{words_of}
use Rattle.facts.specs.declared.NameFacts.{NameFacts}
use Rattle.facts.specs.Facts.{FactsOf}
use Rattle.live_steps.specs.declared.FlowGraph.{FlowGraph}
use Rattle.live_steps.specs.Walk.{nodes_of}
use Rattle.locals.specs.declared.DeclarationTable.{DeclarationTable}
use Rattle.locals.specs.declared.FindingList.{FindingList}
use Rattle.locals.specs.Columns.{Charted, Named}
use Rattle.locals.specs.Entries.{AddsTo}
use Rattle.tables.specs.declared.CodeColumns.{CodeColumns}
use Rattle.sheet_parts.specs.declared.Items.{Items}
use Rattle.tables.specs.Words.{NamedBelow}
use Rattle.tables.specs.Tables.{CodeTable, Sources}
use Rattle.unassigned.specs.Pass.{Figures}

-- the columns are those of the graph of S, with so many names, and of the uses of U
pub record PairColumns (S U : List ℕ) (count : ℕ) (g : FlowGraph) (names : DeclarationTable) (codes : CodeColumns) (uses : Items) : Type 0 where
  pub charted : Charted S (nodes_of g) g.edges.first.now g.edges.second.now g.start.now
  pub named : Named S (nodes_of g) count names.node.now names.scope_end.now
  pub code_table : CodeTable (nodes_of g) codes
  pub uses_named : NamedBelow count uses.words.now
  pub sources : Sources S U codes uses

-- and the facts are those of the names
pub record Given (S U : List ℕ) (g : FlowGraph) (names : DeclarationTable) (codes : CodeColumns) (uses : Items) (facts : List NameFacts) : Type 0 where
  pub columns : PairColumns S U (length facts) g names codes uses
  pub facts_are : FactsOf (local_at S) (length facts) facts

-- columns are such columns of some pair
abbrev pub AnyGiven : FlowGraph → DeclarationTable → CodeColumns → Items → List NameFacts → Type 0
AnyGiven g names codes uses facts = (S : List ℕ) × (U : List ℕ) × Given S U g names codes uses facts

-- the findings were added to a list, and a mark figure for each local was written
abbrev pub FindsGiven : FlowGraph → DeclarationTable → CodeColumns → Items → List NameFacts → (old new : FindingList) (mark mark' : List ℕ) → Type 0
FindsGiven g names codes uses facts old new mark mark' =
    (S U : List ℕ) → Given S U g names codes uses facts → AddsTo (words_of (findings S U)) old new × Figures S U (length facts) mark mark'
