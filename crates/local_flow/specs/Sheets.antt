-- What the columns of a chart and of a use sheet stand for, before the facts of the names are known.
-- Assumes nothing: these are definitions.
use Rattle.std.specs.Prelude.{ℕ, ◌≤◌, ◌≡◌, List, length}
use Rattle.flow.specs.Sheet.{kind_words, span_words}
use Rattle.flow.specs.Locals.{locals}
use Rattle.flow.specs.Findings.{findings}
use Rattle.flow.specs.Judge.{words_of}
use Rattle.live_steps.specs.declared.FlowGraph.{FlowGraph}
use Rattle.locals.specs.declared.DeclarationTable.{DeclarationTable}
use Rattle.locals.specs.Entries.{Added}
use Rattle.tables.specs.declared.CodeColumns.{CodeColumns}
use Rattle.sheet_parts.specs.declared.Items.{Items}
use Rattle.unassigned.specs.Pass.{Figures}
use Rattle.sized_flow.specs.Given.{PairColumns}

-- with the items' words, which the facts are found in
pub record Sheets (S U : List ℕ) (kinds : List ℕ) (g : FlowGraph) (codes : CodeColumns) (names : DeclarationTable) (uses : Items) : Type 0 where
  pub kinds_are : kinds ≡ kind_words S
  pub beside : length (span_words S) ≡ length (kind_words S)
  pub few : length kinds ≤ 1024
  pub columns : PairColumns S U (length (locals S)) g names codes uses

abbrev pub AnySheets : List ℕ → FlowGraph → CodeColumns → DeclarationTable → Items → Type 0
AnySheets kinds g codes names uses = (S : List ℕ) × (U : List ℕ) × Sheets S U kinds g codes names uses

-- the findings' words were written, r of them, and a mark figure for each local
abbrev pub Finds : List ℕ → FlowGraph → CodeColumns → DeclarationTable → Items → (old new mark mark' : List ℕ) (r : ℕ) → Type 0
Finds kinds g codes names uses old new mark mark' r =
    (S U : List ℕ) → Sheets S U kinds g codes names uses → Added (words_of (findings S U)) 0 old r new × Figures S U (length (locals S)) mark mark'
