-- A chart's columns and a use sheet, as the search for findings takes them.
-- Assumes nothing: these are definitions.
use Rattle.std.specs.Prelude.{ℕ, ◌≤◌, ◌<◌, ◌≡◌, List, length, get_or, take}
use Rattle.flow.specs.declared.Counts.{Counts}
use Rattle.flow.specs.Sheet.{kind_words, span_words, use_words}
use Rattle.flow.specs.Graph.{graph}
use Rattle.flow.specs.Locals.{locals}
use Rattle.offsets.specs.Codes.{Rising}
use Rattle.locals.specs.Columns.{Charted, Named}
use Rattle.tables.specs.Words.{NamedBelow}

-- the first cells are those of the graph of S, and the uses are those of U
pub record Searched (S U : List ℕ) (c : Counts) (first second start code_span code_node node_of_name name_end : List ℕ) : Type 0 where
  pub beside : length (span_words S) ≡ length (kind_words S)
  pub few : length (kind_words S) ≤ 1024
  pub charted : Charted S c.nodes first second start
  pub named : Named S c.nodes (length (locals S)) node_of_name name_end
  pub spans_long : c.codes ≤ length code_span
  pub nodes_long : c.codes ≤ length code_node
  pub rising : Rising c.codes code_span
  pub within : (i : ℕ) → i < c.codes → get_or code_node i 0 < c.nodes
  pub code_spans_law : (graph S).codes.span ≡ take c.codes code_span
  pub code_nodes_law : (graph S).codes.node ≡ take c.codes code_node
  pub names_known : NamedBelow (length (locals S)) (use_words U)
