-- What a chart's columns hold, by the sheet and by what they held before.
-- Assumes nothing: these are definitions.
use Rattle.std.specs.Prelude.{◌≡◌, Bool, List, [], ◌∷◌, ◌++◌, ℕ, ◌≤◌, ◌<◌, length, get_or, drop, Ok, Err}
use Rattle.search.specs.Lent.{Column, held, left}
use Rattle.column_lengths.specs.Lengths.{chart_too_short}
use Rattle.flow.specs.declared.Counts.{Counts}
use Rattle.flow.specs.Sheet.{kind_words, span_words, outer_end}
use Rattle.flow.specs.Locals.{locals}
use Rattle.flow.specs.Admitted.{AdmittedSheet}
use Rattle.flow.specs.Graph.{graph}
use Rattle.flow.specs.Reachable.{reachable, counts_of, Parallel, Flagged}
use Rattle.flow.specs.Refusals.{Verdict}

-- "cells past the written entries keep their content"
abbrev pub overlay : List ℕ → List ℕ → List ℕ
overlay written old = written ++ drop (length written) old

-- the parts of an admitted sheet
pub record PartsOf (S ks ss : List ℕ) (e : ℕ) : Type 0 where
  pub kinds : ks ≡ kind_words S
  pub spans : ss ≡ span_words S
  pub outer : e ≡ outer_end S
  pub admitted : AdmittedSheet S

-- a chart's columns: "per node, both successors, code start and a reachable flag 0 or 1; per code its span and node; per name its span, node and scope end"
abbrev pub NodeColumns : Type 0
NodeColumns = record { first : List ℕ; second : List ℕ; start : List ℕ; reachable : List ℕ }

abbrev pub CodeColumns : Type 0
CodeColumns = record { span : List ℕ; node : List ℕ }

abbrev pub NameColumns : Type 0
NameColumns = record { span : List ℕ; node : List ℕ; scope_end : List ℕ }

abbrev pub Columns : Type 0
Columns = record { nodes : NodeColumns; codes : CodeColumns; names : NameColumns }

abbrev pub columns : List ℕ → List ℕ → List ℕ → List ℕ → List ℕ → List ℕ → List ℕ → List ℕ → List ℕ → Columns
columns f s t r cs cn ns nn ne =
    record {
      nodes = record { first = f; second = s; start = t; reachable = r };
      codes = record { span = cs; node = cn };
      names = record { span = ns; node = nn; scope_end = ne };
    }

-- the columns that a call is lent: what they held before and what they hold after
abbrev pub Lent : Type 0
Lent = record { before : Columns; after : Columns }

abbrev pub lent : Column → Column → Column → Column → Column → Column → Column → Column → Column → Lent
lent f s t r cs cn ns nn ne =
    record {
      before = columns (held f) (held s) (held t) (held r) (held cs) (held cn) (held ns) (held nn) (held ne);
      after = columns (left f) (left s) (left t) (left r) (left cs) (left cn) (left ns) (left nn) (left ne);
    }

-- the lengths of the columns for nodes, codes and names
abbrev pub node_lengths : Columns → List ℕ
node_lengths x = length x.nodes.first ∷ length x.nodes.second ∷ length x.nodes.start ∷ length x.nodes.reachable ∷ []

abbrev pub code_lengths : Columns → List ℕ
code_lengths x = length x.codes.span ∷ length x.codes.node ∷ []

abbrev pub name_lengths : Columns → List ℕ
name_lengths x = length x.names.span ∷ length x.names.node ∷ length x.names.scope_end ∷ []

-- 1: "columns lent below 1,600 nodes, 1,024 codes, 1,024 locals"
abbrev pub chart_short : Columns → Bool
chart_short x = chart_too_short (node_lengths x) (code_lengths x) (name_lengths x)

-- wide enough for 01's limits
pub record Wide (x : Columns) : Type 0 where
  pub first : 1600 ≤ length x.nodes.first
  pub second : 1600 ≤ length x.nodes.second
  pub start : 1600 ≤ length x.nodes.start
  pub reachable : 1600 ≤ length x.nodes.reachable
  pub code_span : 1024 ≤ length x.codes.span
  pub code_node : 1024 ≤ length x.codes.node
  pub name_span : 1024 ≤ length x.names.span
  pub node_of_name : 1024 ≤ length x.names.node
  pub name_end : 1024 ≤ length x.names.scope_end

-- what "Chart writes", over what stood there
unfoldable pub chart_of : List ℕ → Columns → Columns
chart_of S x =
    columns (overlay (graph S).nodes.first x.nodes.first) (overlay (graph S).nodes.second x.nodes.second) (overlay (graph S).nodes.start x.nodes.start) (overlay (reachable (graph S)) x.nodes.reachable)
    (overlay (graph S).codes.span x.codes.span) (overlay (graph S).codes.node x.codes.node)
    (overlay (graph S).names.span x.names.span) (overlay (graph S).names.node x.names.node) (overlay (graph S).names.scope_end x.names.scope_end)

-- "and returns the three counts"; parallel columns are equally long, and codes are at nodes
pub record Charted (S : List ℕ) (r : Counts) (l : Lent) : Type 0 where
  pub counts : r ≡ counts_of (graph S)
  pub written : l.after ≡ chart_of S l.before
  pub parallel : Parallel (graph S)
  pub few : r.nodes ≤ 1600
  pub code_nodes : (i : ℕ) → i < r.codes → get_or (graph S).codes.node i 0 < r.nodes

-- the same of the sheet with these parts
abbrev pub ChartedOf : List ℕ → List ℕ → ℕ → Counts → Lent → Type 0
ChartedOf kinds spans e r l = (S : List ℕ) → PartsOf S kinds spans e → Charted S r l

-- "A refusal writes nothing."
abbrev pub chart_leaves : Verdict → List ℕ → Columns → Columns
chart_leaves v S x = elim v [ Err r ↦ x | Ok tt ↦ chart_of S x ]

-- what the columns of an accepted call show: those of one count are equally long, there is one local a name, and each node's flag is 1 exactly where a path from the entry leads
pub record Shown (S : List ℕ) (y : Columns) : Type 0 where
  pub parallel : Parallel (graph S)
  pub local_names : length (locals S) ≡ length (graph S).names.span
  pub flagged : Flagged (graph S) y.nodes.reachable
