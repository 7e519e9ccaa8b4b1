-- What the graph of a sheet records: the spans of its tree's codes and names, each in the order of the source, and as many nodes and scope ends.
-- Assumes nothing.
use Prim.Native.Nat.{ℕ}
use mathlib.Core.Path.{◌≡◌, refl}
use mathlib.Core.Bool.{true, false}
use mathlib.Core.List.{List, []}
use native.Mathlib.Omega.{arith}
use lib.ListN.{length, length-append}
use Rattle.flow.specs.Sheet.{items}
use Rattle.flow.specs.Tree.{tree}
use Rattle.flow.specs.Graph.{Codes, Names, new_node, connect, set_current, record_code, set_start, declare, start_graph, graph}
use Rattle.flow.proofs.Sources.{of_block, code_word, name_word}
use Rattle.flow.proofs.Builds.{Kept, nothing_known, whole}

pub record Columns (codes : Codes) (names : Names) (cs ns : List ℕ) : Type 0 where
  pub code_spans : codes.span ≡ cs
  pub code_nodes : length codes.node ≡ length cs
  pub name_spans : names.span ≡ ns
  pub name_nodes : length names.node ≡ length ns
  pub name_ends : length names.scope_end ≡ length ns

columns_kept : Kept true false (λ n cs ns g. Columns g.codes g.names cs ns)
unfolding new_node connect set_current record_code set_start declare
columns_kept = record {
  new = λ r. r;
  edge = λ a b h r. r;
  move = λ v r. r;
  begin = λ v p r. r;
  span = λ s v h r. record {
    code_spans = rw r.code_spans;
    code_nodes = simp length-append (omega (arith, r.code_nodes));
    name_spans = r.name_spans;
    name_nodes = r.name_nodes;
    name_ends = r.name_ends;
  };
  name = λ s st h r. record {
    code_spans = r.code_spans;
    code_nodes = r.code_nodes;
    name_spans = rw r.name_spans;
    name_nodes = simp length-append (omega (arith, r.name_nodes));
    name_ends = simp length-append (omega (arith, r.name_ends));
  };
}

pub graph_columns : (ws : List ℕ) → Columns (graph ws).codes (graph ws).names (of_block true code_word (tree (items ws)) []) (of_block false name_word (tree (items ws)) [])
unfolding start_graph new_node
graph_columns ws = (whole columns_kept ws nothing_known (record { code_spans = refl; code_nodes = refl; name_spans = refl; name_nodes = refl; name_ends = refl })).holds
