-- `name_columns::split_names` meets its contract: at the loop's head the first k words are taken apart.
-- Assumes nothing.
use Prim.Native.Nat.{ℕ}
use mathlib.Core.List.{List}
use lib.ListN.{get_or}
use Rattle.cfg_edges.specs.Halves.{hi}
use Rattle.cfg_steps.specs.Columns.{node_of_name, name_item}
use Rattle.node_columns.proofs.Written.{Written}
use Rattle.name_columns.proofs.split_names.Given as goal

abbrev pub span : List ℕ → ℕ → ℕ
span ss w = get_or ss (name_item w) 0

abbrev pub invariant-loop-k : goal.invariant-loop-k
invariant-loop-k l = record {
  nodes : Written node_of_name l.k l.initial.name_node l.initial.name_node l.name_node;
  spans : Written (span l.spans) l.k l.initial.name_node l.initial.name_span l.name_span;
  ends : Written hi l.k l.initial.name_node l.initial.name_end l.name_end;
}
