-- `node_columns::split_edges` meets its contract: at the loop's head the first i words are taken apart.
-- Assumes nothing.
use Rattle.cfg_edges.specs.Halves.{lo, hi}
use Rattle.node_columns.proofs.Written.{Written}
use Rattle.node_columns.proofs.split_edges.Given as goal

abbrev pub invariant-loop-i : goal.invariant-loop-i
invariant-loop-i l = record {
  first_so_far : Written lo l.i l.initial.first l.initial.first l.first;
  second_so_far : Written hi l.i l.initial.first l.initial.second l.second;
}
