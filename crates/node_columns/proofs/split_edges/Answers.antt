-- `node_columns::split_edges` meets its contract: at the loop's head the first i words are taken apart.
-- Assumes nothing.
use mathlib.Core.Path.{refl}
use native.Mathlib.Omega.{arith}
use Rattle.node_columns.proofs.Written.{turn}
use Rattle.node_columns.proofs.split_edges.Goals as goal

pub loop-i-preserved : goal.loop-i-preserved
loop-i-preserved c = let was = c.loop-i.invariant in record {
  first_so_far = turn was.first_so_far was.first_so_far (omega arith) (omega arith) refl;
  second_so_far = turn was.first_so_far was.second_so_far (omega arith) (omega arith) refl;
}
