-- `name_columns::split_names` meets its contract: at the loop's head the first k words are taken apart.
-- Assumes nothing.
use mathlib.Core.Path.{refl}
use native.Mathlib.Omega.{arith}
use Rattle.node_columns.proofs.Written.{turn}
use Rattle.name_columns.proofs.split_names.Goals as goal

pub loop-k-preserved : goal.loop-k-preserved
loop-k-preserved c = let was = c.loop-k.invariant in record {
  nodes = turn was.nodes was.nodes (omega arith) (omega arith) (rw c.node_of_name.ensures);
  spans = turn was.nodes was.spans (omega arith) (omega arith) refl;
  ends = turn was.nodes was.ends (omega arith) (omega arith) refl;
}
