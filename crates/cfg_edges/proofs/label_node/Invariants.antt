-- `cfg_edges::label_node` meets its contract: from the last label on, the first of that name.
-- Assumes nothing.
use mathlib.Core.Path.{◌≡◌}
use lib.ListN.{length}
use Rattle.flow.specs.Graph.{label_node}
use Rattle.cfg_edges.specs.Halves.{label_list}
use Rattle.cfg_edges.proofs.label_node.Given as goal

abbrev pub invariant-loop-k : goal.invariant-loop-k
invariant-loop-k l = label_node l.name (label_list (length l.labels) l.labels) ≡ label_node l.name (label_list l.k l.labels)
