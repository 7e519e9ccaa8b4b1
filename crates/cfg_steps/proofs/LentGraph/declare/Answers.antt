-- `cfg_steps::LentGraph::declare` meets its contract: a name's word holds the current node, the item and the scope end.
-- Assumes nothing.
use native.Mathlib.Omega.{arith}
use Rattle.cfg_steps.proofs.Ops.{declare_did}
use Rattle.cfg_steps.proofs.LentGraph.declare.Goals as goal

pub returns-clause-built : goal.returns-clause-built
returns-clause-built c = λ ks ok. rw (c.push.ensures.0, c.push.ensures.1, c.node_in_name-node.ensures) (declare_did ks _ _ _ _ _ ok _ (omega arith) c.requires.i_lt_item.0 c.requires.names_in_bounds.1)
