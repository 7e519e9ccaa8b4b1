-- `cfg_steps::LentGraph::new_node` meets its contract: the step `new_node` on the graph that the columns stand for.
-- Assumes nothing.
use Rattle.cfg_steps.proofs.Ops.{new_did}
use Rattle.cfg_steps.proofs.LentGraph.new_node.Goals as goal

pub returns-clause-built : goal.returns-clause-built
returns-clause-built c = λ ks ok. rw (c.push.ensures.0, c.push.ensures.1) (new_did ks _ _ _ _ _ ok c.requires.1)
