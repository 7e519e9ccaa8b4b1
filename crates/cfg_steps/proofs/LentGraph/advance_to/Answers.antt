-- `cfg_steps::LentGraph::advance_to` meets its contract: the step `advance_to` on the graph that the columns stand for.
-- Assumes nothing.
use Rattle.cfg_steps.proofs.Ops.{advance_did}
use Rattle.cfg_steps.proofs.LentGraph.advance_to.Goals as goal

pub returns-clause-built : goal.returns-clause-built
returns-clause-built c = λ ks ok. advance_did ks _ _ _ _ _ ok _ _ c.connect.ensures c.requires.node_lt_nodes
