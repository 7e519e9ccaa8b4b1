-- `cfg_steps::LentGraph::close_into` meets its contract: the step `close_into` on the graph that the columns stand for.
-- Assumes nothing.
use Rattle.cfg_steps.proofs.Ops.{close_did}
use Rattle.cfg_steps.proofs.LentGraph.close_into.Goals as goal

pub returns-clause-built : goal.returns-clause-built
returns-clause-built c = λ ks ok. close_did ks _ _ _ _ _ ok _ _ c.connect.ensures c.requires.target_lt_nodes
