-- `cfg_steps::LentGraph::connect_if` meets its contract: the edge, where it is wanted, and the same node current.
-- Assumes nothing.
use Rattle.cfg_steps.proofs.Loops.{connected_did}
use Rattle.cfg_steps.proofs.LentGraph.connect_if.Goals as goal

pub returns-clause-built : goal.returns-clause-built
returns-clause-built c = λ ks ok. connected_did ks _ _ _ _ _ ok c.args.from c.args.to c.args.wanted _ (rw c.then_some.ensures at c.connect.ensures) c.requires.from_lt_nodes.0 c.requires.from_lt_nodes.1
