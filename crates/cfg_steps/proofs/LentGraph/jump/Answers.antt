-- `cfg_steps::LentGraph::jump` meets its contract: a code node, closed into the target.
-- Assumes nothing.
use Rattle.cfg_steps.proofs.Ops.{jump_did}
use Rattle.cfg_steps.proofs.LentGraph.jump.Goals as goal

pub returns-clause-built : goal.returns-clause-built
returns-clause-built c = λ ks ok q. let d = c.code.ensures.by_index ks ok q in jump_did _ _ _ _ _ _ d (c.close_into.ensures.built ks d.good)
