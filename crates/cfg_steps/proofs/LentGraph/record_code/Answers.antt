-- `cfg_steps::LentGraph::record_code` meets its contract: the step `record_code` on the graph that the columns stand for.
-- Assumes nothing.
use Rattle.cfg_steps.proofs.Ops.{record_did}
use Rattle.cfg_steps.proofs.LentGraph.record_code.Goals as goal

pub returns-clause-does_code : goal.returns-clause-does_code
returns-clause-does_code c = λ ks ok q. rw (c.push.ensures.0, c.push.ensures.1) (record_did ks _ _ _ _ _ ok _ _ c.requires.i_lt_item.0 c.requires.codes_in_bounds.1 c.requires.i_lt_item.1 q)
