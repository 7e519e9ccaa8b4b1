-- `cfg_steps::LentGraph::code` meets its contract: the step `code` on the graph that the columns stand for.
-- Assumes nothing.
use Rattle.cfg_steps.proofs.Ops.{full_code_did}
use Rattle.cfg_steps.proofs.LentGraph.code.Goals as goal

pub returns-clause-by_index : goal.returns-clause-by_index
returns-clause-by_index c =
    λ ks ok q.
    let e = rw c.push-2.ensures.0 at c.connect.ensures in
    rw (c.push.ensures.0, c.push.ensures.1, c.push-2.ensures.1) (full_code_did ks _ _ _ _ _ _ ok _ c.requires.codes_in_bounds.2 c.requires.nodes_in_bounds.1 c.requires.codes_in_bounds.1 q e)
