-- `cfg_steps::LentGraph::new_label` meets its contract: a node for a label, which comes into force.
-- Assumes nothing.
use Rattle.cfg_steps.proofs.Scan.{label_entered}
use Rattle.cfg_steps.proofs.LentGraph.new_label.Goals as goal

pub returns-clause-entered : goal.returns-clause-entered
returns-clause-entered c = λ ks ok. rw (c.push.ensures.0, c.push.ensures.1, c.push-2.ensures.0, c.push-2.ensures.1) (label_entered ks _ _ _ _ _ _ ok c.requires.nodes_in_bounds.1 c.requires.labels_in_bounds.1)
