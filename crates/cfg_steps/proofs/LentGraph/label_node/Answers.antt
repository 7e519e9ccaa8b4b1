-- `cfg_steps::LentGraph::label_node` meets its contract: the labels in force are those at the column's begin.
-- Assumes nothing.
use mathlib.Core.Path.{ap, ◌∙◌}
use Rattle.flow.specs.Graph.{label_node}
use Rattle.cfg_steps.proofs.Simple.{cut_labels}
use Rattle.cfg_steps.proofs.LentGraph.label_node.Goals as goal

pub returns : goal.returns
returns c = c.label_node.ensures ∙ ap (label_node c.args.name) (cut_labels _ _ c.requires)
