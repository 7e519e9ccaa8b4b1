-- `cfg_steps::SheetBuilder::code_and_after` meets its contract: a code node, then a node after it.
-- Assumes nothing.
use Rattle.cfg_steps.proofs.Ops.{did_trans}
use Rattle.cfg_steps.proofs.SheetBuilder.code_and_after.Goals as goal

pub returns-clause-built : goal.returns-clause-built
returns-clause-built c = λ ks ok q. let d = c.code.ensures.by_index ks ok q in did_trans d (c.new_node.ensures.built ks d.good)
