-- `cfg_steps::SheetBuilder::goto_stmt` meets its contract: a jump to the label's node, or to Break where none is found.
-- Assumes nothing.
use native.Mathlib.Omega.{arith}
use mathlib.Core.Path.{sym, ◌∙◌}
use Rattle.cfg_steps.proofs.Simple.{label_below}
use Rattle.cfg_steps.proofs.SheetBuilder.goto_stmt.Goals as goal

pub jump-requires-2-clause-nodes_in_bounds : goal.jump-requires-2-clause-nodes_in_bounds
jump-requires-2-clause-nodes_in_bounds c =
    let ok = c.args.self.now.good in
    (omega (arith, ok.wide_edges), c.requires.nodes_bound.0, label_below c.args.name ok (sym c.label_node.ensures ∙ c.in-Some.is))
