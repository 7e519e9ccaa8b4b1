-- `cfg_steps::SheetBuilder::while_head` meets its contract: a code node and the node after, and nothing current where the condition is false.
-- Assumes nothing.
use mathlib.Core.Path.{refl, sym, ◌∙◌}
use Rattle.std.specs.Prelude.{None}
use Rattle.cfg_steps.proofs.Ops.{did_trans}
use Rattle.cfg_steps.proofs.Simple.{did_as}
use Rattle.cfg_steps.proofs.Loops.{move_did, enter_never}
use Rattle.cfg_steps.proofs.SheetBuilder.while_head.Goals as goal

pub returns-then-not-may_hold-clause-built : goal.returns-then-not-may_hold-clause-built
returns-then-not-may_hold-clause-built c = λ ks ok q. let d = c.code_and_after.ensures.built ks ok q in did_as refl (λ ss g. enter_never c.args.truth _ (sym c.may_hold.ensures ∙ c.if-not-may_hold.true)) (did_trans d (move_did ks _ _ _ _ _ d.good None tt))
