-- `cfg_steps::SheetBuilder::arm_test` meets its contract: ELSEIF's code node is reached from the test before.
-- Assumes nothing.
use Rattle.std.specs.Prelude.{Some}
use Rattle.cfg_steps.proofs.Ops.{did_trans}
use Rattle.cfg_steps.proofs.Loops.{move_did}
use Rattle.cfg_steps.proofs.SheetBuilder.arm_test.Goals as goal

pub returns-clause-built : goal.returns-clause-built
returns-clause-built c = λ ks ok q. let d = move_did ks _ _ _ _ _ ok (Some c.args.test) c.requires.nodes_bound.3 in did_trans d (c.code.ensures.by_index ks d.good q)
