-- `cfg_steps::SheetBuilder::loop_end` meets its contract: the head goes on to after unless its condition is true.
-- Assumes nothing.
use mathlib.Core.Path.{refl, ap, ◌∙◌}
use mathlib.Core.Bool.{cond}
use mathlib.Core.List.{[]}
use native.Mathlib.Omega.{arith}
use Prim.Native.Nat.{◌+◌}
use Rattle.std.specs.Prelude.{Some}
use Rattle.flow.specs.Graph.{set_current, connect}
use Rattle.cfg_steps.proofs.Simple.{did_as}
use Rattle.cfg_steps.proofs.Ops.{did_trans}
use Rattle.cfg_steps.proofs.Loops.{move_did, fails_edge}
use Rattle.cfg_steps.proofs.SheetBuilder.loop_end.Goals as goal

pub returns-clause-built : goal.returns-clause-built
returns-clause-built c =
    λ ks ok.
    let d = c.connect_if.ensures.built ks ok in
    did_as refl (λ ss g. ap (set_current (c.args.head + 1)) (ap (λ b. cond b (connect c.args.head (c.args.head + 1) g) g) c.may_fail.ensures ∙ fails_edge c.args.truth c.args.head (c.args.head + 1) g))
    (did_trans d (move_did ks _ _ _ _ _ d.good (Some (c.args.head + 1)) (omega (arith, d.nodes))))

pub invariant_of-self : goal.invariant_of-self
invariant_of-self c =
    let d = c.connect_if.ensures.built [] c.args.self.now.good in
    record { good = (move_did [] _ _ _ _ _ d.good (Some (c.args.head + 1)) (omega (arith, d.nodes))).good }
