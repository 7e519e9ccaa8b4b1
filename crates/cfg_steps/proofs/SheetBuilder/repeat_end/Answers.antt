-- `cfg_steps::SheetBuilder::repeat_end` meets its contract: UNTIL's code at the condition, which goes on as its truth allows.
-- Assumes nothing.
use mathlib.Core.Path.{refl}
use native.Mathlib.Omega.{arith}
use Prim.Native.Nat.{◌+◌}
use mathlib.Core.List.{[]}
use lib.ListN.{get_or}
use Rattle.std.specs.Prelude.{Some}
use Rattle.cfg_steps.proofs.Simple.{did_as}
use Rattle.cfg_steps.proofs.Ops.{did_trans}
use Rattle.cfg_steps.proofs.Loops.{move_did, repeat_ends}
use Rattle.cfg_steps.proofs.SheetBuilder.repeat_end.Goals as goal

pub returns-clause-built : goal.returns-clause-built
returns-clause-built c =
    λ ks ok q.
    let d = c.record_code.ensures.does_code ks ok q in
    let e = c.connect_if.ensures.built ks d.good in
    let f = c.connect_if-2.ensures.built ks e.good in
    let m = move_did ks _ _ _ _ _ f.good (Some (c.args.body + 2)) (omega (arith, d.nodes, e.nodes, f.nodes)) in
    did_as refl (λ ss g. repeat_ends c.args.truth c.args.body (get_or ss c.args.j 0) g c.may_fail.ensures c.may_hold.ensures) (did_trans (did_trans (did_trans d e) f) m)

pub connect_if-requires-2-clause-from_lt_nodes : goal.connect_if-requires-2-clause-from_lt_nodes
connect_if-requires-2-clause-from_lt_nodes c =
    let e = c.connect_if.ensures.built [] (c.record_code.ensures.good c.args.self.now.good) in
    (omega (arith, c.record_code.ensures.nodes_value.0, e.nodes), omega (arith, c.record_code.ensures.nodes_value.0, e.nodes))

pub invariant_of-self : goal.invariant_of-self
invariant_of-self c =
    let e = c.connect_if.ensures.built [] (c.record_code.ensures.good c.args.self.now.good) in
    let f = c.connect_if-2.ensures.built [] e.good in
    record { good = (move_did [] _ _ _ _ _ f.good (Some (c.args.body + 2)) (omega (arith, c.record_code.ensures.nodes_value.0, e.nodes, f.nodes))).good }
