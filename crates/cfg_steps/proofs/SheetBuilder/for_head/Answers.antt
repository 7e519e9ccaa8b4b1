-- `cfg_steps::SheetBuilder::for_head` meets its contract: a code node, then the nodes head and after.
-- Assumes nothing.
use mathlib.Core.Path.{refl}
use native.Mathlib.Omega.{arith}
use mathlib.Core.List.{[]}
use lib.ListN.{get_or}
use Rattle.flow.specs.Graph.{new_node, advance_to, code}
use Rattle.cfg_steps.proofs.Ops.{did_trans}
use Rattle.cfg_steps.proofs.Loops.{did_at}
use Rattle.cfg_steps.proofs.SheetBuilder.for_head.Goals as goal

pub advance_to-requires-clause-node_lt_nodes : goal.advance_to-requires-clause-node_lt_nodes
advance_to-requires-clause-node_lt_nodes c =
    let d = c.code_and_after.ensures.built [] c.args.self.now.good refl in
    omega (arith, d.nodes)

pub new_node-requires : goal.new_node-requires
new_node-requires c = let d = c.code_and_after.ensures.built [] c.args.self.now.good refl in let e = c.advance_to.ensures.built [] d.good in (omega (arith, e.good.wide_edges, d.nodes, e.nodes), omega (arith, d.nodes, e.nodes))

pub returns-clause-built : goal.returns-clause-built
returns-clause-built c =
    λ ks ok q.
    let d = c.code_and_after.ensures.built ks ok q in
    let e = c.advance_to.ensures.built ks d.good in
    did_at (λ h ss g. new_node (advance_to h (new_node (code (get_or ss c.args.i 0) g)))) c.for_head-head.ensures
    (did_trans (did_trans d e) (c.new_node.ensures.built ks e.good))
