-- `cfg_steps::SheetBuilder::repeat_head` meets its contract: the nodes body, condition and after, and the move to the body.
-- Assumes nothing.
use native.Mathlib.Omega.{arith}
use mathlib.Core.List.{[]}
use Rattle.cfg_steps.proofs.Ops.{did_trans}
use Rattle.cfg_steps.proofs.SheetBuilder.repeat_head.Goals as goal

pub new_node-requires-2 : goal.new_node-requires-2
new_node-requires-2 c =
    let d = c.new_node.ensures.built [] c.args.self.now.good in (omega (arith, d.good.wide_edges, d.nodes), omega (arith, d.nodes))

pub new_node-requires-3 : goal.new_node-requires-3
new_node-requires-3 c = let d = c.new_node.ensures.built [] c.args.self.now.good in let e = c.new_node-2.ensures.built [] d.good in (omega (arith, e.good.wide_edges, d.nodes, e.nodes), omega (arith, d.nodes, e.nodes))

pub advance_to-requires-clause-node_lt_nodes : goal.advance_to-requires-clause-node_lt_nodes
advance_to-requires-clause-node_lt_nodes c =
    let d = c.new_node.ensures.built [] c.args.self.now.good in
    let e = c.new_node-2.ensures.built [] d.good in
    let f = c.new_node-3.ensures.built [] e.good in
    omega (arith, d.nodes, e.nodes, f.nodes)

pub returns-clause-built : goal.returns-clause-built
returns-clause-built c =
    λ ks ok.
    let d = c.new_node.ensures.built ks ok in
    let e = c.new_node-2.ensures.built ks d.good in
    let f = c.new_node-3.ensures.built ks e.good in
    did_trans (did_trans (did_trans d e) f) (c.advance_to.ensures.built ks f.good)
