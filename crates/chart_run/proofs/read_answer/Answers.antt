-- `chart_run::read_answer` meets its contract: the place among the chart's codes, and the flag of its node.
-- Assumes nothing.
use native.Mathlib.Omega.{arith}
use Rattle.flow.specs.Graph.{graph}
use Rattle.flow.specs.Admitted.{AdmittedSheet}
use Rattle.flow.proofs.Admission.{admitted}
use Rattle.chart_run.proofs.Running.{spans_cut, nodes_cut, codes_rise, place_is, place_in, place_long, flags_are, ran}
use Rattle.chart_run.proofs.read_answer.Goals as goal
use Rattle.chart_run.proofs.read_answer.Goals.{Start}

facts : (c : Start) → AdmittedSheet c.args.sheet.words.now
facts c = admitted c.args.sheet.words.now c.args.sheet.admitted

pub slice_bounds-code_span-end : goal.slice_bounds-code_span-end
slice_bounds-code_span-end c = spans_cut (facts (goal.at.slice_bounds-code_span-end c).Start) c.requires.1

pub slice_bounds-code_node-end : goal.slice_bounds-code_node-end
slice_bounds-code_node-end c = nodes_cut (facts (goal.at.slice_bounds-code_node-end c).Start) c.requires.1

pub node_at-node-requires-clause-codes_in_bounds : goal.node_at-node-requires-clause-codes_in_bounds
node_at-node-requires-clause-codes_in_bounds c =
    let a = facts (goal.at.node_at-node-requires-clause-codes_in_bounds c).Start in
    omega (arith, spans_cut a c.requires.1, nodes_cut a c.requires.1)

pub node_at-node-requires-clause-rising : goal.node_at-node-requires-clause-rising
node_at-node-requires-clause-rising c = codes_rise (facts (goal.at.node_at-node-requires-clause-rising c).Start) c.requires.1

pub can_run-can_run-requires : goal.can_run-can_run-requires
can_run-can_run-requires c =
    let a = facts (goal.at.can_run-can_run-requires c).Start in
    place_long a c.requires.1 c.args.offset (place_is a c.requires.1 c.args.offset c.node_at-node.ensures)

pub returns : goal.returns
returns c =
    let a = facts (goal.at.returns c).Start in
    let h = c.requires.1 in
    let S = c.args.sheet.words.now in
    let p = place_is a h c.args.offset c.node_at-node.ensures in
    ran S c.args.offset p (c.can_run-can_run.ensures (graph S) (flags_are a h) (place_in a h c.args.offset p))
