-- `chart::write_chart` meets its contract: each column is what the definition gives, over what stood there before.
-- Assumes nothing.
use mathlib.Core.Path.{◌≡◌, ap, ◌∙◌}
use lib.ListN.{length}
use lib.Seq.{length-take-le, take_at}
use native.Mathlib.Omega.{arith}
use Rattle.chart.proofs.Laid.{as_many, build_asks, codes_ask, names_ask, charted}
use Rattle.chart.proofs.write_chart.Goals as goal
use Rattle.chart.proofs.write_chart.Goals.{After-split_nodes}

pub of_block-built-requires : goal.of_block-built-requires
of_block-built-requires c = build_asks _ _ _ _ c.requires.by_index.1 c.requires.wide.first c.requires.wide.code_node c.requires.wide.node_of_name c.requires.wide.reachable

-- the starts are cut to the nodes
starts_long : (c : After-split_nodes) → length c.split_nodes.new.start ≡ c.of_block-built.result.nodes
starts_long c =
    let few = (c.of_block-built.ensures _ (as_many c.requires.by_index.1)).good.nodes in
    c.split_nodes.auto.start ∙ length-take-le c.of_block-built.result.nodes c.args.chart.now.start.now (omega (arith, few, c.requires.wide.start))

pub split_codes-requires-clause-by_index : goal.split_codes-requires-clause-by_index
split_codes-requires-clause-by_index c =
    let long = starts_long (goal.at.split_codes-requires-clause-by_index c).After-split_nodes in
    codes_ask c.requires.by_index.1 (c.of_block-built.ensures _ (as_many c.requires.by_index.1)) _ (ap length (take_at _ _ _ long) ∙ long)

pub split_names-requires-clause-by_index : goal.split_names-requires-clause-by_index
split_names-requires-clause-by_index c = names_ask c.requires.by_index.1 (c.of_block-built.ensures _ (as_many c.requires.by_index.1))

pub returns-clause-charted : goal.returns-clause-charted
returns-clause-charted c =
    λ S p.
    let b = c.args.chart.now in
    let n = c.split_nodes.ensures in
    let k = c.split_codes.ensures in
    let m = c.split_names.ensures in
    charted p (c.of_block-built.ensures _ (as_many p)) b.second.now b.start.now c.split_nodes.new.start b.code_span.now b.name_span.now b.name_end.now (starts_long (goal.at.returns-clause-charted c).After-split_nodes)
    n.first_after n.second_after n.flags k.code_node_after k.code_span_after k.start_after m.name_node_after m.name_span_after m.name_end_after
