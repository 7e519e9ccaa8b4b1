-- `cfg_steps::SheetBuilder::label_stmt` meets its contract: a named label is stood at, and name 0 does nothing.
-- Assumes nothing.
use mathlib.Core.Path.{refl, sym, ◌∙◌}
use Rattle.cfg_steps.proofs.Simple.{did_none, did_as, label_below, labelled_none, labelled_lost, labelled_at}
use Rattle.cfg_steps.proofs.Ops.{did_trans}
use Rattle.cfg_steps.proofs.SheetBuilder.label_stmt.Goals as goal

pub returns-then-name-eq0-clause-built : goal.returns-then-name-eq0-clause-built
returns-then-name-eq0-clause-built c = λ ks ok q. did_as refl (λ ss g. labelled_none _ _ _ g c.if-name-eq0.true) (did_none ks _ _ ok)

pub returns-in_default-clause-built : goal.returns-in_default-clause-built
returns-in_default-clause-built c = λ ks ok q. did_as refl (λ ss g. labelled_lost _ _ _ g (sym c.label_node.ensures ∙ c.in_default.is)) (did_none ks _ _ ok)

pub record_code-requires-clause-i_lt_item : goal.record_code-requires-clause-i_lt_item
record_code-requires-clause-i_lt_item c = (c.requires.codes_lt_item.1, label_below c.args.name c.args.self.now.good (sym c.label_node.ensures ∙ c.in-Some.is), c.args.self.now.good.nodes, c.args.self.now.good.items)

pub advance_to-requires-clause-node_lt_nodes : goal.advance_to-requires-clause-node_lt_nodes
advance_to-requires-clause-node_lt_nodes c = rw c.record_code.ensures.nodes_value.0 (label_below c.args.name c.args.self.now.good (sym c.label_node.ensures ∙ c.in-Some.is))

pub returns-clause-built : goal.returns-clause-built
returns-clause-built c =
    λ ks ok q.
    let d = c.record_code.ensures.does_code ks ok q in
    did_as refl (λ ss g. labelled_at _ _ _ g _ c.if-name-eq0.false (sym c.label_node.ensures ∙ c.in-Some.is)) (did_trans d (c.advance_to.ensures.built ks d.good))
