-- `cfg_edges::label_node` meets its contract: from the last label on, the first of that name.
-- Assumes nothing.
use mathlib.Core.Path.{◌≡◌, sym, ap, ◌∙◌}
use borrow.Author.Tests.{eq-eqb, ne_eqb}
use native.Mathlib.Omega.{arith}
use Rattle.flow.specs.Graph.{label_node}
use Rattle.cfg_edges.specs.Halves.{label_list}
use Rattle.cfg_edges.proofs.Lookup.{look_step, look_none}
use Rattle.cfg_edges.proofs.label_node.Goals as goal

pub returns-then-w-name : goal.returns-then-w-name
returns-then-w-name c = sym (c.loop-k.invariant ∙ look_step _ _ _ c.loop-k-test.true ∙ simp (eq-eqb _ _ (sym c.if-w-name.true)))

pub loop-k-preserved : goal.loop-k-preserved
loop-k-preserved c = c.loop-k.invariant ∙ look_step _ _ _ c.loop-k-test.true ∙ simp (ne_eqb _ _ (λ e. c.if-w-name.false (sym e)))

pub returns : goal.returns
returns c =
    let z : c.loop-k.k ≡ 0 = omega arith in
    sym (c.loop-k.invariant ∙ ap (λ k. label_node c.args.name (label_list k c.args.labels.now)) z ∙ look_none _ _)
