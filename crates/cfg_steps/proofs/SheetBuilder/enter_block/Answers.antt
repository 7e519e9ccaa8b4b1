-- `cfg_steps::SheetBuilder::enter_block` meets its contract: the labels so far have their nodes.
-- Assumes nothing.
use Prim.Native.Nat.{ℕ, ◌+◌}
use mathlib.Core.Path.{◌≡◌, refl, sym, ap, subst, ◌∙◌}
use mathlib.Core.List.{List, [], ◌∷◌, ◌++◌, append_assoc, append-nil}
use native.Mathlib.Omega.{arith}
use lib.ListN.{length, drop, length-append}
use Rattle.blocks.specs.Open.{labels_at, labels_in}
use Rattle.blocks.proofs.Scan.{labels_law}
use Rattle.cfg_steps.specs.Columns.{place, columns, Entered}
use Rattle.cfg_steps.proofs.Scan.{entered_none, entered_trans, fit_from, small_of}
use Rattle.cfg_steps.proofs.SheetBuilder.enter_block.Goals as goal
use Rattle.cfg_steps.proofs.SheetBuilder.enter_block.Goals.{After-into_iter-name-iterator}

-- what the iterator gives are the labels of the block
scan : (c : After-into_iter-name-iterator) → c.into_iter-name-iterator.result ≡ labels_in (drop c.args.self.now.graph.now.at.item c.args.self.now.graph.now.kinds.now) 0
scan c = c.into_iter-name-iterator.ensures.into_iter_gives ∙ c.block_labels-name-items.ensures.scan

gives : (c : After-into_iter-name-iterator) (ss : List ℕ) → length ss ≡ length c.args.self.now.graph.now.kinds.now → c.into_iter-name-iterator.result ≡ labels_at c.args.self.now.graph.now.kinds.now ss c.args.self.now.graph.now.at.item
gives c ss e = scan c ∙ labels_law c.args.self.now.graph.now.kinds.now ss e c.args.self.now.graph.now.at.item

pub loop-name-init : goal.loop-name-init
loop-name-init c = record { can = tt; finite = tt; left = refl; kept = ((refl, refl, refl, refl, refl), refl); entered = λ ks ok. entered_none ks _ _ ok }

pub new_label-requires : goal.new_label-requires
new_label-requires c =
    let d = (goal.at.new_label-requires c).After-into_iter-name-iterator in
    let ks = c.args.self.now.graph.now.kinds.now in
    let n = c.loop-name.invariant.entered ks c.args.self.now.good in
    let all = ap length (sym c.loop-name.invariant.left ∙ gives d ks refl) in
    let room : length c.loop-name.yielded + length c.loop-name.name-iterator ≡ length (labels_at ks ks c.args.self.now.graph.now.at.item) = omega (arith, all, length-append c.loop-name.yielded c.loop-name.name-iterator) in
    record {
      labels_in_bounds = (omega (arith, n.good.labels, n.good.nodes, n.good.wide_labels, n.nodes, room, ap length c.in-Some.ensures.steps, c.requires.room ks refl), small_of _ _ _ _ (fit_from _ c.args.self.now.graph.now.at.item c.requires.item_in_bounds.2) (sym (scan d) ∙ c.loop-name.invariant.left ∙ ap (λ (z : List ℕ). c.loop-name.yielded ++ z) c.in-Some.ensures.steps));
      nodes_in_bounds = (omega (arith, n.good.wide_edges, n.nodes, room, ap length c.in-Some.ensures.steps, c.requires.room ks refl), omega (arith, n.nodes, room, ap length c.in-Some.ensures.steps, c.requires.room ks refl));
    }

pub loop-name-preserved : goal.loop-name-preserved
loop-name-preserved c =
    let i = c.loop-name.invariant.kept.0 in
    let k = c.new_label.ensures.kept in
    record {
      can = tt;
      finite = tt;
      left = c.loop-name.invariant.left ∙ ap (λ (z : List ℕ). c.loop-name.yielded ++ z) c.in-Some.ensures.steps ∙ sym (append_assoc c.loop-name.yielded (c.in-Some.name ∷ []) c.next.new.self);
      kept = ((k.0 ∙ i.0, k.1 ∙ i.1, k.2 ∙ i.2, k.3 ∙ i.3, k.4 ∙ i.4), c.loop-name.invariant.kept.1);
      entered = λ ks ok. let n = c.loop-name.invariant.entered ks ok in entered_trans (c.new_label.ensures.entered ks n.good) c.loop-name.yielded n;
    }

pub returns-clause-entered : goal.returns-clause-entered
returns-clause-entered c =
    λ ss e ok.
    let all = sym (append-nil c.loop-name.yielded) ∙ ap (λ (z : List ℕ). c.loop-name.yielded ++ z) (sym c.in-None.ensures.steps.0) ∙ sym c.loop-name.invariant.left ∙ gives (goal.at.returns-clause-entered c).After-into_iter-name-iterator ss e in
    subst (λ (z : List ℕ). Entered c.args.self.now.graph.now.kinds.now z (place c.args.self.now.graph.now) (columns c.args.self.now.graph.now) (place c.loop-name.self.graph.now) (columns c.loop-name.self.graph.now)) all (c.loop-name.invariant.entered c.args.self.now.graph.now.kinds.now ok)
