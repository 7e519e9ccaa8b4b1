-- `label_sight::LabelStack::enter` meets its contract: the labels so far are in sight.
-- Assumes nothing.
use Prim.Native.Nat.{ℕ, ◌+◌}
use mathlib.Core.Path.{◌≡◌, refl, sym, ap, subst, ◌∙◌}
use mathlib.Core.Bool.{and-true, and-false}
use mathlib.Core.List.{List, [], ◌∷◌, ◌++◌, append_assoc, append-nil}
use native.Mathlib.Omega.{arith}
use lib.ListN.{length, length-append}
use Rattle.blocks.specs.Open.{labels_at}
use Rattle.blocks.proofs.Scan.{labels_law}
use Rattle.label_sight.specs.Labels.{in_block, none_repeats, Entered}
use Rattle.label_sight.proofs.Named.{labels_cut}
use Rattle.std.proofs.Common.{rules}
use Rattle.label_sight.proofs.Scan.{entered_none, entered_trans, entered_more, entered_length, still_repeats}
use Rattle.label_sight.proofs.LabelStack.enter.Goals as goal
use Rattle.label_sight.proofs.LabelStack.enter.Goals.{After-into_iter-name-iterator, In-None}

-- what the iterator gives are the labels of the block
gives : (c : After-into_iter-name-iterator) (ss : List ℕ) → length ss ≡ length c.args.kinds.now → c.into_iter-name-iterator.result ≡ labels_at c.args.kinds.now ss c.args.from
gives c ss e =
    c.into_iter-name-iterator.ensures.into_iter_gives
    ∙ c.block_labels-name-items.ensures.scan
    ∙ labels_cut c.args.kinds.now c.args.end c.requires.unlabelled.none c.args.from 0
    ∙ labels_law c.args.kinds.now ss e c.args.from

pub loop-name-init : goal.loop-name-init
unfolding none_repeats
loop-name-init c = record { can = tt; finite = tt; left = refl; entered = entered_none c.args.self.now; once = refl }

pub add-requires : goal.add-requires
add-requires c =
    let ks = c.args.kinds.now in
    let all = ap length (sym c.loop-name.invariant.left ∙ gives (goal.at.add-requires c).After-into_iter-name-iterator ks refl) in
    let room : length c.loop-name.yielded + length c.loop-name.name-iterator ≡ length (labels_at ks ks c.args.from) = omega (arith, all, length-append c.loop-name.yielded c.loop-name.name-iterator) in
    let count = entered_length c.loop-name.invariant.entered in
    (omega (arith, count, c.loop-name.invariant.entered.base), omega (arith, count, room, ap length c.in-Some.ensures.steps, c.requires.by_index ks refl))

pub push-requires : goal.push-requires
push-requires c =
    let ks = c.args.kinds.now in
    let all = ap length (sym c.loop-name.invariant.left ∙ gives (goal.at.push-requires c).After-into_iter-name-iterator ks refl) in
    let room : length c.loop-name.yielded + length c.loop-name.name-iterator ≡ length (labels_at ks ks c.args.from) = omega (arith, all, length-append c.loop-name.yielded c.loop-name.name-iterator) in
    let count = entered_length c.loop-name.invariant.entered in
    (omega arith, omega (arith, count, room, ap length c.in-Some.ensures.steps, c.requires.by_index ks refl))

pub loop-name-preserved-then-not-once : goal.loop-name-preserved-then-not-once
loop-name-preserved-then-not-once c =
    let e = c.loop-name.invariant.entered in
    record {
      can = tt;
      finite = tt;
      left = c.loop-name.invariant.left ∙ ap (λ (z : List ℕ). c.loop-name.yielded ++ z) c.in-Some.ensures.steps ∙ sym (append_assoc c.loop-name.yielded (c.in-Some.name ∷ []) c.next.new.self);
      entered = entered_trans e (record { labels = search rules; marks = refl; base = refl });
      once = still_repeats (in_block c.args.self.now) c.loop-name.yielded c.in-Some.name c.loop-name.invariant.once c.if-not-once.true;
    }

pub loop-name-preserved-then-not-add : goal.loop-name-preserved-then-not-add
loop-name-preserved-then-not-add c =
    let e = c.loop-name.invariant.entered in
    record {
      can = tt;
      finite = tt;
      left = c.loop-name.invariant.left ∙ ap (λ (z : List ℕ). c.loop-name.yielded ++ z) c.in-Some.ensures.steps ∙ sym (append_assoc c.loop-name.yielded (c.in-Some.name ∷ []) c.next.new.self);
      entered = entered_trans e c.add.ensures.entered;
      once = entered_more c.in-Some.name c.requires.base_le_count e c.loop-name.invariant.once c.add.ensures.first (rw c.if-not-add.true (sym (and-false c.loop-name.once)));
    }

pub loop-name-preserved : goal.loop-name-preserved
loop-name-preserved c =
    let e = c.loop-name.invariant.entered in
    record {
      can = tt;
      finite = tt;
      left = c.loop-name.invariant.left ∙ ap (λ (z : List ℕ). c.loop-name.yielded ++ z) c.in-Some.ensures.steps ∙ sym (append_assoc c.loop-name.yielded (c.in-Some.name ∷ []) c.next.new.self);
      entered = entered_trans e c.add.ensures.entered;
      once = entered_more c.in-Some.name c.requires.base_le_count e c.loop-name.invariant.once c.add.ensures.first (rw c.if-not-add.false (sym (and-true c.loop-name.once)));
    }

-- all of them are entered at the end
all_given : (c : In-None) (ss : List ℕ) → length ss ≡ length c.args.kinds.now → c.loop-name.yielded ≡ labels_at c.args.kinds.now ss c.args.from
all_given c ss e =
    sym (append-nil c.loop-name.yielded) ∙ ap (λ (z : List ℕ). c.loop-name.yielded ++ z) (sym c.in-None.ensures.steps.0) ∙ sym c.loop-name.invariant.left ∙ gives (goal.at.In-None c).After-into_iter-name-iterator ss e

pub returns-clause-by_index : goal.returns-clause-by_index
returns-clause-by_index c = λ ss e. subst (λ (z : List ℕ). Entered z c.args.self.now c.loop-name.self) (all_given (goal.at.returns-clause-by_index c).In-None ss e) c.loop-name.invariant.entered

pub returns-clause-once : goal.returns-clause-once
returns-clause-once c = λ ss e. c.loop-name.invariant.once ∙ ap (none_repeats (in_block c.args.self.now)) (all_given (goal.at.returns-clause-once c).In-None ss e)
