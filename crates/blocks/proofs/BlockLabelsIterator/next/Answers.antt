-- `next` of `blocks::BlockLabels` meets its contract: an item that is passed is no label of the block.
-- Assumes nothing.
use Prim.Native.Nat.{ℕ}
use mathlib.Core.Path.{◌≡◌, refl, sym, ap, ◌∙◌}
use mathlib.Core.List.{List, [], ◌∷◌, ◌++◌}
use native.Mathlib.Omega.{arith}
use lib.ListN.{length}
use Rattle.blocks.specs.Open.{labels_in}
use Rattle.blocks.proofs.Scan.{in_none, in_end, in_next, depth_most}
use Rattle.blocks.proofs.BlockLabelsIterator.next.Goals as goal
use Rattle.blocks.proofs.BlockLabelsIterator.next.Goals.{In-Some-label_here}

pub returns-then-ends_at-clause-steps : goal.returns-then-ends_at-clause-steps
returns-then-ends_at-clause-steps c = (sym c.self.view_is ∙ sym c.loop-word.invariant.left ∙ in_end _ c.in-Some.ensures.cases.0 (sym c.ends_at.ensures ∙ c.if-ends_at.true), in_none _ refl)

-- the item that is looked at gives the label that it is
label_first : (c : In-Some-label_here) → c.args.self.now ≡ c.in-Some-label_here.label ∷ labels_in c.in-Some.rest.now c.depth_after-self-inside.result
label_first c =
    sym c.self.view_is ∙ sym c.loop-word.invariant.left
    ∙ in_next _ c.in-Some.ensures.cases.0 (sym c.ends_at.ensures ∙ c.if-ends_at.false) c.depth_after-self-inside.ensures
    ∙ ap (λ (z : List ℕ). z ++ labels_in c.in-Some.rest.now c.depth_after-self-inside.result) c.in-Some-label_here.ensures

pub invariant_of-self-in-Some-label_here : goal.invariant_of-self-in-Some-label_here
invariant_of-self-in-Some-label_here c = omega (arith, c.in-Some.ensures.cases.1, depth_most _ _ c.depth_after-self-inside.ensures)

pub returns-in-Some-label_here-clause-steps : goal.returns-in-Some-label_here-clause-steps
returns-in-Some-label_here-clause-steps c = label_first (goal.at.returns-in-Some-label_here-clause-steps c).In-Some-label_here

pub returns-in-Some-label_here-clause-goes : goal.returns-in-Some-label_here-clause-goes
returns-in-Some-label_here-clause-goes c =
    let e = label_first (goal.at.returns-in-Some-label_here-clause-goes c).In-Some-label_here in
    record { on = λ f. (tt, tt, omega (arith, ap length e)); keeps = tt; rests = λ f. tt }

pub loop-word-preserved : goal.loop-word-preserved
loop-word-preserved c =
    let e = in_next _ c.in-Some.ensures.cases.0 (sym c.ends_at.ensures ∙ c.if-ends_at.false) c.depth_after-self-inside.ensures in
    record {
      left = sym (e ∙ ap (λ (z : List ℕ). z ++ labels_in c.in-Some.rest.now c.depth_after-self-inside.result) c.in_default-label_here.ensures) ∙ c.loop-word.invariant.left;
      fits = omega (arith, c.in-Some.ensures.cases.1, depth_most _ _ c.depth_after-self-inside.ensures);
    }

pub returns-clause-steps : goal.returns-clause-steps
returns-clause-steps c =
    let e : labels_in c.loop-word.self-inside.kinds.now c.loop-word.self-inside.depth ≡ [] = in_none _ (nil _ c.in_default.ensures.cases) in
    (sym c.self.view_is ∙ sym c.loop-word.invariant.left ∙ e, e)
  where
    nil : (l : List ℕ) → length l ≡ 0 → l ≡ []
    nil [] q = refl
    nil (x ∷ l) q = absurd (omega arith)
