-- `depth_tests::too_deep` meets its contract: its loop is the sweep of refusal 4. Assumes nothing.
use mathlib.Core.Bool.{not, not-not}
use mathlib.Core.Path.{sym, ap, ◌∙◌}
use native.Mathlib.Omega.{arith}
use lib.ListN.{get_or}
use Prim.Native.Nat.{◌%◌}
use borrow.Author.Tests.{lt-ltb, le-ltb, not-false}
use Rattle.flow.specs.Kinds.{opens, closes}
use Rattle.flow.specs.Refusals.{outnumbered}
use Rattle.flow.specs.Sheet.{zip}
use Rattle.sweeps.proofs.Bools.{one_most}
use Rattle.sweeps.proofs.Sweep.{onward, fails, ends}
use Rattle.depth_tests.proofs.too_deep.Goals as goal

pub returns-then-closers-openers : goal.returns-then-closers-openers
returns-then-closers-openers c = sym (not-false _ (fails c.loop-word.invariant.2 c.args.items.paired c.loop-word-test.true (ap not (lt-ltb _ _ c.if-closers-openers.true))))

pub loop-word-preserved : goal.loop-word-preserved
loop-word-preserved c =
    let k = get_or c.args.items.words.now c.loop-word.word-index 0 % 256 in (
      omega (arith, one_most (opens k), c.opener-openers.ensures),
      omega (arith, one_most (closes k), c.closer-closers.ensures),
      rw (c.opener-openers.ensures, c.closer-closers.ensures) (onward c.loop-word.invariant.2 c.args.items.paired c.loop-word-test.true (ap not (le-ltb _ _ c.if-closers-openers.false))),
    )

pub returns : goal.returns
unfolding outnumbered
returns c = sym (sym (not-not (outnumbered 0 0 (zip c.args.items.words.now c.args.items.spans.now))) ∙ ap not (ends c.loop-word.invariant.2 c.loop-word-test.false) ∙ not-not _)
