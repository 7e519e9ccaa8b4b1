-- `depth_tests::too_deep` meets its contract: its loop is the sweep of refusal 4. Assumes nothing.
use Prim.Native.Nat.{◌≤◌}
use Rattle.sweeps.proofs.Sweep.{Swept}
use Rattle.depth_tests.proofs.Sweeps.{shallow}
use Rattle.depth_tests.proofs.too_deep.Given as goal

abbrev pub invariant-loop-word : goal.invariant-loop-word
invariant-loop-word l = (l.openers ≤ l.word-index) × (l.closers ≤ l.word-index) × Swept shallow l.items.words.now l.items.spans.now (0, 0) l.word-index (l.openers, l.closers)
