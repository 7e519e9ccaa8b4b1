-- `nesting_tests::bad_nesting` meets its contract: its loop is the sweep of refusal 5, with what is open on a stack that 4 bounds.
-- Assumes nothing.
use Prim.Native.Nat.{ℕ, ◌≤◌}
use mathlib.Core.Bool.{false}
use mathlib.Core.List.{[]}
use mathlib.Core.Path.{◌≡◌}
use lib.ListN.{length}
use Rattle.flow.specs.Refusals.{outnumbered}
use Rattle.nesting_tests.specs.Stack.{open_kinds}
use Rattle.sweeps.proofs.Sweep.{Swept, rest}
use Rattle.kinds.specs.Numbers.{Decoded}
use Rattle.nesting_tests.proofs.Sweeps.{nesting}
use Rattle.nesting_tests.proofs.bad_nesting.Given as goal

abbrev pub invariant-loop-word : goal.invariant-loop-word
invariant-loop-word l =
    record {
      few : length l.opened.items ≤ 64;
      shallow : outnumbered (length l.opened.items) 0 (rest l.items.words.now l.items.spans.now l.word-index) ≡ false;
      last : ℕ;
      decoded : Decoded last l.last;
      swept : Swept nesting l.items.words.now l.items.spans.now ([], 0) l.word-index (open_kinds l.opened.items, last);
    }
