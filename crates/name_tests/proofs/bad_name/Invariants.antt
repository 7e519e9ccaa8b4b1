-- `name_tests::bad_name` meets its contract: its loop is the sweep of refusal 7. Assumes nothing.
use lib.ListN.{length}
use Rattle.sweeps.proofs.Sweep.{Swept}
use Rattle.name_tests.proofs.Sweeps.{naming}
use Rattle.name_tests.proofs.bad_name.Given as goal

abbrev pub invariant-loop-word : goal.invariant-loop-word
invariant-loop-word l = Swept naming l.items.words.now l.items.spans.now (0, 0) (length l.yielded) (l.names.local, l.names.reached)
