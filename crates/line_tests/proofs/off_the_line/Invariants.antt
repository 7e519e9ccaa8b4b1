-- `line_tests::off_the_line` meets its contract: its loop is the sweep of refusal 6, with the scope ends around on a stack that 4 and 5 bound.
-- Assumes nothing.
use Prim.Native.Nat.{◌<◌, ◌-◌}
use mathlib.Core.List.{[], ◌∷◌}
use lib.ListN.{length}
use Rattle.line_tests.specs.Scopes.{scope_ends, Lowest}
use Rattle.line_tests.proofs.Nested.{Nested}
use Rattle.sweeps.proofs.Sweep.{Swept, rest}
use Rattle.line_tests.proofs.Sweeps.{lining}
use Rattle.line_tests.proofs.off_the_line.Given as goal

abbrev pub invariant-loop-word : goal.invariant-loop-word
invariant-loop-word l =
    record {
      lowest : Lowest l.scopes.items;
      some : 0 < length l.scopes.items;
      nested : Nested (length l.scopes.items - 1) (rest l.items.words.now l.items.spans.now (length l.yielded));
      swept : Swept lining l.items.words.now l.items.spans.now (0, l.outer ∷ []) (length l.yielded) (l.reached, scope_ends l.scopes.items);
    }
