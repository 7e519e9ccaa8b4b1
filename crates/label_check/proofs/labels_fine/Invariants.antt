-- `label_check::labels_fine` meets its contract: what is left to check decides at each item.
-- Assumes nothing.
use Prim.Native.Nat.{ℕ}
use mathlib.Core.Path.{◌≡◌}
use mathlib.Core.List.{List}
use lib.ListN.{length}
use Rattle.label_check.specs.Walk.{Walking}
use Rattle.label_check.proofs.labels_fine.Given as goal

abbrev pub invariant-loop-j : goal.invariant-loop-j
invariant-loop-j l = (ss : List ℕ) → length ss ≡ length l.kinds → Walking l.kinds ss l.j l.sight
