-- `label_sight::among` meets its contract: no label that was looked at has the name, so that it is among all exactly when it is among those left.
-- Assumes nothing.
use mathlib.Core.Path.{◌≡◌}
use lib.ListN.{length}
use Rattle.flow.specs.Sheet.{member}
use Rattle.label_sight.proofs.among.Given as goal

abbrev pub invariant-loop-left : goal.invariant-loop-left
invariant-loop-left l = member l.name l.labels ≡ member l.name l.left

abbrev pub decreases-loop-left : goal.decreases-loop-left
decreases-loop-left l = length l.left
