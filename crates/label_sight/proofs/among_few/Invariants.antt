-- `label_sight::among_few` meets its contract: whether what is passed holds such a name.
-- Assumes nothing.
use mathlib.Core.Path.{◌≡◌}
use lib.ListN.{take}
use Rattle.flow.specs.Sheet.{member}
use Rattle.label_sight.proofs.among_few.Given as goal

abbrev pub invariant-loop-label : goal.invariant-loop-label
invariant-loop-label l = l.found ≡ member l.name (take l.label-index l.labels)
