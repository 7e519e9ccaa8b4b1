-- `label_sight::among_few` meets its contract: whether what is passed holds such a name.
-- Assumes nothing.
use mathlib.Core.Path.{sym, ap, ◌∙◌}
use mathlib.Core.Bool.{Bool, ◌||◌}
use lib.ListN.{get_or}
use lib.Dec.{eqb}
use Rattle.label_sight.proofs.Names.{look_one}
use Rattle.label_sight.proofs.among_few.Goals as goal

pub loop-label-preserved : goal.loop-label-preserved
loop-label-preserved c =
    ap (λ (b : Bool). b || eqb (get_or c.args.labels.now c.loop-label.label-index 0) c.args.name) c.loop-label.invariant ∙ sym (look_one c.args.name c.loop-label.label-index c.args.labels.now c.loop-label-test.true)
