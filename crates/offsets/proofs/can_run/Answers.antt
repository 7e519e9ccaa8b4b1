-- `offsets::can_run` meets its contract: the flag of the node that was found.
-- Assumes nothing.
use mathlib.Core.Path.{sym, ap, ◌∙◌}
use Rattle.flow.specs.Reachable.{can_run}
use Rattle.offsets.proofs.Offsets.{flag_runs}
use Rattle.offsets.proofs.can_run.Goals as goal

pub returns-in-Some : goal.returns-in-Some
returns-in-Some c = λ g e w. flag_runs g c.args.reachable.now c.in-Some.v e (w c.in-Some.v c.in-Some.is) ∙ ap (can_run g) (sym c.in-Some.is)

pub returns-in-None : goal.returns-in-None
unfolding can_run
returns-in-None c = λ g e w. ap (can_run g) (sym c.in-None.is)
