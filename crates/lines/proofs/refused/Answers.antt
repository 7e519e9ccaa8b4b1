-- `lines::refused` meets its contract.
-- Assumes nothing.
use mathlib.Core.List.{[], ◌∷◌}
use native.Mathlib.Omega.{arith}
use Rattle.lines.proofs.Sizes.{numbers_long, from_start}
use Rattle.lines.proofs.refused.Goals as goal

pub line-requires : goal.line-requires
line-requires c = rw (c.new-output.ensures.held, c.new-output.ensures.empty) (from_start _ (omega (arith, numbers_long (c.into.result ∷ []))) c.requires)
