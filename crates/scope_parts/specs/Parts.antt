-- When the parts of a scope sheet can be taken.
-- Assumes nothing: these are definitions.
use Rattle.std.specs.Prelude.{List, ℕ, ◌+◌, ◌*◌, ◌≤◌, length}
use Rattle.flow.specs.Sheet.{count_word}

-- a scope sheet that has its count, a good one, and both arrays
pub record ScopesCounted (C : List ℕ) : Type 0 where
  pub few : count_word C ≤ 512
  pub long : 1 + 2 * count_word C ≤ length C
