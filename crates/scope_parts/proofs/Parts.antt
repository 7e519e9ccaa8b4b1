-- The parts of a scope sheet as the code takes them, and their lengths.
-- Assumes nothing.
use mathlib.Core.Path.{◌≡◌}
use mathlib.Core.List.{List}
use Prim.Native.Nat.{ℕ, ◌+◌}
use native.Mathlib.Omega.{arith}
use lib.ListN.{length, drop, length-drop}
use lib.Seq.{length-take-le}
use Rattle.flow.specs.Sheet.{count_word}
use Rattle.flow.specs.Scopes.{scope_kinds, parent_words}
use Rattle.scope_parts.specs.Parts.{ScopesCounted}

module _ (C : List ℕ) (c : ScopesCounted C) where
  pub kinds_long : length (scope_kinds C) ≡ count_word C
  kinds_long = length-take-le (count_word C) (drop 1 C) (omega (arith, length-drop 1 C, c.long))

  pub parents_long : length (parent_words C) ≡ count_word C
  parents_long = length-take-le (count_word C) (drop (1 + count_word C) C) (omega (arith, length-drop (1 + count_word C) C, c.long))
