-- The two arrays of a sheet, and when they can be taken.
-- Assumes nothing: these are definitions.
use Rattle.std.specs.Prelude.{◌≡◌, List, ℕ, ◌+◌, ◌*◌, ◌≤◌, length, take, drop}
use Rattle.flow.specs.Sheet.{count_word}

-- a sheet with h words before its two arrays (2, or 1 for a use sheet) that is counted right
pub record Counted (h : ℕ) (ws : List ℕ) : Type 0 where
  pub few : count_word ws ≤ 1024
  pub long : length ws ≡ 2 * count_word ws + h

-- its arrays: at 2 a sheet's kinds and spans, at 1 a use sheet's words and spans
abbrev pub first_array : ℕ → List ℕ → List ℕ
first_array h ws = take (count_word ws) (drop h ws)

abbrev pub second_array : ℕ → List ℕ → List ℕ
second_array h ws = take (count_word ws) (drop (h + count_word ws) ws)
