-- Codes whose ends rise, and the code that an offset falls to.
-- Assumes nothing: these are definitions.
use Rattle.std.specs.Prelude.{ℕ, ◌<◌, ◌≤◌, ◌≡◌, List, get_or, Option, Some}
use Rattle.flow.specs.Sheet.{end_of}

-- the ends of the first `codes` spans rise
abbrev pub Rising : ℕ → List ℕ → Type 0
Rising codes spans = (i j : ℕ) → i < j → j < codes → end_of (get_or spans i 0) ≤ end_of (get_or spans j 0)

-- r is the first code that ends past an offset, or the number of codes
pub record FirstPast (codes : ℕ) (spans : List ℕ) (offset r : ℕ) : Type 0 where
  pub within : r ≤ codes
  pub before : (i : ℕ) → i < r → end_of (get_or spans i 0) ≤ offset
  pub past : r < codes → offset < end_of (get_or spans r 0)

-- the node that was found, if one was, is below n
abbrev pub Within : ℕ → Option ℕ → Type 0
Within n f = (v : ℕ) → f ≡ Some v → v < n
