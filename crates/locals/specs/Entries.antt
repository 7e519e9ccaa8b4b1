-- The words of findings in the column that holds them.
-- Assumes nothing: these are definitions.
use Rattle.std.specs.Prelude.{ℕ, ◌+◌, ◌≤◌, ◌≡◌, List, ◌++◌, length, take, drop}
use Rattle.locals.specs.declared.FindingList.{FindingList}

-- the column has room for k words after the first `count`
abbrev pub Room : ℕ → ℕ → List ℕ → Type 0
Room k count column = count + k ≤ length column

-- ws stand in the new column from place k on, and all else is as it was
abbrev pub Put : List ℕ → ℕ → List ℕ → List ℕ → Type 0
Put ws k old new = new ≡ take k old ++ (ws ++ drop (k + length ws) old)

-- ws were added to the first `count`, which made r of them
pub record Added (ws : List ℕ) (count : ℕ) (old : List ℕ) (r : ℕ) (new : List ℕ) : Type 0 where
  pub counted : r ≡ count + length ws
  pub entered : Put ws count old new

-- a call adds them to a list, which keeps its column
abbrev pub AddsTo : List ℕ → FindingList → FindingList → Type 0
AddsTo ws old new = Added ws old.count old.words.now new.count new.words.now × (new.words.ghost_name ≡ old.words.ghost_name)
