-- What the writers of lines leave in an output.
-- Assumes nothing: these are definitions.
use Rattle.std.specs.Prelude.{◌≡◌, List, ◌++◌, ℕ, ◌+◌, ◌≤◌, length, take, drop}
use Rattle.line_writer.specs.declared.Output.{Output}

-- there is room for xs from `at` on
pub record Room (xs : List ℕ) (at : ℕ) (old : List ℕ) : Type 0 where
  pub fits : at + length xs ≤ length old

-- xs stand from `at` on, and all else is as it was
pub record Appended (xs : List ℕ) (at : ℕ) (old new : List ℕ) (next : ℕ) : Type 0 where
  pub ends : next ≡ at + length xs
  pub cells : new ≡ take at old ++ xs ++ drop (at + length xs) old

-- the same of an output, behind what is printed
abbrev pub HasRoom : List ℕ → Output → Type 0
HasRoom xs old = Room xs old.len old.bytes.now

abbrev pub Appends : List ℕ → Output → Output → Type 0
Appends xs old new = Appended xs old.len old.bytes.now new.bytes.now new.len

-- the output's first bytes, as many as the result says, are xs, and all else is as it was
pub record Printed (xs old new : List ℕ) (r : ℕ) : Type 0 where
  pub count : r ≡ length xs
  pub cells : new ≡ xs ++ drop (length xs) old
