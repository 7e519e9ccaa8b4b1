-- A column that a call is lent to write, by `&mut`, as its promise sees it: promises name the column, and not its list at entry and at exit.
-- Assumes nothing: these are definitions.
use Rattle.std.specs.Prelude.{ℕ, List}
use Rattle.std.specs.Borrow.{MutBor}
use denote.Triple.Both.{Both}

-- at the call's entry and at its exit
abbrev pub Column : Type 0
Column = Both (MutBor (List ℕ)) (MutBor (List ℕ))

-- what it held at the entry
abbrev pub held : Column → List ℕ
held c = c.entry.now

-- what it holds at the exit
abbrev pub left : Column → List ℕ
left c = c.exit.now
