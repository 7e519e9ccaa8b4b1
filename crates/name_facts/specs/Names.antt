-- The names of a sheet, one item's word after the other, and their facts in the cells of a column.
-- Assumes nothing: these are definitions.
use Rattle.std.specs.Prelude.{ℕ, ◌+◌, ◌≡◌, cond, List, [], ◌∷◌, ◌++◌, map, eqb, length, take, drop}
use Rattle.flow.specs.Sheet.{kind_of, argument_of}
use Rattle.flow.specs.Kinds.{kinds}
use Rattle.flow.specs.Locals.{Local, only_if}
use Rattle.facts.specs.declared.NameFacts.{NameFacts}
use Rattle.facts.specs.Facts.{facts_of}
open kinds use {LOCAL, NAME}

-- the values of the LOCAL that was met last, and the names of it that were met, after an item's word
abbrev pub values_after : ℕ → ℕ → ℕ
values_after w v = cond (eqb (kind_of w) LOCAL) (argument_of w) v

abbrev pub before_after : ℕ → ℕ → ℕ
before_after w b = cond (eqb (kind_of w) NAME) (b + 1) 0

-- the name that an item is, as a list
abbrev pub name_here : ℕ → ℕ → ℕ → List Local
name_here w v b = only_if (eqb (kind_of w) NAME) (record { flags = argument_of w; values = v; before = b } ∷ [])

-- the names of items, which their words tell
unfoldable pub locals_in : ℕ → ℕ → List ℕ → List Local
locals_in v b [] = []
locals_in v b (w ∷ ws) = name_here w v b ++ locals_in (values_after w v) (before_after w b) ws

-- the facts of ls in the cells from place k up to, not including, r, and the cells from r on as they were
pub record Stored (ls : List Local) (k : ℕ) (old new : List NameFacts) (r : ℕ) : Type 0 where
  pub count : r ≡ k + length ls
  pub cells : take r new ≡ take k old ++ map facts_of ls
  pub rest : drop r new ≡ drop r old
