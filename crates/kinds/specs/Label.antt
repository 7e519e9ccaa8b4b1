-- Which kind words are a label's.
-- Assumes nothing: these are definitions.
use Rattle.std.specs.Prelude.{Bool, ◌&&◌, not, ℕ, eqb}
use Rattle.flow.specs.Sheet.{kind_of, argument_of}
use Rattle.flow.specs.Kinds.{kinds}
open kinds use {LABEL}

-- a label that has a name
abbrev pub is_label : ℕ → Bool
is_label w = eqb (kind_of w) LABEL && not (eqb (argument_of w) 0)
