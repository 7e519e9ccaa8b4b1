-- Which items give their node a code start.
-- Assumes nothing: these are definitions.
use Rattle.std.specs.Prelude.{Bool, not, [], ◌∷◌, ℕ}
use Rattle.flow.specs.Sheet.{kind_of, member}
use Rattle.flow.specs.Kinds.{kinds}
open kinds use {END, UNTIL, LABEL}

-- "LABEL .. (code start remains 0)", and UNTIL's "code start remains 0": an item that closes or is a label gives its node none
abbrev pub has_start : ℕ → Bool
has_start w = not (member (kind_of w) (END ∷ UNTIL ∷ LABEL ∷ []))
