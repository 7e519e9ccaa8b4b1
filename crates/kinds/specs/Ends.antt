-- Which kinds end a block.
-- Assumes nothing: these are definitions.
use Rattle.std.specs.Prelude.{Bool, ◌&&◌, ℕ, leb}
use Rattle.flow.specs.Kinds.{kinds}
open kinds use {ELSEIF, UNTIL}

-- ELSEIF, ELSE, END and UNTIL, which have numbers in a row
abbrev pub ends_block : ℕ → Bool
ends_block k = leb ELSEIF k && leb k UNTIL
