-- `file_words::read_words` meets its contract: at the loop's head the first i words are read.
-- Assumes nothing.
use mathlib.Core.Path.{◌≡◌}
use lib.ListN.{length, take}
use Rattle.flow.specs.Listing.{file_words}
use Rattle.file_words.proofs.read_words.Given as goal

abbrev pub invariant-loop-i : goal.invariant-loop-i
invariant-loop-i l = take l.i l.words ≡ take l.i (file_words (length l.initial.words) l.bytes)
