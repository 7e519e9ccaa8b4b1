-- `crossing::replace_crossings` meets its contract: the scopes are noted, and at the loop's head the words that are passed are replaced.
-- Assumes nothing.
use mathlib.Core.Path.{◌≡◌}
use Prim.Native.Nat.{◌≤◌}
use lib.ListN.{length, drop}
use Rattle.crossing.specs.Tables.{names_before}
use Rattle.crossing.proofs.Word.{Replacing}
use Rattle.crossing.proofs.replace_crossings.Given as goal

abbrev pub invariant-loop-u : goal.invariant-loop-u
invariant-loop-u l = record {
  replacing : Replacing (names_before l.use_words l.scopes) l.scopes l.u-iterator.count l.use_words l.initial.words l.words;
  passed : l.u-iterator.count ≤ length l.use_words;
  words : l.u-iterator.iter.a.rest.now ≡ drop l.u-iterator.count l.use_words;
  uses : l.u-iterator.iter.b.rest.now ≡ drop l.u-iterator.count l.initial.u-iterator.iter.b.rest.now;
}
