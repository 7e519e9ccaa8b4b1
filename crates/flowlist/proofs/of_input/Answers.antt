-- `flowlist::of_input` meets its contract: the bytes that were read print what the whole file does.
-- Assumes nothing.
use mathlib.Core.List.{List}
use Prim.Native.Nat.{ℕ}
use lib.ListN.{length, take}
use Rattle.line_writer.specs.Output.{Printed}
use Rattle.line_writer.proofs.Appended.{within}
use Rattle.file_words.proofs.Split.{first_bytes_law}
use Rattle.listing.specs.Listed.{listed}
use Rattle.listing.proofs.Room.{with_room}
use Rattle.flowlist.specs.Read.{Enough, PrintsFile}
use Rattle.flowlist.proofs.of_input.Goals as goal

whole : (array old : List ℕ) (read : ℕ) → Enough array old read → {new : List ℕ} {r : ℕ} → Printed (listed (take read array) old) old new r → PrintsFile array read old new r
whole array old read h p = record {
  fits = within p;
  prints = λ file e. rw (← first_bytes_law (length array) file h.holds, ← e, ← with_room (take read array) old h.room) p;
}

pub returns : goal.returns
returns c = whole c.args.input.now c.args.output.now c.args.read c.requires c.listing.ensures
