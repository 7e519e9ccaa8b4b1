-- What the program prints by the bytes that it reads.
-- Assumes nothing: these are definitions.
use Rattle.std.specs.Prelude.{◌≡◌, List, ℕ, ◌*◌, ◌≤◌, length, take}
use Rattle.flow.specs.Listing.{printed}
use Rattle.line_writer.specs.Output.{Printed}
use Rattle.lines.specs.Report.{room_for_all}

-- the array holds a word more than any two sheets have, and the output every print
pub record Enough (array output : List ℕ) (read : ℕ) : Type 0 where
  pub holds : 8 * 4100 ≤ length array
  pub within : read ≤ length array
  pub room : room_for_all ≤ length output

-- The file, however long, is printed, where the bytes read are all that the array holds of it.
pub record PrintsFile (array : List ℕ) (read : ℕ) (old new : List ℕ) (r : ℕ) : Type 0 where
  pub fits : r ≤ length new
  pub prints : (file : List ℕ) → take read array ≡ take (length array) file → Printed (printed file) old new r
