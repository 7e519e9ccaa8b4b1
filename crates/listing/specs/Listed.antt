-- What the listing prints into an output.
-- Assumes nothing: these are definitions.
use Rattle.std.specs.Prelude.{cond, List, [], ℕ, ltb, length}
use Rattle.flow.specs.Listing.{printed}
use Rattle.lines.specs.Report.{room_for_all}

-- all that the input's bytes print, or nothing in an output that has less room than `room_for_all`: 0 bytes, and the output as it was
unfoldable pub listed : List ℕ → List ℕ → List ℕ
listed input output = cond (ltb (length output) room_for_all) [] (printed input)
