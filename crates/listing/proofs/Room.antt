-- What the listing prints by whether the output has the room.
-- Assumes nothing.
use mathlib.Core.Path.{◌≡◌}
use mathlib.Core.List.{List, []}
use Prim.Native.Nat.{ℕ, ◌≤◌, ◌<◌}
use borrow.Author.Tests.{lt-ltb, le-ltb}
use lib.ListN.{length}
use Rattle.flow.specs.Listing.{printed}
use Rattle.lines.specs.Report.{room_for_all}
use Rattle.listing.specs.Listed.{listed}

module _ (input output : List ℕ) where
  pub without_room : length output < room_for_all → listed input output ≡ []
  unfolding listed
  without_room h = rw (lt-ltb (length output) room_for_all h)

  pub with_room : room_for_all ≤ length output → listed input output ≡ printed input
  unfolding listed
  with_room h = rw (le-ltb (length output) room_for_all h)
