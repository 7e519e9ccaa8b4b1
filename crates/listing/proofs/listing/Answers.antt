-- `listing::listing` meets its contract, by whether the output has room for every print.
-- Assumes nothing.
use mathlib.Core.Path.{refl}
use native.Mathlib.Omega.{arith}
use Rattle.listing.proofs.Room.{without_room, with_room}
use Rattle.listing.proofs.listing.Goals as goal

pub returns-then-short : goal.returns-then-short
returns-then-short c = rw (without_room c.args.input.now c.args.output.now (omega arith)) (record { count = refl; cells = refl })

pub returns : goal.returns
returns c = rw (with_room c.args.input.now c.args.output.now (omega arith)) c.of_bytes.ensures
