-- `listing::of_bytes` meets its contract: a file of whole words is read, and any other is refused.
-- Assumes nothing.
use mathlib.Core.Path.{◌≡◌, sym, ◌∙◌}
use Prim.Native.Nat.{ℕ, ◌/◌}
use native.Mathlib.Omega.{arith}
use lib.ListN.{length, take, replicate, length-replicate}
use lib.Seq.{length-take-le}
use Rattle.file_words.proofs.Split.{Whole, whole, lost_refused}
use Rattle.listing.proofs.of_bytes.Goals as goal
use Rattle.listing.proofs.of_bytes.Goals.{Else-lost_or_spare}

pub returns-then-lost_or_spare : goal.returns-then-lost_or_spare
returns-then-lost_or_spare c = rw (lost_refused c.args.input.now (sym c.lost_or_spare.ensures ∙ c.if-lost_or_spare.true)) c.refused.ensures

-- ---- a file of whole words
of_whole_words : (c : Else-lost_or_spare) → Whole c.args.input.now
of_whole_words c = whole c.args.input.now (sym c.lost_or_spare.ensures ∙ c.if-lost_or_spare.false)

pub slice_bounds-room-end : goal.slice_bounds-room-end
slice_bounds-room-end c = (of_whole_words (goal.at.slice_bounds-room-end c).Else-lost_or_spare).few

-- as many cells as the file has words
cells : (c : Else-lost_or_spare) → length {A = ℕ} (take (length c.args.input.now / 8) (replicate 4099 0)) ≡ length c.args.input.now / 8
cells c = length-take-le (length c.args.input.now / 8) (replicate 4099 0) (omega (arith, (of_whole_words c).few, length-replicate {A = ℕ} 4099 0))

pub slice_bounds-words-end : goal.slice_bounds-words-end
slice_bounds-words-end c = sym (cells (goal.at.slice_bounds-words-end c).Else-lost_or_spare)

pub returns : goal.returns
returns c =
    let d = (goal.at.returns c).Else-lost_or_spare in
    let read = rw (cells d) at c.read_words.ensures in
    rw ((of_whole_words d).prints, ← read) c.of_words.ensures
