-- Decimal numbers: by their last digit, and as std has them.
-- Assumes nothing.
use mathlib.Core.Path.{◌≡◌}
use mathlib.Core.List.{List, [], ◌∷◌}
use Prim.Native.Nat.{ℕ, zero, suc, ◌+◌, ◌/◌, ◌%◌, ◌^◌, ◌≤◌, ◌<◌, zero-le}
use native.Mathlib.Nat.{pow-suc, div-lt_iff_lt-mul, mod-eq_of_lt}
use native.Mathlib.Omega.{arith}
use borrow.Author.Tests.{lt-ltb, le-ltb}
use lib.Dec.{ltb, lit<}
use lib.ListN.{length, length-append}
use Rattle.std.specs.Fmt as Std
use Rattle.std.proofs.lemmas.Fmt.{AppendsLastDigit, decimal_from_appends, length-decimal-le, decimal_step}
use Rattle.flow.specs.Listing.{digits, decimal}
use Rattle.flow.proofs.Laws.{either}
use Rattle.line_writer.specs.Output.{Room}
use Rattle.line_writer.proofs.Appended.{first_room}

by_last_digit : AppendsLastDigit digits
unfolding digits
by_last_digit = record {
  one = λ k n h. rw (lt-ltb n 10 h, mod-eq_of_lt h);
  more = λ k n h. rw (le-ltb n 10 h);
}

pub as_std : (n : ℕ) → n < 2 ^ 64 → decimal n ≡ Std.decimal n
as_std n h = decimal_from_appends digits by_last_digit 20 n h (length-decimal-le 20 n (lit< tt) (omega arith) h)

-- a number without its last digit
shorter : (k n : ℕ) → n < 10 ^ suc (suc k) → n / 10 < 10 ^ suc k
shorter k n h = (div-lt_iff_lt-mul (lit< tt)).1 (rw (← pow-suc 10 (suc k)) h)

-- a digit more than the shorter number has
one_more : (k n m : ℕ) → length (digits k (n / 10)) ≤ m → length (digits (suc k) n) ≤ suc m
unfolding digits
one_more k n m h = rw length-append (either (λ (l : List ℕ). length l + 1 ≤ suc m) (ltb n 10) {x = []} {y = digits k (n / 10)} (omega arith) (omega arith))

-- no more digits than there is room for
pub at_most : (k n : ℕ) → length (digits k n) ≤ k
unfolding digits
at_most zero n = zero-le
at_most (suc k) n = one_more k n k (at_most k (n / 10))

-- a number below 10^k has at most k digits
pub below_power : (k j n : ℕ) → n < 10 ^ suc j → length (digits k n) ≤ suc j
unfolding digits
below_power zero j n h = zero-le
below_power (suc k) zero n h = rw (lt-ltb n 10 h) (omega arith)
below_power (suc k) (suc j) n h = one_more k n (suc j) (below_power k j (n / 10) (shorter j n h))

-- the same of all its digits
pub decimal_below_power : (k n : ℕ) → 0 < k → n < 10 ^ k → n < 2 ^ 64 → length (decimal n) ≤ k
decimal_below_power k n p h f = rw (as_std n f) (length-decimal-le k n p h f)

pub one_digit : (n : ℕ) → n < 10 → decimal n ≡ (48 + n) ∷ []
one_digit n h = by_last_digit.one 19 n h

-- the room for a number is room for what stands before its last digit
pub front_room : (n : ℕ) {at : ℕ} {old : List ℕ} → 10 ≤ n → n < 2 ^ 64 → Room (decimal n) at old → Room (decimal (n / 10)) at old
front_room n h f r = rw (as_std (n / 10) (omega arith)) (first_room (Std.decimal (n / 10)) ((48 + n % 10) ∷ []) (rw (as_std n f, decimal_step n h f) at r))
