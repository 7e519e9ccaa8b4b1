-- How many bytes lines take, so that `room_for_all` holds every output.
-- Assumes nothing.
use mathlib.Core.List.{List, [], ◌∷◌}
use Prim.Native.Nat.{ℕ, suc, ◌+◌, ◌*◌, ◌-◌, ◌/◌, ◌%◌, ◌^◌, ◌≤◌, ◌<◌, zero-le}
use native.Mathlib.Omega.{arith}
use lib.Dec.{eqb}
use lib.ListN.{length, take, get_or, length-take, length-append}
use Rattle.flow.specs.Sheet.{start_of, end_of}
use Rattle.flow.specs.Listing.{numbers, finding_line, finding_lines, report}
use Rattle.flow.proofs.Laws.{either}
use Rattle.line_writer.specs.Output.{Room}
use Rattle.line_writer.proofs.Digits.{at_most, below_power}
use Rattle.finding_lines.specs.Findings.{findings_of}
use Rattle.lines.specs.Report.{room_for_all}

-- numbers of 20 digits
pub numbers_long : (ns : List ℕ) → length (numbers ns) ≤ 21 * length ns + 1
unfolding numbers
numbers_long [] = omega arith
numbers_long (n ∷ ns) = rw length-append (omega (arith, at_most 20 n, numbers_long ns))

-- numbers of 10 digits
abbrev Small : List ℕ → Type 0
Small [] = Unit {0}
Small (n ∷ ns) = (n < 10 ^ 10) × Small ns

small_long : (ns : List ℕ) → Small ns → length (numbers ns) ≤ 11 * length ns + 1
unfolding numbers
small_long [] s = omega arith
small_long (n ∷ ns) s = rw length-append (omega (arith, below_power 20 9 n s.0, small_long ns s.1))

-- a finding's line
pub finding_long : (w s : ℕ) → w < 2 ^ 64 → s < 2 ^ 64 → length (finding_line (record { word = w; span = s })) ≤ 55
unfolding finding_line
finding_long w s hw hs =
    let local : w / 2 % 2 ^ 31 < 10 ^ 10 = omega arith in
    let number : w / 2 ^ 32 - 1 < 10 ^ 10 = omega arith in
    let start : start_of s < 10 ^ 10 = omega arith in
    let end : end_of s < 10 ^ 10 = omega arith in
    either (λ (l : List ℕ). length l ≤ 55) (eqb (w % 2) 0)
    (omega (arith, small_long (w / 2 % 2 ^ 31 ∷ (w / 2 ^ 32 - 1) ∷ start_of s ∷ end_of s ∷ []) (local, (number, (start, (end, tt))))))
    (omega (arith, small_long (w / 2 % 2 ^ 31 ∷ start_of s ∷ end_of s ∷ []) (local, (start, (end, tt)))))

-- the lines of all findings
pub findings_long : (ws ss : List ℕ) → ((i : ℕ) → get_or ws i 0 < 2 ^ 64) → ((i : ℕ) → get_or ss i 0 < 2 ^ 64)
    → length (finding_lines (findings_of ws ss)) ≤ 55 * length ws
unfolding finding_lines
findings_long [] ss hw hs = zero-le
findings_long (w ∷ ws) [] hw hs = zero-le
findings_long (w ∷ ws) (s ∷ ss) hw hs =
    rw length-append (omega (arith, finding_long w s (hw 0) (hs 0), findings_long ws ss (λ i. hw (suc i)) (λ i. hs (suc i))))

-- the first two lines
pub head_long : (values flags : List ℕ) → length (report values flags []) ≤ 180
unfolding report finding_lines
head_long values flags =
    rw (length-append, length-append)
    (omega (arith, numbers_long (take 3 values), numbers_long (take 5 flags), length-take 3 values, length-take 5 flags))

-- a report
pub report_long : (values flags ws ss : List ℕ) → length ws ≤ 3072 → ((i : ℕ) → get_or ws i 0 < 2 ^ 64) → ((i : ℕ) → get_or ss i 0 < 2 ^ 64)
    → length (report values flags (findings_of ws ss)) ≤ room_for_all
unfolding report
report_long values flags ws ss few hw hs =
    rw (length-append, length-append)
    (omega (arith, numbers_long (take 3 values), numbers_long (take 5 flags), length-take 3 values, length-take 5 flags, findings_long ws ss hw hs))

pub from_start : (xs : List ℕ) {old : List ℕ} → length xs ≤ room_for_all → room_for_all ≤ length old → Room xs 0 old
from_start xs h r = record { fits = omega arith }
