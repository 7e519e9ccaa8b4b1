-- What a file prints, by the parts that the code takes it in.
--     lost-refused    lost or spare bytes
--     whole           what is printed is what its words print
--     parts           the words print what the sheet and the use sheet do, cut where `sheet_end` says
--     longer-refused  8 × 4,100 bytes and more, a word more than any two sheets have
--     first-bytes     so many of a file's first bytes print what the whole file does, however long it is
-- Assumes nothing.
use mathlib.Core.Path.{◌≡◌, refl, sym, ap, ◌∙◌}
use mathlib.Core.Bool.{Bool, true, false, cond, not, ◌||◌}
use mathlib.Core.List.{List}
use Prim.Native.Nat.{ℕ, zero, suc, ◌+◌, ◌*◌, ◌/◌, ◌%◌, ◌≤◌, ◌<◌, min}
use native.Mathlib.Nat.{min-eq_left, min-eq_right}
use native.Mathlib.Decide.{dec_le}
use native.Mathlib.Omega.{arith}
use borrow.Author.Tests.{ltb-true, ltb-false, lt-ltb, not-false}
use lib.Dec.{eqb, ltb}
use lib.ListN.{length, take, drop, length-drop, drop_of_length-le}
use lib.Seq.{take_all, get_or-take, length-take-le}
use Rattle.search.proofs.Bools.{neither, not_false_true}
use Rattle.flow.specs.declared.Refusal.TheVariants.{Miscount}
use Rattle.flow.specs.Sheet.{count_word}
use Rattle.flow.specs.Refusals.{number, miscount, first_applying, pair_tests}
use Rattle.flow.specs.Scopes.{scoped_tests, scoped_verdict}
use Rattle.flow.specs.Judge.{judge}
use Rattle.flow.specs.Listing.{refused, file_words, printed_words, printed, sheets_print}
use Rattle.flow.proofs.Tests.{counted}
use Rattle.file_words.specs.Input.{lost_or_spare}

-- ---- the sheets of a file's words

pub words_long : (k : ℕ) (bs : List ℕ) → length (file_words k bs) ≡ k
unfolding file_words
words_long zero bs = refl
words_long (suc k) bs = ap suc (words_long k (drop 8 bs))

take_min : (m : ℕ) (ws : List ℕ) → take (min m (length ws)) ws ≡ take m ws
take_min m ws = elim (dec_le m (length ws)) [
  | yes h ↦ rw (min-eq_left h)
  | no h ↦ rw (min-eq_right {n = length ws} {m = m} (omega arith)) (take_all (length ws) ws (omega arith) ∙ sym (take_all m ws (omega arith)))
]

drop_min : (m : ℕ) (ws : List ℕ) → drop (min m (length ws)) ws ≡ drop m ws
drop_min m ws = elim (dec_le m (length ws)) [
  | yes h ↦ rw (min-eq_left h)
  | no h ↦ rw (min-eq_right {n = length ws} {m = m} (omega arith)) (drop_of_length-le ws {i = length ws} (omega arith) ∙ sym (drop_of_length-le ws {i = m} (omega arith)))
]

pub parts : (ws : List ℕ) {end : ℕ} → end ≡ min (2 * count_word ws + 2) (length ws) → printed_words ws ≡ sheets_print (take end ws) (drop end ws)
unfolding printed_words
parts ws e = rw (e, take_min (2 * count_word ws + 2) ws, drop_min (2 * count_word ws + 2) ws)

-- ---- more words than any two sheets have

never_both : (ws : List ℕ) → 4099 < length ws → (miscount 2 (take (2 * count_word ws + 2) ws) || miscount 1 (drop (2 * count_word ws + 2) ws)) ≡ false → ⊥
unfolding miscount
never_both ws h e =
    let n = neither _ _ e in
    let s = counted 2 (take (2 * count_word ws + 2) ws) n.0 in
    let u = counted 1 (drop (2 * count_word ws + 2) ws) n.1 in
    let c : count_word (take (2 * count_word ws + 2) ws) ≡ count_word ws = get_or-take (2 * count_word ws + 2) ws 0 0 (omega arith) in
    omega (arith, length-drop (2 * count_word ws + 2) ws)

too_long : (ws : List ℕ) → 4099 < length ws → printed_words ws ≡ refused (number Miscount)
unfolding printed_words judge scoped_verdict scoped_tests pair_tests first_applying
too_long ws h = rw (not_false_true (miscount 2 (take (2 * count_word ws + 2) ws) || miscount 1 (drop (2 * count_word ws + 2) ws)) (never_both ws h))

-- ---- a file

pub record Whole (bs : List ℕ) : Type 0 where
  pub few : length bs / 8 ≤ 4099
  pub prints : printed bs ≡ printed_words (file_words (length bs / 8) bs)

pub whole : (bs : List ℕ) → lost_or_spare bs ≡ false → Whole bs
unfolding lost_or_spare printed
whole bs e =
    let n = neither (not (eqb (length bs % 8) 0)) _ e in
    let z = not-false (eqb (length bs % 8) 0) n.0 in
    record { few = ltb-false _ _ n.1; prints = rw z }

lost_by : (bs : List ℕ) (b : Bool) → (not b || ltb 4099 (length bs / 8)) ≡ true → cond b (printed_words (file_words (length bs / 8) bs)) (refused (number Miscount)) ≡ refused (number Miscount)
lost_by bs false e = refl
lost_by bs true e = too_long (file_words (length bs / 8) bs) (rw (words_long (length bs / 8) bs) (ltb-true _ _ e))

pub lost_refused : (bs : List ℕ) → lost_or_spare bs ≡ true → printed bs ≡ refused (number Miscount)
unfolding lost_or_spare printed
lost_refused bs e = lost_by bs (eqb (length bs % 8) 0) e

-- ---- a file of a word more than any two sheets have, or longer still

longer_lost : (bs : List ℕ) → 8 * 4100 ≤ length bs → (b : Bool) → (b || ltb 4099 (length bs / 8)) ≡ true
longer_lost bs h true = refl
longer_lost bs h false = lt-ltb 4099 (length bs / 8) (omega arith)

pub longer_refused : (bs : List ℕ) → 8 * 4100 ≤ length bs → printed bs ≡ refused 2
unfolding lost_or_spare
longer_refused bs h = lost_refused bs (longer_lost bs h (not (eqb (length bs % 8) 0)))

-- so a program that reads n bytes and no more prints what the whole file does
pub first_bytes_law : (n : ℕ) (bs : List ℕ) → 8 * 4100 ≤ n → printed (take n bs) ≡ printed bs
first_bytes_law n bs h = elim (dec_le n (length bs)) [
  | yes l ↦ longer_refused (take n bs) (omega (arith, length-take-le n bs l)) ∙ sym (longer_refused bs (omega arith))
  | no l ↦ ap printed (take_all n bs (omega arith))
]
