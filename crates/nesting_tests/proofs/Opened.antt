-- What is open, as a list with the innermost last: its innermost, and how many it is past an item. Assumes nothing.
use Prim.Native.Nat.{ℕ, ◌+◌, ◌-◌, ◌<◌}
use mathlib.Core.Bool.{true, false}
use mathlib.Core.List.{List, [], ◌∷◌, map}
use mathlib.Core.Path.{◌≡◌, refl, sym, ap, ◌∙◌}
use native.Mathlib.Omega.{arith}
use lib.Dec.{eqb}
use lib.ListN.{length, get_or}
use borrow.Author.Tests.{ne_eqb}
use Rattle.std.proofs.Common.{reverse, rules}
use Rattle.std.proofs.lemmas.List.{get_or-reverse, length-reverse, length-map}
use Rattle.std.proofs.lemmas.Option.{slice_get-get_or}
use Rattle.std.specs.List.{slice_get}
use Rattle.flow.specs.Kinds.{opens, closes}
use Rattle.flow.specs.Refusals.{one, innermost, may_stand, open_after}
use Rattle.kinds.specs.declared.Kind.{Kind}
use Rattle.kinds.specs.declared.Kind.TheVariants.{Do}
use Rattle.kinds.specs.Numbers.{kind_number, number_or_none}
use Rattle.nesting_tests.specs.Stack.{open_kinds}
use Rattle.nesting_tests.proofs.Nesting.{open_length}

pub length_open : (ks : List Kind) → length (open_kinds ks) ≡ length ks
length_open ks = simp (length-map, length-reverse)

first_number : (ks : List Kind) → length ks ≡ 0 → innermost (map kind_number ks) ≡ 0
first_number [] e = refl
first_number (k ∷ ks) e = absurd (omega arith)

first_number_of : (ks : List Kind) → 0 < length ks → innermost (map kind_number ks) ≡ kind_number (get_or ks 0 Do)
first_number_of [] h = absurd (omega arith)
first_number_of (k ∷ ks) h = refl

pub innermost_last : (ks : List Kind) → innermost (open_kinds ks) ≡ number_or_none (slice_get ks (length ks - 1))
innermost_last [] = refl
innermost_last (k ∷ ks) =
    let l : List Kind = k ∷ ks in
    let h : 0 < length l = omega arith in
    let z : length l - 1 - 0 ≡ length l - 1 = omega arith in
    let r : 0 < length (reverse l) = omega (arith, length-reverse l) in
    let p : length l - 1 < length l = omega arith in
    first_number_of (reverse l) r ∙ ap kind_number (get_or-reverse l 0 Do h) ∙ ap (λ (n : ℕ). kind_number (get_or l n Do)) z ∙ ap number_or_none (sym (slice_get-get_or l (length l - 1) Do p))

pub opened_next : (k : ℕ) (old new : List Kind) → may_stand k (open_kinds old) ≡ true → open_kinds new ≡ open_after k (open_kinds old) → length new ≡ length old + one (opens k) - one (closes k)
opened_next k old new m e =
    sym (length_open new) ∙ ap length e ∙ open_length k (open_kinds old) m ∙ ap (λ (n : ℕ). n + one (opens k) - one (closes k)) (length_open old)

some_number : (k : Kind) → eqb (kind_number k) 0 ≡ false
some_number k = search rules

pub none_open : (ks : List Kind) → eqb (innermost (open_kinds ks)) 0 ≡ eqb (length ks) 0
none_open [] = refl
none_open (k ∷ ks) =
    let h : 0 < length (reverse (k ∷ ks)) = omega (arith, length-reverse (k ∷ ks)) in
    let e : length (k ∷ ks) ≡ 0 → ⊥ = λ z. omega arith in
    ap (λ (n : ℕ). eqb n 0) (first_number_of (reverse (k ∷ ks)) h) ∙ some_number (get_or (reverse (k ∷ ks)) 0 Do) ∙ sym (ne_eqb (length (k ∷ ks)) 0 e)
