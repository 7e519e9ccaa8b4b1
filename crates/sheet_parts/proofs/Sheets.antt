-- The facts of an admitted sheet give its verdict again, so that a `Sheet` can be made from them.
-- Assumes nothing.
use Prim.Native.Nat.{ℕ, suc, ◌<◌}
use mathlib.Core.Bool.{true, false}
use mathlib.Core.List.{List, [], ◌∷◌}
use mathlib.Core.Path.{◌≡◌, refl, sym, ◌∙◌}
use native.Mathlib.Omega.{arith}
use borrow.Author.Tests.{lt-ltb, le-ltb, eq-eqb}
use lib.ListN.{length, get_or}
use Rattle.std.specs.Prelude.{Ok}
use Rattle.flow.specs.Sheet.{Item, all, count_word, kind_words, span_words, items}
use Rattle.flow.specs.Kinds.{item_fits}
use Rattle.flow.specs.Refusals.{miscount, bad_item, too_deep, bad_nesting, off_the_line, bad_name, item_tests, first_applying, sheet_tests, sheet_verdict}
use Rattle.flow.specs.Admitted.{an_item, AdmittedSheet}
use Rattle.flow.proofs.Room.{length_zip}

all_fit : (is : List Item) → ((i : ℕ) → i < length is → item_fits (get_or is i an_item) ≡ true) → all item_fits is ≡ true
unfolding all
all_fit [] f = refl
all_fit (i ∷ is) f = rw (f 0 (omega arith), all_fit is (λ k h. f (suc k) (omega arith))) refl

pub verdict_again : (S : List ℕ) → AdmittedSheet S → sheet_verdict false S ≡ Ok tt
unfolding sheet_verdict sheet_tests item_tests first_applying miscount bad_item too_deep bad_nesting off_the_line bad_name
verdict_again S a =
    let many : length (items S) ≡ count_word S = length_zip (kind_words S) (span_words S) (a.spans ∙ sym a.kinds) ∙ a.kinds in
    let fits : all item_fits (items S) ≡ true = all_fit (items S) (λ i h. a.fits i (omega (arith, many))) in
    rw (le-ltb (length S) 2 (omega (arith, a.words)), le-ltb 1024 (count_word S) a.few, eq-eqb _ _ a.words, lt-ltb _ _ a.outer_end, fits, a.shallow, a.pairs, a.beside, a.in_order, a.inside_scopes, a.names_inside) refl
