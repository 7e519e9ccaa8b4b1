-- What the builders ask of a sheet holds of every sheet that is admitted.
-- Assumes nothing.
use mathlib.Core.Path.{◌≡◌, refl, sym, ◌∙◌, subst}
use mathlib.Core.Bool.{true, ◌&&◌}
use mathlib.Core.List.{List, [], ◌∷◌}
use Prim.Native.Nat.{ℕ, zero, suc, ◌/◌, ◌%◌, ◌^◌, ◌≤◌, ◌<◌}
use native.Mathlib.Omega.{arith}
use lib.ListN.{length, get_or}
use lib.Dec.{leb, ltb}
use borrow.Author.Tests.{leb-true, ltb-true}
use Rattle.search.proofs.Bools.{and_both}
use Rattle.flow.specs.Sheet.{Item, kind, kind_of, argument_of, scope_end_of, zip, kind_words, span_words, items}
use Rattle.flow.specs.Tree.{tree}
use Rattle.flow.specs.Kinds.{item_fits, argument_fits}
use Rattle.flow.specs.Admitted.{AdmittedSheet, an_item}
use Rattle.blocks.specs.Open.{open_at}
use Rattle.cfg.specs.Steps.{Sane, WholeRoom}

word_at : (ks ss : List ℕ) → length ss ≡ length ks → (i : ℕ) → i < length ks → (get_or (zip ks ss) i an_item).word ≡ get_or ks i 0
word_at [] ss e i h = absurd (omega arith)
word_at (k ∷ ks) [] e i h = absurd (omega arith)
word_at (k ∷ ks) (s ∷ ss) e zero h = refl
word_at (k ∷ ks) (s ∷ ss) e (suc i) h = word_at ks ss (omega arith) i (omega arith)

-- an item that fits has an argument that fits
argument : (i : Item) → item_fits i ≡ true → argument_fits (kind i) (argument_of i.word) ≡ true
unfolding item_fits
argument i e = (and_both (leb 1 (kind i) && leb (kind i) 19) _ (and_both _ _ (and_both _ _ e).0).0).1

small_name : (w : ℕ) → kind_of w ≡ 12 → argument_fits (kind_of w) (argument_of w) ≡ true → argument_of w < 2 ^ 32
unfolding argument_fits
small_name w k e = omega (arith, leb-true (argument_of w) 65535 (rw k at e))

small_scope : (w k : ℕ) → kind_of w ≡ k → 1 ≤ k → k ≤ 7 → argument_fits k (argument_of w) ≡ true → scope_end_of w < 2 ^ 32
unfolding argument_fits
small_scope w zero q l m e = absurd (omega arith)
small_scope w (suc zero) q l m e = ltb-true _ _ (and_both (ltb (argument_of w % 32) 1) (ltb (argument_of w / 32) (2 ^ 32)) e).1
small_scope w (suc (suc zero)) q l m e = ltb-true _ _ (and_both (ltb (argument_of w % 32) 19) (ltb (argument_of w / 32) (2 ^ 32)) e).1
small_scope w (suc (suc (suc zero))) q l m e = ltb-true _ _ (and_both (ltb (argument_of w % 32) 19) (ltb (argument_of w / 32) (2 ^ 32)) e).1
small_scope w (suc (suc (suc (suc zero)))) q l m e = ltb-true _ _ (and_both (ltb (argument_of w % 32) 1) (ltb (argument_of w / 32) (2 ^ 32)) e).1
small_scope w (suc (suc (suc (suc (suc zero))))) q l m e = ltb-true _ _ (and_both (ltb (argument_of w % 32) 1) (ltb (argument_of w / 32) (2 ^ 32)) e).1
small_scope w (suc (suc (suc (suc (suc (suc zero)))))) q l m e = ltb-true _ _ (and_both (ltb (argument_of w % 32) 1) (ltb (argument_of w / 32) (2 ^ 32)) e).1
small_scope w (suc (suc (suc (suc (suc (suc (suc zero))))))) q l m e = ltb-true _ _ (and_both (ltb (argument_of w % 32) 1) (ltb (argument_of w / 32) (2 ^ 32)) e).1
small_scope w (suc (suc (suc (suc (suc (suc (suc (suc n)))))))) q l m e = absurd (omega arith)

module _ (S : List ℕ) (a : AdmittedSheet S) where
  fits_word : (i : ℕ) → i < length (kind_words S) → argument_fits (kind_of (get_or (kind_words S) i 0)) (argument_of (get_or (kind_words S) i 0)) ≡ true
  fits_word i h =
      subst (λ (w : ℕ). argument_fits (kind_of w) (argument_of w) ≡ true) (word_at (kind_words S) (span_words S) (a.spans ∙ sym a.kinds) i h)
      (argument (get_or (items S) i an_item) (a.fits i (omega (arith, a.kinds))))

  pub sane : Sane (kind_words S)
  unfolding open_at
  sane = record {
    few = omega (arith, a.kinds, a.few);
    labels = λ i h k. small_name (get_or (kind_words S) i 0) k (fits_word i h);
    scopes = λ i h l m. small_scope (get_or (kind_words S) i 0) (kind_of (get_or (kind_words S) i 0)) refl l m (fits_word i h);
    tidy = a.tidy;
    closed = λ ss e i h k. a.closed ss e i h (omega arith) (omega arith);
  }

  pub whole_room : WholeRoom (kind_words S)
  unfolding open_at tree
  whole_room ss e = omega (arith, a.room ss e)
