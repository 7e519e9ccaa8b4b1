-- The computed crossing is the relation over the chain of parents, and the use sheet with its bits replaced is what 02 says of it.
-- Assumes nothing.
use mathlib.Core.Path.{◌≡◌, refl, sym, ap, ◌∙◌, subst}
use mathlib.Core.Logic.{◌↔◌}
use mathlib.Core.Bool.{Bool, true, false, cond, false≢true}
use mathlib.Core.List.{List, [], ◌∷◌, ◌++◌}
use Prim.Native.Nat.{ℕ, zero, suc, ◌+◌, ◌*◌, ◌≤◌, ◌<◌}
use native.Mathlib.Omega.{arith}
use lib.ListN.{length, take, drop, get_or, length-drop, length-append, take-append-drop}
use lib.Seq.{take_at, take_all, take-length, drop-append_seam, length-take-le}
use lib.Dec.{eqb, leb}
use borrow.Author.Tests.{eqb-true, eqb-false, eq-eqb, ne_eqb, leb-true, ltb-true, not-false}
use Rattle.std.specs.Prelude.{Ok}
use Rattle.search.proofs.Bools.{and_both}
use Rattle.flow.specs.Sheet.{all, count_word, items, use_words, use_spans, local_of, use_kind_of, crossing_of}
use Rattle.flow.specs.Refusals.{one, name_count, Test, first_applying, item_tests, pair_tests, pair_verdict}
use Rattle.flow.specs.Admitted.{AdmittedUses, AdmittedScopes}
use Rattle.flow.specs.Scopes.{scope_kinds, parent_words, scope_numbers, parents_lower, scopes_fit, name_scope, use_scope, FUNCTION, Crosses, met, further, Lower, crosses, crosses_by, crosses_at, is_below, scopes_wrong, with_crossing, crossed_from, use_sheet, crossed, Replaced, bad_scopes, scoped_tests, scoped_verdict}
use Rattle.flow.proofs.Tests.{passed_one, passed}

-- what is told from a scope on, by what is told from its parent on
abbrev onward : (ℕ → Bool) → ℕ → Bool
onward told w = elim w [ zero ↦ false | suc p ↦ told p ]

module _ (C : List ℕ) (name : ℕ) where
  abbrev told : ℕ → ℕ → Bool
  told k = crosses k (scope_kinds C) (parent_words C) name

  -- ---- computed, then related

  module _ (s : ℕ) (rest : ℕ → Bool) (sound : (p : ℕ) → rest p ≡ true → Crosses C name p) where
    by_parent : (w : ℕ) → get_or (parent_words C) s 0 ≡ w → (s ≡ name → ⊥) → onward rest w ≡ true → Crosses C name s
    by_parent zero q n f = absurd (false≢true f)
    by_parent (suc p) q n f = further {p = p} n (q ∙ omega arith) (sound p f)

    by_kind : (b : Bool) → eqb (get_or (scope_kinds C) s 0) FUNCTION ≡ b → (s ≡ name → ⊥) → cond b true (onward rest (get_or (parent_words C) s 0)) ≡ true → Crosses C name s
    by_kind true q n f = met n (eqb-true _ _ q)
    by_kind false q n f = by_parent (get_or (parent_words C) s 0) refl n f

    by_name : (b : Bool) → eqb s name ≡ b → cond b false (cond (eqb (get_or (scope_kinds C) s 0) FUNCTION) true (onward rest (get_or (parent_words C) s 0))) ≡ true → Crosses C name s
    by_name true q f = absurd (false≢true f)
    by_name false q f = by_kind (eqb (get_or (scope_kinds C) s 0) FUNCTION) refl (eqb-false _ _ q) f

  crosses_sound : (k s : ℕ) → told k s ≡ true → Crosses C name s
  unfolding crosses
  crosses_sound zero s e = absurd (false≢true e)
  crosses_sound (suc k) s e = by_name s (told k) (crosses_sound k) (eqb s name) refl e

  -- ---- related, then computed: from s on, s + 1 scopes are enough

  either : (b c : Bool) → c ≡ true → cond b true c ≡ true
  either true c e = refl
  either false c e = e

  crosses_complete : (k s : ℕ) → Lower (parent_words C) → s < k → Crosses C name s → told k s ≡ true
  unfolding crosses
  crosses_complete zero s low h x = absurd (omega arith)
  crosses_complete (suc k) s low h (met n e) = rw (ne_eqb s name n, eq-eqb _ _ e)
  crosses_complete (suc k) s low h (further {p = p} n e x) =
      let rest : told k p ≡ true = crosses_complete k p low (omega (arith, low s, e)) x in
      let z : get_or (parent_words C) s 0 ≡ suc p = e ∙ omega arith in
      rw (ne_eqb s name n) (either (eqb (get_or (scope_kinds C) s 0) FUNCTION) (onward (told k) (get_or (parent_words C) s 0)) (rw z rest))

  -- "reaching the name's scope first means no, meeting a Function first means yes, running out means no"
  pub crosses_decides : (s : ℕ) → Lower (parent_words C) → s < count_word C → (crosses_by C name s ≡ true) ↔ Crosses C name s
  crosses_decides s low h = (crosses_sound (count_word C) s, crosses_complete (count_word C) s low h)

-- ---- a use's word with its bit replaced

one_few : (b : Bool) → one b ≤ 1
one_few true = omega arith
one_few false = omega arith

one_is : (b : Bool) → one b ≡ 1 → b ≡ true
one_is true e = refl
one_is false e = absurd (omega arith)

module _ (b : Bool) (w : ℕ) where
  pub replaced_local : local_of (with_crossing b w) ≡ local_of w
  replaced_local = omega (arith, one_few b)

  pub replaced_kind : use_kind_of (with_crossing b w) ≡ use_kind_of w
  replaced_kind = omega (arith, one_few b)

  pub replaced_crossing : crossing_of (with_crossing b w) ≡ one b
  replaced_crossing = omega (arith, one_few b)

-- ---- the use sheet with its bits replaced

pub crossed_length : (names : ℕ) (C : List ℕ) (u : ℕ) (ws : List ℕ) → length (crossed_from names C u ws) ≡ length ws
unfolding crossed_from
crossed_length names C u [] = refl
crossed_length names C u (w ∷ ws) = omega (arith, crossed_length names C (u + 1) ws)

pub crossed_at : (names : ℕ) (C : List ℕ) (u : ℕ) (ws : List ℕ) (i : ℕ) → i < length ws → get_or (crossed_from names C u ws) i 0 ≡ with_crossing (crosses_at names C (u + i) (get_or ws i 0)) (get_or ws i 0)
unfolding crossed_from
crossed_at names C u [] i h = absurd (omega arith)
crossed_at names C u (w ∷ ws) zero h = let z : u ≡ u + 0 = omega arith in ap (λ (k : ℕ). with_crossing (crosses_at names C k w) w) z
crossed_at names C u (w ∷ ws) (suc i) h =
    let z : u + 1 + i ≡ u + suc i = omega arith in
    crossed_at names C (u + 1) ws i (omega arith) ∙ ap (λ (k : ℕ). with_crossing (crosses_at names C k (get_or ws i 0)) (get_or ws i 0)) z

past_first : (m k : ℕ) (xs : List ℕ) → drop (1 + m) (k ∷ xs) ≡ drop m xs
past_first m k xs = let z : 1 + m ≡ suc m = omega arith in ap (λ (j : ℕ). drop j (k ∷ xs)) z

-- a use sheet by its two arrays has these
module _ (ws ss : List ℕ) where
  pub sheet_words : use_words (use_sheet ws ss) ≡ ws
  sheet_words = take_at ws ss (length ws) refl

  pub sheet_spans : length ss ≡ length ws → use_spans (use_sheet ws ss) ≡ ss
  sheet_spans e = ap (take (length ws)) (past_first (length ws) (length ws) (ws ++ ss) ∙ drop-append_seam ws ss) ∙ subst (λ (k : ℕ). take k ss ≡ ss) e (take-length ss)

-- and a counted one is made of its own
pub sheet_again : (U : List ℕ) → length U ≡ 2 * count_word U + 1 → use_sheet (use_words U) (use_spans U) ≡ U
sheet_again [] e = absurd (omega arith)
sheet_again (m ∷ U) e =
    let few : length (take m U) ≡ m = length-take-le m U (omega arith) in
    let rest : take m (drop m U) ≡ drop m U = take_all m (drop m U) (omega (arith, length-drop m U)) in
    ap (λ (z : List ℕ). use_sheet (take m U) (take m z)) (past_first m m U) ∙ ap (λ (k : ℕ). k ∷ (take m U ++ take m (drop m U))) few ∙ ap (λ (z : List ℕ). m ∷ (take m U ++ z)) rest ∙ ap (λ (z : List ℕ). m ∷ z) (take-append-drop m U)

-- ---- what fits

all_at : (p : ℕ → Bool) (xs : List ℕ) → all p xs ≡ true → (i : ℕ) → i < length xs → p (get_or xs i 0) ≡ true
unfolding all
all_at p [] e i h = absurd (omega arith)
all_at p (x ∷ xs) e zero h = (and_both (p x) (all p xs) e).0
all_at p (x ∷ xs) e (suc i) h = all_at p xs (and_both (p x) (all p xs) e).1 i (omega arith)

lower_at : (s : ℕ) (ws : List ℕ) → parents_lower s ws ≡ true → (i : ℕ) → get_or ws i 0 ≤ s + i
unfolding parents_lower
lower_at s [] e i = omega arith
lower_at s (w ∷ ws) e zero = omega (arith, leb-true w s (and_both (leb w s) (parents_lower (s + 1) ws) e).0)
lower_at s (w ∷ ws) e (suc i) = omega (arith, lower_at (s + 1) ws (and_both (leb w s) (parents_lower (s + 1) ws) e).1 i)

pub admitted_scopes : (names uses : ℕ) (C : List ℕ) → scopes_fit names uses C ≡ true → AdmittedScopes names uses C
unfolding scopes_fit
admitted_scopes names uses C e =
    let a = and_both _ _ e in
    let b = and_both _ _ a.0 in
    let c = and_both _ _ b.0 in
    let d = and_both (leb (count_word C) 512) _ c.0 in
    let words : length C ≡ 1 + 2 * count_word C + names + uses = eqb-true _ _ d.1 in
    record {
      few = leb-true _ _ d.0;
      words = words;
      lower = λ s. omega (arith, lower_at 0 (parent_words C) b.1 s);
      inside = λ i h. ltb-true _ _ (all_at (is_below (count_word C)) (scope_numbers C) a.1 i (omega (arith, words, length-drop (1 + 2 * count_word C) C)));
    }

-- ---- the replaced use sheet is admitted, and is what 02 says of it

module _ (S U C : List ℕ) where
  abbrev names : ℕ
  names = name_count (items S)

  abbrev words : List ℕ
  words = crossed_from names C 0 (use_words U)

  abbrev sheet : List ℕ
  sheet = use_sheet words (use_spans U)

  module _ (a : AdmittedUses S U) where
    many : length words ≡ count_word U
    many = crossed_length names C 0 (use_words U) ∙ a.uses

    words_are : use_words sheet ≡ words
    words_are = sheet_words words (use_spans U)

    spans_are : use_spans sheet ≡ use_spans U
    spans_are = sheet_spans words (use_spans U) (a.spans ∙ sym many)

    -- the word of use u
    word_at : (u : ℕ) → u < count_word U → get_or (use_words sheet) u 0 ≡ with_crossing (crosses_at names C u (get_or (use_words U) u 0)) (get_or (use_words U) u 0)
    word_at u h =
        let z : 0 + u ≡ u = omega arith in
        ap (λ (l : List ℕ). get_or l u 0) words_are ∙ crossed_at names C 0 (use_words U) u (omega (arith, a.uses)) ∙ ap (λ (k : ℕ). with_crossing (crosses_at names C k (get_or (use_words U) u 0)) (get_or (use_words U) u 0)) z

    local_at_law : (u : ℕ) → u < count_word U → local_of (get_or (use_words sheet) u 0) ≡ local_of (get_or (use_words U) u 0)
    local_at_law u h = ap local_of (word_at u h) ∙ replaced_local (crosses_at names C u (get_or (use_words U) u 0)) (get_or (use_words U) u 0)

    kind_at : (u : ℕ) → u < count_word U → use_kind_of (get_or (use_words sheet) u 0) ≡ use_kind_of (get_or (use_words U) u 0)
    kind_at u h = ap use_kind_of (word_at u h) ∙ replaced_kind (crosses_at names C u (get_or (use_words U) u 0)) (get_or (use_words U) u 0)

    crossing_told : (u : ℕ) → u < count_word U → crossing_of (get_or (use_words sheet) u 0) ≡ one (crosses_at names C u (get_or (use_words U) u 0))
    crossing_told u h = ap crossing_of (word_at u h) ∙ replaced_crossing (crosses_at names C u (get_or (use_words U) u 0)) (get_or (use_words U) u 0)

    bit_at : (u : ℕ) → u < count_word U → crossing_of (get_or (use_words sheet) u 0) ≤ 1
    bit_at u h = omega (arith, crossing_told u h, one_few (crosses_at names C u (get_or (use_words U) u 0)))

    replaced_admitted : AdmittedUses S sheet
    replaced_admitted = record {
      words = omega (arith, many, a.spans, length-append words (use_spans U));
      few = omega (arith, many, a.few);
      uses = ap length words_are;
      spans = ap length spans_are ∙ a.spans ∙ sym many;
      names = a.names;
      known = λ u h. let q : u < count_word U = omega (arith, many) in omega (arith, local_at_law u q, a.known u q);
      kinds = λ u h. let q : u < count_word U = omega (arith, many) in omega (arith, kind_at u q, a.kinds u q);
    }

    module _ (f : AdmittedScopes (name_count (items S)) (count_word U) C) where
      crossing_at : (u : ℕ) → u < count_word U → (crossing_of (get_or (use_words sheet) u 0) ≡ 1) ↔ Crosses C (name_scope C (local_of (get_or (use_words U) u 0))) (use_scope names C u)
      crossing_at u h =
          let w = get_or (use_words U) u 0 in
          let told = crossing_told u h in
          let d = crosses_decides C (name_scope C (local_of w)) (use_scope names C u) f.lower (f.inside (names + u) (omega arith)) in
          (λ e. d.0 (one_is (crosses_at names C u w) (sym told ∙ e)), λ x. told ∙ ap one (d.1 x))

      replaced_so : Replaced S U C sheet
      replaced_so = record { as_many = many; spans = spans_are; local = local_at_law; kind = kind_at; bit = bit_at; crossing = crossing_at }

pub crossed_admitted : (S U C : List ℕ) → AdmittedUses S U → AdmittedUses S (crossed S U C)
unfolding crossed
crossed_admitted S U [] a = a
crossed_admitted S U (c ∷ C) a = replaced_admitted S U (c ∷ C) a

-- "When one comes it replaces the bit"
pub crossed_replaced : (S U C : List ℕ) → (C ≡ [] → ⊥) → AdmittedUses S U → bad_scopes S U C ≡ false → Replaced S U C (crossed S U C)
unfolding crossed scopes_wrong
crossed_replaced S U [] n a e = absurd (n refl)
crossed_replaced S U (c ∷ C) n a e = replaced_so S U (c ∷ C) a (admitted_scopes _ _ (c ∷ C) (not-false _ e))

-- the tests in front passed
front_passed : (ts us : List Test) → first_applying (ts ++ us) ≡ Ok tt → first_applying ts ≡ Ok tt
unfolding first_applying
front_passed [] us e = refl
front_passed (t ∷ ts) us e = let p = passed_one t.1 t.0 (first_applying (ts ++ us)) e in rw p.0 (front_passed ts us p.1)

-- ---- without a scope sheet all is as it was

pub no_scopes_verdict : (short : Bool) (S U : List ℕ) → scoped_verdict short S U [] ≡ pair_verdict short S U
unfolding scoped_verdict scoped_tests scopes_wrong pair_verdict pair_tests item_tests first_applying
no_scopes_verdict short S U = refl

-- ---- what the verdict of all three sheets shows

module _ (short : Bool) (S U C : List ℕ) (e : scoped_verdict short S U C ≡ Ok tt) where
  pub scoped_fits : bad_scopes S U C ≡ false
  unfolding scoped_verdict scoped_tests pair_tests item_tests
  scoped_fits = passed (scoped_tests short S U C) e 9

  pub scoped_pair : pair_verdict short S U ≡ Ok tt
  unfolding scoped_verdict scoped_tests pair_verdict
  scoped_pair = front_passed (pair_tests short S U) _ e
