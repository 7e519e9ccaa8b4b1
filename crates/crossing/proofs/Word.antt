-- A use's crossing by the parts of an admitted scope sheet, and the uses' words one after the other.
-- Assumes nothing.
use mathlib.Core.Path.{◌≡◌, refl, sym, ap, ◌∙◌, subst}
use mathlib.Core.List.{List, [], ◌∷◌, ◌++◌}
use Prim.Native.Nat.{ℕ, zero, suc, ◌+◌, ◌*◌, ◌≤◌, ◌<◌}
use native.Mathlib.Numerals.{add-one}
use native.Mathlib.Omega.{arith}
use native.Mathlib.Decide.{dec_lt}
use lib.ListN.{length, get_or, set, take, drop, length-take, length-drop, length-set, drop_of_length-le}
use lib.Seq.{take-length, get_or-take, get_or-drop, drop-cons}
use Rattle.flow.specs.Sheet.{count_word, local_of}
use Rattle.flow.specs.Scopes.{scope_kinds, parent_words, scope_numbers, Lower, crosses, crosses_at, with_crossing, crossed_from}
use Rattle.flow.specs.Admitted.{AdmittedScopes}
use Rattle.crossing.specs.Tables.{names_before}
use Rattle.scope_parts.specs.Parts.{ScopesCounted}
use Rattle.scope_parts.proofs.Parts.{kinds_long, parents_long}

-- the next of a list that is passed up to a place
pub next_at : (k : ℕ) (l : List ℕ) {x : ℕ} {rest : List ℕ} → drop k l ≡ x ∷ rest → (k < length l) × (x ≡ get_or l k 0) × (rest ≡ drop (k + 1) l)
next_at k l e = elim (dec_lt k (length l)) [
  | yes h ↦ let d : drop k l ≡ get_or l k 0 ∷ drop (k + 1) l = rw (add-one, drop-cons l k 0 h) in (h, cc, cc)
  | no q ↦ absurd (let d : drop k l ≡ [] = drop_of_length-le l (omega arith) in cc)
]

-- ---- the parts of an admitted scope sheet

-- its arrays, the scopes of names, and those of uses
pub record Parted (ws C kinds parents front back : List ℕ) : Type 0 where
  pub admitted : AdmittedScopes (names_before ws C) (length ws) C
  pub kinds_are : kinds ≡ scope_kinds C
  pub parents_are : parents ≡ parent_words C
  pub front_is : front ≡ take (names_before ws C) (scope_numbers C)
  pub back_is : back ≡ drop (names_before ws C) (scope_numbers C)

pub counted : (ws : List ℕ) {C : List ℕ} → AdmittedScopes (names_before ws C) (length ws) C → ScopesCounted C
counted ws a = record { few = a.few; long = omega (arith, a.words) }

pub numbers_long : (ws : List ℕ) {C : List ℕ} → AdmittedScopes (names_before ws C) (length ws) C → length (scope_numbers C) ≡ names_before ws C + length ws
numbers_long ws {C} a = omega (arith, length-drop (1 + 2 * count_word C) C, a.words)

module _ {ws C kinds parents front back : List ℕ} (t : Parted ws C kinds parents front back) where
  abbrev names : ℕ
  names = names_before ws C

  many : length kinds ≡ count_word C
  many = ap length t.kinds_are ∙ kinds_long C (counted ws t.admitted)

  pub chains_hold : (length kinds ≡ length parents) × (length kinds ≤ 512) × Lower parents
  chains_hold = (many ∙ sym (ap length t.parents_are ∙ parents_long C (counted ws t.admitted)), omega (arith, many, t.admitted.few), subst Lower (sym t.parents_are) t.admitted.lower)

  inside : (i : ℕ) → i < names + length ws → get_or (scope_numbers C) i 0 < length kinds
  inside i h = rw many (t.admitted.inside i h)

  pub names_long : length front ≡ names
  names_long = omega (arith, ap length t.front_is, length-take names (scope_numbers C))

  pub uses_long : length back ≡ length ws
  uses_long = omega (arith, ap length t.back_is, length-drop names (scope_numbers C), numbers_long ws t.admitted)

  name_at : (ℓ : ℕ) → ℓ < names → get_or front ℓ 0 ≡ get_or (scope_numbers C) ℓ 0
  name_at ℓ h = rw t.front_is (get_or-take names (scope_numbers C) ℓ 0 h)

  use_at : (u : ℕ) → get_or back u 0 ≡ get_or (scope_numbers C) (names + u) 0
  use_at u = rw t.back_is (get_or-drop names (scope_numbers C) u 0)

  pub name_inside : (ℓ : ℕ) → ℓ < length front → get_or front ℓ 0 < length kinds
  name_inside ℓ h = let l : ℓ < names = omega (arith, names_long) in rw (name_at ℓ l) (inside ℓ (omega arith))

  pub use_inside : (u : ℕ) → u < length ws → get_or back u 0 < length kinds
  use_inside u h = rw (use_at u) (inside (names + u) (omega arith))

  pub crosses_is : (u w : ℕ) → local_of w < names → crosses (length kinds) kinds parents (get_or front (local_of w) 0) (get_or back u 0) ≡ crosses_at names C u w
  crosses_is u w h = rw (name_at (local_of w) h, use_at u, many, t.kinds_are, t.parents_are)

-- ---- all uses: i of the words ws are passed in a column that was `old`

module _ (names : ℕ) (C : List ℕ) where
  pub record Replacing (i : ℕ) (ws old col : List ℕ) : Type 0 where
    pub long : length col ≡ length old
    pub cells : col ≡ crossed_from names C 0 (take i ws) ++ drop i old

  pub none_yet : {ws old : List ℕ} → Replacing 0 ws old old
  unfolding crossed_from
  none_yet = record { long = refl; cells = refl }

  one_more : (v i : ℕ) (ws old : List ℕ) → i < length ws → i < length old
      → set (crossed_from names C v (take i ws) ++ drop i old) i (with_crossing (crosses_at names C (v + i) (get_or ws i 0)) (get_or ws i 0)) ≡ crossed_from names C v (take (suc i) ws) ++ drop (suc i) old
  unfolding crossed_from
  one_more v i [] old h q = absurd (omega arith)
  one_more v i (w ∷ ws) [] h q = absurd (omega arith)
  one_more v zero (w ∷ ws) (x ∷ old) h q = let z : v + 0 ≡ v = omega arith in ap (λ (k : ℕ). with_crossing (crosses_at names C k w) w ∷ old) z
  one_more v (suc i) (w ∷ ws) (x ∷ old) h q =
      let z : v + suc i ≡ v + 1 + i = omega arith in
      ap (λ (k : ℕ). with_crossing (crosses_at names C v w) w ∷ set (crossed_from names C (v + 1) (take i ws) ++ drop i old) i (with_crossing (crosses_at names C k (get_or ws i 0)) (get_or ws i 0))) z
      ∙ ap (λ (t : List ℕ). with_crossing (crosses_at names C v w) w ∷ t) (one_more (v + 1) i ws old (omega arith) (omega arith))

  pub replaced_one : {i : ℕ} {ws old col new : List ℕ} → Replacing i ws old col → i < length ws → i < length old → new ≡ set col i (with_crossing (crosses_at names C i (get_or ws i 0)) (get_or ws i 0)) → Replacing (i + 1) ws old new
  replaced_one {i} {ws} {old} {col} r h q e =
      let z : i ≡ 0 + i = omega arith in
      record {
        long = ap length e ∙ length-set col i _ ∙ r.long;
        cells =
            e
            ∙ ap (λ (k : ℕ). set col i (with_crossing (crosses_at names C k (get_or ws i 0)) (get_or ws i 0))) z
            ∙ ap (λ (l : List ℕ). set l i (with_crossing (crosses_at names C (0 + i) (get_or ws i 0)) (get_or ws i 0))) r.cells
            ∙ one_more 0 i ws old h q
            ∙ ap (λ (k : ℕ). crossed_from names C 0 (take k ws) ++ drop k old) (sym (add-one i));
      }

  pub all_replaced : (ws old : List ℕ) {i : ℕ} {col : List ℕ} → i ≡ length ws → Replacing i ws old col → col ≡ crossed_from names C 0 ws ++ drop (length ws) old
  all_replaced ws old e r = rw e at r.cells ∙ ap (λ (l : List ℕ). crossed_from names C 0 l ++ drop (length ws) old) (take-length ws)
