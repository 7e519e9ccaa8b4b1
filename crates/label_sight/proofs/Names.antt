-- Names in lists: which of them stand in a joined list, and when one stands there twice.
-- Assumes nothing.
use mathlib.Core.Path.{◌≡◌, refl, sym, ap, ◌∙◌}
use mathlib.Core.List.{List, [], ◌∷◌, ◌++◌, append_assoc, append-nil}
use mathlib.Core.Bool.{Bool, true, false, ◌&&◌, ◌||◌, not, and_assoc, and-true, or-false}
use Rattle.std.proofs.Math.Bool.{or-true}
use Prim.Native.Nat.{ℕ, ◌+◌, ◌<◌}
use native.Mathlib.Numerals.{add-one}
use native.Mathlib.Decide.{ℕ_discrete}
use lib.Dec.{eqb}
use lib.ListN.{length, get_or, take, drop, take-append-drop}
use lib.Seq.{take-suc}
use borrow.Author.Tests.{eq-eqb, ne_eqb}
use Rattle.flow.specs.Sheet.{member}
use Rattle.flow.specs.Labels.{distinct}
use Rattle.flow.proofs.Lookup.{one_of_append}
use Rattle.label_sight.specs.Labels.{none_repeats}

eqb_comm : (a b : ℕ) → eqb a b ≡ eqb b a
eqb_comm a b = elim (ℕ_discrete a b) [ yes e ↦ eq-eqb a b e ∙ sym (eq-eqb b a (sym e)) | no q ↦ ne_eqb a b q ∙ sym (ne_eqb b a (λ e. q (sym e))) ]

-- a name more, at the end
pub distinct_more : (xs : List ℕ) (a : ℕ) → distinct (xs ++ (a ∷ [])) ≡ (distinct xs && not (member a xs))
unfolding distinct
distinct_more [] a = refl
distinct_more (x ∷ xs) a =
    rw (one_of_append x xs (a ∷ []), distinct_more xs a, eqb_comm x a) (go (member x xs) (eqb a x) (distinct xs) (member a xs))
  where
    go : (p e q r : Bool) → (not (p || (e || false)) && (q && not r)) ≡ ((not p && q) && not (e || r))
    go true e q r = refl
    go false true true r = refl
    go false true false r = refl
    go false false q r = refl

-- ---- names that come one after the other

-- the last of them
pub none_more : (xs ys : List ℕ) (a : ℕ) → none_repeats xs (ys ++ (a ∷ [])) ≡ (none_repeats xs ys && not (member a (xs ++ ys)))
unfolding none_repeats
none_more xs [] a = rw (append-nil xs) (and-true (not (member a xs)))
none_more xs (y ∷ ys) a =
    rw (none_more (xs ++ (y ∷ [])) ys a, append_assoc xs (y ∷ []) ys) (sym (and_assoc (not (member y xs)) (none_repeats (xs ++ (y ∷ [])) ys) (not (member a (xs ++ (y ∷ ys))))))

-- in a block without a repeat they leave none exactly where none of them is one
pub none_distinct : (xs as' : List ℕ) → (distinct xs && none_repeats xs as') ≡ distinct (xs ++ as')
unfolding none_repeats
none_distinct xs [] = rw (append-nil xs) (and-true (distinct xs))
none_distinct xs (a ∷ as') =
    sym (and_assoc (distinct xs) (not (member a xs)) (none_repeats (xs ++ (a ∷ [])) as'))
    ∙ ap (λ (b : Bool). b && none_repeats (xs ++ (a ∷ [])) as') (sym (distinct_more xs a))
    ∙ none_distinct (xs ++ (a ∷ [])) as'
    ∙ ap distinct (append_assoc xs (a ∷ []) as')

-- ---- the search for a name, one after the other

pub look_one : (a i : ℕ) (l : List ℕ) → i < length l → member a (take (i + 1) l) ≡ (member a (take i l) || eqb (get_or l i 0) a)
look_one a i l h =
    rw (add-one i, take-suc l i 0 h)
    (one_of_append a (take i l) (get_or l i 0 ∷ []) ∙ ap (λ (b : Bool). member a (take i l) || b) (or-false (eqb a (get_or l i 0)) ∙ eqb_comm a (get_or l i 0)))

-- ---- the search for a name, the latest first

module _ (a k : ℕ) (xs : List ℕ) {front back : List ℕ} (f : front ≡ take k xs) (b : back ≡ drop k xs) where
  by_parts : member a xs ≡ (member a front || member a back)
  by_parts = ap (member a) (sym (take-append-drop k xs)) ∙ one_of_append a (take k xs) (drop k xs) ∙ rw (sym f, sym b) refl

  -- it is found where it is among the latest, and else sought among those before
  pub found_behind : member a back ≡ true → member a xs ≡ true
  found_behind h = by_parts ∙ rw h (or-true (member a front))

  pub not_behind : member a back ≡ false → member a xs ≡ member a front
  not_behind h = by_parts ∙ rw h (or-false (member a front))

-- as where it is the last
pub latest_found : (a x : ℕ) (xs front : List ℕ) → xs ≡ front ++ (x ∷ []) → x ≡ a → member a xs ≡ true
latest_found a x xs front e q =
    rw e (one_of_append a front (x ∷ []) ∙ ap (λ (b : Bool). member a front || b) (or-false (eqb a x) ∙ eq-eqb a x (sym q)) ∙ or-true (member a front))
