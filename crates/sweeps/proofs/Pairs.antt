-- Words and spans side by side, as a chain or a `for` over both slices takes them. Assumes nothing.
use Prim.Native.Nat.{ℕ, ◌+◌, ◌<◌}
use mathlib.Core.Bool.{Bool, true, false, ◌&&◌}
use mathlib.Core.List.{List, [], ◌∷◌, ◌++◌}
use mathlib.Core.Path.{◌≡◌, refl, sym, ap, ap₂, subst, ◌∙◌}
use native.Mathlib.Omega.{arith}
use denote.Ref.{Bor}
use Rattle.flow.specs.Sheet.{Item, all, zip}
use lib.ListN.{length, get_or}
use Rattle.std.proofs.Common.{Iter, Option, Some, None}
use Rattle.std.proofs.lemmas.List.{length_push}
use Rattle.std.proofs.lemmas.Slice.Zip.{zip_turn, zip_end}
use Rattle.sweeps.proofs.Sweep.{Sweep, Swept, rest, rest_next, item, onward, fails, ends}
use Rattle.std.specs.Iterator.{Yields}
use Rattle.std.specs.declared.iter.Zip.{Zip}
use Rattle.std.proofs.iter.Yields.{fronts}
use Rattle.std.proofs.lemmas.Iterator.{YieldsList, YieldsList-from_slice, YieldsList-from_zip, zips}
use Rattle.std.specs.Iterator.Adapters.{zip_first, zip_second}
use Rattle.std.specs.List.{list_all}
use Rattle.std.specs.List as lists
use Rattle.std.specs.Slice.Iter.{iter_rest}

abbrev pub here : ℕ × ℕ → Item
here p = record { word = p.0; span = p.1 }

pub side_by_side : (ws ss : List ℕ) {s : Zip (Iter ℕ) (Iter ℕ)} → iter_rest (zip_first s) ≡ ws → iter_rest (zip_second s) ≡ ss → YieldsList {B = ℕ × ℕ} (zips fronts fronts) (λ p. (p.0.now, p.1.now)) s (lists.zip ws ss)
side_by_side ws ss p q = YieldsList-from_zip (YieldsList-from_slice ws p) (YieldsList-from_slice ss q)

pub all_here : (test : Item → Bool) (ws ss : List ℕ) → list_all (λ (p : ℕ × ℕ). test (here p)) (lists.zip ws ss) ≡ all test (zip ws ss)
unfolding all
all_here test [] ss = refl
all_here test (w ∷ ws) [] = refl
all_here test (w ∷ ws) (s ∷ ss) = ap (λ (b : Bool). test (record { word = w; span = s }) && b) (all_here test ws ss)

-- the item that a `for` over both slices comes to past xs
pub record Turn (ws ss : List ℕ) (xs : List (Bor ℕ × Bor ℕ)) (p : Bor ℕ × Bor ℕ) : Type 0 where
  pub within : length xs < length ws
  pub word : p.0.now ≡ get_or ws (length xs) 0
  pub span : p.1.now ≡ get_or ss (length xs) 0

pub turn : (ws ss : List ℕ) (xs : List (Bor ℕ × Bor ℕ)) (s t u : Zip (Iter ℕ) (Iter ℕ)) (r : Option (Bor ℕ × Bor ℕ)) → iter_rest (zip_first s) ≡ ws → iter_rest (zip_second s) ≡ ss → Yields (zips fronts fronts) s xs t → (p : Bor ℕ × Bor ℕ) → r ≡ Some p → zips fronts fronts t r u → Turn ws ss xs p
turn ws ss xs s t u r a b y p e n =
    let z = zip_turn ws ss xs s t u r a b y p e n in
    record { within = z.0; word = z.2 0; span = z.3 0 }

abbrev pub now_at : Bor ℕ × Bor ℕ → Item
now_at p = record { word = p.0.now; span = p.1.now }

-- what is to come begins with it
pub rest_at : {ws ss : List ℕ} {xs : List (Bor ℕ × Bor ℕ)} {p : Bor ℕ × Bor ℕ} → length ws ≡ length ss → Turn ws ss xs p → rest ws ss (length xs) ≡ now_at p ∷ rest ws ss (length xs + 1)
rest_at {ws} {ss} {xs} {p} e t = rest_next ws ss (length xs) e t.within ∙ ap₂ (λ (a b : ℕ). let i : Item = record { word = a; span = b } in i ∷ rest ws ss (length xs + 1)) (sym t.word) (sym t.span)

module _ {w : Sweep} {ws ss : List ℕ} {s₀ s : w.State} {xs : List (Bor ℕ × Bor ℕ)} {p : Bor ℕ × Bor ℕ} (so_far : Swept w ws ss s₀ (length xs) s) (e : length ws ≡ length ss) (t : Turn ws ss xs p) where
  at_item : item ws ss (length xs) ≡ now_at p
  at_item = ap₂ (λ (a b : ℕ). let i : Item = record { word = a; span = b } in i) (sym t.word) (sym t.span)

  pub onward_at : w.fits s (now_at p) ≡ true → Swept w ws ss s₀ (length (xs ++ p ∷ [])) (w.after s (now_at p))
  onward_at f =
      let next : Swept w ws ss s₀ (length xs + 1) (w.after s (now_at p)) = subst (λ (i : Item). w.fits s i ≡ true → Swept w ws ss s₀ (length xs + 1) (w.after s i)) at_item (onward so_far e t.within) f in
      rw (length_push xs p) next

  pub fails_at : w.fits s (now_at p) ≡ false → w.all s₀ (zip ws ss) ≡ false
  fails_at f = fails so_far e t.within (ap (w.fits s) at_item ∙ f)

-- where the `for` ends
pub ends_at : {w : Sweep} {ws ss : List ℕ} {s₀ s : w.State} (xs : List (Bor ℕ × Bor ℕ)) → Swept w ws ss s₀ (length xs) s → length ws ≡ length ss → (a t u : Zip (Iter ℕ) (Iter ℕ)) (r : Option (Bor ℕ × Bor ℕ)) → iter_rest (zip_first a) ≡ ws → iter_rest (zip_second a) ≡ ss → Yields (zips fronts fronts) a xs t → r ≡ None → zips fronts fronts t r u → w.all s₀ (zip ws ss) ≡ w.all s []
ends_at {w} {ws} {ss} {s₀} {s} xs so_far e a t u r p q y n z = ends so_far (omega (arith, zip_end ws ss xs a t u r p q y n z, e))
