-- A sweep: each item in turn passes a test, which a state goes into that the items before it left. What a turn of its loop shows, and its end.
-- Assumes nothing.
use Prim.Native.Nat.{ℕ, ◌+◌, ◌≤◌, ◌<◌}
use mathlib.Core.Bool.{Bool, true, false, ◌&&◌}
use mathlib.Core.List.{List, [], ◌∷◌}
use mathlib.Core.Path.{◌≡◌, sym, ap, ◌∙◌}
use native.Mathlib.Numerals.{add-one}
use native.Mathlib.Omega.{arith}
use lib.ListN.{length, get_or, drop, drop_of_length-le}
use lib.Seq.{drop-cons}
use Rattle.flow.specs.Sheet.{Item, zip}

-- the items from the i-th on, and the i-th
abbrev pub rest : List ℕ → List ℕ → ℕ → List Item
rest ks ss i = zip (drop i ks) (drop i ss)

abbrev pub item : List ℕ → List ℕ → ℕ → Item
item ks ss i = record { word = get_or ks i 0; span = get_or ss i 0 }

pub rest_next : (ks ss : List ℕ) (i : ℕ) → length ks ≡ length ss → i < length ks → rest ks ss i ≡ item ks ss i ∷ rest ks ss (i + 1)
rest_next ks ss i e h =
    let k : i < length ss = omega arith in
    rw (add-one i, drop-cons ks i 0 h, drop-cons ss i 0 k)

pub rest_none : (ks ss : List ℕ) (i : ℕ) → length ks ≤ i → rest ks ss i ≡ []
rest_none ks ss i h = rw (drop_of_length-le ks {i = i} h)

pub record Sweep : Type 1 where
  pub State : Type 0
  pub all : State → List Item → Bool
  pub fits : State → Item → Bool
  pub after : State → Item → State
  pub law : (s : State) (i : Item) (is : List Item) → all s (i ∷ is) ≡ (fits s i && all (after s i) is)

-- a sweep that began in state s₀ has come to the i-th item in state s, and all passed
pub record Swept (w : Sweep) (ks ss : List ℕ) (s₀ : w.State) (i : ℕ) (s : w.State) : Type 0 where
  pub within : i ≤ length ks
  pub left : w.all s (rest ks ss i) ≡ w.all s₀ (zip ks ss)

module _ {w : Sweep} {ks ss : List ℕ} {s₀ : w.State} {i : ℕ} {s : w.State} (so_far : Swept w ks ss s₀ i s) where
  turn : length ks ≡ length ss → i < length ks → w.all s₀ (zip ks ss) ≡ (w.fits s (item ks ss i) && w.all (w.after s (item ks ss i)) (rest ks ss (i + 1)))
  turn e h = sym so_far.left ∙ ap (w.all s) (rest_next ks ss i e h) ∙ w.law s (item ks ss i) (rest ks ss (i + 1))

  pub onward : length ks ≡ length ss → i < length ks → w.fits s (item ks ss i) ≡ true → Swept w ks ss s₀ (i + 1) (w.after s (item ks ss i))
  onward e h f =
      record {
        within = omega arith;
        left = sym (turn e h ∙ ap (λ (b : Bool). b && w.all (w.after s (item ks ss i)) (rest ks ss (i + 1))) f);
      }

  pub fails : length ks ≡ length ss → i < length ks → w.fits s (item ks ss i) ≡ false → w.all s₀ (zip ks ss) ≡ false
  fails e h f = turn e h ∙ ap (λ (b : Bool). b && w.all (w.after s (item ks ss i)) (rest ks ss (i + 1))) f

  pub ends : length ks ≤ i → w.all s₀ (zip ks ss) ≡ w.all s []
  ends h = sym so_far.left ∙ ap (w.all s) (rest_none ks ss i h)

-- what holds of the items from the i-th on, said of the i-th and those behind it
pub from_here : {B : Type 0} (f : List Item → B) (ks ss : List ℕ) (i : ℕ) {v : B} → length ks ≡ length ss → i < length ks → f (rest ks ss i) ≡ v → f (item ks ss i ∷ rest ks ss (i + 1)) ≡ v
from_here f ks ss i e h p = sym (ap f (rest_next ks ss i e h)) ∙ p
