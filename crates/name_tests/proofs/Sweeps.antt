-- The definition of refusal 7 as a sweep, with the LOCAL's span and where its last NAME ends. Assumes nothing.
use Prim.Native.Nat.{ℕ}
use mathlib.Core.Bool.{◌&&◌}
use mathlib.Core.List.{List, ◌∷◌}
use mathlib.Core.Path.{◌≡◌, refl}
use Rattle.flow.specs.Refusals.{names_fit}
use Rattle.flow.specs.Sheet.{Item}
use Rattle.name_tests.specs.Turn.{fits_here, local_after, reached_after}
use Rattle.sweeps.proofs.Sweep.{Sweep}

pub naming_law : (l p : ℕ) (i : Item) (is : List Item) → names_fit l p (i ∷ is) ≡ (fits_here l p i && names_fit (local_after l i) (reached_after p i) is)
unfolding names_fit
naming_law l p i is = refl

abbrev pub naming : Sweep
naming = record { State = ℕ × ℕ; all = λ s is. names_fit s.0 s.1 is; fits = λ s i. fits_here s.0 s.1 i; after = λ s i. (local_after s.0 i, reached_after s.1 i); law = λ s i is. naming_law s.0 s.1 i is }
