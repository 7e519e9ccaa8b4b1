-- Uses and names one by one, and as the definitions take them. Assumes nothing.
use Prim.Native.Nat.{ℕ, ◌+◌}
use mathlib.Core.Bool.{Bool, ◌&&◌}
use mathlib.Core.List.{List, [], ◌∷◌}
use mathlib.Core.Path.{◌≡◌, refl, ap, ◌∙◌}
use native.Mathlib.Omega.{arith}
use lib.Dec.{eqb}
use lib.ListN.{length}
use Rattle.std.proofs.lemmas.List.Sums.{sum_by-cons}
use Rattle.std.specs.List.{count_by, list_all}
use Rattle.std.specs.List as lists
use Rattle.flow.specs.Kinds.{kinds}
use Rattle.flow.specs.Refusals.{one, name_count, use_fits, uses_fit}
use Rattle.flow.specs.Sheet.{kind_of, zip}
open kinds use {NAME}

pub names_counted : (ws ss : List ℕ) → length ws ≡ length ss → count_by (λ w. eqb (kind_of w) NAME) ws ≡ name_count (zip ws ss)
unfolding name_count
names_counted [] ss e = refl
names_counted (w ∷ ws) [] e = absurd (omega arith)
names_counted (w ∷ ws) (s ∷ ss) e = sum_by-cons (λ w. one (eqb (kind_of w) NAME)) w ws ∙ ap (λ (n : ℕ). one (eqb (kind_of w) NAME) + n) (names_counted ws ss (omega arith))

-- each use, of a word and a span
pub uses_here : (names : ℕ) (ws ss : List ℕ) → length ws ≡ length ss → list_all (λ (p : ℕ × ℕ). use_fits names p.0 p.1) (lists.zip ws ss) ≡ uses_fit names ws ss
unfolding uses_fit
uses_here names [] ss e = refl
uses_here names (w ∷ ws) [] e = absurd (omega arith)
uses_here names (w ∷ ws) (s ∷ ss) e = ap (λ (b : Bool). use_fits names w s && b) (uses_here names ws ss (omega arith))
