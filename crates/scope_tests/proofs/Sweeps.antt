-- The tests of refusal 9 over a list, as a chain over a slice makes them.
-- Assumes nothing.
use mathlib.Core.Path.{◌≡◌, refl, ap}
use mathlib.Core.Bool.{Bool, ◌&&◌}
use mathlib.Core.List.{List, [], ◌∷◌}
use Prim.Native.Nat.{ℕ, ◌+◌}
use lib.Dec.{leb}
use Rattle.std.specs.List.{list_all, enumerate_from}
use Rattle.flow.specs.Sheet.{all}
use Rattle.flow.specs.Scopes.{is_below, parents_lower}

pub all_are_below : (n : ℕ) (ws : List ℕ) → list_all (is_below n) ws ≡ all (is_below n) ws
unfolding all
all_are_below n [] = refl
all_are_below n (w ∷ ws) = ap (λ (b : Bool). is_below n w && b) (all_are_below n ws)

pub all_are_lower : (s : ℕ) (ws : List ℕ) → list_all (λ (p : ℕ × ℕ). leb p.1 p.0) (enumerate_from s ws) ≡ parents_lower s ws
unfolding parents_lower
all_are_lower s [] = refl
all_are_lower s (w ∷ ws) = ap (λ (b : Bool). leb w s && b) (all_are_lower (s + 1) ws)
