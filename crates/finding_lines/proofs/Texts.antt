-- A finding's line by its list.
-- Assumes nothing.
use mathlib.Core.Path.{◌≡◌}
use mathlib.Core.List.{[], ◌∷◌}
use Prim.Native.Nat.{ℕ, ◌-◌, ◌/◌, ◌%◌, ◌^◌}
use borrow.Author.Tests.{eq-eqb, ne_eqb}
use Rattle.flow.specs.Sheet.{start_of, end_of}
use Rattle.flow.specs.Listing.{line, finding_line}

pub unassigned : (w s : ℕ) {u : ℕ} → w % 2 ≡ 0 → u ≡ w / 2 ^ 32 - 1
    → finding_line (record { word = w; span = s }) ≡ line "unassigned" (w / 2 % 2 ^ 31 ∷ u ∷ start_of s ∷ end_of s ∷ [])
unfolding finding_line
unassigned w s e h = rw (eq-eqb (w % 2) 0 e, h)

pub overwritten : (w s : ℕ) → (w % 2 ≡ 0 → ⊥)
    → finding_line (record { word = w; span = s }) ≡ line "overwritten" (w / 2 % 2 ^ 31 ∷ start_of s ∷ end_of s ∷ [])
unfolding finding_line
overwritten w s n = rw (ne_eqb (w % 2) 0 n)
