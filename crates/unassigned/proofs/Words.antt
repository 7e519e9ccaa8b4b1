-- The word of a walk's first unassigned use: how many such words there are, and how great they get.
-- Assumes nothing.
use Prim.Native.Nat.{ℕ, ◌+◌, ◌*◌, ◌≤◌}
use mathlib.Core.Path.{◌≡◌, refl, ap}
use mathlib.Core.Bool.{Bool, true, false, cond}
use mathlib.Core.List.{List, [], ◌∷◌, map}
use native.Mathlib.Omega.{arith}
use lib.ListN.{length}
use Rattle.std.specs.Prelude.{Some, None}
use Rattle.flow.specs.Locals.{only_if}
use Rattle.flow.specs.Findings.{Use, of_use}
use Rattle.flow.specs.Judge.{words_of}
use Rattle.empty_read.specs.FirstRead.{first_number}
use Rattle.unassigned.specs.Words.{words_at}

-- the word of a use that a walk finds, of which a finding holds the number + 1
pub words_at_one : (ℓ number : ℕ) → words_at ℓ (Some number) ≡ (2 * ℓ + 4294967296 * (number + 1)) ∷ []
words_at_one ℓ number = ap (λ (w : ℕ). w ∷ []) (omega arith)

-- the word of such a use, or none, if the walk is due
pub words_are : (ℓ : ℕ) (due : Bool) (us : List Use) → length us ≤ 1 → words_at ℓ (cond due (first_number us) None) ≡ words_of (map (of_use 0 ℓ) (only_if due us))
words_are ℓ true [] h = refl
words_are ℓ true (u ∷ []) h = refl
words_are ℓ true (u ∷ v ∷ us) h = absurd (omega arith)
words_are ℓ false us h = refl
