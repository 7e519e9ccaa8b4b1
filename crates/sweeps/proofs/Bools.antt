-- Laws of tests. Assumes nothing.
use Prim.Native.Nat.{◌≤◌, zero-le}
use mathlib.Core.Bool.{Bool, true, false, ◌&&◌, ◌||◌, not}
use mathlib.Core.Path.{◌≡◌, refl}
use native.Mathlib.Nat.{le_refl}
use Rattle.flow.specs.Refusals.{one}

-- of two tests each of two, the first of both and the second of both
pub and_pairs : (a b c d : Bool) → (a && b && (c && d)) ≡ (a && c && (b && d))
and_pairs true true c d = refl
and_pairs true false true d = refl
and_pairs true false false d = refl
and_pairs false b c d = refl

pub not_or : (a b : Bool) → not (a || b) ≡ (not a && not b)
not_or true b = refl
not_or false b = refl

pub one_most : (b : Bool) → one b ≤ 1
one_most true = le_refl 1
one_most false = zero-le
