-- The definition of refusal 4 as a sweep, with the openers and the closers so far. Assumes nothing.
use Prim.Native.Nat.{ℕ, ◌+◌}
use mathlib.Core.Bool.{◌&&◌, not}
use mathlib.Core.List.{List, ◌∷◌}
use mathlib.Core.Path.{◌≡◌}
use lib.Dec.{ltb}
use Rattle.flow.specs.Kinds.{opens, closes}
use Rattle.flow.specs.Refusals.{one, outnumbered}
use Rattle.flow.specs.Sheet.{Item, kind}
use Rattle.sweeps.proofs.Bools.{not_or}
use Rattle.sweeps.proofs.Sweep.{Sweep}

pub shallow_law : (o c : ℕ) (i : Item) (is : List Item) → not (outnumbered o c (i ∷ is)) ≡ (not (ltb (c + 64) o) && not (outnumbered (o + one (opens (kind i))) (c + one (closes (kind i))) is))
unfolding outnumbered
shallow_law o c i is = not_or (ltb (c + 64) o) _

abbrev pub shallow : Sweep
shallow =
    record {
      State = ℕ × ℕ;
      all = λ s is. not (outnumbered s.0 s.1 is);
      fits = λ s i. not (ltb (s.1 + 64) s.0);
      after = λ s i. (s.0 + one (opens (kind i)), s.1 + one (closes (kind i)));
      law = λ s i is. shallow_law s.0 s.1 i is;
    }
