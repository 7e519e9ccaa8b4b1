-- The definition of refusal 5 as a sweep. Assumes nothing.
use Prim.Native.Nat.{ℕ}
use mathlib.Core.Bool.{◌&&◌}
use mathlib.Core.List.{List, ◌∷◌}
use mathlib.Core.Path.{◌≡◌}
use Rattle.flow.specs.Refusals.{may_stand, open_after, pairs_up, may_follow, side_by_side}
use Rattle.flow.specs.Sheet.{Item, kind}
use Rattle.sweeps.proofs.Bools.{and_pairs}
use Rattle.sweeps.proofs.Sweep.{Sweep}

-- 5, with what is open and the kind before
pub nesting_law : (os : List ℕ) (k : ℕ) (i : Item) (is : List Item) → (pairs_up os (i ∷ is) && side_by_side k (i ∷ is)) ≡ (may_stand (kind i) os && may_follow k (kind i) && (pairs_up (open_after (kind i) os) is && side_by_side (kind i) is))
unfolding pairs_up side_by_side
nesting_law os k i is = and_pairs (may_stand (kind i) os) (pairs_up (open_after (kind i) os) is) (may_follow k (kind i)) (side_by_side (kind i) is)

abbrev pub nesting : Sweep
nesting =
    record {
      State = List ℕ × ℕ;
      all = λ s is. pairs_up s.0 is && side_by_side s.1 is;
      fits = λ s i. may_stand (kind i) s.0 && may_follow s.1 (kind i);
      after = λ s i. (open_after (kind i) s.0, kind i);
      law = λ s i is. nesting_law s.0 s.1 i is;
    }
