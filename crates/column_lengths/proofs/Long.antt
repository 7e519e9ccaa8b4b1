-- Columns that are not too short have the cells that are asked for.
-- Assumes nothing.
use mathlib.Core.Bool.{Bool, false}
use mathlib.Core.List.{List, [], ◌∷◌}
use mathlib.Core.Path.{◌≡◌}
use Prim.Native.Nat.{ℕ, ◌≤◌}
use borrow.Author.Tests.{ltb-false}
use lib.Dec.{ltb}
use Rattle.search.proofs.Bools.{neither}
use Rattle.column_lengths.specs.Lengths.{any_below}

abbrev pub AllLong : ℕ → List ℕ → Type 0
AllLong n [] = Unit {0}
AllLong n (l ∷ ls) = (n ≤ l) × AllLong n ls

pub all_long : (n : ℕ) (ls : List ℕ) (others : Bool) → any_below n ls others ≡ false → AllLong n ls × (others ≡ false)
all_long n [] others e = (tt, e)
all_long n (l ∷ ls) others e =
    let p = neither (ltb l n) (any_below n ls others) e in
    let q = all_long n ls others p.1 in
    ((ltb-false l n p.0, q.0), q.1)
