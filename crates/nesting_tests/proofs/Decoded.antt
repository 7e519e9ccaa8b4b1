-- What refusal 5 asks of a number it asks of the kind that the table has for it: a number that the table lacks is asked nothing, as 0 is. Assumes nothing.
use Prim.Native.Nat.{ℕ, ◌<◌}
use mathlib.Core.List.{List}
use mathlib.Core.Logic.{inl, inr}
use mathlib.Core.Path.{◌≡◌, sym, ap}
use Rattle.std.proofs.Common.{Option, Some, None, arith}
use Rattle.std.proofs.lemmas.Bool.Decides.{nat_tests}
use Rattle.flow.specs.Kinds.{opens}
use Rattle.flow.specs.Refusals.{may_stand, open_after, may_follow}
use Rattle.kinds.specs.declared.Kind.{Kind}
use Rattle.kinds.specs.Numbers.{number_or_none, Decoded}

unknown_stands : (n : ℕ) (os : List ℕ) → 19 < n → may_stand 0 os ≡ may_stand n os
unfolding may_stand
unknown_stands n os h = grind (arith, nat_tests)

unknown_opens : (n : ℕ) → 19 < n → opens 0 ≡ opens n
unknown_opens n h = grind (arith, nat_tests)

unknown_leaves : (n : ℕ) (os : List ℕ) → 19 < n → open_after 0 os ≡ open_after n os
unfolding open_after
unknown_leaves n os h = grind (arith, nat_tests)

unknown_before : (n m : ℕ) → 19 < n → may_follow 0 m ≡ may_follow n m
unfolding may_follow
unknown_before n m h = grind (arith, nat_tests)

same : {A : Type 0} (f : ℕ → A) → ((n : ℕ) → 19 < n → f 0 ≡ f n) → (n : ℕ) (r : Option Kind) → Decoded n r → f (number_or_none r) ≡ f n
same f u n (Some k) d = ap f d
same f u n None (inl z) = ap f (sym z)
same f u n None (inr h) = u n h

pub stands_same : (n : ℕ) (r : Option Kind) → Decoded n r → (os : List ℕ) → may_stand (number_or_none r) os ≡ may_stand n os
stands_same n r d os = same (λ (k : ℕ). may_stand k os) (λ m h. unknown_stands m os h) n r d

pub opens_same : (n : ℕ) (r : Option Kind) → Decoded n r → opens (number_or_none r) ≡ opens n
opens_same n r d = same opens unknown_opens n r d

pub leaves_same : (n : ℕ) (r : Option Kind) → Decoded n r → (os : List ℕ) → open_after (number_or_none r) os ≡ open_after n os
leaves_same n r d os = same (λ (k : ℕ). open_after k os) (λ m h. unknown_leaves m os h) n r d

pub follows_same : (n : ℕ) (r : Option Kind) → Decoded n r → (m : ℕ) → may_follow (number_or_none r) m ≡ may_follow n m
follows_same n r d m = same (λ (k : ℕ). may_follow k m) (λ k h. unknown_before k m h) n r d
