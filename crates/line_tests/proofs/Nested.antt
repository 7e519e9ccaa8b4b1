-- The scopes around an item, where refusals 4 and 5 do not apply: they have room, and are one more than what is open.
-- Assumes nothing.
use Prim.Native.Nat.{ℕ, ◌+◌, ◌-◌, ◌<◌}
use mathlib.Core.Bool.{true, false}
use mathlib.Core.List.{List, [], ◌∷◌}
use mathlib.Core.Path.{◌≡◌, sym, ap, subst, ◌∙◌}
use native.Mathlib.Omega.{arith}
use lib.ListN.{length}
use Rattle.search.proofs.Bools.{and_both}
use Rattle.flow.specs.Kinds.{opens, closes}
use Rattle.flow.specs.Refusals.{one, outnumbered, may_stand, open_after, pairs_up, scopes_after}
use Rattle.flow.specs.Sheet.{Item, kind, member}
use Rattle.nesting_tests.proofs.Nesting.{most, deep_next, closer_in, arm_in, turned_length, open_length}
use Rattle.line_tests.specs.declared.Scope.{Scope}
use Rattle.line_tests.specs.Scopes.{scope_ends}
use Rattle.line_tests.specs.Turn.{Room}
use Rattle.line_tests.proofs.Lows.{length_ends}

pub scopes_length : (k e : ℕ) (ss : List ℕ) → Room (length ss) k → length (scopes_after k e ss) ≡ length ss + one (opens k) - one (closes k)
unfolding scopes_after
scopes_length k e ss r = turned_length k e e ss (member k (6 ∷ 7 ∷ [])) (λ p. omega (arith, r.closer))

-- what 4 and 5 show of the items to come, with depth items open
pub record Nested (depth : ℕ) (is : List Item) : Type 0 where
  pub opened : List ℕ
  pub counted : length opened ≡ depth
  pub pairs : pairs_up opened is ≡ true
  pub few : outnumbered depth 0 is ≡ false

stands : (os : List ℕ) (i : Item) (is : List Item) → pairs_up os (i ∷ is) ≡ true → (may_stand (kind i) os ≡ true) × (pairs_up (open_after (kind i) os) is ≡ true)
unfolding pairs_up
stands os i is e = and_both _ _ e

pub nested_room : (count : ℕ) (i : Item) (is : List Item) → 0 < count → Nested (count - 1) (i ∷ is) → Room count (kind i)
nested_room count i is h n =
    let s = stands n.opened i is n.pairs in
    record {
      most = omega (arith, most (count - 1) i is n.few);
      closer = omega (arith, closer_in (kind i) n.opened s.0, n.counted);
      arm = omega (arith, arm_in (kind i) n.opened s.0, n.counted);
    }

pub nested_next : (d : ℕ) (i : Item) (is : List Item) → Nested d (i ∷ is) → Nested (d + one (opens (kind i)) - one (closes (kind i))) is
nested_next d i is n =
    let s = stands n.opened i is n.pairs in
    record {
      opened = open_after (kind i) n.opened;
      counted = open_length (kind i) n.opened s.0 ∙ ap (λ (x : ℕ). x + one (opens (kind i)) - one (closes (kind i))) n.counted;
      pairs = s.1;
      few = deep_next d i is (omega (arith, closer_in (kind i) n.opened s.0, n.counted)) n.few;
    }

-- the scopes around are one more than what is open
pub scopes_next : (i : Item) (is : List Item) (e : ℕ) (old new : List Scope) → 0 < length old → Nested (length old - 1) (i ∷ is) → scope_ends new ≡ scopes_after (kind i) e (scope_ends old) → (0 < length new) × Nested (length new - 1) is
scopes_next i is e old new h n p =
    let count = length old in
    let room = nested_room count i is h n in
    let l = length_ends old in
    let z : length new ≡ count + one (opens (kind i)) - one (closes (kind i)) = sym (length_ends new) ∙ ap length p ∙ scopes_length (kind i) e (scope_ends old) (subst (λ (m : ℕ). Room m (kind i)) (sym l) room) ∙ ap (λ (m : ℕ). m + one (opens (kind i)) - one (closes (kind i))) l in
    let y : count - 1 + one (opens (kind i)) - one (closes (kind i)) ≡ length new - 1 = omega (arith, z, room.closer) in
    (omega (arith, z, room.closer), subst (λ (m : ℕ). Nested m is) y (nested_next (count - 1) i is n))
