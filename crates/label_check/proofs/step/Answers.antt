-- `label_check::step` meets its contract: the law of the walk for each kind.
-- Assumes nothing.
use Prim.Native.Nat.{ℕ, ◌+◌, ◌≤◌, ◌<◌}
use mathlib.Core.Logic.{◌⊎◌}
use mathlib.Core.Path.{◌≡◌, refl}
use mathlib.Core.List.{List}
use native.Mathlib.Omega.{arith}
use lib.ListN.{length, get_or}
use Rattle.std.proofs.Common.{rules}
use Rattle.flow.specs.Sheet.{kind_of}
use Rattle.label_check.specs.Walk.{Entering}
use Rattle.label_check.proofs.Walks.{enter_room, entered_after, few_open, open_entering, arm_entering, close_open, close_after, jump_after, other_after}
use Rattle.label_check.proofs.step.Goals as goal
use Rattle.label_check.proofs.step.Goals.{After-next_arm, After-open}

-- ---- an opener
pub open-requires : goal.open-requires
open-requires c = few_open refl (c.requires.by_index c.args.kinds.now refl) c.requires.checkable.2 c.requires.checkable.0

opening : (c : After-open) (ss : List ℕ) → length ss ≡ length c.args.kinds.now → Entering c.args.kinds.now ss (c.args.j + 1) c.«open».new.self
opening c ss e =
    let k : (1 ≤ kind_of (get_or c.args.kinds.now c.args.j 0)) × (kind_of (get_or c.args.kinds.now c.args.j 0) ≤ 5) = search rules in
    open_entering e (c.requires.by_index ss e) c.requires.checkable.2 c.requires.checkable.0 k.0 k.1 c.«open».ensures

pub enter-requires-clause-by_index : goal.enter-requires-clause-by_index
enter-requires-clause-by_index c = enter_room c.requires.checkable.0 (omega arith) (opening (goal.at.enter-requires-clause-by_index c).After-open)

pub returns-in-Some-Do : goal.returns-in-Some-Do
returns-in-Some-Do c = λ ss e. entered_after (opening (goal.at.returns-in-Some-Do c).After-open ss e) (c.enter.ensures.by_index ss e) (c.enter.ensures.once ss e)

-- ---- ELSEIF and ELSE
arming : (c : After-next_arm) (ss : List ℕ) → length ss ≡ length c.args.kinds.now → Entering c.args.kinds.now ss (c.args.j + 1) c.next_arm.new.self
arming c ss e =
    let k : (6 ≤ kind_of (get_or c.args.kinds.now c.args.j 0)) × (kind_of (get_or c.args.kinds.now c.args.j 0) ≤ 7) = search rules in
    arm_entering e (c.requires.by_index ss e) c.requires.checkable.2 k.0 k.1 c.next_arm.ensures

pub enter-requires-in-Some-ElseIf-clause-by_index : goal.enter-requires-in-Some-ElseIf-clause-by_index
enter-requires-in-Some-ElseIf-clause-by_index c = enter_room c.requires.checkable.0 (omega arith) (arming (goal.at.enter-requires-in-Some-ElseIf-clause-by_index c).After-next_arm)

pub returns-in-Some-ElseIf : goal.returns-in-Some-ElseIf
returns-in-Some-ElseIf c =
    λ ss e. entered_after (arming (goal.at.returns-in-Some-ElseIf c).After-next_arm ss e) (c.enter-in-Some-ElseIf.ensures.by_index ss e) (c.enter-in-Some-ElseIf.ensures.once ss e)

-- ---- a closer
pub close-requires : goal.close-requires
close-requires c =
    let k : (8 ≤ kind_of (get_or c.args.kinds.now c.args.j 0)) × (kind_of (get_or c.args.kinds.now c.args.j 0) ≤ 9) = search rules in
    close_open refl (c.requires.by_index c.args.kinds.now refl) c.requires.checkable.2 k.0 k.1

pub returns-in-Some-End : goal.returns-in-Some-End
returns-in-Some-End c =
    let k : (8 ≤ kind_of (get_or c.args.kinds.now c.args.j 0)) × (kind_of (get_or c.args.kinds.now c.args.j 0) ≤ 9) = search rules in
    λ ss e. close_after e (c.requires.by_index ss e) c.requires.checkable.2 k.0 k.1 c.close.ensures

-- ---- GOTO
pub returns-in-Some-Goto : goal.returns-in-Some-Goto
returns-in-Some-Goto c =
    let k : kind_of (get_or c.args.kinds.now c.args.j 0) ≡ 13 = search rules in
    λ ss e. jump_after e (c.requires.by_index ss e) c.requires.checkable.2 (λ n least most q. omega (arith, k)) k c.sees.ensures

-- ---- what has no block
pub returns-in_default : goal.returns-in_default
returns-in_default c =
    let k : (10 ≤ kind_of (get_or c.args.kinds.now c.args.j 0)) × (kind_of (get_or c.args.kinds.now c.args.j 0) ≡ 13 → ⊥) = search rules in
    λ ss e. other_after e (c.requires.by_index ss e) c.requires.checkable.2 (λ n least most q. omega (arith, k.0)) k.1

pub returns-in_default-2 : goal.returns-in_default-2
returns-in_default-2 c =
    let k : (kind_of (get_or c.args.kinds.now c.args.j 0) ≡ 0) ⊎ (19 < kind_of (get_or c.args.kinds.now c.args.j 0)) = search rules in
    λ ss e. other_after e (c.requires.by_index ss e) c.requires.checkable.2 (λ n least most q. omega (arith, k)) (λ q. omega (arith, k))
