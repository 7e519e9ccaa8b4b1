-- `nesting_tests::bad_nesting` meets its contract: its loop is the sweep of refusal 5, with what is open on a stack that 4 bounds.
-- Assumes nothing.
use Prim.Native.Nat.{ℕ, ◌+◌, ◌-◌, ◌%◌, ◌≤◌}
use mathlib.Core.Bool.{Bool, true, ◌&&◌, not}
use mathlib.Core.Path.{◌≡◌, sym, ap, ap₂, ◌∙◌}
use native.Mathlib.Omega.{arith}
use lib.Dec.{eqb}
use lib.ListN.{length, get_or}
use Rattle.std.specs.List.{slice_get}
use Rattle.flow.specs.Kinds.{opens}
use Rattle.kinds.specs.Numbers.{number_or_none}
use Rattle.flow.specs.Refusals.{one, innermost, outnumbered, may_stand, may_follow, pairs_up, side_by_side}
use Rattle.nesting_tests.specs.Stack.{open_kinds}
use Rattle.nesting_tests.proofs.Decoded.{stands_same, opens_same, leaves_same, follows_same}
use Rattle.nesting_tests.proofs.Nesting.{most, deep_next, closer_in}
use Rattle.nesting_tests.proofs.Opened.{innermost_last, length_open, opened_next, none_open}
use Rattle.sweeps.proofs.Sweep.{onward, fails, ends, from_here, rest, item}
use Rattle.nesting_tests.proofs.bad_nesting.Goals as goal
use Rattle.nesting_tests.proofs.bad_nesting.Goals.{After-may_stand, then-not-may_stand-via-then-not-may_stand, then-not-may_stand-via-else-not-may_stand+then-not-may_follow, then-is_empty, else-is_empty}

-- of the item that the loop has come to
stand_is : (c : After-may_stand) → may_stand (get_or c.args.items.words.now c.loop-word.word-index 0 % 256) (open_kinds c.loop-word.opened.items) ≡ c.may_stand.result
stand_is c =
    let inner = c.copied-inner.ensures ∙ c.last.ensures.value ∙ ap (λ l. slice_get l (length l - 1)) c.as_slice.ensures.value in
    sym (c.may_stand.ensures (open_kinds c.loop-word.opened.items) (innermost_last c.loop-word.opened.items ∙ ap number_or_none (sym inner)) ∙ stands_same _ _ c.of-kind.ensures (open_kinds c.loop-word.opened.items))

room_here : (c : After-may_stand) → length c.loop-word.opened.items + one (opens (get_or c.args.items.words.now c.loop-word.word-index 0 % 256)) ≤ 64
room_here c =
    let few = from_here (outnumbered (length c.loop-word.opened.items) 0) c.args.items.words.now c.args.items.spans.now c.loop-word.word-index c.args.items.paired c.loop-word-test.true c.loop-word.invariant.shallow in
    most (length c.loop-word.opened.items) (item c.args.items.words.now c.args.items.spans.now c.loop-word.word-index) _ few

pub returns-then-not-may_stand : goal.returns-then-not-may_stand
returns-then-not-may_stand c =
    let stand = stand_is (goal.at.returns-then-not-may_stand c).After-may_stand in
    sym
    (ap not
    (elim c.then-not-may_stand.branch [
      | then-not-may_stand-via-then-not-may_stand w ↦ fails c.loop-word.invariant.swept c.args.items.paired c.loop-word-test.true (rw (stand ∙ w.if-not-may_stand.true))
      | then-not-may_stand-via-else-not-may_stand+then-not-may_follow w ↦ fails c.loop-word.invariant.swept c.args.items.paired c.loop-word-test.true (ap₂ ◌&&◌ (stand ∙ w.if-not-may_stand.false) (sym (follows_same _ _ c.loop-word.invariant.decoded _) ∙ sym w.may_follow.ensures ∙ w.if-not-may_follow.true))
    ]))

pub open_after-requires : goal.open_after-requires
open_after-requires c = omega (arith, room_here (goal.at.open_after-requires c).After-may_stand, ap one (opens_same _ _ c.of-kind.ensures))

pub loop-word-preserved : goal.loop-word-preserved
loop-word-preserved c =
    let here = (goal.at.loop-word-preserved c).After-may_stand in
    let ks = c.loop-word.opened.items in
    let k = get_or c.args.items.words.now c.loop-word.word-index 0 % 256 in
    let stand : may_stand k (open_kinds ks) ≡ true = stand_is here ∙ c.if-not-may_stand.false in
    let opened = c.open_after.ensures ∙ leaves_same k _ c.of-kind.ensures (open_kinds ks) in
    let depth = opened_next k ks c.open_after.new.opened.items stand opened in
    let few = from_here (outnumbered (length ks) 0) c.args.items.words.now c.args.items.spans.now c.loop-word.word-index c.args.items.paired c.loop-word-test.true c.loop-word.invariant.shallow in
    let closer = closer_in k (open_kinds ks) stand in
    record {
      few = omega (arith, depth, room_here here);
      shallow =
          ap (λ (n : ℕ). outnumbered n 0 (rest c.args.items.words.now c.args.items.spans.now (c.loop-word.word-index + 1))) depth
          ∙ deep_next (length ks) (item c.args.items.words.now c.args.items.spans.now c.loop-word.word-index) _ (omega (arith, closer, length_open ks)) few;
      last = k;
      decoded = c.of-kind.ensures;
      swept = rw opened (onward c.loop-word.invariant.swept c.args.items.paired c.loop-word-test.true (ap₂ ◌&&◌ stand (sym (follows_same _ _ c.loop-word.invariant.decoded _) ∙ sym c.may_follow.ensures ∙ c.if-not-may_follow.false)));
    }

pub returns : goal.returns
unfolding pairs_up side_by_side
returns c =
    let k = c.loop-word.invariant.last in
    let ks = c.loop-word.opened.items in
    let empty : c.is_empty.result ≡ eqb (innermost (open_kinds ks)) 0 = c.is_empty.ensures ∙ sym (none_open ks) in
    let all_right : c.if-is_empty.result ≡ (eqb (innermost (open_kinds ks)) 0 && may_follow k 0) =
    elim c.if-is_empty.branch [
      | then-is_empty w ↦ w.result-is ∙ w.may_follow-then-is_empty.ensures ∙ follows_same k _ c.loop-word.invariant.decoded 0 ∙ ap (λ (b : Bool). b && may_follow k 0) (sym w.if-is_empty.true ∙ empty)
      | else-is_empty w ↦ w.result-is ∙ w.if-is_empty.false ∙ ap (λ (b : Bool). b && may_follow k 0) (sym w.if-is_empty.false ∙ empty)
    ] in
    ap not (all_right ∙ sym (ends c.loop-word.invariant.swept c.loop-word-test.false))
