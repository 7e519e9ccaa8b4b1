-- `line_tests::off_the_line` meets its contract: its loop is the sweep of refusal 6, with the scope ends around on a stack that 4 and 5 bound.
-- Assumes nothing.
use Prim.Native.Nat.{◌+◌, ◌-◌}
use mathlib.Core.Bool.{not}
use mathlib.Core.List.{◌∷◌}
use mathlib.Core.Path.{sym, ap, subst, ◌∙◌}
use lib.ListN.{length}
use Rattle.std.proofs.Common.{rules}
use Rattle.std.proofs.lemmas.List.{length_push}
use Rattle.flow.specs.Refusals.{in_order, inside_scopes}
use Rattle.flow.specs.Sheet.{kind, scope_end_of}
use Rattle.line_tests.specs.Turn.{Room}
use Rattle.line_tests.proofs.Nested.{Nested, nested_room, scopes_next}
use Rattle.sweeps.proofs.Pairs.{Turn, turn, now_at, rest_at, onward_at, fails_at, ends_at}
use Rattle.sweeps.proofs.Sweep.{rest}
use Rattle.line_tests.proofs.off_the_line.Goals as goal
use Rattle.line_tests.proofs.off_the_line.Goals.{In-Some}

turn_here : (c : In-Some) → Turn c.args.items.words.now c.args.items.spans.now c.loop-word.yielded (c.in-Some.word, c.in-Some.span)
turn_here c = turn c.args.items.words.now c.args.items.spans.now c.loop-word.yielded c.into_iter-word-iterator.result c.loop-word.word-iterator c.next.new.self c.next.result (search rules) (search rules) c.loop-word.yielded_by _ c.in-Some.is c.next.ensures.steps

nested_here : (c : In-Some) → Nested (length c.loop-word.scopes.items - 1) (now_at (c.in-Some.word, c.in-Some.span) ∷ rest c.args.items.words.now c.args.items.spans.now (length c.loop-word.yielded + 1))
nested_here c = subst (Nested (length c.loop-word.scopes.items - 1)) (rest_at c.args.items.paired (turn_here c)) c.loop-word.invariant.nested

room_here : (c : In-Some) → Room (length c.loop-word.scopes.items) (kind (now_at (c.in-Some.word, c.in-Some.span)))
room_here c = nested_room (length c.loop-word.scopes.items) _ _ c.loop-word.invariant.some (nested_here c)

pub item_held-requires-clause-room : goal.item_held-requires-clause-room
item_held-requires-clause-room c = rw c.as_slice.ensures.value (room_here (goal.at.item_held-requires-clause-room c).In-Some)

pub returns-then-not-item_held : goal.returns-then-not-item_held
returns-then-not-item_held c =
    let held = rw c.as_slice.ensures.value at c.item_held.ensures in
    sym (ap not (fails_at c.loop-word.invariant.swept c.args.items.paired (turn_here (goal.at.returns-then-not-item_held c).In-Some) (sym held ∙ c.if-not-item_held.true)))

pub scopes_after-requires-clause-room : goal.scopes_after-requires-clause-room
scopes_after-requires-clause-room c = room_here (goal.at.scopes_after-requires-clause-room c).In-Some

pub loop-word-preserved : goal.loop-word-preserved
loop-word-preserved c =
    let here = (goal.at.loop-word-preserved c).In-Some in
    let held = rw c.as_slice.ensures.value at c.item_held.ensures in
    let next = scopes_next (now_at (c.in-Some.word, c.in-Some.span)) (rest c.args.items.words.now c.args.items.spans.now (length c.loop-word.yielded + 1)) (scope_end_of c.in-Some.word.now) c.loop-word.scopes.items c.scopes_after.new.scopes.items c.loop-word.invariant.some (nested_here here) c.scopes_after.ensures.ends in
    record {
      lowest = c.scopes_after.ensures.lowest_2;
      some = next.0;
      nested = rw (length_push c.loop-word.yielded (c.in-Some.word, c.in-Some.span)) next.1;
      swept = rw (c.reached_after-reached.ensures, c.is_code-code.ensures c.in-Some.span.now, c.scopes_after.ensures.ends) (onward_at c.loop-word.invariant.swept c.args.items.paired (turn_here here) (sym held ∙ c.if-not-item_held.false));
    }

pub returns : goal.returns
unfolding in_order inside_scopes
returns c = sym (ap not (ends_at c.loop-word.yielded c.loop-word.invariant.swept c.args.items.paired c.into_iter-word-iterator.result c.loop-word.word-iterator c.next.new.self c.next.result (search rules) (search rules) c.loop-word.yielded_by c.in-None.is c.next.ensures.steps))
