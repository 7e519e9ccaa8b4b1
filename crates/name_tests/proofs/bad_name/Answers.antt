-- `name_tests::bad_name` meets its contract: its loop is the sweep of refusal 7. Assumes nothing.
use mathlib.Core.Bool.{not}
use mathlib.Core.Path.{sym, ap}
use Rattle.std.proofs.Common.{rules}
use Rattle.flow.specs.Refusals.{names_fit}
use Rattle.sweeps.proofs.Pairs.{turn, onward_at, fails_at, ends_at}
use Rattle.name_tests.proofs.bad_name.Goals as goal

pub returns-in_default : goal.returns-in_default
returns-in_default c =
    let t = turn c.args.items.words.now c.args.items.spans.now c.loop-word.yielded c.into_iter-word-iterator.result c.loop-word.word-iterator c.next.new.self c.next.result (search rules) (search rules) c.loop-word.yielded_by _ c.in-Some.is c.next.ensures.steps in
    sym (ap not (fails_at c.loop-word.invariant c.args.items.paired t c.in_default.ensures))

pub loop-word-preserved : goal.loop-word-preserved
loop-word-preserved c =
    let t = turn c.args.items.words.now c.args.items.spans.now c.loop-word.yielded c.into_iter-word-iterator.result c.loop-word.word-iterator c.next.new.self c.next.result (search rules) (search rules) c.loop-word.yielded_by _ c.in-Some.is c.next.ensures.steps in
    rw (c.in-Some-past.ensures.1, c.in-Some-past.ensures.2) (onward_at c.loop-word.invariant c.args.items.paired t c.in-Some-past.ensures.0)

pub returns : goal.returns
unfolding names_fit
returns c = sym (ap not (ends_at c.loop-word.yielded c.loop-word.invariant c.args.items.paired c.into_iter-word-iterator.result c.loop-word.word-iterator c.next.new.self c.next.result (search rules) (search rules) c.loop-word.yielded_by c.in-None.is c.next.ensures.steps))
