-- `label_sight::LabelStack::enter` meets its contract: the labels so far are in sight, and whether one is a repeat is told.
-- Assumes nothing.
use mathlib.Core.Path.{◌≡◌}
use mathlib.Core.List.{◌++◌}
use Rattle.label_sight.specs.Labels.{in_block, none_repeats, Entered}
use Rattle.label_sight.proofs.LabelStack.enter.Given as goal

abbrev pub invariant-loop-name : goal.invariant-loop-name
invariant-loop-name l = record {
  can : (goal.iterator-loop-name).can_next l.name-iterator;
  finite : (goal.iterator-loop-name).is_finite l.name-iterator;
  left : l.initial.name-iterator ≡ l.yielded ++ l.name-iterator;
  entered : Entered l.yielded l.initial.self l.self;
  once : l.once ≡ none_repeats (in_block l.initial.self) l.yielded;
}
