-- `cfg_steps::SheetBuilder::enter_block` meets its contract: the labels so far have their nodes.
-- Assumes nothing.
use mathlib.Core.Path.{◌≡◌}
use mathlib.Core.List.{List, ◌++◌}
use Prim.Native.Nat.{ℕ}
use Rattle.cfg_steps.specs.Columns.{Enters, EdgesAndLabels, Keeps}
use Rattle.cfg_steps.proofs.SheetBuilder.enter_block.Given as goal

abbrev pub invariant-loop-name : goal.invariant-loop-name
invariant-loop-name l = record {
  can : (goal.iterator-loop-name).can_next l.name-iterator;
  finite : (goal.iterator-loop-name).is_finite l.name-iterator;
  left : l.initial.name-iterator ≡ l.yielded ++ l.name-iterator;
  kept : Keeps EdgesAndLabels l.initial.self.graph l.self.graph;
  entered : (ks : List ℕ) → Enters ks l.yielded l.initial.self.graph.now l.self.graph.now;
}
