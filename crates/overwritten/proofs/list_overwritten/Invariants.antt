-- `overwritten::list_overwritten` meets its contract. The loop's invariant: the values of the locals passed were added.
-- Assumes nothing.
use Rattle.std.proofs.Common.{length}
use Rattle.live_steps.specs.Walk.{nodes_of}
use Rattle.locals.specs.Columns.{PassOf, uses_by_node}
use Rattle.overwritten.proofs.Locals.{Done}
use Rattle.overwritten.proofs.list_overwritten.Given as goal

abbrev pub invariant-loop-number : goal.invariant-loop-number
invariant-loop-number l =
    Done (λ S U. PassOf (uses_by_node S U (nodes_of l.pass.graph)) l.pass S U) l.pass.uses.starts.now (nodes_of l.pass.graph) (length l.pass.facts.now) l.initial.marks l.initial.findings l.used l.marks l.findings l.number
