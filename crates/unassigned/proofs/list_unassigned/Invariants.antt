-- `unassigned::list_unassigned` meets its contract: at the loop's head the findings and mark figures of the locals below `local` are written.
-- Assumes nothing.
use Prim.Native.Nat.{ℕ}
use mathlib.Core.List.{List}
use Rattle.flow.specs.Findings.{uses_of}
use Rattle.live_steps.specs.Walk.{nodes_of}
use Rattle.locals.specs.Columns.{PassOf}
use Rattle.unassigned.proofs.Passes.{Going, Listing}
use Rattle.unassigned.proofs.list_unassigned.Given as goal

abbrev pub invariant-loop-local : goal.invariant-loop-local
invariant-loop-local l =
    Going (nodes_of l.pass.graph) l.local l.initial.search l.search
    × ((S U : List ℕ) → PassOf (uses_of S U) l.pass S U → Listing S U l.local l.initial.findings l.findings l.initial.mark l.mark)
