-- What run answers, of any sheet and any offset.
-- Assumes nothing: these are definitions.
use Rattle.std.specs.Prelude.{◌≡◌, ◌↔◌, false, List, ℕ, get_or, Ok}
use Rattle.flow.specs.Refusals.{sheet_verdict}
use Rattle.flow.specs.Answers.{RunAnswer, run_told}
use Rattle.flow.specs.Graph.{graph}
use Rattle.flow.specs.Reachable.{node_at, CanRun, run}

-- its number and values; and the yes among them over paths: "yes exactly when there is none or the node is reachable"
pub record RunPromise (S : List ℕ) (offset : ℕ) (r : RunAnswer) : Type 0 where
  pub told : run_told r ≡ run S offset
  pub yes : sheet_verdict false S ≡ Ok tt → (get_or (run_told r).values 0 0 ≡ 1) ↔ CanRun (graph S) (node_at (graph S) offset)
