-- What run promises, refused and accepted.
-- Assumes nothing.
use mathlib.Core.Path.{◌≡◌, refl}
use mathlib.Core.Logic.Iff
use mathlib.Core.Logic.{◌↔◌}
use mathlib.Core.Bool.{Bool, true, false, false≢true}
use mathlib.Core.List.{List}
use Prim.Native.Nat.{ℕ}
use native.Mathlib.Omega.{arith}
use Rattle.std.specs.Prelude.{Ok, Err}
use Rattle.flow.specs.declared.Refusal.{Refusal}
use Rattle.flow.specs.declared.Ran.{Ran}
use Rattle.flow.specs.Refusals.{one, sheet_verdict}
use Rattle.flow.specs.Graph.{graph}
use Rattle.flow.specs.Reachable.{node_at, can_run, run}
use Rattle.flow.proofs.Flags.{can_run_decides}
use Rattle.run.specs.Promises.{RunPromise}

yes_one : (b : Bool) → (one b ≡ 1) ↔ (b ≡ true)
yes_one true = (λ e. refl, λ e. refl)
yes_one false = (λ e. absurd (omega arith), λ e. absurd (false≢true e))

module _ (S : List ℕ) (o : ℕ) where
  pub run_refused : {r : Refusal} → sheet_verdict false S ≡ Err r → RunPromise S o (Err r)
  unfolding run
  run_refused e = record { told = rw e; yes = λ q. let z : ◌≡◌ {A = ℕ} 0 1 = cc in absurd (omega arith) }

  pub run_accepted : {r : Ran} → sheet_verdict false S ≡ Ok tt → r ≡ record { node = node_at (graph S) o; can_run = can_run (graph S) (node_at (graph S) o) } → RunPromise S o (Ok r)
  unfolding run
  run_accepted e q = record { told = rw (e, q); yes = λ v. rw q (Iff.trans (yes_one (can_run (graph S) (node_at (graph S) o))) (can_run_decides S (node_at (graph S) o))) }
