-- Demand 3's statement holds of the findings of every sheet and use sheet that is judged.
-- Assumes nothing.
use mathlib.Core.List.{List}
use Prim.Native.Nat.{ℕ}
use native.Mathlib.Omega.{arith}
use Rattle.flow.specs.Findings.{findings}
use Rattle.flow.specs.Judge.{words_of, spans_of}
use Rattle.flow.specs.Demand.{Demand3}
use Rattle.flow.specs.Admitted.{AdmittedSheet, AdmittedUses}
use Rattle.flow.proofs.Demand3.{demand3}

pub judged : {S U : List ℕ} → AdmittedSheet S → AdmittedUses S U → Demand3 S U (words_of (findings S U)) (spans_of (findings S U))
judged {S} {U} s a = demand3 S U (omega (arith, s.all_names, s.few_names)) (λ u h. a.kinds u (omega (arith, a.uses)))
