-- The sheets print what judge tells, by the columns that it writes.
-- Assumes nothing.
use mathlib.Core.Path.{◌≡◌, refl, ap}
use mathlib.Core.Bool.{Bool}
use mathlib.Core.List.{List, ◌∷◌, [], ◌++◌}
use Prim.Native.Nat.{ℕ, ◌≤◌, zero-le}
use native.Mathlib.Omega.{arith}
use lib.ListN.{length, take, length-map}
use lib.Seq.{take_at, take-append-le}
use Rattle.std.specs.Prelude.{Ok, Err}
use Rattle.flow.specs.Refusals.{Verdict, pair_verdict}
use Rattle.flow.specs.Answers.{Told, tells, count_values, findings_told}
use Rattle.flow.specs.Graph.{Graph, graph}
use Rattle.flow.specs.Reachable.{counts_of, reachable}
use Rattle.flow.specs.Locals.{Finding}
use Rattle.flow.specs.Findings.{findings}
use Rattle.flow.specs.Scopes.{crossed}
use Rattle.flow.specs.Judge.{words_of, spans_of, judged, judge}
use Rattle.flow.specs.Listing.{report, printed_for}
use Rattle.flow.proofs.Answers.{refuses}
use Rattle.flow.proofs.Flags.{node_count_law, reachable_length}
use Rattle.flow.proofs.Scopes.{no_scopes_verdict}
use Rattle.lines.specs.Report.{answer_lines}
use Rattle.finding_lines.proofs.Rows.{same_findings}

-- the columns hold a graph's flags and the findings
pub record Shown (g : Graph) (fs : List Finding) (flags ws ss : List ℕ) : Type 0 where
  pub exits : take 5 flags ≡ take 5 (reachable g)
  pub words : take (length fs) ws ≡ words_of fs
  pub spans : take (length fs) ss ≡ spans_of fs

-- columns that begin with them show them
pub shown : (S : List ℕ) (fs : List Finding) (r₁ r₂ r₃ : List ℕ) {flags ws ss : List ℕ} → flags ≡ reachable (graph S) ++ r₁ → ws ≡ words_of fs ++ r₂ → ss ≡ spans_of fs ++ r₃
    → Shown (graph S) fs flags ws ss
shown S fs r₁ r₂ r₃ e p q = record {
  exits = rw e (take-append-le 5 (reachable (graph S)) r₁ (omega (arith, reachable_length S, node_count_law S)));
  words = rw p (take_at (words_of fs) r₂ (length fs) (length-map fs (λ f. f.word)));
  spans = rw q (take_at (spans_of fs) r₃ (length fs) (length-map fs (λ f. f.span)));
}

-- what judge tells, by its verdict
abbrev tells_of : Verdict → Graph → List Finding → Told
tells_of v g fs = tells v (count_values (counts_of g) ++ (length fs ∷ []))

by_verdict : (v : Verdict) (g : Graph) (fs : List Finding) (flags ws ss : List ℕ) → (v ≡ Ok tt → Shown g fs flags ws ss)
    → answer_lines (tells_of v g fs) flags ws ss ≡ printed_for (tells_of v g fs) (reachable g) fs
unfolding report
by_verdict (Err r) g fs flags ws ss h = rw (refuses r)
by_verdict (Ok tt) g fs flags ws ss h = rw ((h refl).exits, (h refl).words, (h refl).spans, same_findings)

few_by_verdict : (v : Verdict) (g : Graph) (fs : List Finding) {m : ℕ} → (v ≡ Ok tt → length fs ≤ m) → findings_told (tells_of v g fs) ≤ m
few_by_verdict (Err r) g fs h = zero-le
few_by_verdict (Ok tt) g fs h = h refl

-- the program takes no scope sheet
unscoped : (short : Bool) (S U : List ℕ) → judge short S U [] ≡ judged (pair_verdict short S U) S U
unfolding judge crossed
unscoped short S U = ap (λ (v : Verdict). judged v S U) (no_scopes_verdict short S U)

module _ (short : Bool) (S U : List ℕ) {t : Told} (e : t ≡ judged (pair_verdict short S U) S U) where
  pub answer_prints : (flags ws ss : List ℕ) → (pair_verdict short S U ≡ Ok tt → Shown (graph S) (findings S U) flags ws ss)
      → answer_lines t flags ws ss ≡ printed_for (judge short S U []) (reachable (graph S)) (findings S U)
  answer_prints flags ws ss h = rw (e, unscoped short S U) (by_verdict (pair_verdict short S U) (graph S) (findings S U) flags ws ss h)

  -- no more findings than the columns hold
  pub few_found : {m : ℕ} → (pair_verdict short S U ≡ Ok tt → length (findings S U) ≤ m) → findings_told t ≤ m
  few_found h = rw e (few_by_verdict (pair_verdict short S U) (graph S) (findings S U) h)
