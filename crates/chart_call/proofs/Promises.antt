-- What chart promises, refused and accepted.
-- Assumes nothing.
use mathlib.Core.Path.{◌≡◌, ap}
use mathlib.Core.List.{List}
use Prim.Native.Nat.{ℕ}
use native.Mathlib.Omega.{arith}
use Rattle.std.specs.Prelude.{Ok, Err}
use Rattle.flow.specs.declared.Counts.{Counts}
use Rattle.flow.specs.declared.Refusal.{Refusal}
use Rattle.flow.specs.Refusals.{sheet_verdict}
use Rattle.flow.specs.Answers.{told, count_values}
use Rattle.flow.specs.Reachable.{chart}
use Rattle.flow.specs.Admitted.{AdmittedSheet}
use Rattle.flow.proofs.Admission.{admitted, of_sheet}
use Rattle.chart.specs.Lent.{Columns, chart_short, Wide, Charted}
use Rattle.chart.proofs.Read.{shown}
use Rattle.chart.proofs.Widths.{wide}
use Rattle.chart_call.specs.Promises.{ChartPromise}

module _ (x : Columns) (S : List ℕ) (e : sheet_verdict (chart_short x) S ≡ Ok tt) where
  pub sheet_admitted : AdmittedSheet S
  sheet_admitted = admitted S (of_sheet (chart_short x) S e).1

  pub wide_enough : Wide x
  wide_enough = wide x (of_sheet (chart_short x) S e).0

pub chart_refused : (x : Columns) (S : List ℕ) {r : Refusal} → sheet_verdict (chart_short x) S ≡ Err r → ChartPromise S (Err r) (record { before = x; after = x })
unfolding chart
chart_refused x S e = record { told = rw e; columns = rw e; shown = λ q. let z : ◌≡◌ {A = ℕ} 0 1 = cc in absurd (omega arith) }

pub chart_accepted : (x : Columns) (S : List ℕ) {r : Counts} {y : Columns} → sheet_verdict (chart_short x) S ≡ Ok tt → Charted S r (record { before = x; after = y }) → ChartPromise S (Ok r) (record { before = x; after = y })
unfolding chart
chart_accepted x S e h = record {
  told = rw e (ap (λ (c : Counts). told 0 (count_values c)) h.counts);
  columns = rw e h.written;
  shown = λ q. shown (sheet_admitted x S e) h;
}
