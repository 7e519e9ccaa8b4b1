-- What judge promises over the listing's own columns prints as the sheets do.
-- Assumes nothing.
use mathlib.Core.Path.{◌≡◌, refl, sym, ap, ◌∙◌}
use mathlib.Core.Bool.{false}
use mathlib.Core.List.{List, []}
use Prim.Native.Nat.{ℕ, ◌≤◌}
use native.Mathlib.Omega.{arith}
use lib.ListN.{length, drop, replicate, length-append, length-drop, length-map, length-replicate}
use Rattle.std.specs.Prelude.{Ok, Err}
use Rattle.flow.specs.Sheet.{span_words}
use Rattle.flow.specs.Refusals.{Verdict, pair_verdict}
use Rattle.flow.specs.Answers.{JudgeAnswer, judge_told, findings_told}
use Rattle.flow.specs.Graph.{graph}
use Rattle.flow.specs.Reachable.{reachable}
use Rattle.flow.specs.Findings.{findings}
use Rattle.flow.proofs.Flags.{reachable_length}
use Rattle.flow.proofs.NodeCount.{graph_count}
use Rattle.flow.proofs.Admission.{admitted, of_pair}
use Rattle.findings.proofs.Judging.{all_few}
use Rattle.flow.specs.Judge.{words_of, spans_of, judged}
use Rattle.column_lengths.specs.Lengths.{chart_too_short, judge_too_short}
use Rattle.chart.specs.Lent.{overlay, Columns, columns, chart_of, chart_leaves}
use Rattle.findings.specs.Accepted.{FindingColumns}
use Rattle.judge.specs.Lent.{judge_short, leaves, Judges, JudgePromise}
use Rattle.judge.proofs.Promises.{without_scopes}
use Rattle.flow.specs.Listing.{sheets_print}
use Rattle.lines.specs.Report.{answer_lines}
use Rattle.lines.proofs.Answer.{Shown, shown, few_found, answer_prints}

-- ---- the listing's own columns

abbrev zeros : ℕ → List ℕ
zeros n = replicate n 0

abbrev pub own_columns : Columns
own_columns = columns (zeros 1600) (zeros 1600) (zeros 1600) (zeros 1600) (zeros 1024) (zeros 1024) (zeros 1024) (zeros 1024) (zeros 1024)

abbrev pub own_findings : FindingColumns
own_findings = record { word = zeros 3072; span = zeros 3072; mark = zeros 1024 }

-- none of them is too short
own : judge_short own_columns own_findings ≡ false
unfolding judge_too_short chart_too_short
own = refl

-- ---- what is written where the sheets are admitted

admits : {v : Verdict} (xs old : List ℕ) {col : List ℕ} → v ≡ Ok tt → col ≡ leaves v xs old → col ≡ overlay xs old
admits xs old e p = rw e at p

chart_admits : {v : Verdict} (S : List ℕ) (x : Columns) {y : Columns} → v ≡ Ok tt → y ≡ chart_leaves v S x → y.nodes.reachable ≡ overlay (reachable (graph S)) x.nodes.reachable
unfolding chart_of
chart_admits S x e p = ap (λ (y : Columns). y.nodes.reachable) (rw e at p)

-- a column is as long as what is written there
fits : (xs old : List ℕ) {col : List ℕ} → col ≡ overlay xs old → length xs ≤ length col
fits xs old p = omega (arith, simp length-append at (ap length p))

-- what is written there leaves a column as long as it was
over : (xs old : List ℕ) {col : List ℕ} → col ≡ overlay xs old → length xs ≤ length old → length col ≡ length old
over xs old p h = omega (arith, ap length p, length-append xs (drop (length xs) old), length-drop (length xs) old)

kept : (v : Verdict) (xs old : List ℕ) {col : List ℕ} → col ≡ leaves v xs old → (v ≡ Ok tt → length xs ≤ length old) → length col ≡ length old
kept (Err r) xs old p h = ap length p
kept (Ok tt) xs old p h = over xs old p (h refl)

flags_kept : (v : Verdict) (S : List ℕ) (x : Columns) {y : Columns} → y ≡ chart_leaves v S x → (v ≡ Ok tt → length (reachable (graph S)) ≤ length x.nodes.reachable) → length y.nodes.reachable ≡ length x.nodes.reachable
flags_kept (Err r) S x p h = ap (λ (y : Columns). length y.nodes.reachable) p
flags_kept (Ok tt) S x p h = over (reachable (graph S)) x.nodes.reachable (chart_admits S x refl p) (h refl)

-- ---- judge over them

module _ (S U : List ℕ) {answer : JudgeAnswer} {y : Columns} {g : FindingColumns} (promised : JudgePromise S U [] answer (record { chart = record { before = own_columns; after = y }; found = record { before = own_findings; after = g } })) where
  p : Judges (pair_verdict (judge_short own_columns own_findings) S U) S U answer (record { chart = record { before = own_columns; after = y }; found = record { before = own_findings; after = g } })
  p = (without_scopes S U answer _).0 promised

  tells : judge_told answer ≡ judged (pair_verdict false S U) S U
  tells = rw own at p.told

  words_are : pair_verdict false S U ≡ Ok tt → g.word ≡ overlay (words_of (findings S U)) (zeros 3072)
  words_are a = admits (words_of (findings S U)) (zeros 3072) a (rw own at p.finding_words)

  spans_are : pair_verdict false S U ≡ Ok tt → g.span ≡ overlay (spans_of (findings S U)) (zeros 3072)
  spans_are a = admits (spans_of (findings S U)) (zeros 3072) a (rw own at p.finding_spans)

  flags_are : pair_verdict false S U ≡ Ok tt → y.nodes.reachable ≡ overlay (reachable (graph S)) (zeros 1600)
  flags_are a = chart_admits S own_columns a (rw own at p.columns)

  few : pair_verdict false S U ≡ Ok tt → length (findings S U) ≤ 3072
  few a = let j = of_pair false S U a in all_few (admitted S j.sheet) j.uses

  pub words_long : length g.word ≡ 3072
  words_long = kept (pair_verdict false S U) (words_of (findings S U)) (zeros 3072) (rw own at p.finding_words) (λ a. omega (arith, few a, length-map (findings S U) (λ f. f.word), length-replicate {A = ℕ} 3072 0)) ∙ length-replicate {A = ℕ} 3072 0

  pub spans_long : length g.span ≡ 3072
  spans_long = kept (pair_verdict false S U) (spans_of (findings S U)) (zeros 3072) (rw own at p.finding_spans) (λ a. omega (arith, few a, length-map (findings S U) (λ f. f.span), length-replicate {A = ℕ} 3072 0)) ∙ length-replicate {A = ℕ} 3072 0

  pub flags_long : length y.nodes.reachable ≡ 1600
  flags_long =
      flags_kept (pair_verdict false S U) S own_columns (rw own at p.columns)
      (λ a. let s = admitted S (of_pair false S U a).sheet in omega (arith, reachable_length S, graph_count S, s.room (span_words S) (s.spans ∙ sym s.kinds), length-replicate {A = ℕ} 1600 0))
      ∙ length-replicate {A = ℕ} 1600 0

  pub held : length g.word ≡ 3072 → findings_told (judge_told answer) ≤ 3072
  held l = few_found false S U tells (λ a. omega (arith, fits (words_of (findings S U)) (zeros 3072) (words_are a), length-map (findings S U) (λ f. f.word)))

  shows : pair_verdict false S U ≡ Ok tt → Shown (graph S) (findings S U) y.nodes.reachable g.word g.span
  shows a =
      let fs = findings S U in
      shown S fs (drop (length (reachable (graph S))) (zeros 1600)) (drop (length (words_of fs)) (zeros 3072)) (drop (length (spans_of fs)) (zeros 3072)) (flags_are a) (words_are a) (spans_are a)

  pub prints : answer_lines (judge_told answer) y.nodes.reachable g.word g.span ≡ sheets_print S U
  prints = answer_prints false S U tells y.nodes.reachable g.word g.span shows
