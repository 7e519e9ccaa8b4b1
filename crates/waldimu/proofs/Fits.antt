-- What chart, judge and run tell of any sheet has its bits in a word.
-- Assumes nothing.
use mathlib.Core.Path.{◌≡◌, refl, sym, ap, ◌∙◌, subst}
use mathlib.Core.Bool.{Bool, false}
use mathlib.Core.List.{List, [], ◌∷◌, ◌++◌}
use Prim.Native.Nat.{ℕ, ◌≤◌, ◌^◌, ◌<◌}
use native.Mathlib.Omega.{arith}
use lib.ListN.{get_or}
use Rattle.std.specs.Prelude.{Option, Some, None, Ok, Err}
use Rattle.flow.specs.Sheet.{span_words}
use Rattle.flow.specs.Refusals.{Verdict, one, number, sheet_verdict}
use Rattle.flow.specs.Scopes.{crossed, scoped_verdict}
use Rattle.flow.specs.Answers.{JudgeAnswer, told, tells, judge_told, found_values, count_values}
use Rattle.flow.specs.Graph.{node_count, graph}
use Rattle.flow.specs.Reachable.{node_at, can_run, run, counts_of, chart}
use Rattle.flow.specs.Findings.{findings}
use Rattle.flow.specs.Judge.{judged, judge}
use Rattle.flow.proofs.NodeCount.{graph_count}
use Rattle.flow.proofs.CodeNodes.{code_node_law}
use Rattle.flow.proofs.Admission.{admitted, of_sheet, of_pair}
use Rattle.flow.proofs.Few.{findings_few}
use Rattle.flow.proofs.Scopes.{crossed_admitted, scoped_pair}
use Rattle.answer_words.specs.Words.{or_none, run_node, counts_word, CountsFit, CountFields}
use Rattle.chart.specs.Lent.{Lent}
use Rattle.judge.specs.Lent.{JudgeLent, JudgePromise}
use Rattle.judge.proofs.Promises.{told as judged_told}
use Rattle.waldimu.specs.Promises.{JudgeForC}

-- a refusal has no values
refused_fits : (k : ℕ) → CountsFit (told k [])
refused_fits k = record { nodes = omega arith; codes = omega arith; names = omega arith; findings = omega arith }

module _ (S : List ℕ) (e : sheet_verdict false S ≡ Ok tt) where
  few_nodes : node_count (graph S) ≤ 1542
  few_nodes =
      let a = admitted S e in
      omega (arith, graph_count S, a.room (span_words S) (a.spans ∙ sym a.kinds))

  -- the three counts, then the findings' count if there is one
  counts_fit : (more : List ℕ) → get_or more 0 0 < 2 ^ 16 → CountsFit (told 0 (count_values (counts_of (graph S)) ++ more))
  counts_fit more h =
      let a = admitted S e in
      record { nodes = omega (arith, few_nodes); codes = omega (arith, a.few_codes); names = omega (arith, a.few_names); findings = h }

  node_fits : (o : ℕ) → or_none (found_values (node_at (graph S) o)) < 2 ^ 32
  node_fits o = go (node_at (graph S) o) refl
    where
      go : (f : Option ℕ) → node_at (graph S) o ≡ f → or_none (found_values f) < 2 ^ 32
      go (Some v) q = omega (arith, few_nodes, code_node_law S o v q)
      go None q = omega arith

pub chart_fits : (short : Bool) (S : List ℕ) → CountsFit (chart short S)
unfolding chart
chart_fits short S = go (sheet_verdict short S) refl
  where
    go : (v : Verdict) → sheet_verdict short S ≡ v → CountsFit (tells v (count_values (counts_of (graph S))))
    go (Err r) e = refused_fits (number r)
    go (Ok tt) e = counts_fit S (of_sheet short S e).1 [] (omega arith)

pub judge_fits : (short : Bool) (S U C : List ℕ) → CountsFit (judge short S U C)
unfolding judge
judge_fits short S U C = go (scoped_verdict short S U C) refl
  where
    go : (v : Verdict) → scoped_verdict short S U C ≡ v → CountsFit (judged v S (crossed S U C))
    go (Err r) e = refused_fits (number r)
    go (Ok tt) e =
        let j = of_pair short S U (scoped_pair short S U C e) in
        let a = admitted S j.sheet in
        let u = crossed_admitted S U C j.uses in
        counts_fit S j.sheet _ (omega (arith, findings_few S (crossed S U C) (omega (arith, a.all_names, a.few_names)) (omega (arith, u.uses, u.few))))

pub run_fits : (S : List ℕ) (o : ℕ) → run_node (run S o) < 2 ^ 32
unfolding run
run_fits S o = go (sheet_verdict false S) refl
  where
    go : (v : Verdict) → sheet_verdict false S ≡ v → run_node (tells v (one (can_run (graph S) (node_at (graph S) o)) ∷ found_values (node_at (graph S) o))) < 2 ^ 32
    go (Err r) e = omega arith
    go (Ok tt) e = node_fits S e o

-- what judge promises of the columns as it is lent them, it promises of the columns that C lends
pub judge_for_c : {S U C : List ℕ} {r : ℕ} {a : JudgeAnswer} {l m : JudgeLent} → JudgePromise S U C a l → (r ≡ counts_word (judge_told a)) × CountFields r (judge_told a) → l ≡ m → JudgeForC S U C r m
judge_for_c {S} {U} {C} {r} {a} p w e = subst (JudgeForC S U C r) e (record { word = w.0 ∙ ap counts_word (judged_told p); fields = subst (CountFields r) (judged_told p) w.1; answer = a; promise = p })
