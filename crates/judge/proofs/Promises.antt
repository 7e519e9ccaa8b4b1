-- What judge promises, refused and accepted; and columns that are not too short are wide enough.
-- Assumes nothing.
use mathlib.Core.Path.{◌≡◌, refl, sym, ap, subst₂}
use mathlib.Core.Logic.{◌↔◌}
use mathlib.Core.List.{List, [], ◌∷◌, map}
use Prim.Native.Nat.{ℕ}
use lib.ListN.{length, take, drop, length-map}
use lib.Seq.{take_at}
use native.Mathlib.Omega.{arith}
use Rattle.std.specs.Prelude.{Ok, Err}
use Rattle.column_lengths.specs.Lengths.{judge_too_short}
use Rattle.column_lengths.proofs.Long.{all_long}
use Rattle.flow.specs.declared.Refusal.{Refusal}
use Rattle.flow.specs.declared.Judgement.{Judgement}
use Rattle.flow.specs.Refusals.{Verdict, first_applying, item_tests, pair_tests, pair_verdict}
use Rattle.flow.specs.Scopes.{crossed, scopes_wrong, scoped_tests, scoped_verdict}
use Rattle.flow.specs.Answers.{JudgeAnswer, judge_told}
use Rattle.flow.specs.Locals.{Finding}
use Rattle.flow.specs.Findings.{findings}
use Rattle.flow.specs.Judge.{judge}
use Rattle.flow.specs.Demand.{Demand3}
use Rattle.flow.specs.Admitted.{AdmittedPair}
use Rattle.flow.proofs.Admission.{admitted, of_pair}
use Rattle.flow.proofs.Scopes.{crossed_admitted, crossed_replaced, scoped_fits, scoped_pair}
use Rattle.flow.proofs.Judged.{judged}
use Rattle.unassigned.proofs.Locals.{figure_few}
use Rattle.sheet_parts.specs.declared.ScopedPair.{ScopedPair}
use Rattle.sheet_parts.specs.Sheets.{judged_uses, IsScoped}
use Rattle.chart.specs.Lent.{overlay, Columns, Lent, chart_short, Wide}
use Rattle.chart.proofs.Widths.{wide}
use Rattle.findings.specs.Accepted.{FindingColumns, FindingsLent, Long, Accepted}
use Rattle.judge.specs.Lent.{JudgeLent, judge_short, short, found_in, Judges, JudgePromise}

never : {v : Verdict} {r : Refusal} → v ≡ Err r → v ≡ Ok tt → ⊥
never p q = let z : ◌≡◌ {A = ℕ} 0 1 = cc in omega arith

as_supplied : (S U C : List ℕ) → C ≡ [] → crossed S U C ≡ U
unfolding crossed
as_supplied S U C e = ap (crossed S U) e

-- what is accepted of the sheets as they are admitted is so of the lent ones
pub accepted_lent : {S U C : List ℕ} {p : ScopedPair} {r : Judgement} {l : Lent} {f : FindingsLent} → IsScoped S U C p → Accepted p.pair.sheet.words.now (judged_uses p) r l f → Accepted S (crossed S U C) r l f
accepted_lent {r = r} {l} {f} h a = subst₂ (λ (S U : List ℕ). Accepted S U r l f) h.pair.sheet (λ i. crossed (h.pair.sheet i) (h.pair.uses i) (h.scopes i)) a

module _ (S U C : List ℕ) (x : Columns) (f : FindingColumns) where
  pub judge_refused : {r : Refusal} → scoped_verdict (judge_short x f) S U C ≡ Err r → JudgePromise S U C (Err r) (record { chart = record { before = x; after = x }; found = record { before = f; after = f } })
  judge_refused e = record {
    judges = record {
      told = rw e;
      columns = rw e;
      shown = λ q. absurd (never e q);
      finding_words = rw e;
      finding_spans = rw e;
      mark_figures = record { refused = λ q. refl; figure = λ q. absurd (never e q); past = refl; long = refl };
      demand3 = λ q. absurd (never e q);
    };
    supplied = as_supplied S U C;
    replaced = λ q. absurd (never e q);
  }

  module _ (e : scoped_verdict (judge_short x f) S U C ≡ Ok tt) where
    pub ok : AdmittedPair (judge_short x f) S U
    ok = of_pair (judge_short x f) S U (scoped_pair (judge_short x f) S U C e)

    pub wide_enough : Wide x × Long f
    unfolding judge_too_short
    wide_enough =
        let w = all_long 3072 (length f.word ∷ length f.span ∷ []) _ ok.enough in
        let m = all_long 1024 (length f.mark ∷ []) (chart_short x) w.1 in
        (wide x m.1, (w.0.0, w.0.1.0, m.0.0))

    -- the uses that are judged
    abbrev N : List ℕ
    N = crossed S U C

    module _ {r : Judgement} {y : Columns} {g : FindingColumns} (a : Accepted S N r (record { before = x; after = y }) (record { before = f; after = g })) where
      counted : found_in (Ok r) ≡ length (findings S N)
      counted = ap (λ (j : Judgement). found_in (Ok j)) a.answer

      -- as many cells as judge tells are the findings
      written : (part : Finding → ℕ) (old : List ℕ) {new : List ℕ} → length (map part (findings S N)) ≡ length (findings S N) → new ≡ overlay (map part (findings S N)) old → take (found_in (Ok r)) new ≡ map part (findings S N)
      written part old n q = rw (counted, q) (take_at (map part (findings S N)) (drop (length (map part (findings S N))) old) (length (findings S N)) n)

      pub judge_accepted : JudgePromise S U C (Ok r) (record { chart = record { before = x; after = y }; found = record { before = f; after = g } })
      judge_accepted = record {
        judges = record {
          told = rw e (ap (λ (j : Judgement). judge_told (Ok j)) a.answer);
          columns = rw e a.columns;
          shown = λ q. a.shown;
          finding_words = rw e a.found.words;
          finding_spans = rw e a.found.spans;
          mark_figures = record {
            refused = λ q. absurd (q e);
            figure = λ q ℓ h. rw (a.found.marks.figure ℓ h) (figure_few S N ℓ);
            past = a.found.marks.rest;
            long = a.found.marks.long;
          };
          demand3 = λ q.
              subst₂ (Demand3 S N) (sym (written (λ z. z.word) f.word (length-map (findings S N) (λ z. z.word)) a.found.words))
              (sym (written (λ z. z.span) f.span (length-map (findings S N) (λ z. z.span)) a.found.spans)) (judged (admitted S ok.sheet) (crossed_admitted S U C ok.uses));
        };
        supplied = as_supplied S U C;
        replaced = λ q n. crossed_replaced S U C n ok.uses (scoped_fits (judge_short x f) S U C e);
      }

-- "Uses with a supplied bit are still taken when no scope sheet (0 words) comes": then the promise is that of the pair, and no other
pub without_scopes : (S U : List ℕ) (r : JudgeAnswer) (l : JudgeLent) → JudgePromise S U [] r l ↔ Judges (pair_verdict (short l) S U) S U r l
unfolding scoped_verdict scoped_tests scopes_wrong pair_verdict pair_tests item_tests first_applying crossed
without_scopes S U r l = (λ p. p.judges, λ j. record { judges = j; supplied = λ q. refl; replaced = λ q n. absurd (n refl) })

-- its number and values are those of `judge`
pub told : {S U C : List ℕ} {r : JudgeAnswer} {l : JudgeLent} → JudgePromise S U C r l → judge_told r ≡ judge (short l) S U C
unfolding judge
told p = p.judges.told
