-- `finding_lines::finding_lines` meets its contract: at the loop's head the lines of what the columns have left are left to append.
-- Assumes nothing.
use Rattle.std.proofs.Common.{rules, inl, inr}
use mathlib.Core.Path.{◌≡◌, refl}
use mathlib.Core.List.{List, [], ◌∷◌, ◌++◌}
use Prim.Native.Nat.{ℕ}
use native.Mathlib.Omega.{arith}
use lib.ListN.{length}
use Rattle.std.specs.Iterator.Adapters.{zip_first, zip_second}
use Rattle.std.specs.Slice.Iter.{iter_rest}
use Rattle.flow.specs.Listing.{finding_line, finding_lines}
use Rattle.line_writer.proofs.Appended.{Left, first_room, next, done}
use Rattle.finding_lines.specs.Findings.{findings_of}
use Rattle.finding_lines.proofs.finding_lines.Goals as goal
use Rattle.finding_lines.proofs.finding_lines.Goals.{In-Some}

-- ---- within a turn
one_left : (c : In-Some) → Left (finding_lines (findings_of c.args.words.now c.args.spans.now)) (finding_line (record { word = c.in-Some.word.now; span = c.in-Some.span.now }) ++ finding_lines (findings_of (iter_rest (zip_first c.next.new.self)) (iter_rest (zip_second c.next.new.self)))) c.args.output.now c.loop-word.output
unfolding finding_lines
one_left c = rw (c.in-Some.ensures.steps.0, c.in-Some.ensures.steps.1) at c.loop-word.invariant.left

pub finding_line-requires : goal.finding_line-requires
finding_line-requires c = first_room _ _ (one_left (goal.at.finding_line-requires c).In-Some).room

pub loop-word-preserved : goal.loop-word-preserved
loop-word-preserved c = record {
  same = search rules;
  left = next _ _ (one_left (goal.at.loop-word-preserved c).In-Some) c.finding_line.ensures.appended;
}

-- ---- behind the loop
no_words : (ws ss : List ℕ) → length ws ≡ 0 → finding_lines (findings_of ws ss) ≡ []
unfolding finding_lines
no_words [] ss e = refl
no_words (w ∷ ws) ss e = absurd (omega arith)

no_spans : (ws ss : List ℕ) → length ss ≡ 0 → finding_lines (findings_of ws ss) ≡ []
unfolding finding_lines
no_spans [] ss e = refl
no_spans (w ∷ ws) [] e = refl
no_spans (w ∷ ws) (s ∷ ss) e = absurd (omega arith)

pub returns-clause-appended : goal.returns-clause-appended
returns-clause-appended c =
    let ws = iter_rest (zip_first c.loop-word.word-iterator) in
    let ss = iter_rest (zip_second c.loop-word.word-iterator) in
    done (elim c.in-None.ensures.steps [
      | inl (x, (e, y)) ↦ rw (no_words ws ss e) at c.loop-word.invariant.left
      | inr (x, (e, y)) ↦ rw (no_spans ws ss e) at c.loop-word.invariant.left
    ])
