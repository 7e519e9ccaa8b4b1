-- `findings::find_all` meets its contract: the parts of the sheet and the uses are what the search for findings asks, and the words that it lists tell the spans.
-- Assumes nothing.
use Prim.Native.Nat.{ℕ, ◌≤◌}
use mathlib.Core.Path.{◌≡◌, refl, sym}
use mathlib.Core.List.{List}
use native.Mathlib.Omega.{arith}
use lib.ListN.{length, length-map}
use Rattle.flow.specs.Sheet.{use_spans}
use Rattle.flow.specs.Admitted.{AdmittedSheet}
use Rattle.flow.specs.Scopes.{use_sheet}
use Rattle.flow.specs.Locals.{locals}
use Rattle.flow.specs.Findings.{findings}
use Rattle.flow.specs.Judge.{words_of}
use Rattle.flow.proofs.Admission.{admitted}
use Rattle.flow.proofs.Scopes.{sheet_words, sheet_spans}
use Rattle.locals.specs.Entries.{Added}
use Rattle.unassigned.specs.Pass.{Figures}
use Rattle.chart.specs.Loan.{cells}
use Rattle.findings.proofs.Judging.{in_parts, all_few, known, found}
use Rattle.findings.proofs.find_all.Goals as goal
use Rattle.findings.proofs.find_all.Goals.{After-compute-listed, After-items}

abbrev S : (c : After-items) → List ℕ
S c = c.args.pair.sheet.words.now

abbrev ws : (c : After-items) → List ℕ
ws c = c.args.pair.uses.words.now

abbrev ss : (c : After-items) → List ℕ
ss c = c.args.pair.uses.spans.now

facts : (c : After-items) → AdmittedSheet (S c)
facts c = admitted (S c) c.args.pair.sheet.admitted

-- the use sheet of these two arrays
abbrev U : (c : After-items) → List ℕ
U c = use_sheet (ws c) (ss c)

spans_are : (c : After-items) → ss c ≡ use_spans (U c)
spans_are c = sym (sheet_spans (ws c) (ss c) (sym c.args.pair.uses.paired))

pub compute-listed-requires-clause-any_sheets : goal.compute-listed-requires-clause-any_sheets
compute-listed-requires-clause-any_sheets c =
    let d = (goal.at.compute-listed-requires-clause-any_sheets c).After-items in
    (S d, U d, in_parts c.args.counts (cells c.args.chart.now) c.requires.searchable _ refl refl refl _ refl refl _ refl refl _ (sym (sheet_words (ws d) (ss d))) (spans_are d) c.items.ensures.words)

-- ---- where the words are listed
listed : (c : After-compute-listed) → Added (words_of (findings (S (goal.at.After-compute-listed c).After-items) (U (goal.at.After-compute-listed c).After-items))) 0 c.args.found.now.word.now c.compute-listed.result c.compute-listed.new.finding_word × Figures (S (goal.at.After-compute-listed c).After-items) (U (goal.at.After-compute-listed c).After-items) (length (locals (S (goal.at.After-compute-listed c).After-items))) c.args.found.now.mark.now c.compute-listed.new.mark
listed c =
    let d = (goal.at.After-compute-listed c).After-items in
    c.compute-listed.ensures (S d) (U d) (in_parts c.args.counts (cells c.args.chart.now) c.requires.searchable _ refl refl refl _ refl refl _ refl refl _ (sym (sheet_words (ws d) (ss d))) (spans_are d) c.items.ensures.words)

fits : (c : After-compute-listed) → c.compute-listed.result ≤ 3072
fits c =
    let d = (goal.at.After-compute-listed c).After-items in
    omega (arith, (listed c).0.counted, length-map (findings (S d) (U d)) (λ f. f.word), all_few (facts d) c.args.pair.admitted)

inside : (c : After-compute-listed) → c.compute-listed.result ≤ length c.compute-listed.new.finding_word
inside c = omega (arith, fits c, c.compute-listed.auto.finding_word, c.requires.long.0)

pub write_first_spans-requires : goal.write_first_spans-requires
write_first_spans-requires c =
    let d = (goal.at.write_first_spans-requires c).After-items in
    let b = (goal.at.write_first_spans-requires c).After-compute-listed in
    record { listed = inside b; known = known (facts d) c.args.pair.admitted c.args.counts (cells c.args.chart.now) c.requires.searchable (listed b).0 (spans_are d); room = omega (arith, fits b, c.requires.long.1) }

pub returns-clause-written : goal.returns-clause-written
returns-clause-written c =
    let d = (goal.at.returns-clause-written c).After-compute-listed in
    found (facts (goal.at.returns-clause-written c).After-items) c.args.pair.admitted c.args.counts (cells c.args.chart.now) c.requires.searchable (listed d).0 (spans_are (goal.at.returns-clause-written c).After-items) c.write_first_spans.ensures (listed d).1
