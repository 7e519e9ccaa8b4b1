-- `pair_listing::of_sheets` meets its contract: judge's answer, printed by the columns that it wrote.
-- Assumes nothing.
use mathlib.Core.Path.{◌≡◌, refl, ◌∙◌}
use mathlib.Core.List.{List, []}
use Prim.Native.Nat.{ℕ, ◌≤◌}
use native.Mathlib.Omega.{arith}
use lib.ListN.{length}
use Rattle.flow.specs.Answers.{judge_told, findings_told}
use Rattle.flow.specs.Listing.{sheets_print}
use Rattle.lines.specs.Report.{answer_lines}
use Rattle.chart.specs.Loan.{cells}
use Rattle.findings.specs.Loan.{found_cells}
use Rattle.judge.specs.Lent.{JudgePromise}
use Rattle.pair_listing.proofs.Answer
use Rattle.pair_listing.proofs.Answer.{own_columns, own_findings, held, prints}
use Rattle.pair_listing.proofs.of_sheets.Goals as goal
use Rattle.pair_listing.proofs.of_sheets.Goals.{After-judge-answer}

-- ---- where judge has answered
-- the function's start, past the listing's own columns
abbrev sheet : After-judge-answer → List ℕ
sheet c = c.args.sheet.now

abbrev uses : After-judge-answer → List ℕ
uses c = c.args.uses.now

abbrev flags : After-judge-answer → List ℕ
flags c = c.judge-answer.new.chart.reachable.now

abbrev words : After-judge-answer → List ℕ
words c = c.judge-answer.new.found.word.now

abbrev spans : After-judge-answer → List ℕ
spans c = c.judge-answer.new.found.span.now

-- the chart's columns came filled with 0
chart_is : (c : After-judge-answer) → cells c.lend-chart.result ≡ own_columns
chart_is c =
    let n = c.filled-memory.ensures.nodes in
    let k = c.filled-memory.ensures.codes in
    let m = c.filled-memory.ensures.names in
    c.lend-chart.ensures.same_cells ∙ rw (n.0, n.1, n.2, n.3, k.0, k.1, m.0, m.1, m.2) refl

-- and so did those of findings
found_is : (c : After-judge-answer) → found_cells c.lend-found.result ≡ own_findings
found_is c =
    let n = c.filled-found_memory.ensures in
    c.lend-found.ensures.same_cells ∙ rw (n.0, n.1, n.2) refl

promised : (c : After-judge-answer) → JudgePromise (sheet c) (uses c) [] c.judge-answer.result (record { chart = record { before = own_columns; after = cells c.judge-answer.new.chart }; found = record { before = own_findings; after = found_cells c.judge-answer.new.found } })
promised c = rw (chart_is c, found_is c) at c.judge-answer.ensures.promise

flags_long : (c : After-judge-answer) → length (flags c) ≡ 1600
flags_long c = Answer.flags_long (sheet c) (uses c) (promised c)

words_long : (c : After-judge-answer) → length (words c) ≡ 3072
words_long c = Answer.words_long (sheet c) (uses c) (promised c)

spans_long : (c : After-judge-answer) → length (spans c) ≡ 3072
spans_long c = Answer.spans_long (sheet c) (uses c) (promised c)

few : (c : After-judge-answer) → findings_told (judge_told c.judge-answer.result) ≤ 3072
few c = held (sheet c) (uses c) (promised c) (words_long c)

as_the_sheets : (c : After-judge-answer) → answer_lines (judge_told c.judge-answer.result) (flags c) (words c) (spans c) ≡ sheets_print (sheet c) (uses c)
as_the_sheets c = prints (sheet c) (uses c) (promised c)

-- the place where judge has answered, past the columns that it leaves
pub answered-requires : goal.answered-requires
answered-requires c =
    let d = (goal.at.answered-requires c).After-judge-answer in
    let h = few d in
    record { in_bounds = (omega (arith, flags_long d), omega (arith, h, words_long d), omega (arith, h, spans_long d)); answer_bound = (h, c.requires) }

pub returns : goal.returns
returns c = rw (← as_the_sheets (goal.at.returns c).After-judge-answer) c.answered.ensures
