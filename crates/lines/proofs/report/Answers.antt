-- `lines::report` meets its contract: no report is too long.
-- Assumes nothing.
use Rattle.std.proofs.Common.{rules}
use mathlib.Core.List.{List, ◌++◌, append_assoc}
use Prim.Native.Nat.{ℕ}
use lib.ListN.{take}
use Rattle.flow.specs.Answers.{count_values}
use Rattle.flow.specs.Listing.{line, finding_lines, report as reportLines}
use Rattle.line_writer.specs.Output.{HasRoom}
use Rattle.line_writer.proofs.Appended.{Left, first_room, begin, next, printed}
use Rattle.finding_lines.specs.Findings.{findings_of}
use Rattle.lines.proofs.Sizes.{report_long, from_start}
use Rattle.lines.proofs.report.Goals as goal
use Rattle.lines.proofs.report.Goals.{After-new-output, After-line, After-line-2}

abbrev text : After-new-output → List ℕ
text c = reportLines (count_values c.args.counts) c.args.reachable.now (findings_of c.args.words.now c.args.spans.now)

abbrev graph_line : After-new-output → List ℕ
graph_line c = line "graph" (count_values c.args.counts)

abbrev exits_line : After-new-output → List ℕ
exits_line c = line "exits" (take 5 c.args.reachable.now)

abbrev findings : After-new-output → List ℕ
findings c = finding_lines (findings_of c.args.words.now c.args.spans.now)

all_left : (c : After-new-output) → Left (text c) (graph_line c ++ (exits_line c ++ findings c)) c.new-output.result c.new-output.result
unfolding reportLines
all_left c =
    let long = report_long (count_values c.args.counts) c.args.reachable.now c.args.words.now c.args.spans.now c.requires.few (λ i. (c.type_inv.words i).fits) (λ i. (c.type_inv.spans i).fits) in
    let room : HasRoom (text c) c.new-output.result = rw (c.new-output.ensures.held, c.new-output.ensures.empty) (from_start (text c) long c.requires.room) in
    rw (← append_assoc (graph_line c) (exits_line c) (findings c)) (begin room)

pub line-requires : goal.line-requires
line-requires c = first_room _ _ (all_left (goal.at.line-requires c).After-new-output).room

second_left : (c : After-line) → let d = (goal.at.After-line c).After-new-output in Left (text d) (exits_line d ++ findings d) c.new-output.result c.line.new.self
second_left c = next _ _ (all_left (goal.at.After-line c).After-new-output) c.line.ensures.appended

pub line-requires-2 : goal.line-requires-2
line-requires-2 c = first_room _ _ (second_left (goal.at.line-requires-2 c).After-line).room

third_left : (c : After-line-2) → let d = (goal.at.After-line-2 c).After-new-output in Left (text d) (findings d) c.new-output.result c.line-2.new.self
third_left c = next _ _ (second_left (goal.at.After-line-2 c).After-line) c.line-2.ensures.appended

pub finding_lines-requires : goal.finding_lines-requires
finding_lines-requires c = (third_left (goal.at.finding_lines-requires c).After-line-2).room

pub returns : goal.returns
returns c =
    printed c.new-output.result c.finding_lines.new.output
    ((third_left (goal.at.returns c).After-line-2).whole c.finding_lines.new.output c.finding_lines.ensures.appended)
    c.new-output.ensures.empty c.new-output.ensures.held (search rules)
