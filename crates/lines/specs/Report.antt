-- What judge's answer prints by the columns that it writes, and the room that holds every output.
-- Assumes nothing: these are definitions.
use Rattle.std.specs.Prelude.{List, ℕ, ◌+◌, ◌*◌}
use Rattle.flow.specs.Answers.{Told, findings_told}
use Rattle.flow.specs.Listing.{printed_for}
use Rattle.finding_lines.specs.Findings.{first_findings}

-- what judge tells, printed by the columns that it wrote: flags, and the findings' words and spans
abbrev pub answer_lines : Told → List ℕ → List ℕ → List ℕ → List ℕ
answer_lines t flags ws ss = printed_for t flags (first_findings (findings_told t) ws ss)

-- Bytes that hold every output: the two lines of three and of five numbers, with 20 digits for each, and the lines of
-- 3,072 findings, none of them longer than `unassigned` with four numbers of 10 digits.
abbrev pub room_for_all : ℕ
room_for_all = (6 + 21 * 3) + (6 + 21 * 5) + 3072 * (11 + 11 * 4)
