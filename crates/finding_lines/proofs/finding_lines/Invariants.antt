-- `finding_lines::finding_lines` meets its contract: at the loop's head the lines of what the columns have left are left to append.
-- Assumes nothing.
use mathlib.Core.Path.{◌≡◌}
use Rattle.std.specs.Iterator.Adapters.{zip_first, zip_second}
use Rattle.std.specs.Slice.Iter.{iter_rest}
use Rattle.flow.specs.Listing.{finding_lines}
use Rattle.line_writer.proofs.Appended.{Left}
use Rattle.finding_lines.specs.Findings.{findings_of}
use Rattle.finding_lines.proofs.finding_lines.Given as goal

abbrev pub invariant-loop-word : goal.invariant-loop-word
invariant-loop-word l = record {
  same : l.output.bytes.ghost_name ≡ l.fn.output.bytes.ghost_name;
  left : Left (finding_lines (findings_of l.words l.spans)) (finding_lines (findings_of (iter_rest (zip_first l.word-iterator)) (iter_rest (zip_second l.word-iterator)))) l.fn.output l.output;
}
