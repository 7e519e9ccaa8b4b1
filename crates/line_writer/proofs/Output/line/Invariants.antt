-- `line_writer::Output::line` meets its contract: at the loop's head the numbers from n on are left to append.
-- Assumes nothing.
use mathlib.Core.Path.{◌≡◌}
use mathlib.Core.List.{◌++◌}
use lib.ListN.{drop}
use Rattle.flow.specs.Listing.{numbers}
use Rattle.line_writer.proofs.Appended.{Left}
use Rattle.line_writer.proofs.Output.line.Given as goal

abbrev pub invariant-loop-n : goal.invariant-loop-n
invariant-loop-n l = record {
  same : l.self.bytes.ghost_name ≡ l.fn.self.bytes.ghost_name;
  left : Left (l.fn.word ++ numbers l.values) (numbers (drop l.n-index l.values)) l.fn.self l.self;
}
