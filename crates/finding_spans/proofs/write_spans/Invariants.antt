-- `finding_spans::write_spans` meets its contract: the spans of the findings before the turn's are written.
-- Assumes nothing.
use mathlib.Core.Path.{◌≡◌}
use mathlib.Core.List.{◌++◌, map}
use lib.ListN.{take, drop}
use Rattle.finding_spans.specs.Spans.{span_of}
use Rattle.finding_spans.proofs.write_spans.Given as goal

abbrev pub invariant-loop-i : goal.invariant-loop-i
invariant-loop-i l = l.finding_span ≡ map (span_of l.use_span l.name_span) (take l.i l.finding_word) ++ drop l.i l.initial.finding_span
