-- `finding_spans::write_spans` meets its contract: the spans of the findings before the turn's are written.
-- Assumes nothing.
use native.Mathlib.Omega.{arith}
use Rattle.finding_spans.specs.Spans.{span_of}
use Rattle.finding_spans.proofs.Spans.{written_next}
use Rattle.finding_spans.proofs.write_spans.Goals as goal

pub loop-i-preserved : goal.loop-i-preserved
loop-i-preserved c = rw (c.span_of.ensures, c.loop-i.invariant) (written_next (span_of c.args.use_span.now c.args.name_span.now) _ _ _ c.loop-i-test.true (omega arith))
