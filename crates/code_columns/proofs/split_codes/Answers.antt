-- `code_columns::split_codes` meets its contract: at the loop's head the first k words are taken apart, and their starts are set.
-- Assumes nothing.
use mathlib.Core.Path.{refl}
use native.Mathlib.Omega.{arith}
use Rattle.cfg_steps.specs.Columns.{painted}
use Rattle.node_columns.proofs.Written.{none, still, turn}
use Rattle.code_columns.proofs.Starts.{paint_more}
use Rattle.code_columns.proofs.split_codes.Goals as goal

pub loop-k-init : goal.loop-k-init
unfolding painted
loop-k-init c = record { nodes = none; code_spans = none; starts = refl }

-- the word of code k is as it came
pub set_start-requires : goal.set_start-requires
set_start-requires c =
    let w = c.requires.by_index c.loop-k.k c.loop-k-test.true in
    rw (still c.loop-k.invariant.nodes) (record { node = omega (arith, c.loop-k.auto.start, w.node); kind = w.kind; span = w.span })

pub bounds-spans-code : goal.bounds-spans-code
bounds-spans-code c = rw (still c.loop-k.invariant.nodes) (c.requires.by_index c.loop-k.k c.loop-k-test.true).span

pub loop-k-preserved : goal.loop-k-preserved
loop-k-preserved c =
    let was = c.loop-k.invariant in
    record {
      nodes = turn was.nodes was.nodes c.loop-k-test.true c.loop-k-test.true refl;
      code_spans = turn was.nodes was.code_spans c.loop-k-test.true (omega arith) refl;
      starts = paint_more c.args.kinds.now c.args.spans.now c.loop-k.k c.args.code_node.now _ c.loop-k-test.true (still was.nodes) was.starts c.set_start.ensures;
    }
