-- `reach::push_node` meets its contract: a node without a mark has room on the stack.
-- Assumes nothing.
use native.Mathlib.Omega.{arith}
use lib.ListN.{length}
use Rattle.search.specs.Running.{state_of}
use Rattle.search.proofs.Stamps.{push_room}
use Rattle.reach.proofs.push_node.Goals as goal

pub insert-requires-clause-top_in_bounds : goal.insert-requires-clause-top_in_bounds
insert-requires-clause-top_in_bounds c = λ q.
    let s = c.args.search.now in
    omega (arith, push_room s.stamp (length s.marks.now) c.args.v {s = state_of s} (omega arith) c.requires q, c.requires.fits.stack_long)
