-- `reach::expand` meets its contract: two pushes.
-- Assumes nothing.
use lib.ListN.{length}
use Rattle.reach.proofs.Columns.{still_ready}
use Rattle.reach.proofs.expand.Goals as goal

pub push_node-requires-2 : goal.push_node-requires-2
push_node-requires-2 c =
    let same = c.push_node.ensures.same in
    let p = rw c.requires.same_length.1 at c.push_node.ensures.pushed in
    rw (same.1, same.0.marks_len, c.requires.same_length.1) (still_ready (length c.args.first.now) c.args.search.now.stamp _ c.requires.ready p)
