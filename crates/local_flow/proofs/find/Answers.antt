-- `local_flow::find` meets its contract: the list keeps its column, in either memory.
-- Assumes nothing.
use Rattle.local_flow.proofs.find.Goals as goal

pub returns-then-is_small-clause-same : goal.returns-then-is_small-clause-same
returns-then-is_small-clause-same c =
    let q = c.requires.any_given in
    (c.compute.ensures q.0 q.1 q.2).0.1

pub returns-else-is_small-clause-same : goal.returns-else-is_small-clause-same
returns-else-is_small-clause-same c =
    let q = c.requires.any_given in
    (c.compute-else-is_small.ensures q.0 q.1 q.2).0.1
