-- `both_lists::list_findings` meets its contract: what both passes list, one after the other, are the findings.
-- Assumes nothing.
use native.Mathlib.Omega.{arith}
use Rattle.locals.proofs.Entries.{added_long}
use Rattle.both_lists.proofs.Both.{in_use_order, in_node_order, both_listed}
use Rattle.both_lists.proofs.list_findings.Goals as goal

pub list_overwritten-requires-clause-room : goal.list_overwritten-requires-clause-room
list_overwritten-requires-clause-room c =
    let p = c.requires.any_pair in
    let a = (c.list_unassigned.ensures.lists p.0 p.1 (in_use_order p.2)).0.0 in
    omega (arith, added_long a (omega (arith, a.counted)))

pub returns : goal.returns
returns c = λ S U q.
    let a = c.list_unassigned.ensures.lists S U (in_use_order q) in
    (both_listed S U q.named.count c.args.findings.now c.list_unassigned.new.findings c.list_overwritten.new.findings (omega arith) a.0 (c.list_overwritten.ensures.adds S U (in_node_order q)), a.1)
