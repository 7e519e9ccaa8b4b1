-- `local_values::JudgedLocal::list_writes` meets its contract. The loop's invariant: what was found at the places passed was added.
-- Assumes nothing.
use Rattle.std.proofs.Common.{◌≡◌}
use Rattle.uses_by_node.specs.Uses.{edges_of}
use Rattle.uses_by_node.specs.Marks.{ahead_of}
use Rattle.local_values.proofs.Writes.{Passed}
use Rattle.local_values.proofs.JudgedLocal.list_writes.Given as goal

abbrev pub invariant-loop-i : goal.invariant-loop-i
invariant-loop-i l =
    Passed (edges_of l.ahead.edges) (ahead_of l.ahead) l.self.number l.self.uses.now l.fn.findings.count l.fn.findings.words.now l.findings.count l.i l.findings.words.now
    × (l.findings.words.ghost_name ≡ l.fn.findings.words.ghost_name)
