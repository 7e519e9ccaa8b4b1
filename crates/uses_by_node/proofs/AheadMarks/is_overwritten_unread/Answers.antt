-- `uses_by_node::AheadMarks::is_overwritten_unread` meets its contract: a read ahead decides.
-- Assumes nothing.
use Rattle.std.proofs.Common.{sym, ◌∙◌}
use Rattle.uses_by_node.specs.Uses.{edges_of}
use Rattle.uses_by_node.specs.Marks.{ahead_of}
use Rattle.uses_by_node.proofs.Flags.{read_ahead, unread_ahead}
use Rattle.uses_by_node.proofs.AheadMarks.is_overwritten_unread.Goals as goal

pub returns-then-not-is_ahead : goal.returns-then-not-is_ahead
returns-then-not-is_ahead c =
    c.is_ahead-then-not-is_ahead.ensures
    ∙ unread_ahead (edges_of c.args.self.now.edges) (ahead_of c.args.self.now) c.args.v (sym c.is_ahead.ensures ∙ c.if-not-is_ahead.true)

pub returns-else-not-is_ahead : goal.returns-else-not-is_ahead
returns-else-not-is_ahead c =
    rw c.if-not-is_ahead.false (read_ahead (edges_of c.args.self.now.edges) (ahead_of c.args.self.now) c.args.v (sym c.is_ahead.ensures ∙ c.if-not-is_ahead.false))
