-- `uses_by_node::AheadMarks::is_overwritten` meets its contract: the use's kind, the next use in its node, and the paths ahead.
-- Assumes nothing.
use Rattle.std.proofs.Common.{◌≡◌, true, not, get_or, sym, ap, ◌∙◌}
use Rattle.flow.specs.Findings.{is_write, is_overwritten_unread}
use Rattle.use_words.specs.Words.{use_of, no_use}
use Rattle.uses_by_node.specs.Uses.{edges_of}
use Rattle.uses_by_node.specs.Marks.{ahead_of}
use Rattle.uses_by_node.proofs.Places.{next_node, no_write, by_next, by_paths}
use Rattle.uses_by_node.proofs.AheadMarks.is_overwritten.Goals as goal
use Rattle.uses_by_node.proofs.AheadMarks.is_overwritten.Goals.{Else-not-is_write}

writes : (c : Else-not-is_write) → is_write (use_of (get_or c.args.uses.now c.args.i no_use)) ≡ true
writes c = sym c.is_write.ensures ∙ c.if-not-is_write.false

pub returns-then-not-is_write : goal.returns-then-not-is_write
returns-then-not-is_write c =
    no_write (edges_of c.args.self.now.edges) (ahead_of c.args.self.now) c.args.uses.now c.args.i (sym c.is_write.ensures ∙ c.if-not-is_write.true)

pub bounds-uses-i-then-next_in_node : goal.bounds-uses-i-then-next_in_node
bounds-uses-i-then-next_in_node c = (next_node c.args.uses.now c.args.i (sym c.next_in_node.ensures ∙ c.if-next_in_node.true)).0

pub returns-then-next_in_node : goal.returns-then-next_in_node
returns-then-next_in_node c =
    ap not c.is_read.ensures
    ∙ by_next (edges_of c.args.self.now.edges) (ahead_of c.args.self.now) c.args.uses.now c.args.i (writes (goal.at.returns-then-next_in_node c).Else-not-is_write) (sym c.next_in_node.ensures ∙ c.if-next_in_node.true)

pub returns : goal.returns
returns c =
    let g = edges_of c.args.self.now.edges in
    let a = ahead_of c.args.self.now in
    c.is_overwritten_unread.ensures
    ∙ ap (is_overwritten_unread g a) c.from.ensures
    ∙ by_paths g a c.args.uses.now c.args.i (writes (goal.at.returns c).Else-not-is_write) c.requires.all_placed.1 (sym c.next_in_node.ensures ∙ c.if-next_in_node.false)
