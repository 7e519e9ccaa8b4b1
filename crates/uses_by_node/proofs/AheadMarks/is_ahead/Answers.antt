-- `uses_by_node::AheadMarks::is_ahead` meets its contract: the two successors.
-- Assumes nothing.
use Rattle.std.proofs.Common.{[], get_or, refl, sym, ◌∙◌, arith}
use Rattle.live_steps.specs.Walk.{nodes_in}
use Rattle.uses_by_node.proofs.Flags.{first_marked, second_decides}
use Rattle.uses_by_node.proofs.AheadMarks.is_ahead.Goals as goal

pub returns-then-is_marked : goal.returns-then-is_marked
returns-then-is_marked c =
    let g = c.args.self.now.edges in
    c.if-is_marked.true
    ∙ first_marked c.args.self.now.stamp (nodes_in g) c.args.marks.now g.first.now g.second.now [] c.args.v (omega arith) (omega arith) c.requires.1 (get_or g.first.now c.args.v 0) (get_or g.second.now c.args.v 0) refl refl
    (sym c.is_marked.ensures ∙ c.if-is_marked.true)

pub returns-else-is_marked : goal.returns-else-is_marked
returns-else-is_marked c =
    let g = c.args.self.now.edges in
    c.is_marked-else-is_marked.ensures
    ∙ second_decides c.args.self.now.stamp (nodes_in g) c.args.marks.now g.first.now g.second.now [] c.args.v (omega arith) (omega arith) c.requires.1 (get_or g.first.now c.args.v 0) (get_or g.second.now c.args.v 0) refl refl
    (sym c.is_marked.ensures ∙ c.if-is_marked.false)
