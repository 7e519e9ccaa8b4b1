-- `label_check::labels_fine` meets its contract: the walk starts at the outermost block, and at its end nothing is left to check.
-- Assumes nothing.
use native.Mathlib.Omega.{arith}
use Rattle.label_check.proofs.Walks.{enter_room, entered_after, walk_start, walk_end, walk_lost}
use Rattle.label_check.proofs.labels_fine.Goals as goal

pub enter-requires-clause-by_index : goal.enter-requires-clause-by_index
enter-requires-clause-by_index c = enter_room c.requires (omega arith) (λ ss e. walk_start c.args.kinds.now ss e c.requires c.new-sight.ensures)

pub returns-then-not-enter : goal.returns-then-not-enter
returns-then-not-enter c =
    λ ss e. walk_lost c.if-not-enter.true (entered_after (walk_start c.args.kinds.now ss e c.requires c.new-sight.ensures) (c.enter.ensures.by_index ss e) (c.enter.ensures.once ss e))

pub loop-j-init : goal.loop-j-init
loop-j-init c =
    λ ss e. (entered_after (walk_start c.args.kinds.now ss e c.requires c.new-sight.ensures) (c.enter.ensures.by_index ss e) (c.enter.ensures.once ss e)).walking c.if-not-enter.false

pub returns : goal.returns
returns c = λ ss e. walk_end c.args.kinds.now ss e (omega arith) (c.loop-j.invariant ss e)
