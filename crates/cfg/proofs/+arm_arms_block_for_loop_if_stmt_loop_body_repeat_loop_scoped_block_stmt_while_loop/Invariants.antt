use Rattle.cfg.proofs.Blocks.{Going}
use Rattle.cfg.specs.Steps.{Armed}
use Rattle.cfg_steps.specs.Columns.{place, columns, Kept, Keeps}
use lib.ListN.{length}
use mathlib.Core.List.{List}
use mathlib.Core.Path.{◌≡◌}
use Prim.Native.Nat.{ℕ, ◌+◌, ◌-◌, ◌*◌}
use Rattle.cfg.proofs.+arm_arms_block_for_loop_if_stmt_loop_body_repeat_loop_scoped_block_stmt_while_loop.Given as goal

abbrev pub decreases-arm : goal.decreases-arm
decreases-arm l = 8 * (length l.b.now.graph.now.kinds.now - l.b.now.graph.now.at.item) + 3

abbrev pub decreases-arms : goal.decreases-arms
decreases-arms l = 8 * (length l.b.now.graph.now.kinds.now - l.b.now.graph.now.at.item) + 4

abbrev pub decreases-block : goal.decreases-block
decreases-block l = 8 * (length l.b.now.graph.now.kinds.now - l.b.now.graph.now.at.item) + 1

abbrev pub decreases-for_loop : goal.decreases-for_loop
decreases-for_loop l = 8 * (length l.b.now.graph.now.kinds.now - l.b.now.graph.now.at.item) + 5

abbrev pub decreases-if_stmt : goal.decreases-if_stmt
decreases-if_stmt l = 8 * (length l.b.now.graph.now.kinds.now - l.b.now.graph.now.at.item) + 5

abbrev pub decreases-loop_body : goal.decreases-loop_body
decreases-loop_body l = 8 * (length l.b.now.graph.now.kinds.now - l.b.now.graph.now.at.item) + 3

abbrev pub decreases-repeat_loop : goal.decreases-repeat_loop
decreases-repeat_loop l = 8 * (length l.b.now.graph.now.kinds.now - l.b.now.graph.now.at.item) + 5

abbrev pub decreases-scoped_block : goal.decreases-scoped_block
decreases-scoped_block l = 8 * (length l.b.now.graph.now.kinds.now - l.b.now.graph.now.at.item) + 2

abbrev pub decreases-stmt : goal.decreases-stmt
decreases-stmt l = 8 * (length l.b.now.graph.now.kinds.now - l.b.now.graph.now.at.item) + 0

abbrev pub decreases-while_loop : goal.decreases-while_loop
decreases-while_loop l = 8 * (length l.b.now.graph.now.kinds.now - l.b.now.graph.now.at.item) + 5

abbrev pub invariant-arms-loop-b : goal.invariant-arms-loop-b
invariant-arms-loop-b l = Keeps Kept l.initial.b.graph l.b.graph × ((ss : List ℕ) → length ss ≡ length l.initial.b.graph.now.kinds.now → Armed l.initial.b.graph.now.kinds.now ss l.join l.initial.s.test l.initial.s.falls (place l.initial.b.graph.now) (columns l.initial.b.graph.now) l.s.test l.s.falls (place l.b.graph.now) (columns l.b.graph.now))

abbrev pub decreases-arms-loop-b : goal.decreases-arms-loop-b
decreases-arms-loop-b l = length l.b.graph.now.kinds.now - l.b.graph.now.at.item

abbrev pub invariant-block-loop-word : goal.invariant-block-loop-word
invariant-block-loop-word l = Keeps Kept l.initial.b.graph l.b.graph × ((ss : List ℕ) → length ss ≡ length l.initial.b.graph.now.kinds.now → Going l.initial.b.graph.now.kinds.now ss (place l.initial.b.graph.now) (columns l.initial.b.graph.now) (place l.b.graph.now) (columns l.b.graph.now))

abbrev pub decreases-block-loop-word : goal.decreases-block-loop-word
decreases-block-loop-word l = length l.b.graph.now.kinds.now - l.b.graph.now.at.item
