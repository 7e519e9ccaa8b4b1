use Rattle.cfg_steps.proofs.Loops.{move_did}
use Rattle.std.specs.Prelude.{Some}
use lib.Dec.{lit≤}
use Rattle.cfg.proofs.Rooms.{do_room, while_room, repeat_room, for_room, if_room, simple_room, elseif_room, else_room, code_starts, close_starts, simple_kind, ended_on, arms_left, at_item, OpensNone, block_ends, block_goes_on}
use Rattle.cfg.proofs.Choices.{armed_more, armed_chosen, chosen_last, arm_else, elseif_built, else_built, opened_stepped, do_stepped, simple_stepped}
use Rattle.cfg.proofs.Statements.{with_item, good_item, with_cursor, good_cursor, while_opened, repeat_opened, for_opened, if_opened, looped_to}
use Rattle.cfg.proofs.Scopes.{good_within, good_scope, entered_scope, scoped_loop, scoped, looped}
use Rattle.flow.proofs.Builds.{labels_inside}
use Rattle.cfg.proofs.Blocks.{going_room, going_more, going_ended, ender_done, end_done, closed_at}
use Rattle.cfg.specs.Steps.{bare}
use Rattle.cfg_steps.proofs.Simple.{kind_is}
use Rattle.cfg_steps.specs.Columns.{place, within}
use Rattle.flow.specs.Sheet.{kind_of}
use Rattle.blocks.specs.Open.{open_at}
use lib.ListN.{get_or}
use native.Mathlib.Omega.{arith}
use mathlib.Core.Path.{◌≡◌, refl, sym, ap, ◌∙◌}
use Prim.Native.Nat.{◌+◌}
use Rattle.block_settings.specs.declared.BlockSettings.{BlockSettings}
use Rattle.block_settings.specs.Settings.{loop_settings}
use Rattle.cfg.proofs.+arm_arms_block_for_loop_if_stmt_loop_body_repeat_loop_scoped_block_stmt_while_loop.Goals as goal
use Rattle.cfg.proofs.+arm_arms_block_for_loop_if_stmt_loop_body_repeat_loop_scoped_block_stmt_while_loop.Goals.{stmt-in_default-via-in-Some+in_default, stmt-in_default-via-in_default}
use Rattle.std.proofs.Common.{rules}
use Rattle.std.proofs.lemmas.List.{get_or_read}
use Rattle.std.proofs.lemmas.Bool.{ltb-true}

-- ---- while_loop

pub while_loop-while_head-requires : goal.while_loop-while_head-requires
while_loop-while_head-requires t c = record { nodes_bound = (omega (arith, while_room c.args.b.now.graph.now.kinds.now c.args.b.now.graph.now.kinds.now refl c.args.i c.requires.3 (place c.args.b.now.graph.now) c.requires.5 c.requires.4), c.requires.2, omega arith) }

pub while_loop-loop_body-requires : goal.while_loop-loop_body-requires
while_loop-loop_body-requires t c =
    let hd = c.while_head.ensures.built c.args.b.now.graph.now.kinds.now c.args.b.now.good (code_starts _ 2 c.requires.4 (lit≤ tt)) in rw c.while_head.ensures.kept.0.0 (
      omega (arith, hd.item),
      (
        (c.requires.0, omega (arith, hd.item), at_item c.args.b.now.graph.now.kinds.now (place c.while_head.new.self.graph.now) (c.args.i + 1) (hd.item ∙ c.requires.1) (λ ss e. omega (arith, while_room c.args.b.now.graph.now.kinds.now ss e c.args.i c.requires.3 (place c.args.b.now.graph.now) c.requires.5 c.requires.4, hd.nodes)), c.requires.0.scopes _ c.requires.3 (omega arith) (omega arith)),
        (omega (arith, hd.nodes), omega (arith, hd.nodes)),
      ),
    )

pub while_loop-returns-clause-built : goal.while_loop-returns-clause-built
while_loop-returns-clause-built t c =
    λ ss e.
    let p = rw (c.loop_body.ensures.kept.0.0, c.while_head.ensures.kept.0.0) at c.past-b.ensures in
    let g = good_item c.past-b.result p.0 (omega (arith, p.1, c.requires.0.few)) c.loop_body.new.b.good in
    while_opened c.args.b.now.graph.now.kinds.now ss e c.requires.0.few c.args.i c.requires.3 _ _ _ c.requires.4 c.literal_truth-truth.ensures refl c.requires.1 c.args.b.now.good (c.requires.0.tidy ss e _ c.requires.3 (omega arith) (omega arith)) (c.while_head.ensures.built c.args.b.now.graph.now.kinds.now c.args.b.now.good (code_starts _ 2 c.requires.4 (lit≤ tt))) ((rw c.while_head.ensures.kept.0.0 at c.loop_body.ensures.built) ss e) p.2 p.3 p.1 p.0 (c.loop_end.ensures.built c.args.b.now.graph.now.kinds.now g)

-- ---- for_loop

pub for_loop-for_head-requires : goal.for_loop-for_head-requires
for_loop-for_head-requires t c = record { nodes_bound = (omega (arith, for_room c.args.b.now.graph.now.kinds.now c.args.b.now.graph.now.kinds.now refl c.args.i c.requires.3 (place c.args.b.now.graph.now) c.requires.5 c.requires.4), c.requires.2, omega arith) }

pub for_loop-loop_body-requires : goal.for_loop-loop_body-requires
for_loop-loop_body-requires t c =
    let hd = c.for_head.ensures.built c.args.b.now.graph.now.kinds.now c.args.b.now.good (code_starts _ 4 c.requires.4 (lit≤ tt)) in rw c.for_head.ensures.kept.0.0 (
      omega (arith, hd.item),
      (
        (c.requires.0, omega (arith, hd.item), at_item c.args.b.now.graph.now.kinds.now (place c.for_head.new.self.graph.now) (c.args.i + 1) (hd.item ∙ c.requires.1) (λ ss e. omega (arith, for_room c.args.b.now.graph.now.kinds.now ss e c.args.i c.requires.3 (place c.args.b.now.graph.now) c.requires.5 c.requires.4, hd.nodes)), c.requires.0.scopes _ c.requires.3 (omega arith) (omega arith)),
        (omega (arith, hd.nodes), omega (arith, hd.nodes)),
      ),
    )

pub for_loop-returns-clause-built : goal.for_loop-returns-clause-built
for_loop-returns-clause-built t c =
    λ ss e.
    let p = rw (c.loop_body.ensures.kept.0.0, c.for_head.ensures.kept.0.0) at c.past-b.ensures in
    let g = good_item c.past-b.result p.0 (omega (arith, p.1, c.requires.0.few)) c.loop_body.new.b.good in
    for_opened c.args.b.now.graph.now.kinds.now ss e c.requires.0.few c.args.i c.requires.3 _ _ c.requires.4 refl c.requires.1 c.args.b.now.good (c.requires.0.tidy ss e _ c.requires.3 (omega arith) (omega arith)) (c.for_head.ensures.built c.args.b.now.graph.now.kinds.now c.args.b.now.good (code_starts _ 4 c.requires.4 (lit≤ tt))) ((rw c.for_head.ensures.kept.0.0 at c.loop_body.ensures.built) ss e) p.2 p.3 p.1 p.0 (c.loop_end.ensures.built c.args.b.now.graph.now.kinds.now g)

-- ---- repeat_loop

pub repeat_loop-repeat_head-requires : goal.repeat_loop-repeat_head-requires
repeat_loop-repeat_head-requires t c = record { nodes_bound = omega (arith, repeat_room c.args.b.now.graph.now.kinds.now c.args.b.now.graph.now.kinds.now refl c.args.i c.requires.3 (place c.args.b.now.graph.now) c.requires.5 c.requires.4) }

pub repeat_loop-loop_body-requires : goal.repeat_loop-loop_body-requires
repeat_loop-loop_body-requires t c =
    let hd = c.repeat_head.ensures.built c.args.b.now.graph.now.kinds.now c.args.b.now.good in rw c.repeat_head.ensures.kept.0.0 (
      omega (arith, hd.item),
      (
        (c.requires.0, omega (arith, hd.item), at_item c.args.b.now.graph.now.kinds.now (place c.repeat_head.new.self.graph.now) (c.args.i + 1) (hd.item ∙ c.requires.1) (λ ss e. omega (arith, repeat_room c.args.b.now.graph.now.kinds.now ss e c.args.i c.requires.3 (place c.args.b.now.graph.now) c.requires.5 c.requires.4, hd.nodes)), c.requires.0.scopes _ c.requires.3 (omega arith) (omega arith)),
        rw c.repeat_targets.ensures (omega (arith, hd.nodes), omega (arith, hd.nodes)),
      ),
    )

pub repeat_loop-repeat_end-requires : goal.repeat_loop-repeat_end-requires
repeat_loop-repeat_end-requires t c =
    let ca = closed_at c.args.b.now.graph.now.kinds.now c.args.b.now.graph.now.kinds.now refl c.loop_body.new.b.graph.now.at.item (open_at c.args.b.now.graph.now.kinds.now c.args.b.now.graph.now.kinds.now (c.args.i + 1)) ((rw c.repeat_head.ensures.kept.0.0 at c.loop_body.ensures.built) c.args.b.now.graph.now.kinds.now refl).ended (((rw c.repeat_head.ensures.kept.0.0 at c.loop_body.ensures.built) c.args.b.now.graph.now.kinds.now refl).shut ∙ ap (λ j. bare (open_at c.args.b.now.graph.now.kinds.now c.args.b.now.graph.now.kinds.now j)) ((c.repeat_head.ensures.built c.args.b.now.graph.now.kinds.now c.args.b.now.good).item ∙ c.requires.1)) (c.requires.0.tidy c.args.b.now.graph.now.kinds.now refl _ c.requires.3 (omega arith) (omega arith)) (c.requires.0.closed c.args.b.now.graph.now.kinds.now refl _ c.requires.3 c.requires.4) in
    let bd = ((rw c.repeat_head.ensures.kept.0.0 at c.loop_body.ensures.built) c.args.b.now.graph.now.kinds.now refl).moved in
    let p = rw (c.loop_body.ensures.kept.0.0, c.repeat_head.ensures.kept.0.0) at c.past-b.ensures in
    record { body_bound = (omega (arith, (c.repeat_head.ensures.built c.args.b.now.graph.now.kinds.now c.args.b.now.good).nodes, bd.grown.nodes), omega (arith, bd.good.codes, p.2 ca.0), omega (arith, p.2 ca.0)) }

pub repeat_loop-returns-clause-built : goal.repeat_loop-returns-clause-built
repeat_loop-returns-clause-built t c =
    λ ss e.
    let ca = closed_at c.args.b.now.graph.now.kinds.now ss e c.loop_body.new.b.graph.now.at.item (open_at c.args.b.now.graph.now.kinds.now ss (c.args.i + 1)) ((rw c.repeat_head.ensures.kept.0.0 at c.loop_body.ensures.built) ss e).ended (((rw c.repeat_head.ensures.kept.0.0 at c.loop_body.ensures.built) ss e).shut ∙ ap (λ j. bare (open_at c.args.b.now.graph.now.kinds.now ss j)) ((c.repeat_head.ensures.built c.args.b.now.graph.now.kinds.now c.args.b.now.good).item ∙ c.requires.1)) (c.requires.0.tidy ss e _ c.requires.3 (omega arith) (omega arith)) (c.requires.0.closed ss e _ c.requires.3 c.requires.4) in
    let p = rw (c.loop_body.ensures.kept.0.0, c.repeat_head.ensures.kept.0.0) at c.past-b.ensures in
    let g = good_item c.past-b.result p.0 (omega (arith, p.1, c.requires.0.few)) c.loop_body.new.b.good in
    repeat_opened c.args.b.now.graph.now.kinds.now ss e c.requires.0.few c.args.i c.requires.3 _ _ _ c.requires.4 c.literal_truth-truth.ensures refl c.requires.1 c.args.b.now.good (c.requires.0.tidy ss e _ c.requires.3 (omega arith) (omega arith)) (c.repeat_head.ensures.built c.args.b.now.graph.now.kinds.now c.args.b.now.good) (looped_to c.repeat_targets.ensures ((rw c.repeat_head.ensures.kept.0.0 at c.loop_body.ensures.built) ss e)) p.2 p.3 p.1 p.0 ca.2 (c.repeat_end.ensures.built c.args.b.now.graph.now.kinds.now g (close_starts (get_or c.args.b.now.graph.now.kinds.now c.loop_body.new.b.graph.now.at.item 0) ca.1))

-- ---- if_stmt

pub if_stmt-code_and_after-requires : goal.if_stmt-code_and_after-requires
if_stmt-code_and_after-requires t c = record { nodes_bound = (omega (arith, if_room c.args.b.now.graph.now.kinds.now c.args.b.now.graph.now.kinds.now refl c.args.i c.requires.3 (place c.args.b.now.graph.now) c.requires.5 c.requires.4), c.requires.2, omega arith) }

pub if_stmt-scoped_block-requires : goal.if_stmt-scoped_block-requires
if_stmt-scoped_block-requires t c =
    let hd = c.code_and_after.ensures.built c.args.b.now.graph.now.kinds.now c.args.b.now.good (code_starts _ 5 c.requires.4 (lit≤ tt)) in
    rw c.code_and_after.ensures.kept.0.0 (omega (arith, hd.item), (c.requires.0, omega (arith, hd.item), at_item c.args.b.now.graph.now.kinds.now (place c.code_and_after.new.self.graph.now) (c.args.i + 1) (hd.item ∙ c.requires.1) (λ ss e. omega (arith, if_room c.args.b.now.graph.now.kinds.now ss e c.args.i c.requires.3 (place c.args.b.now.graph.now) c.requires.5 c.requires.4, hd.nodes)), c.requires.0.scopes _ c.requires.3 (omega arith) (omega arith)))

pub if_stmt-arms-requires : goal.if_stmt-arms-requires
if_stmt-arms-requires t c =
    let hd = c.code_and_after.ensures.built c.args.b.now.graph.now.kinds.now c.args.b.now.good (code_starts _ 5 c.requires.4 (lit≤ tt)) in
    let sc = (rw c.code_and_after.ensures.kept.0.0 at c.scoped_block.ensures.built) c.args.b.now.graph.now.kinds.now refl in
    let cl = c.close_into.ensures.built c.args.b.now.graph.now.kinds.now c.scoped_block.new.b.good in
    rw (c.close_into.ensures.kept.0, c.scoped_block.ensures.kept.0.0, c.code_and_after.ensures.kept.0.0) (
      omega (arith, hd.item, sc.moved.forward, cl.item),
      (
        (c.requires.0, omega (arith, cl.item, sc.moved.within), ended_on c.args.b.now.graph.now.kinds.now (place c.scoped_block.new.b.graph.now) (place c.close_into.new.self) cl.item sc.ended, λ ss e. arms_left (c.args.i + 1) (place c.close_into.new.self) hd.good (hd.item ∙ c.requires.1) ((rw c.code_and_after.ensures.kept.0.0 at c.scoped_block.ensures.built) ss e) cl.item cl.nodes (omega (arith, if_room c.args.b.now.graph.now.kinds.now ss e c.args.i c.requires.3 (place c.args.b.now.graph.now) c.requires.5 c.requires.4, hd.nodes))),
        (omega (arith, hd.nodes, sc.moved.grown.nodes, cl.nodes), omega (arith, hd.nodes, sc.moved.grown.nodes, cl.nodes)),
      ),
    )

pub if_stmt-returns-clause-built : goal.if_stmt-returns-clause-built
if_stmt-returns-clause-built t c =
    λ ss e.
    let hd = c.code_and_after.ensures.built c.args.b.now.graph.now.kinds.now c.args.b.now.good (code_starts _ 5 c.requires.4 (lit≤ tt)) in
    let cl = c.close_into.ensures.built c.args.b.now.graph.now.kinds.now c.scoped_block.new.b.good in
    let ch = (rw (c.close_into.ensures.kept.0, c.scoped_block.ensures.kept.0.0, c.code_and_after.ensures.kept.0.0) at c.arms.ensures.built) ss e in
    if_opened c.args.b.now.graph.now.kinds.now ss e c.requires.0.few c.args.i c.requires.3 _ c.requires.4 refl c.requires.1 c.args.b.now.good hd ((rw c.code_and_after.ensures.kept.0.0 at c.scoped_block.ensures.built) ss e) cl ch (good_cursor _ (omega (arith, hd.nodes, ((rw c.code_and_after.ensures.kept.0.0 at c.scoped_block.ensures.built) c.args.b.now.graph.now.kinds.now refl).moved.grown.nodes, cl.nodes, ch.moved.grown.nodes)) ch.moved.good)

pub if_stmt-invariant_of-b-2 : goal.if_stmt-invariant_of-b-2
if_stmt-invariant_of-b-2 t c =
    let hd = c.code_and_after.ensures.built c.args.b.now.graph.now.kinds.now c.args.b.now.good (code_starts _ 5 c.requires.4 (lit≤ tt)) in
    let sc = ((rw c.code_and_after.ensures.kept.0.0 at c.scoped_block.ensures.built) c.args.b.now.graph.now.kinds.now refl).moved in
    let cl = c.close_into.ensures.built c.args.b.now.graph.now.kinds.now c.scoped_block.new.b.good in
    let ch = ((rw (c.close_into.ensures.kept.0, c.scoped_block.ensures.kept.0.0, c.code_and_after.ensures.kept.0.0) at c.arms.ensures.built) c.args.b.now.graph.now.kinds.now refl).moved in
    ((tt, tt), (good_cursor _ (omega (arith, hd.nodes, sc.grown.nodes, cl.nodes, ch.grown.nodes)) c.arms.new.b.good, tt))

-- ---- scoped_block

pub scoped_block-enter_block-requires-clause-room : goal.scoped_block-enter_block-requires-clause-room
scoped_block-enter_block-requires-clause-room t c = λ ss e. omega (arith, c.requires.2 ss e, labels_inside (open_at c.args.b.now.graph.now.kinds.now ss c.args.b.now.graph.now.at.item).top.body)

pub scoped_block-returns-clause-built : goal.scoped_block-returns-clause-built
scoped_block-returns-clause-built t c =
    λ ss e. scoped _ ss c.args.b.now.good c.args.scope_end (entered_scope c.args.b.now.graph.now.kinds.now ss (place c.args.b.now.graph.now) c.args.scope_end (ap (λ (st : BlockSettings). within st (place c.args.b.now.graph.now)) c.enter_scope-b.ensures) (c.enter_block.ensures.entered ss e (good_scope c.args.scope_end (ap (λ (st : BlockSettings). within st (place c.args.b.now.graph.now)) c.enter_scope-b.ensures) c.requires.3 c.args.b.now.good))) ((rw c.enter_block.ensures.kept.0.0 at c.block.ensures.built) ss e) (ap (λ (st : BlockSettings). within st (place c.block.new.b.graph.now)) c.return_to-b.ensures)

-- ---- loop_body

pub loop_body-returns-clause-built : goal.loop_body-returns-clause-built
loop_body-returns-clause-built t c =
    λ ss e. let s = c.scoped_block.ensures.built ss e in looped _ ss c.args.b.now.good c.args.scope_end c.args.targets.break_target c.args.targets.continue_target _ _ _ _ (scoped_loop _ ss (place c.args.b.now.graph.now) c.args.scope_end c.args.targets.break_target c.args.targets.continue_target (ap (λ (st : BlockSettings). within st (place c.args.b.now.graph.now)) c.enter_loop-b.ensures) s) (c.close_into.ensures.built _ s.moved.good) (ap (λ (st : BlockSettings). within st (place c.close_into.new.self)) c.return_to-b.ensures)

pub loop_body-invariant_of-b-2 : goal.loop_body-invariant_of-b-2
loop_body-invariant_of-b-2 t c =
    let ok = c.args.b.now.good in
    let s = (c.scoped_block.ensures.built c.args.b.now.graph.now.kinds.now refl).moved in
    let d = c.close_into.ensures.built c.args.b.now.graph.now.kinds.now c.scoped_block.new.b.good in
    record { good = rw c.return_to-b.ensures (good_within c.args.b.now.graph.now.at.settings (omega (arith, d.labels, s.labels, ap (λ (st : BlockSettings). st.labels) c.enter_loop-b.ensures)) ok.scope_end (omega (arith, ok.break_target, s.grown.nodes, d.nodes)) (omega (arith, ok.continue_target, s.grown.nodes, d.nodes)) d.good) }

-- ---- block

pub block-returns-then-is_block_end-clause-built : goal.block-returns-then-is_block_end-clause-built
block-returns-then-is_block_end-clause-built t c =
    λ ss e.
    let g = c.loop-word.invariant.1 ss e in
    let r = rw c.loop-word.invariant.0.0.0 at c.in-Some.ensures.lookup in
    let lt = ltb-true _ _ (sym r.0) in
    let n = rw (get_or_read _ _ _ lt r.1 0) at (block_ends (kind_of c.in-Some.field-0.now) (sym c.is_block_end.ensures ∙ c.if-is_block_end.true)) in
    going_ended g (ender_done c.args.b.now.graph.now.kinds.now ss e _ lt n) (λ h. n)

pub block-stmt-requires : goal.block-stmt-requires
block-stmt-requires t c =
    let g = c.loop-word.invariant.1 c.args.b.now.graph.now.kinds.now refl in
    let r = rw c.loop-word.invariant.0.0.0 at c.in-Some.ensures.lookup in
    let lt = ltb-true _ _ (sym r.0) in
    let n = rw (get_or_read _ _ _ lt r.1 0) at (block_goes_on (kind_of c.in-Some.field-0.now) (sym c.is_block_end.ensures ∙ c.if-is_block_end.false)) in
    rw c.loop-word.invariant.0.0.0 (omega (arith, g.moved.forward, lt), (c.requires.0, lt, n, λ ss e. going_room (c.loop-word.invariant.1 ss e)))

pub block-loop-word-preserved : goal.block-loop-word-preserved
block-loop-word-preserved t c =
    let i = c.loop-word.invariant.0.0 in
    let k = c.stmt.ensures.kept.0 in
    (((k.0 ∙ i.0, k.1 ∙ i.1, k.2 ∙ i.2, k.3 ∙ i.3, k.4 ∙ i.4), c.stmt.ensures.kept.1 ∙ c.loop-word.invariant.0.1), λ ss e. going_more (c.loop-word.invariant.1 ss e) ((rw i.0 at c.stmt.ensures.built) ss e))

pub block-returns-clause-built : goal.block-returns-clause-built
block-returns-clause-built t c =
    λ ss e.
    let g = c.loop-word.invariant.1 ss e in
    let r = rw c.loop-word.invariant.0.0.0 at c.in_default.ensures.lookup in
    going_ended g (end_done c.args.b.now.graph.now.kinds.now ss e _ (omega (arith, r))) (λ h. absurd (omega (arith, r)))

-- ---- arms

pub arms-loop-b-preserved : goal.arms-loop-b-preserved
arms-loop-b-preserved t c =
    let i = c.loop-b.invariant.0.0 in
    let k = c.arm.ensures.kept.0 in
    (((k.0 ∙ i.0, k.1 ∙ i.1, k.2 ∙ i.2, k.3 ∙ i.3, k.4 ∙ i.4), c.arm.ensures.kept.1 ∙ c.loop-b.invariant.0.1), λ ss e. armed_more (c.loop-b.invariant.1 ss e) ((rw i.0 at c.arm.ensures.built.1) ss e))

pub arms-returns-clause-built : goal.arms-returns-clause-built
arms-returns-clause-built t c =
    λ ss e.
    let g = c.loop-b.invariant.1 ss e in
    let p = rw c.loop-b.invariant.0.0.0 at c.past-b.ensures in
    let f = rw c.loop-b.invariant.0.0.0 at (c.arm_follows.ensures.1 c.loop-b-test.false) in
    armed_chosen g (chosen_last c.args.b.now.graph.now.kinds.now ss e c.requires.at_end.0.few _ _ _ c.past-b.result g.moved.good g.moved.within g.ended f p.2 p.3 (c.arms_end.ensures.built c.args.b.now.graph.now.kinds.now (good_item c.past-b.result p.0 (omega (arith, p.1, c.requires.at_end.0.few)) g.moved.good)))

-- ---- arm

pub arm-arm_test-requires : goal.arm-arm_test-requires
arm-arm_test-requires t c =
    let k : kind_of (get_or c.args.b.now.graph.now.kinds.now c.args.b.now.graph.now.at.item 0) ≡ 6 = search rules in
    record { nodes_bound = (omega (arith, elseif_room c.args.b.now.graph.now.kinds.now c.args.b.now.graph.now.kinds.now refl (place c.args.b.now.graph.now) c.requires.at_arm.1 c.requires.at_arm.3 k), omega (arith, c.args.b.now.good.codes), omega arith, c.requires.test_lt_nodes.0) }

pub arm-scoped_block-requires : goal.arm-scoped_block-requires
arm-scoped_block-requires t c =
    let k : kind_of (get_or c.args.b.now.graph.now.kinds.now c.args.b.now.graph.now.at.item 0) ≡ 6 = search rules in
    let hd = c.arm_test.ensures.built c.args.b.now.graph.now.kinds.now (good_item (c.args.b.now.graph.now.at.item + 1) (omega arith) (omega arith) c.args.b.now.good) (code_starts _ 6 k (lit≤ tt)) in
    rw c.arm_test.ensures.kept.0.0 (omega (arith, hd.item), (c.requires.at_arm.0, omega (arith, hd.item), at_item c.args.b.now.graph.now.kinds.now (place c.arm_test.new.self.graph.now) (c.args.b.now.graph.now.at.item + 1) hd.item (λ ss e. omega (arith, elseif_room c.args.b.now.graph.now.kinds.now ss e (place c.args.b.now.graph.now) c.requires.at_arm.1 c.requires.at_arm.3 k, hd.nodes)), c.requires.at_arm.0.scopes _ c.requires.at_arm.1 (omega (arith, k)) (omega (arith, k))))

pub arm-returns-then-eq-clause-built : goal.arm-returns-then-eq-clause-built
arm-returns-then-eq-clause-built t c =
    let k : kind_of (get_or c.args.b.now.graph.now.kinds.now c.args.b.now.graph.now.at.item 0) ≡ 6 = search rules in
    let hd = c.arm_test.ensures.built c.args.b.now.graph.now.kinds.now (good_item (c.args.b.now.graph.now.at.item + 1) (omega arith) (omega arith) c.args.b.now.good) (code_starts _ 6 k (lit≤ tt)) in
    let sc = (rw c.arm_test.ensures.kept.0.0 at c.scoped_block.ensures.built) c.args.b.now.graph.now.kinds.now refl in
    let cl = c.close_into.ensures.built c.args.b.now.graph.now.kinds.now c.scoped_block.new.b.good in
    rw c.past_elseif.ensures (omega (arith, hd.item, sc.moved.forward, cl.item), λ ss e. elseif_built c.args.b.now.graph.now.kinds.now ss e c.requires.at_arm.0.few c.args.b.now.good c.requires.at_arm.1 _ _ _ _ k refl c.requires.at_arm.3 hd ((rw c.arm_test.ensures.kept.0.0 at c.scoped_block.ensures.built) ss e) cl)

pub arm-scoped_block-requires-else-eq : goal.arm-scoped_block-requires-else-eq
arm-scoped_block-requires-else-eq t c =
    let k = arm_else _ c.requires.at_arm.2 (search rules) in
    let hd = move_did c.args.b.now.graph.now.kinds.now _ _ _ _ _ (good_item (c.args.b.now.graph.now.at.item + 1) (omega arith) (omega arith) c.args.b.now.good) (Some c.args.s.now.test) c.requires.test_lt_nodes.0 in
    (omega arith, (c.requires.at_arm.0, omega arith, at_item c.args.b.now.graph.now.kinds.now (with_cursor c.args.s.now.test (with_item (c.args.b.now.graph.now.at.item + 1) (place c.args.b.now.graph.now))) (c.args.b.now.graph.now.at.item + 1) refl (λ ss e. omega (arith, else_room c.args.b.now.graph.now.kinds.now ss e (place c.args.b.now.graph.now) c.requires.at_arm.1 c.requires.at_arm.3 k)), c.requires.at_arm.0.scopes _ c.requires.at_arm.1 (omega (arith, k)) (omega (arith, k))))

pub arm-returns-else-eq-clause-built : goal.arm-returns-else-eq-clause-built
arm-returns-else-eq-clause-built t c =
    let k = arm_else _ c.requires.at_arm.2 (search rules) in
    let hd = move_did c.args.b.now.graph.now.kinds.now _ _ _ _ _ (good_item (c.args.b.now.graph.now.at.item + 1) (omega arith) (omega arith) c.args.b.now.good) (Some c.args.s.now.test) c.requires.test_lt_nodes.0 in
    let sc = c.scoped_block-else-eq.ensures.built c.args.b.now.graph.now.kinds.now refl in
    let cl = c.close_into-else-eq.ensures.built c.args.b.now.graph.now.kinds.now c.scoped_block-else-eq.new.b.good in
    rw c.past_else.ensures (omega (arith, hd.item, sc.moved.forward, cl.item), λ ss e. else_built c.args.b.now.graph.now.kinds.now ss e c.requires.at_arm.0.few c.args.b.now.good c.requires.at_arm.1 _ _ _ _ k refl c.requires.test_lt_nodes.0 c.requires.at_arm.3 hd (c.scoped_block-else-eq.ensures.built ss e) cl)

-- ---- stmt

pub stmt-scoped_block-requires : goal.stmt-scoped_block-requires
stmt-scoped_block-requires t c =
    let k = kind_is _ c.of.ensures c.in-Some-Do.is c.in-Some-Do.field-0-is in
    (omega arith, (c.requires.0, omega arith, λ ss e. do_room c.args.b.now.graph.now.kinds.now ss e _ c.requires.1 (place c.args.b.now.graph.now) c.requires.3 k, c.requires.0.scopes _ c.requires.1 (omega (arith, k)) (omega (arith, k))))

pub stmt-returns-in-Some-Do-clause-built : goal.stmt-returns-in-Some-Do-clause-built
stmt-returns-in-Some-Do-clause-built t c =
    λ ss e.
    let k = kind_is _ c.of.ensures c.in-Some-Do.is c.in-Some-Do.field-0-is in
    let p = rw c.scoped_block.ensures.kept.0.0 at c.past-b.ensures in
    do_stepped c.args.b.now.graph.now.kinds.now ss e c.requires.0.few c.args.b.now.good c.requires.1 _ _ k refl (c.requires.0.tidy ss e _ c.requires.1 (omega (arith, k)) (omega (arith, k))) (c.scoped_block.ensures.built ss e) p.2 p.3 p.1 p.0

pub stmt-returns-in-Some-While-clause-built : goal.stmt-returns-in-Some-While-clause-built
stmt-returns-in-Some-While-clause-built t c = λ ss e. opened_stepped c.args.b.now.graph.now.kinds.now ss e c.requires.0.few c.args.b.now.good c.requires.1 (c.while_loop.ensures.built ss e)

pub stmt-returns-in-Some-Repeat-clause-built : goal.stmt-returns-in-Some-Repeat-clause-built
stmt-returns-in-Some-Repeat-clause-built t c = λ ss e. opened_stepped c.args.b.now.graph.now.kinds.now ss e c.requires.0.few c.args.b.now.good c.requires.1 (c.repeat_loop.ensures.built ss e)

pub stmt-returns-in-Some-For-clause-built : goal.stmt-returns-in-Some-For-clause-built
stmt-returns-in-Some-For-clause-built t c = λ ss e. opened_stepped c.args.b.now.graph.now.kinds.now ss e c.requires.0.few c.args.b.now.good c.requires.1 (c.for_loop.ensures.built ss e)

pub stmt-returns-in-Some-If-clause-built : goal.stmt-returns-in-Some-If-clause-built
stmt-returns-in-Some-If-clause-built t c = λ ss e. opened_stepped c.args.b.now.graph.now.kinds.now ss e c.requires.0.few c.args.b.now.good c.requires.1 (c.if_stmt.ensures.built ss e)

pub stmt-simple_stmt-requires-clause-w_bound : goal.stmt-simple_stmt-requires-clause-w_bound
stmt-simple_stmt-requires-clause-w_bound t c =
    let k : OpensNone (get_or c.args.b.now.graph.now.kinds.now c.args.b.now.graph.now.at.item 0) = elim c.in_default.branch [ stmt-in_default-via-in-Some+in_default w ↦ (search rules, search rules, search rules, search rules, search rules) | stmt-in_default-via-in_default w ↦ (search rules, search rules, search rules, search rules, search rules) ] in
    let s = simple_kind _ k.0 k.1 k.2 k.3 k.4 c.requires.2 in
    simple_room c.args.b.now.graph.now.kinds.now c.args.b.now.graph.now.kinds.now refl _ c.requires.1 (place c.args.b.now.graph.now) c.requires.3 c.args.b.now.good.nodes s

pub stmt-returns-in_default-clause-built : goal.stmt-returns-in_default-clause-built
stmt-returns-in_default-clause-built t c =
    let k : OpensNone (get_or c.args.b.now.graph.now.kinds.now c.args.b.now.graph.now.at.item 0) = elim c.in_default.branch [ stmt-in_default-via-in-Some+in_default w ↦ (search rules, search rules, search rules, search rules, search rules) | stmt-in_default-via-in_default w ↦ (search rules, search rules, search rules, search rules, search rules) ] in
    let s = simple_kind _ k.0 k.1 k.2 k.3 k.4 c.requires.2 in
    λ ss e. simple_stepped c.args.b.now.graph.now.kinds.now ss e c.requires.0.few c.args.b.now.good c.requires.1 _ s (c.simple_stmt.ensures.built c.args.b.now.graph.now.kinds.now refl)

-- ---- a builder moved to another item, or given other settings, stays good

pub arms-invariant_of-b : goal.arms-invariant_of-b
arms-invariant_of-b t c =
    let p = rw c.loop-b.invariant.0.0.0 at c.past-b.ensures.1 in
    ((tt, tt), (good_item c.past-b.result c.past-b.ensures.0 (omega (arith, p, c.requires.at_end.0.few)) c.loop-b.b.good, tt))

pub for_loop-invariant_of-b : goal.for_loop-invariant_of-b
for_loop-invariant_of-b t c =
    let p = rw (c.loop_body.ensures.kept.0.0, c.for_head.ensures.kept.0.0) at c.past-b.ensures.1 in
    ((tt, tt), (good_item c.past-b.result c.past-b.ensures.0 (omega (arith, p, c.requires.0.few)) c.loop_body.new.b.good, tt))

pub loop_body-invariant_of-b : goal.loop_body-invariant_of-b
loop_body-invariant_of-b t c =
    let ok = c.args.b.now.good in
    let targets = c.requires.break_target_lt_nodes in
    ((tt, tt), (rw c.enter_loop-b.ensures (good_within (loop_settings c.args.targets.break_target c.args.targets.continue_target c.args.b.now.graph.now.at.settings) (omega arith) ok.scope_end targets.0 targets.1 ok), tt))

pub scoped_block-invariant_of-b : goal.scoped_block-invariant_of-b
scoped_block-invariant_of-b t c =
    ((tt, tt), (good_scope c.args.scope_end (ap (λ (st : BlockSettings). within st (place c.args.b.now.graph.now)) c.enter_scope-b.ensures) (omega (arith, c.requires)) c.args.b.now.good, tt))

pub stmt-invariant_of-b : goal.stmt-invariant_of-b
stmt-invariant_of-b t c = ((tt, tt), (good_item _ (omega arith) (omega (arith, c.requires.1, c.requires.0.few)) c.args.b.now.good, tt))
