-- `next_uses::SearchBack::push_begins` meets its contract. The loop's invariant: the nodes that the places passed begin at are pushed.
-- Assumes nothing.
use Rattle.std.proofs.Common.{◌<◌, true, false, refl, sym, ◌∙◌, arith}
use Rattle.search.specs.Running.{state_of}
use Rattle.search.proofs.Stamps.{push_room}
use Rattle.use_words.specs.Words.{no_use}
use Rattle.live_steps.specs.Walk.{declared}
use Rattle.predecessors.specs.Ways.{nodes_back}
use Rattle.uses_by_node.proofs.Places.{node_at}
use Rattle.next_uses.proofs.Turns.{starts_turn, starts_ready}
use Rattle.next_uses.proofs.SearchBack.push_begins.Goals as goal
use Rattle.next_uses.proofs.SearchBack.push_begins.Goals.{In-loop-i, then-begins_here, else-begins_here}

-- the node of the place
below : (c : In-loop-i) → node_at c.args.self.now.uses.now c.loop-i.i < nodes_back c.args.self.now.way
below c = c.args.self.now.placed _ no_use c.loop-i-test.true

pub insert-requires-clause-top_in_bounds : goal.insert-requires-clause-top_in_bounds
insert-requires-clause-top_in_bounds c = λ q.
    let h = below (goal.at.insert-requires-clause-top_in_bounds c).In-loop-i in
    omega (arith, push_room c.loop-i.search.stamp (nodes_back c.args.self.now.way) (node_at c.args.self.now.uses.now c.loop-i.i) h c.loop-i.invariant.ready (rw c.from.ensures at q), c.loop-i.invariant.ready.fits.stack_long)

pub loop-i-preserved : goal.loop-i-preserved
loop-i-preserved c =
    let d = (goal.at.loop-i-preserved c).In-loop-i in
    let was = c.loop-i.invariant in
    let n = nodes_back c.args.self.now.way in
    let start = c.args.self.now.way.start.now in
    let l = declared c.args.self.now.way.declaration in
    let s = state_of c.loop-i.search in
    elim c.if-begins_here.branch [
      | then-begins_here w ↦
          let same = w.insert.ensures.same.0 in
          let new = state_of w.insert.new.self in
          let r = sym c.begins_here.ensures ∙ w.if-begins_here.true in
          let p = rw w.from.ensures at w.insert.ensures.inserted in
          rw w.search-is (record {
            same = record { marks_name = same.marks_name ∙ was.same.marks_name; stack_name = same.stack_name ∙ was.same.stack_name; marks_len = same.marks_len ∙ was.same.marks_len; stack_len = same.stack_len ∙ was.same.stack_len };
            same_stamp = w.insert.ensures.same.1 ∙ was.same_stamp;
            ready = rw w.insert.ensures.same.1 (starts_ready start l c.args.self.now.uses.now c.args.sought c.loop-i.search.stamp c.loop-i.i true (sym r) (state_of c.args.search.now) s new p n (below d) was.ready);
            pushed = starts_turn start l c.args.self.now.uses.now c.args.sought c.args.search.now.stamp c.loop-i.i true (sym r) (state_of c.args.search.now) s new (rw (sym was.same_stamp) p) was.pushed;
          })
      | else-begins_here w ↦
          let r = sym c.begins_here.ensures ∙ w.if-begins_here.false in
          rw w.search-is (record {
            same = was.same;
            same_stamp = was.same_stamp;
            ready = was.ready;
            pushed = starts_turn start l c.args.self.now.uses.now c.args.sought c.args.search.now.stamp c.loop-i.i false (sym r) (state_of c.args.search.now) s s refl was.pushed;
          })
    ]
