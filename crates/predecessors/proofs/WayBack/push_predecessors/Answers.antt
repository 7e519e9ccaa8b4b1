-- `predecessors::WayBack::push_predecessors` meets its contract. The loop's invariant: to push the nodes that are left is what is left to do.
-- Assumes nothing.
use Rattle.std.proofs.Common.{true, false, List, ℕ, ◌<◌, refl, sym, ap, ◌∙◌, subst, arith}
use Rattle.search.specs.Search.{In}
use Rattle.predecessors.specs.declared.Predecessors.{Predecessors}
use Rattle.search.specs.Running.{state_of}
use Rattle.search.proofs.Stamps.{push_room}
use Rattle.predecessors.specs.Predecessors.{left_on}
use Rattle.predecessors.specs.Ways.{nodes_back, goes_on}
use Rattle.predecessors.proofs.Chains.{chain_nodes}
use Rattle.predecessors.proofs.Pushes.{next_below, rest_nodes, rest_pushed, still_ready}
use Rattle.predecessors.proofs.WayBack.push_predecessors.Goals as goal
use Rattle.predecessors.proofs.WayBack.push_predecessors.Goals.{In-Some}

-- what is left, before and after a node comes
abbrev left : In-Some → List ℕ
left c = left_on c.loop-u.u-iterator.chain.now c.loop-u.u-iterator.edge

abbrev more : In-Some → List ℕ
more c = left_on c.next.new.self.chain.now c.next.new.self.edge

below : (c : In-Some) → c.in-Some.u < nodes_back c.args.self.now
below c = next_below (nodes_back c.args.self.now) c.in-Some.u (left c) (more c) c.in-Some.ensures.steps c.loop-u.invariant.nodes

pub loop-u-init : goal.loop-u-init
loop-u-init c =
    let us = c.requires.chain.1.0 in
    let on = c.requires.chain.1.1 in
    record { same = record { marks_name = refl; stack_name = refl; marks_len = refl; stack_len = refl }; same_stamp = refl; ready = c.requires.ready; nodes = λ v i. chain_nodes (nodes_back c.args.self.now) c.args.self.now.chain.now _ us on v (subst (In v) (ap (λ (p : Predecessors). left_on p.chain.now p.edge) c.into_iter-u-iterator.ensures.into_iter_gives ∙ c.of-u-items.ensures us on) i); rest = refl }

pub passes-requires : goal.passes-requires
passes-requires c = below (goal.at.passes-requires c).In-Some

pub insert-requires-clause-v_in_bounds : goal.insert-requires-clause-v_in_bounds
insert-requires-clause-v_in_bounds c =
    let h = below (goal.at.insert-requires-clause-v_in_bounds c).In-Some in
    (omega (arith, h, c.loop-u.invariant.ready.long), omega (arith, h))

pub insert-requires-clause-top_in_bounds : goal.insert-requires-clause-top_in_bounds
insert-requires-clause-top_in_bounds c = λ q.
    let h = below (goal.at.insert-requires-clause-top_in_bounds c).In-Some in
    omega (arith, push_room c.loop-u.search.stamp (nodes_back c.args.self.now) c.in-Some.u h c.loop-u.invariant.ready q, c.loop-u.invariant.ready.fits.stack_long)

pub loop-u-preserved-then-passes : goal.loop-u-preserved-then-passes
loop-u-preserved-then-passes c =
    let d = (goal.at.loop-u-preserved-then-passes c).In-Some in
    let n = nodes_back c.args.self.now in
    let same = c.insert.ensures.same.0 in
    let s = state_of c.loop-u.search in
    let was = c.loop-u.invariant in
    let r = sym c.passes.ensures ∙ c.if-passes.true in
    let p = c.insert.ensures.inserted in
    record {
      same = record { marks_name = same.marks_name ∙ was.same.marks_name; stack_name = same.stack_name ∙ was.same.stack_name; marks_len = same.marks_len ∙ was.same.marks_len; stack_len = same.stack_len ∙ was.same.stack_len };
      same_stamp = c.insert.ensures.same.1 ∙ was.same_stamp;
      ready = rw c.insert.ensures.same.1 (still_ready n c.in-Some.u (left d) (more d) c.in-Some.ensures.steps was.nodes c.loop-u.search.stamp (goes_on c.args.self.now) true (sym r) s (state_of c.insert.new.self) p was.ready);
      nodes = rest_nodes n c.in-Some.u (left d) (more d) c.in-Some.ensures.steps was.nodes;
      rest = was.rest ∙ rest_pushed n c.in-Some.u (left d) (more d) c.in-Some.ensures.steps was.nodes c.args.search.now.stamp (goes_on c.args.self.now) true (sym r) s (state_of c.insert.new.self) (rw (sym was.same_stamp) p);
    }

pub loop-u-preserved : goal.loop-u-preserved
loop-u-preserved c =
    let d = (goal.at.loop-u-preserved c).In-Some in
    let n = nodes_back c.args.self.now in
    let s = state_of c.loop-u.search in
    let was = c.loop-u.invariant in
    let r = sym c.passes.ensures ∙ c.if-passes.false in
    record {
      same = was.same;
      same_stamp = was.same_stamp;
      ready = was.ready;
      nodes = rest_nodes n c.in-Some.u (left d) (more d) c.in-Some.ensures.steps was.nodes;
      rest = was.rest ∙ rest_pushed n c.in-Some.u (left d) (more d) c.in-Some.ensures.steps was.nodes c.args.search.now.stamp (goes_on c.args.self.now) false (sym r) s s refl;
    }
