-- `predecessors::build_predecessors` meets its contract. The loop's invariant: the chains have the edges of the nodes passed, and the two columns are passed as far.
-- Assumes nothing.
use Rattle.std.proofs.Common.{rules, get_or, suc, length-drop, ◌≡◌, ℕ, ◌<◌, ◌≤◌, length, sym, ◌∙◌, ap, subst, arith}
use mathlib.Core.Logic.{⊎_elim}
use Rattle.live_steps.specs.Walk.{nodes_in}
use Rattle.predecessors.specs.Predecessors.{Linked}
use Rattle.predecessors.proofs.Building.{none_built, turn_linked, turn_long, drop_next}
use Rattle.predecessors.proofs.build_predecessors.Goals as goal

pub loop-u-init : goal.loop-u-init
loop-u-init c =
    let z : c.into_iter-u-iterator.result.count ≡ 0 = search rules in
    rw z (record {
      linked = none_built c.args.edges.first.now c.args.edges.second.now (nodes_in c.args.edges) c.args.chain.now c.requires.blank.1;
      long = c.requires.blank.0;
      passed = omega arith;
      firsts = search rules;
      seconds = search rules;
    })

pub loop-u-preserved : goal.loop-u-preserved
loop-u-preserved c =
    let n = nodes_in c.args.edges in
    let k = c.loop-u.u-iterator.count in
    let u = c.in-Some.u in
    let step = c.in-Some.ensures.steps in
    let f = drop_next k c.args.edges.first.now _ _ (sym c.loop-u.invariant.firsts ∙ step.0.0) in
    let s = drop_next k c.args.edges.second.now _ _ (sym c.loop-u.invariant.seconds ∙ step.0.1) in
    let l = subst (λ (x : ℕ). Linked c.args.edges.first.now c.args.edges.second.now n x c.loop-u.chain) (sym step.1) c.loop-u.invariant.linked in
    let a = f.1 ∙ ap (λ (x : ℕ). get_or c.args.edges.first.now x 0) (sym step.1) in
    let b = s.1 ∙ ap (λ (x : ℕ). get_or c.args.edges.second.now x 0) (sym step.1) in
    let next : c.next.new.self.count ≡ suc u = omega (arith, step.1, step.2) in
    let here : u < n = omega (arith, f.0, step.1) in
    record {
      linked = rw next (turn_linked c.args.edges.first.now c.args.edges.second.now n u here c.loop-u.chain l c.loop-u.invariant.long c.in-Some.a.now c.in-Some.b.now c.put_in_front.result c.put_in_front-in-loop-u.result a b c.put_in_front.new.chain c.put_in_front-in-loop-u.new.chain c.put_in_front.ensures.linked c.put_in_front-in-loop-u.ensures.linked c.put_in_front.ensures.follows c.put_in_front-in-loop-u.ensures.follows);
      long = turn_long c.args.edges.first.now c.args.edges.second.now n u here c.loop-u.chain l c.loop-u.invariant.long c.in-Some.a.now c.in-Some.b.now c.put_in_front.result c.put_in_front-in-loop-u.result a b c.put_in_front.new.chain c.put_in_front-in-loop-u.new.chain c.put_in_front.ensures.linked c.put_in_front-in-loop-u.ensures.linked;
      passed = omega (arith, f.0, step.2);
      firsts = rw step.2 f.2;
      seconds = rw step.2 s.2;
    }

pub returns : goal.returns
returns c =
    let k = c.loop-u.u-iterator.count in
    let whole : length c.args.edges.first.now ≤ k =
    ⊎_elim
    (λ x. omega (arith, x.1.0, ap length c.loop-u.invariant.firsts, length-drop k c.args.edges.first.now))
    (λ x. omega (arith, x.1.0, ap length c.loop-u.invariant.seconds, length-drop k c.args.edges.second.now)) c.in-None.ensures.steps.0 in
    let e : k ≡ nodes_in c.args.edges = omega arith in
    subst (λ (k : ℕ). Linked c.args.edges.first.now c.args.edges.second.now (nodes_in c.args.edges) k c.loop-u.chain) e c.loop-u.invariant.linked
