-- `next_uses::SearchBack::mark` meets its contract: the law of a search by a stamp, for every graph whose chains these are.
-- Assumes nothing.
use Rattle.std.proofs.Common.{rules, ◌≡◌, ℕ, List, ap}
use Rattle.search.specs.Stamps.{Stamped}
use Rattle.search.specs.Worklist.{State}
use Rattle.search.proofs.Stamps.{ready_empty}
use Rattle.predecessors.specs.Ways.{nodes_back}
use Rattle.next_uses.specs.Searches.{Finds}
use Rattle.next_uses.proofs.Backing.{back_begin, back_top, back_stamped, back_ready, back_chain, back_turn, back_falls, back_over}
use Rattle.next_uses.proofs.SearchBack.mark.Goals as goal

pub push_begins-requires : goal.push_begins-requires
push_begins-requires c =
    let w = c.args.self.now.way in
    let u = c.requires.unmarked in
    ready_empty w.stamp (nodes_back w) c.args.marks.now c.args.stack.now u.marks_hold u.stack_holds

pub loop-u-init : goal.loop-u-init
loop-u-init c = back_begin c.args.self.now.way c.args.self.now.uses.now c.args.sought c.requires.unmarked c.push_begins.ensures.same.1 c.push_begins.ensures.pushed

pub pop-requires : goal.pop-requires
pop-requires c = back_top c.args.self.now.way c.args.self.now.uses.now c.args.sought c.loop-u.invariant c.args.self.now.placed c.requires.chained

pub push_predecessors-requires-clause-ready : goal.push_predecessors-requires-clause-ready
push_predecessors-requires-clause-ready c = back_ready c.args.self.now.way c.args.self.now.uses.now c.args.sought c.loop-u.invariant c.args.self.now.placed c.requires.chained c.in-Some.ensures.popped c.pop.ensures.same

pub push_predecessors-requires-clause-chain : goal.push_predecessors-requires-clause-chain
push_predecessors-requires-clause-chain c = back_chain c.args.self.now.way c.args.self.now.uses.now c.args.sought c.loop-u.invariant c.args.self.now.placed c.requires.chained c.in-Some.ensures.popped c.pop.ensures.same

pub loop-u-smaller : goal.loop-u-smaller
loop-u-smaller c = back_falls c.args.self.now.way c.args.self.now.uses.now c.args.sought c.loop-u.invariant c.args.self.now.placed c.requires.chained c.in-Some.ensures.popped c.pop.ensures.same c.push_predecessors.ensures.same c.push_predecessors.ensures.pushed

pub loop-u-preserved : goal.loop-u-preserved
loop-u-preserved c = back_turn c.args.self.now.way c.args.self.now.uses.now c.args.sought c.loop-u.invariant c.args.self.now.placed c.requires.chained c.in-Some.ensures.popped c.pop.ensures.same c.push_predecessors.ensures.same c.push_predecessors.ensures.pushed

-- the column that the search was lent holds what it left
left : (P : List ℕ → Type 0) (marks column : List ℕ) → P marks → column ≡ marks → P column
left P marks column p e = rw e p

-- the last pop finds the stack empty, and leaves the columns as they are
pub returns-clause-finds : goal.returns-clause-finds
returns-clause-finds c =
    let w = c.args.self.now.way in
    let us = c.args.self.now.uses.now in
    let p = c.in_default.ensures.popped in
    left (Finds w us c.args.sought) c.pop.new.self.marks.now _ (rw (ap (λ (s : State). s.marks) p.1) (back_over w us c.args.sought c.loop-u.invariant c.args.self.now.placed c.requires.chained p.0)) (search rules)

pub returns-clause-stamped : goal.returns-clause-stamped
returns-clause-stamped c =
    let w = c.args.self.now.way in
    left (Stamped w.stamp) c.pop.new.self.marks.now _ (rw (ap (λ (s : State). s.marks) c.in_default.ensures.popped.1) (back_stamped w c.args.self.now.uses.now c.args.sought c.loop-u.invariant c.args.self.now.placed c.requires.chained)) (search rules)
