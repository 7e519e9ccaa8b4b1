-- `predecessors::Predecessors::next` meets its contract: the edge on the chain gives its node, and the chain goes on with the edge after it.
-- Assumes nothing.
use Rattle.std.proofs.Common.{◌≡◌, ℕ, ◌-◌, ◌/◌, ◌%◌, ◌∷◌, length, sym, ap, ◌∙◌, subst, rules, arith, eq-eqb, ne_eqb}
use Rattle.predecessors.specs.Predecessors.{edge_after, left_on, node_of_edge, Falls}
use Rattle.predecessors.proofs.Chains.{falls_next, left_next, left_none}
use Rattle.predecessors.proofs.PredecessorsIterator.next.Goals as goal
use Rattle.predecessors.proofs.PredecessorsIterator.next.Goals.{After-from-u, Joined-index-eq0, then-index-eq0, else-index-eq0}

-- an edge is on the chain, and its node is the one that comes
some_edge : (c : After-from-u) → c.args.self.now.edge ≡ 0 → ⊥
some_edge c = λ z. omega (arith, c.in_ok-index.ensures)

its_node : (c : After-from-u) → c.from-u.result ≡ node_of_edge c.args.self.now.edge
its_node c = c.from-u.ensures ∙ ap (λ (x : ℕ). x / 2) c.in_ok-index.ensures.1

-- the edge after it
after_it : (c : Joined-index-eq0) → c.if-index-eq0.self ≡ edge_after c.args.self.now.chain.now c.args.self.now.edge
after_it c =
    let d = (goal.at.Joined-index-eq0 c).After-from-u in
    elim c.if-index-eq0.branch [
      | then-index-eq0 w ↦
          let z : (c.args.self.now.edge - 1) % 2 ≡ 0 = ap (λ (x : ℕ). x % 2) (sym c.in_ok-index.ensures.1) ∙ w.if-index-eq0.true in
          rw (w.self-is, eq-eqb _ _ z, its_node d)
      | else-index-eq0 w ↦
          let z : (c.args.self.now.edge - 1) % 2 ≡ 0 → ⊥ = λ e. w.if-index-eq0.false (ap (λ (x : ℕ). x % 2) c.in_ok-index.ensures.1 ∙ e) in
          rw (w.self-is, ne_eqb _ _ z, its_node d)
    ]

pub returns-in_err-index-clause-steps : goal.returns-in_err-index-clause-steps
returns-in_err-index-clause-steps c =
    let z : c.args.self.now.edge ≡ 0 = omega (arith, c.in_err-index.ensures) in
    rw c.from_residual.ensures (rw z (left_none c.args.self.now.chain.now, left_none c.args.self.now.chain.now))

pub bounds-self-u : goal.bounds-self-u
bounds-self-u c = rw (its_node c) (c.args.self.now.falls 0 (some_edge c)).0

pub invariant_of-self : goal.invariant_of-self
invariant_of-self c =
    let d = (goal.at.invariant_of-self c).After-from-u in
    record { falls = subst (λ (e : ℕ). Falls (length c.args.self.now.chain.now) c.args.self.now.chain.now e) (sym (after_it c)) (falls_next (length c.args.self.now.chain.now) c.args.self.now.chain.now c.args.self.now.edge c.args.self.now.falls (some_edge d)) }

-- what is left before and after
steps : (c : Joined-index-eq0) → left_on c.args.self.now.chain.now c.args.self.now.edge ≡ c.from-u.result ∷ left_on c.args.self.now.chain.now c.if-index-eq0.self
steps c =
    let d = (goal.at.Joined-index-eq0 c).After-from-u in
    rw (its_node d, after_it c) (left_next (length c.args.self.now.chain.now) c.args.self.now.chain.now c.args.self.now.edge c.args.self.now.falls (some_edge d))

pub returns-clause-steps : goal.returns-clause-steps
returns-clause-steps c = steps (goal.at.returns-clause-steps c).Joined-index-eq0

pub returns-clause-goes : goal.returns-clause-goes
returns-clause-goes c = let fewer = ap length (steps (goal.at.returns-clause-goes c).Joined-index-eq0) in search rules
