-- `crossing::NotedScopes::is_over` meets its contract: the scope number falls, along parents or jumps.
-- Assumes nothing.
use Rattle.std.proofs.Math.Bool.{Bool-set}
use Rattle.std.proofs.Math.Logic.{∥∥₁_elim}
use mathlib.Core.Path.{sym}
use native.Mathlib.Omega.{arith}
use Rattle.crossing.proofs.Tables.{no_parent, some_parent, over_at, over_root, over_parent, over_by_jump}
use Rattle.crossing.proofs.NotedScopes.+is_over.Goals as goal

pub returns-then-scope-name : goal.returns-then-scope-name
returns-then-scope-name t c = over_at _ c.args.self.now.chains.lower _ _ c.if-scope-name.true

pub returns-then-jump-scope : goal.returns-then-jump-scope
returns-then-jump-scope t c =
    λ k h. ∥∥₁_elim c.args.self.now.noted (Bool-set _ _) (λ n. over_by_jump _ c.args.self.now.chains.lower _ _ _ (n _ c.requires).jump (omega arith) c.is_over.ensures k h)

pub returns : goal.returns
returns t c = over_parent _ c.args.self.now.chains.lower _ _ _ c.if-scope-name.false (some_parent c.args.self.now.chains.parents.now c.args.scope (sym c.in-Some.ensures)) c.is_over-2.ensures

pub returns-in_default : goal.returns-in_default
returns-in_default t c = over_root _ c.args.self.now.chains.lower _ _ c.if-scope-name.false (no_parent c.args.self.now.chains.parents.now c.args.scope (sym c.in_default.ensures))
