-- `crossing::NotedScopes::crosses_function_boundary` meets its contract: the nearest Function, and whether the name's scope stands before it, tell as much as the chain.
-- Assumes nothing.
use Rattle.std.proofs.Math.Bool.{Bool-set}
use Rattle.std.proofs.Math.Logic.{∥∥₁_elim}
use Rattle.crossing.proofs.Tables.{crosses_none, crosses_past, crosses_unless_over}
use Rattle.crossing.proofs.NotedScopes.crosses_function_boundary.Goals as goal

pub returns-in-None : goal.returns-in-None
returns-in-None c = λ k h. ∥∥₁_elim c.args.self.now.noted (Bool-set _ _) (λ n. crosses_none _ _ c.args.self.now.chains.lower _ _ (n _ c.requires.1).function c.in-None.is k h)

pub returns-in-Some : goal.returns-in-Some
returns-in-Some c =
    λ k h. ∥∥₁_elim c.args.self.now.noted (Bool-set _ _) (λ n. crosses_past _ _ c.args.self.now.chains.lower _ _ (n _ c.requires.1).function c.in-Some.is c.if-name-function.true k h)

pub returns-in-Some-2 : goal.returns-in-Some-2
returns-in-Some-2 c =
    λ k h. ∥∥₁_elim c.args.self.now.noted (Bool-set _ _) (λ n. crosses_unless_over _ _ c.args.self.now.chains.lower _ _ (n _ c.requires.1).function c.in-Some.is c.if-name-function.false c.is_over.ensures k h)
