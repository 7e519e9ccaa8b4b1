-- `label_sight::labels_end` meets its contract: what is passed is no label.
-- Assumes nothing.
use Rattle.std.proofs.Common.{rules}
use Rattle.std.proofs.iter.runs.Made.{chains}
use native.Mathlib.Omega.{arith}
use Rattle.label_sight.proofs.Named.{none_from}
use Rattle.label_sight.proofs.labels_end.Goals as goal

pub returns-in-Some : goal.returns-in-Some
returns-in-Some c = none_from _ _ (search (rules, chains)) (λ k a b. search (rules, chains))

pub returns-in-None : goal.returns-in-None
returns-in-None c = none_from _ _ (omega arith) (λ k a b. search (rules, chains))
