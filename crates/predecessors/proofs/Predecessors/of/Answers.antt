-- `predecessors::Predecessors::of` meets its contract: the chain of a node has its predecessors.
-- Assumes nothing.
use Rattle.std.proofs.Common.{length}
use Rattle.predecessors.proofs.Chains.{chain_falls, left_these}
use Rattle.predecessors.proofs.Predecessors.of.Goals as goal

pub invariant_of-result : goal.invariant_of-result
invariant_of-result c = record { falls = chain_falls (length c.args.chain.now) c.args.chain.now _ c.requires.1.0 c.requires.1.1 }

pub returns : goal.returns
returns c = λ us l. left_these (length c.args.chain.now) c.args.chain.now _ us l
