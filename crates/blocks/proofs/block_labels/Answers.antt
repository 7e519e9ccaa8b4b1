-- `blocks::block_labels` meets its contract: what a scan has left at its start are the labels of the block.
-- Assumes nothing.
use mathlib.Core.Path.{◌≡◌, ◌∙◌}
use lib.ListN.{drop}
use native.Mathlib.Omega.{arith}
use Rattle.std.proofs.lemmas.Grind.{common_steps}
use Rattle.blocks.specs.Open.{labels_in}
use Rattle.blocks.proofs.Scan.{labels_law}
use Rattle.blocks.proofs.block_labels.Goals as goal

pub returns-clause-by_index : goal.returns-clause-by_index
returns-clause-by_index c =
    let s : labels_in c.unwrap_or.result.now 0 ≡ labels_in (drop c.args.from c.args.kinds.now) 0 = grind (arith, common_steps) in
    λ ss e. s ∙ labels_law c.args.kinds.now ss e c.args.from
