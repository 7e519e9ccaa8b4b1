-- `next` of `blocks::BlockLabels` meets its contract: an item that is passed is no label of the block.
-- Assumes nothing.
use Prim.Native.Nat.{◌+◌, ◌^◌, ◌<◌}
use mathlib.Core.Path.{◌≡◌}
use lib.ListN.{length}
use Rattle.blocks.specs.Open.{labels_in}
use Rattle.blocks.proofs.BlockLabelsIterator.next.Given as goal

abbrev pub invariant-loop-word : goal.invariant-loop-word
invariant-loop-word l = record {
  left : labels_in l.self-inside.kinds.now l.self-inside.depth ≡ labels_in l.initial.self-inside.kinds.now l.initial.self-inside.depth;
  fits : l.self-inside.depth + length l.self-inside.kinds.now < 2 ^ 64;
}

abbrev pub decreases-loop-word : goal.decreases-loop-word
decreases-loop-word l = length l.self-inside.kinds.now
