-- `offsets::first_past` meets its contract: ends that rise are parted at the offset.
-- Assumes nothing.
use Rattle.std.proofs.Common.{leb, leb-true, leb-false, arith, rules}
use Rattle.std.proofs.lemmas.List.Sorted.{IsPartitionPoint-from_clause}
use Rattle.flow.specs.Sheet.{end_of}
use Rattle.offsets.proofs.Offsets.{parted}
use Rattle.offsets.proofs.first_past.Goals as goal

pub returns : goal.returns
returns c =
    let point = IsPartitionPoint-from_clause (λ s. leb (end_of s) c.args.offset) _ _ c.partition_point.ensures.partitioned (parted c.args.spans.now c.args.offset c.requires) (λ a r q k. search rules) in
    record { within = c.partition_point.ensures.bound; before = λ i h. leb-true _ _ (point.0 i 0 (omega arith) h); past = λ h. leb-false _ _ (point.1 c.partition_point.result 0 (omega arith) h) }
