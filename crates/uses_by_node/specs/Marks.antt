-- What is ahead of a local's nodes, by the marks as the code has them.
-- Assumes nothing: these are definitions.
use Rattle.flow.specs.Findings.{Ahead}
use Rattle.live_steps.specs.Walk.{nodes_in}
use Rattle.uses_by_node.specs.declared.AheadMarks.{AheadMarks}
use Rattle.uses_by_node.specs.Uses.{marked}

abbrev pub ahead_of : AheadMarks → Ahead
ahead_of a = marked a.stamp (nodes_in a.edges) a.reads.now a.writes.now
