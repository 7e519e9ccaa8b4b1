-- The walk of a local from after its writes: where it begins, and what it leaves.
-- Assumes nothing: these are definitions.
use Rattle.std.specs.Prelude.{ℕ, ◌+◌, ◌≡◌, List}
use Rattle.search.specs.Search.{zeros}
use Rattle.search.specs.Stamps.{flags_of, Stamped}
use Rattle.flow.specs.Graph.{Graph}
use Rattle.flow.specs.Locals.{Declaration, only_if}
use Rattle.flow.specs.Findings.{Use, node, is_write, live_successors, live_after_writes}

-- the nodes from after a use, if it is a write
abbrev pub after_write : Graph → Declaration → Use → List ℕ
after_write g d u = only_if (is_write u) (live_successors g d (node u))

-- the nodes are marked that live paths from after the writes among us end at, and r says how many they are
pub record Walks (stamp n : ℕ) (g : Graph) (d : Declaration) (us : List Use) (r : ℕ) (visited : List ℕ) : Type 0 where
  pub marks : flags_of stamp n visited ≡ live_after_writes g d us
  pub count : r + zeros n (live_after_writes g d us) ≡ n
  pub stamped : Stamped stamp visited
