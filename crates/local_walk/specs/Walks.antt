-- What the walk of one local tells: how many nodes it visits, and the number of its first unassigned use.
-- Assumes nothing: these are definitions.
use Rattle.std.specs.Prelude.{ℕ, ◌+◌, ◌≡◌, List, []}
use Rattle.search.specs.Search.{zeros}
use Rattle.flow.specs.Graph.{Graph}
use Rattle.flow.specs.Locals.{Declaration}
use Rattle.flow.specs.Findings.{Use, live_after_writes, first_empty_read}
use Rattle.empty_read.specs.FirstRead.{first_number}
use Rattle.local_walk.specs.declared.Walked.{Walked}

-- the first of us that is an empty read, as a list
abbrev pub first_empty : Graph → Declaration → List Use → List Use
first_empty g d us = first_empty_read (live_after_writes g d us) [] us

-- r tells of the walk of a local with the declaration d and the uses us, in a graph of n nodes
pub record Tells (n : ℕ) (g : Graph) (d : Declaration) (us : List Use) (r : Walked) : Type 0 where
  pub nodes : r.nodes + zeros n (live_after_writes g d us) ≡ n
  pub first : r.first ≡ first_number (first_empty g d us)
