-- The search for a local's first unassigned use: the mark of a write, and the number of the use that is found.
-- Assumes nothing: these are definitions.
use Rattle.std.specs.Prelude.{ℕ, Bool, true, false, List, [], ◌∷◌, set, Option, Some, None}
use Rattle.flow.specs.Findings.{Use}

-- v marked with the stamp, if a test says so
abbrev pub mark_if : Bool → ℕ → ℕ → List ℕ → List ℕ
mark_if true v stamp marks = set marks v stamp
mark_if false v stamp marks = marks

-- the number of the first use of a list
abbrev pub first_number : List Use → Option ℕ
first_number [] = None
first_number (u ∷ us) = Some u.number
