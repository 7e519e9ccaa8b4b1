-- The findings that two columns hold.
-- Assumes nothing: these are definitions.
use Rattle.std.specs.Prelude.{List, [], ◌∷◌, ℕ, take}
use Rattle.flow.specs.Locals.{Finding}

-- the findings whose words and spans stand in two columns, and the first n of them
abbrev pub findings_of : List ℕ → List ℕ → List Finding
findings_of [] ss = []
findings_of (w ∷ ws) [] = []
findings_of (w ∷ ws) (s ∷ ss) = record { word = w; span = s } ∷ findings_of ws ss

abbrev pub first_findings : ℕ → List ℕ → List ℕ → List Finding
first_findings n ws ss = findings_of (take n ws) (take n ss)
