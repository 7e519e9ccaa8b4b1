-- What the walk of one local gives: the word of its finding, and its mark figure.
-- Assumes nothing: these are definitions.
use Rattle.std.specs.Prelude.{ℕ, ◌+◌, ◌-◌, Bool, cond, List, [], ◌∷◌, Option, Some, None}
use Rattle.search.specs.Search.{zeros}
use Rattle.flow.specs.Graph.{Graph, node_count, graph}
use Rattle.flow.specs.Locals.{Declaration, declaration, local_at, finding_word}
use Rattle.flow.specs.Findings.{Use, uses_of, all_found, live_after_writes}
use Rattle.empty_read.specs.FirstRead.{first_number}
use Rattle.local_walk.specs.Walks.{first_empty}
use Rattle.facts.specs.Facts.{is_due}

-- the finding of a use with a number, for the local ℓ: in list 0
abbrev pub words_at : ℕ → Option ℕ → List ℕ
words_at ℓ None = []
words_at ℓ (Some number) = finding_word 0 ℓ (number + 1) ∷ []

-- that of a local with the uses us, if its walk is due
abbrev pub unassigned_words : Bool → ℕ → Graph → Declaration → List Use → List ℕ
unassigned_words due ℓ g d us = words_at ℓ (cond due (first_number (first_empty g d us)) None)

-- how many of n nodes the walk visits, if it is due
abbrev pub visits : Bool → ℕ → Graph → Declaration → List Use → ℕ
visits due n g d us = cond due (n - zeros n (live_after_writes g d us)) 0

-- the mark figure of the local ℓ
unfoldable pub mark_figure : List ℕ → List ℕ → ℕ → ℕ
mark_figure S U ℓ =
    visits (is_due (local_at S ℓ) (all_found (uses_of S U ℓ))) (node_count (graph S)) (graph S) (declaration (graph S) ℓ) (uses_of S U ℓ)
