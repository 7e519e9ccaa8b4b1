-- 01, "Turned back": "Judge writes and returns the same, then the findings and their count." What judge tells, and the two columns of findings.
-- Which findings these are, `Demand.antt` fixes over paths; `findings` only computes them (`proofs/Judged.antt`).
-- Assumes nothing: these are definitions.
use Rattle.std.specs.Prelude.{Bool, List, [], ◌∷◌, ◌++◌, map, length}
use Rattle.flow.specs.Sheet.{Word, Span}
use Rattle.flow.specs.Scopes.{crossed, scoped_verdict}
use Rattle.flow.specs.Answers.{Told, tells, count_values}
use Rattle.flow.specs.Graph.{graph}
use Rattle.flow.specs.Reachable.{counts_of}
use Rattle.flow.specs.Locals.{Finding}
use Rattle.flow.specs.Findings.{findings}
use Rattle.flow.specs.Refusals.{Verdict}

-- "A finding is list .. + 2 × local + 2^32 × .., and beside it the span": the words of a list of findings, and the spans beside them
abbrev pub words_of : List Finding → List Word
words_of = map (λ f. f.word)

abbrev pub spans_of : List Finding → List Span
spans_of = map (λ f. f.span)

-- "Judge writes and returns the same, then the findings and their count": its number and values, of a verdict and of the uses that are judged
abbrev pub judged : Verdict → List Word → List Word → Told
judged verdict S U = tells verdict (count_values (counts_of (graph S)) ++ (length (findings S U) ∷ []))

-- judge, where `short` says whether a lent column is too short, and C is a scope sheet, or [] where none comes
unfoldable pub judge : Bool → List Word → List Word → List Word → Told
judge short S U C = judged (scoped_verdict short S U C) S (crossed S U C)
