-- What judge leaves once its sheets are admitted, by its two steps.
-- Assumes nothing: these are definitions.
use Rattle.std.specs.Prelude.{◌≡◌, Bool, List, [], ◌∷◌, ℕ, ◌≤◌, length, take}
use Rattle.flow.specs.declared.Counts.{Counts}
use Rattle.flow.specs.declared.Judgement.{Judgement}
use Rattle.flow.specs.Graph.{graph}
use Rattle.flow.specs.Reachable.{counts_of}
use Rattle.flow.specs.Locals.{locals}
use Rattle.flow.specs.Findings.{findings}
use Rattle.flow.specs.Judge.{words_of, spans_of}
use Rattle.unassigned.specs.Pass.{Figures}
use Rattle.findings.specs.Searched.{Searched}
use Rattle.column_lengths.specs.Lengths.{judge_too_short}
use Rattle.search.specs.Lent.{Column, held, left}
use Rattle.chart.specs.Lent.{overlay, Columns, Lent, chart_of, Shown}

-- judge's columns beside chart's: the words and spans of findings, and the mark figures
abbrev pub FindingColumns : Type 0
FindingColumns = record { word : List ℕ; span : List ℕ; mark : List ℕ }

abbrev pub FindingsLent : Type 0
FindingsLent = record { before : FindingColumns; after : FindingColumns }

abbrev pub findings_lent : Column → Column → Column → FindingsLent
findings_lent w s m = record { before = record { word = held w; span = held s; mark = held m }; after = record { word = left w; span = left s; mark = left m } }

-- 1: "or (judge) 3,072 findings", and a figure a local, where `chart` says whether a chart's columns are too short
abbrev pub found_short : FindingColumns → Bool → Bool
found_short f chart = judge_too_short (length f.word ∷ length f.span ∷ []) (length f.mark ∷ []) chart

-- long enough for all findings, and for a figure a local
abbrev pub Long : FindingColumns → Type 0
Long f = (3072 ≤ length f.word) × (3072 ≤ length f.span) × (1024 ≤ length f.mark)

-- a chart's columns, as the search for findings in two sheets takes them, and the spans of names
abbrev pub Searchable : List ℕ → List ℕ → Counts → Columns → Type 0
Searchable S U c x =
    Searched S U c x.nodes.first x.nodes.second x.nodes.start x.codes.span x.codes.node x.names.node x.names.scope_end
    × ((graph S).names.span ≡ take (length (locals S)) x.names.span) × (length (locals S) ≤ length x.names.span)

-- r findings over what stood in their columns, and the mark figures
pub record FindingsWritten (S U : List ℕ) (r : ℕ) (f : FindingsLent) : Type 0 where
  pub count : r ≡ length (findings S U)
  pub words : f.after.word ≡ overlay (words_of (findings S U)) f.before.word
  pub spans : f.after.span ≡ overlay (spans_of (findings S U)) f.before.span
  pub marks : Figures S U (length (locals S)) f.before.mark f.after.mark

-- the same with the chart
pub record Accepted (S U : List ℕ) (r : Judgement) (l : Lent) (f : FindingsLent) : Type 0 where
  pub answer : r ≡ record { counts = counts_of (graph S); findings = length (findings S U) }
  pub columns : l.after ≡ chart_of S l.before
  pub shown : Shown S l.after
  pub found : FindingsWritten S U (length (findings S U)) f
