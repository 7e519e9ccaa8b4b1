-- 1: "columns lent below 1,600 nodes, 1,024 codes, 1,024 locals, or (judge) 3,072 findings", by the lengths of the columns.
-- Assumes nothing: these are definitions.
use Rattle.std.specs.Prelude.{Bool, false, ◌||◌, List, [], ◌∷◌, ℕ, ltb}

-- one of these lengths is below n, or others are too short
abbrev pub any_below : ℕ → List ℕ → Bool → Bool
any_below n [] others = others
any_below n (l ∷ ls) others = ltb l n || any_below n ls others

-- chart's columns, for nodes, codes and locals
unfoldable pub chart_too_short : List ℕ → List ℕ → List ℕ → Bool
chart_too_short nodes codes locals = any_below 1600 nodes (any_below 1024 codes (any_below 1024 locals false))

-- judge's: those for findings, for the mark figures, of which there is one a local, and chart's
unfoldable pub judge_too_short : List ℕ → List ℕ → Bool → Bool
judge_too_short findings marks chart = any_below 3072 findings (any_below 1024 marks chart)
