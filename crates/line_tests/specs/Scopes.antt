-- The scopes around an item as a list, the innermost last.
-- Assumes nothing: these are definitions.
use Rattle.std.specs.Prelude.{List, [], ◌∷◌, ℕ, min, ◌≡◌, map, reverse}
use Rattle.line_tests.specs.declared.Scope.{Scope}

-- the least of a number and of a list's
abbrev pub least : ℕ → List ℕ → ℕ
least s [] = s
least s (t ∷ ts) = min s (least t ts)

-- for each number of a list the least of it and of those behind it
abbrev pub lows_of : List ℕ → List ℕ
lows_of [] = []
lows_of (s ∷ ss) = least s ss ∷ lows_of ss

-- the scope ends, the innermost first, as the definitions have them
abbrev pub scope_ends : List Scope → List ℕ
scope_ends ss = map (λ (s : Scope). s.end) (reverse ss)

abbrev pub scope_lows : List Scope → List ℕ
scope_lows ss = map (λ (s : Scope). s.low) (reverse ss)

-- with each stands the least of it and those around it
abbrev pub Lowest : List Scope → Type 0
Lowest ss = scope_lows ss ≡ lows_of (scope_ends ss)
