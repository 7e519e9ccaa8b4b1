-- The graph's columns as a search goes over them.
-- Assumes nothing: these are definitions.
use Rattle.std.specs.Prelude.{ℕ, ◌≡◌, List, [], ◌∷◌, length, get_or, ltb}
use Rattle.search.specs.Search.{filter}
use Rattle.flow.specs.Graph.{Graph, absent}
use Rattle.flow.specs.Reachable.{reachable}

-- the successors of u that are nodes
abbrev pub edges : List ℕ → List ℕ → ℕ → List ℕ
edges first second u = filter (λ v. ltb v (length first)) (get_or first u absent ∷ get_or second u absent ∷ [])

-- a column holds the flags of the graph with these successors
abbrev pub Flags : List ℕ → List ℕ → List ℕ → Type 0
Flags first second flags = (g : Graph) → g.nodes.first ≡ first → g.nodes.second ≡ second → flags ≡ reachable g
