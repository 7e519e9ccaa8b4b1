-- 01, "From uses to findings": live paths, and what a path from after a write meets, as relations over paths.
-- Assumes nothing: these are definitions.
use Rattle.std.specs.Prelude.{◌≡◌, ◌<◌, get_or}
use Rattle.search.specs.Search.{In}
use Rattle.flow.specs.Sheet.{Node}
use Rattle.flow.specs.Graph.{Graph}
use Rattle.flow.specs.Reachable.{successors}
use Rattle.flow.specs.Locals.{Declaration}

-- "nodes joined by edges"
abbrev pub Edge : Graph → Node → Node → Type 0
Edge g x v = In v (successors g x)

-- "none the LOCAL's node, none with code start at or past the scope end"
pub record Alive (g : Graph) (d : Declaration) (v : Node) : Type 0 where
  pub other : v ≡ d.node → ⊥
  pub in_scope : get_or g.nodes.start v 0 < d.scope_end

-- "A live path is one or more nodes joined by edges", each alive: from its first node to its last
pub data Live (g : Graph) (d : Declaration) : Node → Node → Type 0 where
  last : {v : Node} → Alive g d v → Live g d v v
  more : {x y v : Node} → Alive g d x → Edge g x y → Live g d y v → Live g d x v

-- "A path from after a write or a declaration begins at a successor of its node": a live path from after a node x ends at v
pub record After (g : Graph) (d : Declaration) (x v : Node) : Type 0 where
  pub begin : Node
  pub edge : Edge g x begin
  pub path : Live g d begin v

-- "A path meets its last node when only that node holds a use of the local"
pub data Meets (g : Graph) (d : Declaration) (Holds : Node → Type 0) : Node → Node → Type 0 where
  met : {v : Node} → Alive g d v → Holds v → Meets g d Holds v v
  past : {x y v : Node} → Alive g d x → (Holds x → ⊥) → Edge g x y → Meets g d Holds y v → Meets g d Holds x v
