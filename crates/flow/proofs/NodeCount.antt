-- The graph has 6 nodes and those that the tree's statements make: `Size.antt` counts them.
-- Assumes nothing.
use Prim.Native.Nat.{ℕ, ◌+◌}
use mathlib.Core.Path.{◌≡◌, refl}
use mathlib.Core.Bool.{false}
use mathlib.Core.List.{List, []}
use native.Mathlib.Omega.{arith}
use lib.ListN.{length}
use Rattle.flow.specs.Sheet.{items}
use Rattle.flow.specs.Tree.{Stmt, Block, tree, label_name}
use Rattle.flow.specs.Graph.{Graph, Settings, node_count, entered, build_stmt, build_block, graph}
use Rattle.flow.specs.Size.{stmt_nodes, block_nodes}
use Rattle.flow.proofs.Builds.{labels_within, nothing_known, Kept, Holds, inner, of_stmt_law, of_block_law, whole}

-- whatever the settings are
anything : Kept false false (λ n cs ns g. Unit {0})
anything = record { new = λ r. r; edge = λ a b h r. r; move = λ v r. r; begin = λ v p r. r; span = λ s v h r. r; name = λ s st h r. r }

here : (g : Graph) → Holds anything (node_count g) [] [] g
here g = record { count = refl; many = nothing_known; holds = tt }

pub stmt_count : (s : Stmt) (st : Settings) (g : Graph) → node_count (build_stmt s st g) + length (label_name s) ≡ node_count g + stmt_nodes s
stmt_count s st g = omega (arith, (of_stmt_law anything s (node_count g) [] [] g false st nothing_known nothing_known nothing_known (here g)).count, labels_within s)

pub built_count : (b : Block) (st : Settings) (g : Graph) → node_count (build_block b st (entered b g)) ≡ node_count g + block_nodes b
built_count b st g = (inner anything b (of_block_law anything b) st nothing_known nothing_known (here g)).count

pub graph_count : (ws : List ℕ) → node_count (graph ws) ≡ 6 + block_nodes (tree (items ws))
graph_count ws = (whole anything ws nothing_known tt).count
