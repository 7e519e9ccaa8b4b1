-- A node's predecessors, as a list and as a chain through a column. Node u's first edge has the code u + u + 1, its second u + u + 2, and 0 ends a chain. A node keeps three codes: that of the last edge to it, and those of the edges that its own first and second edge follow in their chains.
-- Assumes nothing: these are definitions.
use Rattle.std.specs.Prelude.{ℕ, zero, suc, ◌+◌, ◌-◌, ◌/◌, ◌%◌, ◌≤◌, ◌<◌, ◌≡◌, ◌⊎◌, Bool, cond, ◌&&◌, not, List, [], ◌∷◌, length, get_or, set, eqb}
use Rattle.search.specs.Search.{cons_if}
use Rattle.flow.specs.Locals.{Declaration}
use Rattle.live_steps.specs.Walk.{alive_in}
use Rattle.predecessors.specs.declared.Links.{Links}

-- the nodes below k with an edge to v, the last first, once for each edge
abbrev pub preds_of : List ℕ → List ℕ → ℕ → ℕ → List ℕ
preds_of first second v zero = []
preds_of first second v (suc k) = cons_if (eqb (get_or second k 0) v) k (cons_if (eqb (get_or first k 0) v) k (preds_of first second v k))

-- the code of the last edge to v from a node below k, or 0; and the same with node k's first edge
abbrev pub last_to : List ℕ → List ℕ → ℕ → ℕ → ℕ
last_to first second v zero = 0
last_to first second v (suc k) = cond (eqb (get_or second k 0) v) (k + k + 2) (cond (eqb (get_or first k 0) v) (k + k + 1) (last_to first second v k))

abbrev pub last_half : List ℕ → List ℕ → ℕ → ℕ → ℕ
last_half first second v k = cond (eqb (get_or first k 0) v) (k + k + 1) (last_to first second v k)

-- what no edge is linked to
abbrev pub unlinked : Links
unlinked = record { last = 0; after_first = 0; after_second = 0 }

-- the three codes of a node
abbrev pub head_of : List Links → ℕ → ℕ
head_of chain v = (get_or chain v unlinked).last

abbrev pub after_first : List Links → ℕ → ℕ
after_first chain v = (get_or chain v unlinked).after_first

abbrev pub after_second : List Links → ℕ → ℕ
after_second chain v = (get_or chain v unlinked).after_second

-- the column holds n nodes, and nothing is linked to one
pub record Blank (n : ℕ) (chain : List Links) : Type 0 where
  pub holds : n ≤ length chain
  pub none : (v : ℕ) → v < n → get_or chain v unlinked ≡ unlinked

-- the column holds n nodes, and its chains have the edges of the nodes below k
pub record Linked (first second : List ℕ) (n k : ℕ) (chain : List Links) : Type 0 where
  pub holds : n ≤ length chain
  pub heads : (v : ℕ) → v < n → head_of chain v ≡ last_to first second v k
  pub firsts : (u : ℕ) → u < k → get_or first u 0 < n → after_first chain u ≡ last_to first second (get_or first u 0) u
  pub seconds : (u : ℕ) → u < k → get_or second u 0 < n → after_second chain u ≡ last_half first second (get_or second u 0) u

-- the chains are those of some graph
pub record Chained (n : ℕ) (chain : List Links) : Type 0 where
  pub first : List ℕ
  pub second : List ℕ
  pub linked : Linked first second n n chain

-- an edge put in front of v's chain: its code is v's head
abbrev pub link_head : ℕ → ℕ → List Links → List Links
link_head v code chain = set chain v (record (get_or chain v unlinked) { last = code })

-- the chain from a code has these nodes
abbrev pub Chain : ℕ → List Links → ℕ → List ℕ → Type 0
Chain n chain e [] = e ≡ 0
Chain n chain e (u ∷ us) =
    (u < n) × (((e ≡ u + u + 1) × (after_first chain u < e) × Chain n chain (after_first chain u) us) ⊎ ((e ≡ u + u + 2) × (after_second chain u < e) × Chain n chain (after_second chain u) us))

-- us are the nodes on the chain of v's head, and there are such nodes
abbrev pub ChainOf : ℕ → List Links → List ℕ → Type 0
ChainOf v chain us = Chain (length chain) chain (head_of chain v) us

abbrev pub HasChain : ℕ → List Links → Type 0
HasChain v chain = (v < length chain) × ((us : List ℕ) × ChainOf v chain us)

-- the node of an edge, and the code of the edge after it
abbrev pub node_of_edge : ℕ → ℕ
node_of_edge e = (e - 1) / 2

abbrev pub edge_after : List Links → ℕ → ℕ
edge_after chain e = cond (eqb ((e - 1) % 2) 0) (after_first chain (node_of_edge e)) (after_second chain (node_of_edge e))

-- the code k edges on, or 0 past the end, and that each on the way is an edge of a node below n, which follows an earlier one
abbrev pub edge_on : ℕ → List Links → ℕ → ℕ
edge_on zero chain e = e
edge_on (suc k) chain e = cond (eqb e 0) 0 (edge_on k chain (edge_after chain e))

abbrev pub Falls : ℕ → List Links → ℕ → Type 0
Falls n chain e =
    (k : ℕ) → (edge_on k chain e ≡ 0 → ⊥) → (node_of_edge (edge_on k chain e) < n) × (edge_after chain (edge_on k chain e) < edge_on k chain e)

-- the nodes of the first k edges of a chain, and of all: since codes fall, e of them are enough
abbrev pub nodes_on : ℕ → List Links → ℕ → List ℕ
nodes_on zero chain e = []
nodes_on (suc k) chain e = cond (eqb e 0) [] (node_of_edge e ∷ nodes_on k chain (edge_after chain e))

unfoldable pub left_on : List Links → ℕ → List ℕ
left_on chain e = nodes_on e chain e

-- a path may go on through v: the local is alive there, and no use of it is marked there
unfoldable pub passes : List ℕ → Declaration → ℕ → List ℕ → ℕ → Bool
passes start d stamp used v = not (eqb (get_or used v 0) stamp) && alive_in start d v
