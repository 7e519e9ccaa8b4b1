-- What a search of any kind leaves behind: marks, and each node's parent. `proofs/Engines.antt` shows what they are worth, whatever engine made them.
-- Assumes nothing: these are definitions.
use Rattle.std.specs.Prelude.{ℕ, zero, suc, ◌≤◌, ◌<◌, ◌≡◌, List, [], ◌∷◌, ◌++◌, get_or}
use Rattle.search.specs.Search.{In, Reach}

-- of n nodes those are marked that a path leads to: each start is, what follows a marked node is, and no other node
pub record Marks (n : ℕ) (starts : List ℕ) (next : ℕ → List ℕ) (marks : List ℕ) : Type 0 where
  pub bits : (v : ℕ) → v < n → get_or marks v 0 ≤ 1
  pub sound : (v : ℕ) → v < n → get_or marks v 0 ≡ 1 → Reach starts next v
  pub begun : (v : ℕ) → In v starts → get_or marks v 0 ≡ 1
  pub closed : (u : ℕ) → u < n → get_or marks u 0 ≡ 1 → (v : ℕ) → In v (next u) → get_or marks v 0 ≡ 1

-- a list has the nodes of a path in their order, from a start to v
pub data Path (starts : List ℕ) (next : ℕ → List ℕ) : List ℕ → ℕ → Type 0 where
  begins : {v : ℕ} → In v starts → Path starts next (v ∷ []) v
  goes : {vs : List ℕ} {u v : ℕ} → Path starts next vs u → In v (next u) → Path starts next (vs ++ (v ∷ [])) v

-- v, its parent, the parent's parent, and so on for k steps, the last first
abbrev pub chain : List ℕ → ℕ → ℕ → List ℕ
chain parent zero v = v ∷ []
chain parent (suc k) v = chain parent k (get_or parent v 0) ++ (v ∷ [])

-- those k steps go back over edges, and end at a start
abbrev pub Leads : List ℕ → List ℕ → (ℕ → List ℕ) → ℕ → ℕ → Type 0
Leads parent starts next zero v = In v starts
Leads parent starts next (suc k) v = In v (next (get_or parent v 0)) × Leads parent starts next k (get_or parent v 0)
