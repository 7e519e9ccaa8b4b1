-- What can be reached in a graph that gives each node its list of next nodes: as a relation over paths, and as a list of flags that computes. `proofs/Closure.antt` shows that the flags decide the relation.
-- Assumes nothing: these are definitions.
use Rattle.std.specs.Prelude.{ℕ, zero, suc, ◌+◌, ◌≡◌, ◌⊎◌, Bool, true, false, List, [], ◌∷◌, get_or, set, replicate}

-- v is one of a list
abbrev pub In : ℕ → List ℕ → Type 0
In v [] = ⊥
In v (x ∷ xs) = (v ≡ x) ⊎ In v xs

-- a path leads from one of `starts` to v: v is one of them, or follows a node that a path leads to
pub data Reach (starts : List ℕ) (next : ℕ → List ℕ) : ℕ → Type 0 where
  here : {v : ℕ} → In v starts → Reach starts next v
  on : {u v : ℕ} → Reach starts next u → In v (next u) → Reach starts next v

-- those of a list that pass a test
abbrev pub cons_if : Bool → ℕ → List ℕ → List ℕ
cons_if true v vs = v ∷ vs
cons_if false v vs = vs

abbrev pub filter : (ℕ → Bool) → List ℕ → List ℕ
filter p [] = []
filter p (v ∷ vs) = cons_if (p v) v (filter p vs)

-- flags with a 1 at each of vs
abbrev pub marked : List ℕ → List ℕ → List ℕ
marked [] s = s
marked (v ∷ vs) s = marked vs (set s v 1)

-- the same where the flag f is set
abbrev pub spread : ℕ → List ℕ → List ℕ → List ℕ
spread zero vs s = s
spread (suc f) vs s = marked vs s

-- the next nodes of each flagged node below k are flagged
abbrev pub sweep : (ℕ → List ℕ) → ℕ → List ℕ → List ℕ
sweep next zero s = s
sweep next (suc k) s = sweep next k (spread (get_or s k 0) (next k) s)

abbrev pub rounds : (ℕ → List ℕ) → ℕ → ℕ → List ℕ → List ℕ
rounds next n zero s = s
rounds next n (suc r) s = rounds next n r (sweep next n s)

-- the flags of n nodes: 1 where a path leads, else 0, by n rounds over all nodes
unfoldable pub closure : List ℕ → (ℕ → List ℕ) → ℕ → List ℕ
closure starts next n = rounds next n n (marked starts (replicate n 0))

-- how many of the first n flags are 0
abbrev pub is_zero : ℕ → ℕ
is_zero zero = 1
is_zero (suc n) = 0

abbrev pub zeros : ℕ → List ℕ → ℕ
zeros zero l = 0
zeros (suc n) [] = 0
zeros (suc n) (x ∷ l) = is_zero x + zeros n l
