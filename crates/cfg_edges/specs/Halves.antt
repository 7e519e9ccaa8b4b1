-- The words of edges and labels while a graph is built, each of two halves. A word holds both successors of a node; a label's word its name and node.
-- Assumes nothing: these are definitions.
use Rattle.std.specs.Prelude.{cond, List, [], ◌∷◌, ℕ, zero, suc, ◌+◌, ◌*◌, ◌/◌, ◌%◌, ◌^◌, get_or, set, eqb, Option, Some, None}
use Rattle.flow.specs.Graph.{Label, absent}

-- the halves of a word
abbrev pub lo : ℕ → ℕ
lo w = w % 2 ^ 32

abbrev pub hi : ℕ → ℕ
hi w = w / 2 ^ 32

-- an edge from the node a to b in a's first free place
abbrev pub edge : ℕ → ℕ → List ℕ → List ℕ
edge a b es =
    cond (eqb (lo (get_or es a 0)) absent) (set es a (b + hi (get_or es a 0) * 2 ^ 32))
    (cond (eqb (hi (get_or es a 0)) absent) (set es a (lo (get_or es a 0) + b * 2 ^ 32)) es)

-- the same where a may be absent: none from no node
unfoldable pub joined : ℕ → ℕ → List ℕ → List ℕ
joined a b es = cond (eqb a absent) es (edge a b es)

abbrev pub joined_from : Option ℕ → ℕ → List ℕ → List ℕ
joined_from None b es = es
joined_from (Some a) b es = edge a b es

-- the labels in force, the latest first
unfoldable pub label_list : ℕ → List ℕ → List Label
label_list zero ls = []
label_list (suc k) ls = record { name = lo (get_or ls k 0); node = hi (get_or ls k 0) } ∷ label_list k ls
