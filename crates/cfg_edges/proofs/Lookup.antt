-- Laws of edges, and of looking a label up.
-- Assumes nothing.
use mathlib.Core.Path.{◌≡◌, refl}
use mathlib.Core.Logic.{◌⊎◌, inl, inr}
use mathlib.Core.List.{List}
use mathlib.Core.Bool.{cond}
use Prim.Native.Nat.{ℕ, zero, suc, ◌-◌, ◌<◌}
use native.Mathlib.Numerals.{sub-one}
use native.Mathlib.Omega.{arith}
use lib.ListN.{get_or}
use lib.Dec.{eqb}
use Rattle.std.specs.Prelude.{Some, None}
use Rattle.flow.specs.Graph.{absent, label_node}
use Rattle.cfg_edges.specs.Halves.{lo, hi, label_list}

-- the current node is a node, unless it is absent
pub is_node : {a n : ℕ} → (a < n) ⊎ (a ≡ absent) → (a ≡ absent → ⊥) → a < n
is_node (inl h) q = h
is_node (inr e) q = absurd (q e)

-- ---- looking a label up

pub look_step : (a k : ℕ) (ls : List ℕ) → 0 < k
    → label_node a (label_list k ls) ≡ cond (eqb a (lo (get_or ls (k - 1) 0))) (Some (hi (get_or ls (k - 1) 0))) (label_node a (label_list (k - 1) ls))
unfolding label_node label_list
look_step a zero ls h = absurd (omega arith)
look_step a (suc j) ls h = rw (sub-one (suc j))

pub look_none : (a : ℕ) (ls : List ℕ) → label_node a (label_list 0 ls) ≡ None
unfolding label_node label_list
look_none a ls = refl
