-- The flags of `closure` go by which nodes its lists hold, in any order and any number of times.
-- Assumes nothing.
use Prim.Native.Nat.{ℕ, ◌<◌}
use mathlib.Core.Path.{◌≡◌, sym, ◌∙◌}
use mathlib.Core.List.{List}
use lib.ListN.{get_or}
use lib.Seq.{ext_get_or}
use Rattle.search.specs.Search.{In, Reach, here, on, closure}
use Rattle.search.proofs.Closure.{Nodes, reach_node, closure_length, closure_bits, closure_sound, closure_complete, flag_decided}

-- what one search reaches from nodes below n, the other does
module _ (n : ℕ) (xs ys : List ℕ) (next more : ℕ → List ℕ) (ha : Nodes n xs) (hn : (u : ℕ) → Nodes n (next u)) (i : (v : ℕ) → In v xs → In v ys) (j : (u v : ℕ) → u < n → In v (next u) → In v (more u)) where
  carried : (v : ℕ) → Reach xs next v → Reach ys more v
  carried v (here k) = here (i v k)
  carried v (on {u = u} r k) = on (carried u r) (j u v (reach_node n xs next ha hn u r) k)

module _ (n : ℕ) (xs ys : List ℕ) (next more : ℕ → List ℕ) (hx : Nodes n xs) (hn : (u : ℕ) → Nodes n (next u)) (hy : Nodes n ys) (hm : (u : ℕ) → Nodes n (more u)) where
  pub closure_alike : ((v : ℕ) → In v xs → In v ys) → ((v : ℕ) → In v ys → In v xs) → ((u v : ℕ) → u < n → In v (next u) → In v (more u)) → ((u v : ℕ) → u < n → In v (more u) → In v (next u)) → closure xs next n ≡ closure ys more n
  closure_alike i i' j j' =
      ext_get_or 0 (closure xs next n) (closure ys more n) (closure_length n xs next hx hn ∙ sym (closure_length n ys more hy hm)) (λ v l. same v)
    where
      same : (v : ℕ) → get_or (closure xs next n) v 0 ≡ get_or (closure ys more n) v 0
      same v =
          flag_decided n ys more hy hm v (get_or (closure xs next n) v 0) (closure_bits n xs next hx hn v)
          (λ o. carried n xs ys next more hx hn i j v (closure_sound n xs next hx hn v o))
          (λ r. closure_complete n xs next hx hn v (carried n ys xs more next hy hm i' j' v r))
