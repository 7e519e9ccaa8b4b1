-- What marks and parents are worth, whatever engine made them: marks that are sound, hold the starts and are closed under the step are the closure, and a chain of parents back to a start is a path.
-- Assumes nothing.
use Prim.Native.Nat.{ℕ, zero, suc, ◌<◌}
use mathlib.Core.Path.{◌≡◌, sym, ◌∙◌}
use mathlib.Core.List.{List}
use native.Mathlib.Omega.{arith}
use lib.ListN.{length, get_or}
use lib.Seq.{ext_get_or}
use Rattle.search.specs.Search.{Reach, here, on, closure}
use Rattle.search.specs.Engines.{Marks, Path, begins, goes, chain, Leads}
use Rattle.search.proofs.Closure.{Nodes, reach_node, closure_length, flag_decided}

module _ (n : ℕ) (starts : List ℕ) (next : ℕ → List ℕ) (hs : Nodes n starts) (hn : (u : ℕ) → Nodes n (next u)) {marks : List ℕ} (m : Marks n starts next marks) where
  complete : (v : ℕ) → Reach starts next v → get_or marks v 0 ≡ 1
  complete v (here i) = m.begun v i
  complete v (on {u = u} r i) = m.closed u (reach_node n starts next hs hn u r) (complete u r) v i

  pub mark_is : (v : ℕ) → v < n → get_or marks v 0 ≡ get_or (closure starts next n) v 0
  mark_is v l = flag_decided n starts next hs hn v (get_or marks v 0) (m.bits v l) (m.sound v l) (complete v)

  pub marks_closure : length marks ≡ n → marks ≡ closure starts next n
  marks_closure e =
      ext_get_or 0 marks (closure starts next n) (e ∙ sym (closure_length n starts next hs hn)) (λ v l. mark_is v (omega arith))

module _ (starts : List ℕ) (next : ℕ → List ℕ) where
  pub chain_path : (parent : List ℕ) (k v : ℕ) → Leads parent starts next k v → Path starts next (chain parent k v) v
  chain_path parent zero v i = begins i
  chain_path parent (suc k) v l = goes (chain_path parent k (get_or parent v 0) l.1) l.0

  -- so that the search finds what a chain leads to; nothing rests on it
  pub path_reach : {vs : List ℕ} {v : ℕ} → Path starts next vs v → Reach starts next v
  path_reach (begins i) = here i
  path_reach (goes p i) = on (path_reach p) i
