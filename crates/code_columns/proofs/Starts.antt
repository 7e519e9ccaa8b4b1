-- The code starts that code words give, one word at a time, and within the nodes alone.
-- Assumes nothing.
use mathlib.Core.Path.{◌≡◌}
use mathlib.Core.List.{List, [], ◌∷◌}
use Prim.Native.Nat.{ℕ, ◌+◌, ◌<◌}
use native.Mathlib.Numerals.{add-one}
use lib.ListN.{length, get_or, take}
use lib.Seq.{take-suc}
use Rattle.cfg_steps.specs.Columns.{painted}
use Rattle.cfg_steps.proofs.Ops.{painted_append}

module _ (ks ss : List ℕ) where
  -- one word more
  pub paint_more : (k : ℕ) (ws ps : List ℕ) {w : ℕ} {col new : List ℕ} → k < length ws → w ≡ get_or ws k 0 → col ≡ painted ks ss (take k ws) ps
      → new ≡ painted ks ss (w ∷ []) col → new ≡ painted ks ss (take (k + 1) ws) ps
  paint_more k ws ps h e p q = rw (q, e, p, add-one, take-suc ws k 0, painted_append)
