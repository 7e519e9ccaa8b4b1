-- The search backwards, as a search of `search`: from the starts of the uses, over predecessors that a path may go through.
-- Assumes nothing.
use Prim.Native.Nat.{ℕ, zero, suc, ◌≤◌}
use mathlib.Core.Logic.{⊎_elim}
use mathlib.Core.List.{List, []}
use native.Mathlib.Omega.{arith}
use lib.ListN.{length, get_or}
use Rattle.search.specs.Search.{cons_if, filter}
use Rattle.search.proofs.Closure.{Nodes}
use Rattle.search.proofs.Worklist.{Search, filter_in}
use Rattle.search.proofs.Stamps.{when_nodes}
use Rattle.flow.specs.Locals.{Declaration}
use Rattle.flow.proofs.Members.{append_in}
use Rattle.use_words.specs.declared.PlacedUse.{PlacedUse}
use Rattle.use_words.specs.Words.{node_in, no_use as blank, AllPlaced}
use Rattle.next_uses.specs.declared.Sought.{Sought}
use Rattle.predecessors.specs.Predecessors.{preds_of, passes}
use Rattle.predecessors.proofs.Chains.{preds_nodes}
use Rattle.next_uses.specs.Backwards.{starts_here, starts_to, all_starts}

module _ (start : List ℕ) (d : Declaration) (ws : List PlacedUse) (sought : Sought) (n : ℕ) (p : AllPlaced n ws) where
  pub starts_nodes : (i : ℕ) → i ≤ length ws → Nodes n (starts_to start d ws sought i)
  starts_nodes zero h v k = absurd k
  starts_nodes (suc i) h v k =
      let w : ℕ = node_in (get_or ws i blank) in
      ⊎_elim (starts_nodes i (omega arith) v) (when_nodes n (starts_here start d ws sought i) w (p i blank h) v)
      (append_in (starts_to start d ws sought i) (cons_if (starts_here start d ws sought i) w []) v k)

  abbrev pub back_search : (stamp : ℕ) (used first second : List ℕ) → Search
  back_search stamp used first second =
      record {
        n = n;
        starts = all_starts start d ws sought;
        next = λ v. filter (passes start d stamp used) (preds_of first second v n);
        starts_in = starts_nodes (length ws) (omega arith);
        next_in = λ v u i. preds_nodes first second v n n (omega arith) u (filter_in (passes start d stamp used) (preds_of first second v n) u i).0;
      }
