-- One turn of the loops over a local's uses.
-- Assumes nothing.
use Prim.Native.Nat.{ℕ, ◌+◌, ◌<◌}
use mathlib.Core.Path.{◌≡◌, sym, ap, ◌∙◌}
use mathlib.Core.Bool.{Bool}
use mathlib.Core.List.{List, []}
use native.Mathlib.Omega.{arith}
use native.Mathlib.Numerals.{add-one}
use native.Mathlib.Decide.{ℕ_discrete}
use lib.ListN.{length, set}
use lib.Seq.{get_or-set_same, get_or-set_other}
use Rattle.search.specs.Search.{cons_if}
use Rattle.search.specs.Worklist.{State}
use Rattle.search.specs.Stamps.{Fresh, Ready, stamp_all, stamp_when}
use Rattle.search.proofs.Stamps.{all_append, all_ready, when_one, when_nodes}
use Rattle.flow.specs.Locals.{Declaration}
use Rattle.use_words.specs.declared.PlacedUse.{PlacedUse}
use Rattle.uses_by_node.proofs.Places.{node_at}
use Rattle.next_uses.specs.declared.Sought.{Sought}
use Rattle.next_uses.specs.Backwards.{starts_here, starts_to, Used}

-- ---- the search's starts

module _ (start : List ℕ) (d : Declaration) (ws : List PlacedUse) (sought : Sought) (stamp i : ℕ) (b : Bool) (r : b ≡ starts_here start d ws sought i) (a x y : State) (q : y ≡ stamp_when stamp b (node_at ws i) x) where
  pub starts_turn : x ≡ stamp_all stamp (starts_to start d ws sought i) a → y ≡ stamp_all stamp (starts_to start d ws sought (i + 1)) a
  starts_turn p =
      let here : List ℕ = cons_if b (node_at ws i) [] in
      rw (add-one i, ← r) (q ∙ when_one stamp b (node_at ws i) x ∙ ap (stamp_all stamp here) p ∙ sym (all_append stamp (starts_to start d ws sought i) here a))

  pub starts_ready : (n : ℕ) → node_at ws i < n → Ready stamp n x → Ready stamp n y
  starts_ready n h k = all_ready stamp n (cons_if b (node_at ws i) []) (when_nodes n b (node_at ws i) h) k (q ∙ when_one stamp b (node_at ws i) x)

-- ---- the nodes that hold a use

module _ (stamp : ℕ) (ws : List PlacedUse) where
  pub used_none : (cells : List ℕ) → Fresh stamp cells → Used stamp ws 0 cells
  used_none cells f =
      record { sound = λ v e. absurd (omega (arith, f v)); complete = λ j h. absurd (omega arith) }

  pub used_turn : (i : ℕ) (cells : List ℕ) (v : ℕ) → v ≡ node_at ws i → v < length cells → Used stamp ws i cells → Used stamp ws (i + 1) (set cells v stamp)
  used_turn i cells v e h u =
      record {
        sound = λ x o. elim (ℕ_discrete x v) [
          | yes p ↦ (i, omega arith, sym e ∙ sym p)
          | no q ↦ let k = u.sound x (sym (get_or-set_other cells v x stamp 0 q) ∙ o) in (k.0, omega (arith, k.1), k.2)
        ];
        complete = λ j l. elim (ℕ_discrete (node_at ws j) v) [
          | yes p ↦ rw p (get_or-set_same cells v stamp 0 h)
          | no q ↦ get_or-set_other cells v (node_at ws j) stamp 0 q ∙ u.complete j (earlier j l q)
        ];
      }
    where
      earlier : (j : ℕ) → j < i + 1 → (node_at ws j ≡ v → ⊥) → j < i
      earlier j l q = elim (ℕ_discrete j i) [ yes p ↦ absurd (q (ap (node_at ws) p ∙ sym e)) | no r ↦ omega arith ]
