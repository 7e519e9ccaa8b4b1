-- A local's first empty read, as `Demand.antt` states it.
-- Assumes `kinds`, that each use is a read, a write or both, which admission gives; and `all`, that the local's uses all find a node.
use Prim.Native.Nat.{ℕ, suc, ◌<◌}
use mathlib.Core.Path.{◌≡◌, refl, sym, ap, ◌∙◌, subst}
use mathlib.Core.Logic.Iff
use mathlib.Core.Logic.{◌⊎◌, inl, inr, ⊎_elim, ◌↔◌}
use mathlib.Core.Bool.{Bool, true, false, cond, false≢true}
use mathlib.Core.List.Memᴰ
use mathlib.Core.List.{List, [], ◌∷◌, ◌++◌, Memᴰ}
use native.Mathlib.Omega.{arith}
use native.Mathlib.Decide.{ℕ_discrete, dec_lt}
use lib.Dec.{eqb}
use lib.ListN.{get_or}
use Rattle.flow.specs.Sheet.{member}
use Rattle.flow.specs.Graph.{Graph, graph}
use Rattle.flow.specs.Locals.{Declaration, declaration, only_if}
use Rattle.flow.specs.Findings.{Use, node_of, is_write, uses_of, node, live_after_writes, is_empty_read, first_empty_read}
use Rattle.flow.specs.Paths.{After}
use Rattle.flow.specs.Demand.{Own, OwnAt, AtNode, AllFound, IsRead, IsWrite, InClosure, EmptyRead}
use Rattle.flow.proofs.Flags.{live_decides}
use Rattle.flow.proofs.Laws.{Next, next_unique, next_here, next_skip, and_law, or_law, not_law, eqb_law}
use Rattle.flow.proofs.Uses.{node_num, entry, From, end, one, from_all, own_at, Kinds, read_law, write_law, Is, uses_law}

-- a write of the local before k, at v
abbrev Written : List ℕ → List ℕ → ℕ → ℕ → ℕ → Type 0
Written S U ℓ k v = (w : ℕ) × (w < k) × OwnAt S U ℓ w v × IsWrite U w

-- a write from after which a live path reaches v
abbrev Reached : List ℕ → List ℕ → ℕ → ℕ → Type 0
Reached S U ℓ v = (w : ℕ) × (x : ℕ) × OwnAt S U ℓ w x × IsWrite U w × After (graph S) (declaration (graph S) ℓ) x v

module _ (S U : List ℕ) (ℓ : ℕ) (kinds : Kinds U) (all : AllFound S U ℓ) where
  live_law : (v : ℕ) → (eqb (get_or (live_after_writes (graph S) (declaration (graph S) ℓ) (uses_of S U ℓ)) v 0) 1 ≡ true) ↔ Reached S U ℓ v
  live_law v = Iff.trans (eqb_law _ 1) (Iff.trans (live_decides g d us v) (there, back))
    where
      g : Graph
      g = graph S

      d : Declaration
      d = declaration g ℓ

      us : List Use
      us = uses_of S U ℓ

      there : ((w : Use) × Memᴰ w us × (is_write w ≡ true) × After g d (node w) v) → Reached S U ℓ v
      there q =
          let m = (uses_law (from_all S U ℓ) q.0).0 q.1 in
          (m.0, node_num S U m.0, own_at S U ℓ all m.0 _ m.3 refl, (write_law S U ℓ kinds m.0 m.3).0 (subst (λ (x : Use). is_write x ≡ true) m.1 q.2), subst (λ (x : Use). After g d (node x) v) m.1 q.3)

      back : Reached S U ℓ v → (w : Use) × Memᴰ w us × (is_write w ≡ true) × After g d (node w) v
      back q =
          let o = q.2.own in
          (entry S U ℓ q.0, (uses_law (from_all S U ℓ) _).1 (q.0, refl, omega arith, o), (write_law S U ℓ kinds q.0 o).1 q.3, subst (λ (x : ℕ). After g d x v) (sym (ap node_of q.2.at_node)) q.4)

  -- the nodes of the writes before k
  abbrev WrittenAre : ℕ → List ℕ → Type 0
  WrittenAre k written = (v : ℕ) → (member v written ≡ true) ↔ Written S U ℓ k v

  written_up : (written : List ℕ) {k u : ℕ} → Next (Own U ℓ) k u → WrittenAre k written → WrittenAre u written
  written_up written {k} {u} n w v = Iff.trans (w v) (λ q. (q.0, omega (arith, n.from, q.1), q.2, q.3), λ q. (q.0, below q.0 q.1 q.2.own, q.2, q.3))
    where
      below : (x : ℕ) → x < u → Own U ℓ x → x < k
      below x h o = elim (dec_lt x k) [ yes l ↦ l | no l ↦ absurd (n.first x (omega arith) h o) ]

  one_law : {b : Bool} {B : Type 0} → (b ≡ true) ↔ B → (v x : ℕ) (ws : List ℕ) → (member v (only_if b (x ∷ []) ++ ws) ≡ true) ↔ ((B × (x ≡ v)) ⊎ (member v ws ≡ true))
  one_law {b = true} f v x ws =
      Iff.trans (or_law (eqb_law v x) Iff.rfl) (λ q. ⊎_elim (λ e. inl (f.0 refl, sym e)) inr q, λ q. ⊎_elim (λ p. inl (sym p.1)) inr q)
  one_law {b = false} f v x ws = (inr, λ q. ⊎_elim (λ p. absurd (false≢true (f.1 p.0))) (λ e. e) q)

  written_on : (written : List ℕ) {u : ℕ} → Own U ℓ u → WrittenAre u written → WrittenAre (suc u) (only_if (is_write (entry S U ℓ u)) (node_num S U u ∷ []) ++ written)
  written_on written {u} o w v = Iff.trans (one_law (write_law S U ℓ kinds u o) v (node_num S U u) written) (there, back)
    where
      there : (IsWrite U u × (node_num S U u ≡ v)) ⊎ (member v written ≡ true) → Written S U ℓ (suc u) v
      there (inl q) = (u, omega arith, own_at S U ℓ all u v o q.1, q.0)
      there (inr e) = let q = (w v).0 e in (q.0, omega (arith, q.1), q.2, q.3)

      back : Written S U ℓ (suc u) v → (IsWrite U u × (node_num S U u ≡ v)) ⊎ (member v written ≡ true)
      back q = elim (ℕ_discrete q.0 u) [
        | yes e ↦ inl (subst (λ (x : ℕ). IsWrite U x × (node_num S U x ≡ v)) e (q.3, ap node_of q.2.at_node))
        | no e ↦ inr ((w v).1 (q.0, omega (arith, q.1), q.2, q.3))
      ]

  module _ (live : List ℕ) (lives : (v : ℕ) → (eqb (get_or live v 0) 1 ≡ true) ↔ Reached S U ℓ v) where
    -- a read passes the test where it is empty
    empty_law : (u : ℕ) (written : List ℕ) → Own U ℓ u → WrittenAre u written → (is_empty_read live written (entry S U ℓ u) ≡ true) ↔ EmptyRead S U ℓ u
    unfolding is_empty_read
    empty_law u written o w = (
      λ e. let t = tests.0 e in record {
        own = o;
        read = t.0.0.0;
        outside = t.0.0.1;
        unreached = λ x y z a b n c. t.0.1 (x, y, a, b, subst (After (graph S) (declaration (graph S) ℓ) y) (sym (ap node_of n)) c);
        unshared = λ x z h a b n. t.1 (x, h, subst (λ (y : ℕ). OwnAt S U ℓ x y) (sym (ap node_of n)) a, b);
      },
      λ r. tests.1 (((r.read, r.outside), λ q. r.unreached q.0 q.1 v q.2 q.3 at q.4), λ q. r.unshared q.0 v q.1 q.2 q.3 at),
    )
      where
        v : ℕ
        v = node_num S U u

        at : AtNode S U u v
        at = (own_at S U ℓ all u v o refl).at_node

        tests : (is_empty_read live written (entry S U ℓ u) ≡ true) ↔ (((IsRead U u × (InClosure S U ℓ u → ⊥)) × (Reached S U ℓ v → ⊥)) × (Written S U ℓ u v → ⊥))
        tests = and_law (and_law (and_law (read_law S U ℓ kinds u o) (not_law Iff.rfl)) (not_law (lives v))) (not_law (w v))

    -- the first empty read from k on
    first_empty_law : {k : ℕ} {us : List Use} → From S U ℓ k us → (written : List ℕ) → WrittenAre k written → (x : Use) → Memᴰ x (first_empty_read live written us) ↔ Is S U ℓ (Next (EmptyRead S U ℓ) k) x
    unfolding first_empty_read
    first_empty_law (end h) written w x = (λ m. absurd (Memᴰ.not-nil m), λ q. absurd (h q.0 q.2.from q.2.here.own))
    first_empty_law {k} (one {u = u} {us = us} n r) written w x =
        go (is_empty_read live written (entry S U ℓ u)) (empty_law u written n.here (written_up written n w)) (first_empty_law r _ (written_on written n.here (written_up written n w)) x)
      where
        own : (y : ℕ) → EmptyRead S U ℓ y → Own U ℓ y
        own y e = e.own

        go : (b : Bool) → (b ≡ true) ↔ EmptyRead S U ℓ u → {l : List Use} → Memᴰ x l ↔ Is S U ℓ (Next (EmptyRead S U ℓ) (suc u)) x → Memᴰ x (cond b (entry S U ℓ u ∷ []) l) ↔ Is S U ℓ (Next (EmptyRead S U ℓ) k) x
        go true e ih =
            let here = next_here own n (e.0 refl) in
            (λ m. (u, Memᴰ.eq_of_singleton m, here), λ q. Memᴰ.head (q.1 ∙ ap (entry S U ℓ) (next_unique here q.2)))
        go false e ih =
            let skip = next_skip own n (λ a. false≢true (e.1 a)) in
            (λ m. let q = ih.0 m in (q.0, q.1, (skip q.0).0 q.2), λ q. ih.1 (q.0, q.1, (skip q.0).1 q.2))

  -- its first empty read
  pub empty_read_law : (x : Use) → Memᴰ x (first_empty_read (live_after_writes (graph S) (declaration (graph S) ℓ) (uses_of S U ℓ)) [] (uses_of S U ℓ)) ↔ Is S U ℓ (Next (EmptyRead S U ℓ) 0) x
  empty_read_law = first_empty_law _ live_law (from_all S U ℓ) [] (λ v. (λ e. absurd (false≢true e), λ q. absurd (omega arith)))
