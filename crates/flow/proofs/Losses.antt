-- A local's lost values: what a live path from after one meets, and which of its writes are overwritten, as `Demand.antt` states them.
-- Assumes `kinds`, that each use is a read, a write or both, which admission gives; and `all`, that the local's uses all find a node.
use Prim.Native.Nat.{ℕ, suc}
use mathlib.Core.Path.{◌≡◌, refl, sym, ap, subst}
use mathlib.Core.Logic.Iff
use mathlib.Core.Logic.{◌⊎◌, inl, inr, ⊎_elim, ◌↔◌}
use mathlib.Core.Bool.{Bool, true, ◌&&◌, false≢true}
use mathlib.Core.List.Memᴰ
use mathlib.Core.List.{List, [], ◌∷◌, Memᴰ}
use native.Mathlib.Omega.{arith}
use lib.Dec.{eqb}
use lib.ListN.{get_or}
use Rattle.search.specs.Search.{In}
use Rattle.flow.specs.Graph.{Graph, graph}
use Rattle.flow.specs.Reachable.{successors}
use Rattle.flow.specs.Locals.{Declaration, declaration}
use Rattle.flow.specs.Findings.{Use, node_of, Meeting, uses_of, meets, ahead, any_flag, is_overwritten_unread, is_overwritten, overwritten_at, or_else, first_at}
use Rattle.flow.specs.Paths.{Meets, met, past}
use Rattle.flow.specs.Demand.{Own, OwnAt, AllFound, Holds, MeetsFrom, OverwrittenUnread, NextAt, PureWrite, IsRead, IsWrite}
use Rattle.flow.proofs.Flags.{HoldsIn, edge_node, meets_decides}
use Rattle.flow.proofs.Laws.{Next, and_law, or_law, not_law, eqb_law}
use Rattle.flow.proofs.Uses.{node_num, entry, From, end, one, from_all, own_at, FirstIs, first_is, Tells, first_tells, first_some, first_lost, Kinds, write_law, reads_tell, writes_tell, Among, among_step}

any_law : (flags vs : List ℕ) → (any_flag flags vs ≡ true) ↔ ((a : ℕ) × In a vs × (get_or flags a 0 ≡ 1))
unfolding any_flag
any_law flags [] = (λ e. absurd (false≢true e), λ q. absurd q.1)
any_law flags (v ∷ vs) =
    Iff.trans (or_law (eqb_law (get_or flags v 0) 1) (any_law flags vs))
    (λ q. ⊎_elim (λ e. (v, inl refl, e)) (λ r. (r.0, inr r.1, r.2)) q, λ q. ⊎_elim (λ e. inl (subst (λ (x : ℕ). get_or flags x 0 ≡ 1) e q.2)) (λ i. inr (q.0, i, q.2)) q.1)

meets_map : {g : Graph} {d : Declaration} {H K : ℕ → Type 0} → ((v : ℕ) → H v ↔ K v) → {a b : ℕ} → Meets g d H a b → Meets g d K a b
meets_map f (met {v = v} l h) = met l ((f v).0 h)
meets_map f (past {x = u} l n e m) = past l (λ h. n ((f u).1 h)) e (meets_map f m)

-- "the next use in its node is a pure write or, where none follows there, .."
abbrev pub Lost : List ℕ → List ℕ → ℕ → ℕ → ℕ → Type 0
Lost S U ℓ v w = ((u : ℕ) × NextAt S U ℓ w u v × PureWrite U u) ⊎ (((u : ℕ) → NextAt S U ℓ w u v → ⊥) × OverwrittenUnread S U ℓ v)

pub record LostWrite (S U : List ℕ) (ℓ v w : ℕ) : Type 0 where
  pub here : OwnAt S U ℓ w v
  pub write : IsWrite U w
  pub lost : Lost S U ℓ v w

module _ (S U : List ℕ) (ℓ : ℕ) (kinds : Kinds U) (all : AllFound S U ℓ) where
  abbrev g : Graph
  g = graph S

  abbrev d : Declaration
  d = declaration (graph S) ℓ

  abbrev us : List Use
  us = uses_of S U ℓ

  first : (v : ℕ) → FirstIs S U ℓ v 0 (first_at v us)
  first v = first_is S U ℓ all v (from_all S U ℓ)

  holds_law : (v : ℕ) → HoldsIn us v ↔ Holds S U ℓ v
  holds_law v = Iff.trans (first_some (first v)) (λ q. (q.0, q.2), λ q. (q.0, omega arith, q.1))

  -- what some live path from after x meets
  meets_law : {m : Meeting → Bool} (P : List ℕ → ℕ → Type 0) → Tells S U ℓ m (P U) → (x : ℕ) → (any_flag (meets g d us m) (successors g x) ≡ true) ↔ MeetsFrom S U ℓ x P
  meets_law {m} P t x = Iff.trans (any_law (meets g d us m) (successors g x)) (there, back)
    where
      there : ((a : ℕ) × In a (successors g x) × (get_or (meets g d us m) a 0 ≡ 1)) → MeetsFrom S U ℓ x P
      there q =
          let r = (meets_decides g d us m t.no_use_law q.0 (edge_node g x q.0 q.1)).0 q.2 in
          let f = (first_tells t (first r.0)).0 r.2 in
          record {
            begin = q.0;
            end = r.0;
            which = f.0;
            edge = q.1;
            path = meets_map holds_law r.1;
            first = record { here = f.1.here; first = λ y l o. f.1.first y (omega arith) l o };
            kind = f.2;
          }

      back : MeetsFrom S U ℓ x P → (a : ℕ) × In a (successors g x) × (get_or (meets g d us m) a 0 ≡ 1)
      back q =
          let e = q.edge in
          let f = (first_tells t (first q.end)).1 (q.which, record { here = q.first.here; from = omega arith; first = λ y h l o. q.first.first y l o }, q.kind) in
          (q.begin, e, (meets_decides g d us m t.no_use_law q.begin (edge_node g x q.begin e)).1 (q.end, meets_map (λ v. ((holds_law v).1, (holds_law v).0)) q.path, f))

  -- "some live path from after it meets a pure write and none meets a read"
  pub unread_law : (x : ℕ) → (is_overwritten_unread g (ahead g d us) x ≡ true) ↔ OverwrittenUnread S U ℓ x
  unfolding is_overwritten_unread ahead
  unread_law x =
      Iff.trans (and_law (meets_law PureWrite (writes_tell S U ℓ kinds) x) (not_law (meets_law IsRead (reads_tell S U ℓ kinds) x)))
      (λ q. record { written = q.0; unread = q.1 }, λ q. (q.written, q.unread))

  -- a use passes the test where it is a lost write at v
  pub lost_law : (v : ℕ) {u : ℕ} {rest : List Use} → Own U ℓ u → From S U ℓ (suc u) rest → (eqb (node_num S U u) v && is_overwritten g (ahead g d us) (entry S U ℓ u) rest ≡ true) ↔ LostWrite S U ℓ v u
  unfolding is_overwritten
  lost_law v {u} {rest} o r = Iff.trans (and_law (eqb_law (node_num S U u) v) (and_law (write_law S U ℓ kinds u o) lost)) (there, back)
    where
      n : ℕ
      n = node_num S U u

      to : (y : ℕ) → Next (λ w. OwnAt S U ℓ w n) (suc u) y → NextAt S U ℓ u y n
      to y m = record { later = m.from; here = m.here; next = m.first }

      of : (y : ℕ) → NextAt S U ℓ u y n → Next (λ w. OwnAt S U ℓ w n) (suc u) y
      of y m = record { from = m.later; here = m.here; first = m.next }

      lost : (or_else (first_at n rest) (is_overwritten_unread g (ahead g d us) n) ≡ true) ↔ Lost S U ℓ n u
      lost =
          Iff.trans (first_lost (writes_tell S U ℓ kinds) (first_is S U ℓ all n r) (unread_law n))
          (λ q. ⊎_elim (λ x. inl (x.0, to x.0 x.1, x.2)) (λ x. inr (λ y m. x.0 y (of y m), x.1)) q, λ q. ⊎_elim (λ x. inl (x.0, of x.0 x.1, x.2)) (λ x. inr (λ y m. x.0 y (to y m), x.1)) q)

      there : (n ≡ v) × (IsWrite U u × Lost S U ℓ n u) → LostWrite S U ℓ v u
      there q = subst (λ (y : ℕ). LostWrite S U ℓ y u) q.0 (record { here = own_at S U ℓ all u n o refl; write = q.1.0; lost = q.1.1 })

      back : LostWrite S U ℓ v u → (n ≡ v) × (IsWrite U u × Lost S U ℓ n u)
      back w = let e = ap node_of w.here.at_node in (e, (w.write, subst (λ (y : ℕ). Lost S U ℓ y u) (sym e) w.lost))

  -- the lost writes at v, from k on
  pub lost_from : (v : ℕ) {k : ℕ} {rest : List Use} → From S U ℓ k rest → (x : Use) → Memᴰ x (overwritten_at g (ahead g d us) v rest) ↔ Among S U ℓ (LostWrite S U ℓ v) k x
  unfolding overwritten_at
  lost_from v (end h) x = (λ m. absurd (Memᴰ.not-nil m), λ q. absurd (h q.0 q.2 q.3.here.own))
  lost_from v (one n r) x = among_step S U ℓ (λ y w. w.here.own) n (lost_law v n.here r) _ x (lost_from v r x)
