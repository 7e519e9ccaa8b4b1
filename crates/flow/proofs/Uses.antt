-- The list of a local's uses holds its own uses in use order, and the first of them at a node is the first own use there.
-- Assumes nothing.
use Prim.Native.Nat.{ℕ, zero, suc, ◌+◌, ◌≤◌, ◌<◌}
use mathlib.Core.Path.{◌≡◌, refl, sym, ap, ◌∙◌, subst}
use mathlib.Core.Logic.Iff
use mathlib.Core.Logic.{◌⊎◌, inl, inr, ⊎_elim, ⊎_map, ◌↔◌}
use mathlib.Core.Bool.{Bool, true, false, cond, not, true≢false, false≢true}
use mathlib.Core.List.Memᴰ
use mathlib.Core.List.{List, [], ◌∷◌, ◌++◌, tail, Memᴰ}
use native.Mathlib.Omega.{arith}
use native.Mathlib.Decide.{ℕ_discrete}
use native.Mathlib.Numerals.{add-one}
use borrow.Author.Tests.{eqb-true, eqb-false}
use lib.Dec.{eqb}
use lib.ListN.{length, get_or, drop, drop_of_length-le}
use lib.Seq.{drop-cons}
use Rattle.std.specs.Prelude.{Some}
use Rattle.flow.specs.Sheet.{all, start_of, use_words, use_spans, local_of, use_kind_of}
use Rattle.flow.specs.Graph.{graph}
use Rattle.flow.specs.Reachable.{node_at}
use Rattle.flow.specs.Locals.{local_at, is_in_closure, only_if}
use Rattle.flow.specs.Findings.{Use, node_of, uses_from, uses_of, all_found, Meeting, no_use, a_read, a_pure_write, meeting, first_at, is_no_use, is_a_read, is_a_pure_write, is_read, is_write, or_else}
use Rattle.flow.specs.Demand.{use_word, use_span, Own, OwnAt, AtNode, AllFound, PureWrite, IsRead, IsWrite}
use Rattle.flow.proofs.Laws.{found_law, Next, next_split, next_unique, next_here, next_skip, next_past, and_law, or_map, eqb_law, mem_append, mem_one, mem_only}

-- the node of a use, where it finds one
abbrev pub node_num : List ℕ → List ℕ → ℕ → ℕ
node_num S U u = node_of (node_at (graph S) (start_of (use_span U u)))

-- a use as the local's list holds it
abbrev pub entry : List ℕ → List ℕ → ℕ → ℕ → Use
entry S U ℓ u = record { number = u; span = use_span U u; kind = use_kind_of (use_word U u); in_closure = is_in_closure (local_at S ℓ) (use_word U u); found = node_at (graph S) (start_of (use_span U u)) }

-- the list of the own uses from number k on
pub data From (S U : List ℕ) (ℓ : ℕ) : ℕ → List Use → Type 0 where
  end : {k : ℕ} → ((u : ℕ) → k ≤ u → Own U ℓ u → ⊥) → From S U ℓ k []
  one : {k u : ℕ} {us : List Use} → Next (Own U ℓ) k u → From S U ℓ (suc u) us → From S U ℓ k (entry S U ℓ u ∷ us)

drop_head : (k : ℕ) (l : List ℕ) → get_or (drop k l) 0 0 ≡ get_or l k 0
drop_head zero l = refl
drop_head (suc k) [] = refl
drop_head (suc k) (x ∷ l) = drop_head k l

tail_drop : (k : ℕ) (l : List ℕ) → tail (drop k l) ≡ drop (suc k) l
tail_drop zero [] = refl
tail_drop zero (x ∷ l) = refl
tail_drop (suc k) [] = refl
tail_drop (suc k) (x ∷ l) = tail_drop k l

module _ (S U : List ℕ) (ℓ : ℕ) where
  past : (k : ℕ) → (Own U ℓ k → ⊥) → (x : ℕ) → k ≤ x → Own U ℓ x → suc k ≤ x
  past k q x h o = elim (ℕ_discrete x k) [ yes e ↦ absurd (q (subst (Own U ℓ) e o)) | no e ↦ omega arith ]

  -- a use that is another local's is left out
  from_skip : {k : ℕ} {us : List Use} → (Own U ℓ k → ⊥) → From S U ℓ (suc k) us → From S U ℓ k us
  from_skip {k} q (end h) = end (λ u l o. h u (past k q u l o) o)
  from_skip {k} q (one n r) = one {k = k} (record { here = n.here; from = omega (arith, n.from); first = λ x h l o. n.first x (past k q x h o) l o }) r

  from_take : {k : ℕ} {us : List Use} → Own U ℓ k → From S U ℓ (suc k) us → From S U ℓ k (entry S U ℓ k ∷ us)
  from_take {k} o r = one {k = k} (record { here = o; from = omega arith; first = λ x h l p. omega arith }) r

  from_if : (k : ℕ) (b : Bool) (us : List Use) → eqb (local_of (use_word U k)) ℓ ≡ b → k < length (use_words U) → From S U ℓ (suc k) us → From S U ℓ k (only_if b (entry S U ℓ k ∷ []) ++ us)
  from_if k true us e h r = from_take (record { below = h; names = eqb-true (local_of (use_word U k)) ℓ e }) r
  from_if k false us e h r = from_skip (λ o. eqb-false (local_of (use_word U k)) ℓ e o.names) r

  from_uses : (n k : ℕ) → k + n ≡ length (use_words U) → From S U ℓ k (uses_from (graph S) (local_at S ℓ) ℓ k (drop k (use_words U)) (drop k (use_spans U)))
  unfolding uses_from
  from_uses zero k e = rw (drop_of_length-le (use_words U) {i = k} (omega arith)) (end (λ (u : ℕ) (h : k ≤ u) (o : Own U ℓ u). omega (arith, o.below)))
  from_uses (suc n) k e = rw (drop-cons (use_words U) k 0 (omega arith), drop_head k (use_spans U), tail_drop k (use_spans U), add-one) (from_if k _ _ refl (omega arith) (from_uses n (suc k) (omega arith)))

  pub from_all : From S U ℓ 0 (uses_of S U ℓ)
  unfolding uses_of
  from_all = from_uses (length (use_words U)) 0 (omega arith)

  -- ---- "whose uses all find a node"

  found_from : {k : ℕ} {us : List Use} → From S U ℓ k us → (all_found us ≡ true) ↔ ((u : ℕ) → k ≤ u → Own U ℓ u → (v : ℕ) × AtNode S U u v)
  unfolding all_found all
  found_from (end h) = (λ e u l o. absurd (h u l o), λ q. refl)
  found_from {k} (one {u = u} {us = us} n r) =
      let both = and_law (found_law (node_at (graph S) (start_of (use_span U u)))) (found_from r) in
      (λ e x l o. ⊎_elim (λ (q : x ≡ u). subst (λ y. (v : ℕ) × AtNode S U y v) (sym q) (both.0 e).0) (λ h. (both.0 e).1 x h o) (next_split n x l o), λ q. both.1 (q u n.from n.here, λ x l o. q x (omega (arith, n.from)) o))

  pub all_found_law : (all_found (uses_of S U ℓ) ≡ true) ↔ AllFound S U ℓ
  all_found_law = let f = found_from from_all in (λ e u o. f.0 e u (omega arith) o, λ q. f.1 (λ u l o. q u o))

-- what the first own use at v from k on is, as `first_at` says it
pub data FirstIs (S U : List ℕ) (ℓ v k : ℕ) (r : Meeting) : Type 0 where
  is : (u : ℕ) → Next (λ w. OwnAt S U ℓ w v) k u → r ≡ meeting (entry S U ℓ u) → FirstIs S U ℓ v k r
  none : ((u : ℕ) → k ≤ u → OwnAt S U ℓ u v → ⊥) → r ≡ no_use → FirstIs S U ℓ v k r

module _ (S U : List ℕ) (ℓ : ℕ) (all : AllFound S U ℓ) where
  pub own_at : (u v : ℕ) → Own U ℓ u → node_num S U u ≡ v → OwnAt S U ℓ u v
  own_at u v o e = let f = all u o in record { own = o; at_node = f.1 ∙ ap Some (sym (ap node_of f.1) ∙ e) }

  pub first_is : (v : ℕ) {k : ℕ} {us : List Use} → From S U ℓ k us → FirstIs S U ℓ v k (first_at v us)
  unfolding first_at
  first_is v (end h) = none (λ u l o. h u l o.own) refl
  first_is v {k} (one {u = u} {us = us} n r) = go (eqb (node_num S U u) v) refl (first_is v r)
    where
      own : (x : ℕ) → OwnAt S U ℓ x v → Own U ℓ x
      own x o = o.own

      away : eqb (node_num S U u) v ≡ false → OwnAt S U ℓ u v → ⊥
      away e o = eqb-false _ v e (ap node_of o.at_node)

      go : (b : Bool) → eqb (node_num S U u) v ≡ b → FirstIs S U ℓ v (suc u) (first_at v us) → FirstIs S U ℓ v k (cond b (meeting (entry S U ℓ u)) (first_at v us))
      go true e f = is u (next_here own n (own_at u v n.here (eqb-true _ v e))) refl
      go false e (is y m q) = is y ((next_skip own n (away e) y).0 m) q
      go false e (none h q) = none (λ x l o. h x (next_past own n (away e) x l o) o) q

-- a test of meetings tells a property of uses
pub record Tells (S U : List ℕ) (ℓ : ℕ) (m : Meeting → Bool) (P : ℕ → Type 0) : Type 0 where
  pub no_use_law : m no_use ≡ false
  pub a_use : (u : ℕ) → Own U ℓ u → (m (meeting (entry S U ℓ u)) ≡ true) ↔ P u

is_use : (b : Bool) → is_no_use (cond b a_read a_pure_write) ≡ false
is_use true = refl
is_use false = refl

is_lost : (b c : Bool) → or_else (cond b a_read a_pure_write) c ≡ is_a_pure_write (cond b a_read a_pure_write)
is_lost true c = refl
is_lost false c = refl

module _ {S U : List ℕ} {ℓ v k : ℕ} {r : Meeting} where
  pub first_tells : {m : Meeting → Bool} {P : ℕ → Type 0} → Tells S U ℓ m P → FirstIs S U ℓ v k r → (m r ≡ true) ↔ ((u : ℕ) × Next (λ w. OwnAt S U ℓ w v) k u × P u)
  first_tells {m} {P} t (is u n e) =
      let a = t.a_use u n.here.own in
      (λ q. (u, n, a.0 (ap m (sym e) ∙ q)), λ q. ap m e ∙ a.1 (subst P (next_unique n q.1) q.2))
  first_tells {m} t (none h e) =
      (λ q. absurd (true≢false (sym q ∙ ap m e ∙ t.no_use_law)), λ q. absurd (h q.0 q.1.from q.1.here))

  -- some use or none
  pub first_some : FirstIs S U ℓ v k r → (is_no_use r ≡ false) ↔ ((u : ℕ) × (k ≤ u) × OwnAt S U ℓ u v)
  first_some (is u n e) = (λ q. (u, n.from, n.here), λ q. ap is_no_use e ∙ is_use (is_read (entry S U ℓ u)))
  first_some (none h e) = (λ q. absurd (true≢false (sym (ap is_no_use e) ∙ q)), λ q. absurd (h q.0 q.1 q.2))

  -- the next is such, or there is none and B
  pub first_lost : {P : ℕ → Type 0} → Tells S U ℓ is_a_pure_write P → FirstIs S U ℓ v k r → {b : Bool} {B : Type 0} → (b ≡ true) ↔ B → (or_else r b ≡ true) ↔ (((u : ℕ) × Next (λ w. OwnAt S U ℓ w v) k u × P u) ⊎ (((u : ℕ) → Next (λ w. OwnAt S U ℓ w v) k u → ⊥) × B))
  first_lost t (is u n e) {b} f =
      let same : or_else r b ≡ is_a_pure_write r = ap (λ x. or_else x b) e ∙ is_lost (is_read (entry S U ℓ u)) b ∙ sym (ap is_a_pure_write e) in
      let told = first_tells t (is u n e) in
      (λ q. inl (told.0 (sym same ∙ q)), λ q. ⊎_elim (λ x. same ∙ told.1 x) (λ x. absurd (x.0 u n)) q)
  first_lost t (none h e) {b} f =
      (λ q. inr (λ u n. h u n.from n.here, f.0 (sym (ap (λ x. or_else x b) e) ∙ q)), λ q. ap (λ x. or_else x b) e ∙ ⊎_elim (λ x. absurd (h x.0 x.1.from x.1.here)) (λ x. f.1 x.1) q)

-- ---- the kinds

read_kind : (k : ℕ) → k ≤ 2 → (not (eqb k 1) ≡ true) ↔ ((k ≡ 0) ⊎ (k ≡ 2))
read_kind zero h = (λ e. inl refl, λ q. refl)
read_kind (suc zero) h = (λ e. absurd (false≢true e), λ q. absurd (⊎_elim (λ e. omega arith) (λ e. omega arith) q))
read_kind (suc (suc zero)) h = (λ e. inr refl, λ q. refl)
read_kind (suc (suc (suc k))) h = absurd (omega arith)

write_kind : (k : ℕ) → k ≤ 2 → (not (eqb k 0) ≡ true) ↔ ((k ≡ 1) ⊎ (k ≡ 2))
write_kind zero h = (λ e. absurd (false≢true e), λ q. absurd (⊎_elim (λ e. omega arith) (λ e. omega arith) q))
write_kind (suc zero) h = (λ e. inl refl, λ q. refl)
write_kind (suc (suc zero)) h = (λ e. inr refl, λ q. refl)
write_kind (suc (suc (suc k))) h = absurd (omega arith)

met_read : (b : Bool) {A : Type 0} → (b ≡ true) ↔ A → (is_a_read (cond b a_read a_pure_write) ≡ true) ↔ A
met_read true f = f
met_read false f = f

met_write : (b : Bool) {A : Type 0} → (b ≡ true) ↔ A → (is_a_pure_write (cond (not b) a_read a_pure_write) ≡ true) ↔ A
met_write true f = f
met_write false f = f

-- "kind 0 Read, 1 Write, 2 ReadWrite"
abbrev pub Kinds : List ℕ → Type 0
Kinds U = (u : ℕ) → u < length (use_words U) → use_kind_of (use_word U u) ≤ 2

module _ (S U : List ℕ) (ℓ : ℕ) (kinds : Kinds U) where
  pub read_law : (u : ℕ) → Own U ℓ u → (is_read (entry S U ℓ u) ≡ true) ↔ IsRead U u
  read_law u o = read_kind _ (kinds u o.below)

  pub write_law : (u : ℕ) → Own U ℓ u → (is_write (entry S U ℓ u) ≡ true) ↔ IsWrite U u
  write_law u o = write_kind _ (kinds u o.below)

  pub reads_tell : Tells S U ℓ is_a_read (IsRead U)
  reads_tell = record { no_use_law = refl; a_use = λ u o. met_read _ (read_law u o) }

  pub writes_tell : Tells S U ℓ is_a_pure_write (PureWrite U)
  writes_tell = record { no_use_law = refl; a_use = λ u o. met_write _ (eqb_law (use_kind_of (use_word U u)) 1) }

-- ---- what the list holds

-- x is a use that is Q
abbrev pub Is : List ℕ → List ℕ → ℕ → (ℕ → Type 0) → Use → Type 0
Is S U ℓ Q x = (u : ℕ) × (x ≡ entry S U ℓ u) × Q u

-- x is a use from k on that is Q
abbrev pub Among : List ℕ → List ℕ → ℕ → (ℕ → Type 0) → ℕ → Use → Type 0
Among S U ℓ Q k x = (w : ℕ) × (x ≡ entry S U ℓ w) × (k ≤ w) × Q w

-- one more in front, where it is Q
module _ (S U : List ℕ) (ℓ : ℕ) {Q : ℕ → Type 0} (own : (y : ℕ) → Q y → Own U ℓ y) {k u : ℕ} (n : Next (Own U ℓ) k u) where
  pub among_step : {b : Bool} → (b ≡ true) ↔ Q u → (l : List Use) (x : Use) → Memᴰ x l ↔ Among S U ℓ Q (suc u) x → Memᴰ x (only_if b (entry S U ℓ u ∷ []) ++ l) ↔ Among S U ℓ Q k x
  among_step f l x ih = Iff.trans (mem_append _ l) (Iff.trans (or_map (mem_only f (λ q. mem_one _)) ih) (there, back))
    where
      there : (Q u × (x ≡ entry S U ℓ u)) ⊎ Among S U ℓ Q (suc u) x → Among S U ℓ Q k x
      there (inl q) = (u, q.1, n.from, q.0)
      there (inr q) = (q.0, q.1, omega (arith, n.from, q.2), q.3)

      back : Among S U ℓ Q k x → (Q u × (x ≡ entry S U ℓ u)) ⊎ Among S U ℓ Q (suc u) x
      back q =
          ⊎_map (λ e. (subst Q e q.3, q.1 ∙ ap (entry S U ℓ) e)) (λ h. (q.0, q.1, h, q.3)) (next_split n q.0 q.2 (own q.0 q.3))

pub uses_law : {S U : List ℕ} {ℓ k : ℕ} {us : List Use} → From S U ℓ k us → (x : Use) → Memᴰ x us ↔ Among S U ℓ (Own U ℓ) k x
uses_law (end h) x = (λ m. absurd (Memᴰ.not-nil m), λ q. absurd (h q.0 q.2 q.3))
uses_law {S} {U} {ℓ} (one {us = us} n r) x = among_step S U ℓ (λ y o. o) n (λ e. n.here, λ o. refl) us x (uses_law r x)
