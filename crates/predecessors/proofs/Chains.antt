-- The chains of predecessors: the chain of v's head has v's predecessors, and a walk along it pushes them.
-- Assumes nothing.
use Prim.Native.Nat.{ℕ, zero, suc, ◌+◌, ◌-◌, ◌%◌, ◌≤◌, ◌<◌}
use mathlib.Core.Path.{◌≡◌, refl, sym, ap, ap₂, ◌∙◌, subst}
use mathlib.Core.Logic.{inl, inr, ⊎_elim}
use mathlib.Core.Bool.{Bool, true, false, cond}
use mathlib.Core.List.{List, [], ◌∷◌}
use native.Mathlib.Omega.{arith}
use native.Mathlib.Decide.{ℕ_discrete}
use borrow.Author.Tests.{eq-eqb, ne_eqb}
use lib.Dec.{eqb}
use lib.ListN.{get_or}
use Rattle.search.specs.Search.{cons_if}
use Rattle.search.proofs.Closure.{Nodes}
use Rattle.predecessors.specs.declared.Links.{Links}
use Rattle.predecessors.specs.Predecessors.{preds_of, last_to, last_half, Linked, Chained, head_of, after_first, after_second, Chain, node_of_edge, edge_after, edge_on, nodes_on, left_on, Falls}

-- a test of numbers, with what it shows
pub by_eqb : (P : Bool → Type 0) (a b : ℕ) → (a ≡ b → P true) → ((a ≡ b → ⊥) → P false) → P (eqb a b)
by_eqb P a b t f = elim (ℕ_discrete a b) [ yes e ↦ subst P (sym (eq-eqb a b e)) (t e) | no q ↦ subst P (sym (ne_eqb a b q)) (f q) ]

cond_le : (b : Bool) (x y m : ℕ) → x ≤ m → y ≤ m → cond b x y ≤ m
cond_le true x y m h k = h
cond_le false x y m h k = k

module _ (f s : List ℕ) where
  last_le : (v k : ℕ) → last_to f s v k ≤ k + k
  last_le v zero = omega arith
  last_le v (suc k) =
      cond_le (eqb (get_or s k 0) v) _ _ _ (omega arith) (cond_le (eqb (get_or f k 0) v) _ _ _ (omega arith) (omega (arith, last_le v k)))

  half_le : (v k : ℕ) → last_half f s v k ≤ k + k + 1
  half_le v k = cond_le (eqb (get_or f k 0) v) _ _ _ (omega arith) (omega (arith, last_le v k))

  -- ---- the chain of v's head has v's predecessors

  module _ (n : ℕ) (chain : List Links) (l : Linked f s n n chain) (v : ℕ) (hv : v < n) where
    half_cons : (k : ℕ) → k < n → Chain n chain (last_to f s v k) (preds_of f s v k) → Chain n chain (last_half f s v k) (cons_if (eqb (get_or f k 0) v) k (preds_of f s v k))
    half_cons k h c =
        by_eqb (λ t. Chain n chain (cond t (k + k + 1) (last_to f s v k)) (cons_if t k (preds_of f s v k))) (get_or f k 0) v
        (λ e. let q : after_first chain k ≡ last_to f s v k = l.firsts k h (omega arith) ∙ ap (λ (x : ℕ). last_to f s x k) e in
        (h, inl (refl, omega (arith, last_le v k), subst (λ (x : ℕ). Chain n chain x (preds_of f s v k)) (sym q) c)))
        (λ _. c)

    chained : (k : ℕ) → k ≤ n → Chain n chain (last_to f s v k) (preds_of f s v k)
    chained zero h = refl
    chained (suc k) h =
        let c = half_cons k h (chained k (omega arith)) in
        by_eqb (λ t. Chain n chain (cond t (k + k + 2) (last_half f s v k)) (cons_if t k (cons_if (eqb (get_or f k 0) v) k (preds_of f s v k)))) (get_or s k 0) v
        (λ e. let q : after_second chain k ≡ last_half f s v k = l.seconds k h (omega arith) ∙ ap (λ (x : ℕ). last_half f s x k) e in
        (h, inr (refl, omega (arith, half_le v k), subst (λ (x : ℕ). Chain n chain x (cons_if (eqb (get_or f k 0) v) k (preds_of f s v k))) (sym q) c)))
        (λ _. c)

    pub chain_of : Chain n chain (head_of chain v) (preds_of f s v n)
    chain_of = subst (λ (x : ℕ). Chain n chain x (preds_of f s v n)) (sym (l.heads v hv)) (chained n (omega arith))

pub some_chain : {n : ℕ} {chain : List Links} → Chained n chain → (v : ℕ) → v < n → ((us : List ℕ) × Chain n chain (head_of chain v) us)
some_chain {n} {chain} c v h = (preds_of c.first c.second v n, chain_of c.first c.second n chain c.linked v h)

-- ---- predecessors are nodes

cons_nodes : (n : ℕ) (b : Bool) (k : ℕ) (vs : List ℕ) → k < n → Nodes n vs → Nodes n (cons_if b k vs)
cons_nodes n true k vs l h v (inl e) = rw e l
cons_nodes n true k vs l h v (inr i) = h v i
cons_nodes n false k vs l h v i = h v i

pub preds_nodes : (f s : List ℕ) (v n k : ℕ) → k ≤ n → Nodes n (preds_of f s v k)
preds_nodes f s v n zero l w i = absurd i
preds_nodes f s v n (suc k) l w i =
    cons_nodes n (eqb (get_or s k 0) v) k _ l (cons_nodes n (eqb (get_or f k 0) v) k _ l (preds_nodes f s v n k (omega arith))) w i

-- ---- a walk along a chain

module _ (n : ℕ) (chain : List Links) where
  -- a chain that is not at its end begins with the node of its edge, and goes on with the edge after it
  pub record First (e : ℕ) (us : List ℕ) : Type 0 where
    pub rest : List ℕ
    pub node : node_of_edge e < n
    pub list : us ≡ node_of_edge e ∷ rest
    pub less : edge_after chain e < e
    pub more : Chain n chain (edge_after chain e) rest

  pub first_of : (e : ℕ) (us : List ℕ) → Chain n chain e us → (e ≡ 0 → ⊥) → First e us
  first_of e [] c q = absurd (q c)
  first_of e (u ∷ us) c q = ⊎_elim odd even c.1
    where
      odd : ((e ≡ u + u + 1) × (after_first chain u < e) × Chain n chain (after_first chain u) us) → First e (u ∷ us)
      odd d =
          let p : node_of_edge e ≡ u = omega (arith, d.0) in
          let z : (e - 1) % 2 ≡ 0 = omega (arith, d.0) in
          let x : edge_after chain e ≡ after_first chain u = rw (z, p) in
          record { rest = us; node = omega (arith, c.0); list = ap (λ (x : ℕ). x ∷ us) (sym p); less = rw x d.1; more = rw x d.2 }

      even : ((e ≡ u + u + 2) × (after_second chain u < e) × Chain n chain (after_second chain u) us) → First e (u ∷ us)
      even d =
          let p : node_of_edge e ≡ u = omega (arith, d.0) in
          let z : (e - 1) % 2 ≡ 1 = omega (arith, d.0) in
          let x : edge_after chain e ≡ after_second chain u = rw (z, p) in
          record { rest = us; node = omega (arith, c.0); list = ap (λ (x : ℕ). x ∷ us) (sym p); less = rw x d.1; more = rw x d.2 }

  -- the nodes on a chain are nodes
  pub chain_nodes : (e : ℕ) (us : List ℕ) → Chain n chain e us → Nodes n us
  chain_nodes e [] c v i = absurd i
  chain_nodes e (u ∷ us) c v (inl p) = rw p c.0
  chain_nodes e (u ∷ us) c v (inr i) = ⊎_elim (λ d. chain_nodes (after_first chain u) us d.2 v i) (λ d. chain_nodes (after_second chain u) us d.2 v i) c.1

  chain_unique : (us vs : List ℕ) (e : ℕ) → Chain n chain e us → Chain n chain e vs → us ≡ vs
  chain_unique [] [] e c d = refl
  chain_unique [] (v ∷ vs) e c d = absurd (⊎_elim (λ x. omega (arith, x.0)) (λ x. omega (arith, x.0)) d.1)
  chain_unique (u ∷ us) [] e c d = absurd (⊎_elim (λ x. omega (arith, x.0)) (λ x. omega (arith, x.0)) c.1)
  chain_unique (u ∷ us) (v ∷ vs) e c d =
      ⊎_elim
      (λ x. ⊎_elim
      (λ y. let p : v ≡ u = omega (arith, x.0, y.0) in ap₂ ◌∷◌ (sym p) (chain_unique us vs (after_first chain u) x.2 (subst (λ (k : ℕ). Chain n chain (after_first chain k) vs) p y.2)))
      (λ y. absurd (omega (arith, x.0, y.0))) d.1)
      (λ x. ⊎_elim
      (λ y. absurd (omega (arith, x.0, y.0)))
      (λ y. let p : v ≡ u = omega (arith, x.0, y.0) in ap₂ ◌∷◌ (sym p) (chain_unique us vs (after_second chain u) x.2 (subst (λ (k : ℕ). Chain n chain (after_second chain k) vs) p y.2))) d.1)
      c.1

  -- a walk of enough steps has the nodes of the chain, and the codes on it fall
  on_these : (k e : ℕ) (us : List ℕ) → e ≤ k → Chain n chain e us → nodes_on k chain e ≡ us
  on_these zero e [] h c = refl
  on_these zero e (u ∷ us) h c = absurd (⊎_elim (λ x. omega (arith, x.0)) (λ x. omega (arith, x.0)) c.1)
  on_these (suc k) e us h c =
      by_eqb (λ t. cond t [] (node_of_edge e ∷ nodes_on k chain (edge_after chain e)) ≡ us) e 0
      (λ z. chain_unique [] us e z c)
      (λ q. let r = first_of e us c q in ap (λ (vs : List ℕ). node_of_edge e ∷ vs) (on_these k (edge_after chain e) r.rest (omega (arith, r.less)) r.more) ∙ sym r.list)

  abbrev Sound : ℕ → Type 0
  Sound e = (e ≡ 0 → ⊥) → (node_of_edge e < n) × (edge_after chain e < e)

  falls_on : (k e : ℕ) (us : List ℕ) → Chain n chain e us → Sound (edge_on k chain e)
  falls_on zero e us c = λ q. let r = first_of e us c q in (r.node, r.less)
  falls_on (suc k) e us c =
      by_eqb (λ t. Sound (cond t 0 (edge_on k chain (edge_after chain e)))) e 0
      (λ z q. absurd (q refl))
      (λ p. let r = first_of e us c p in falls_on k (edge_after chain e) r.rest r.more)

  pub chain_falls : (e : ℕ) (us : List ℕ) → Chain n chain e us → Falls n chain e
  chain_falls e us c k = falls_on k e us c

  pub left_these : (e : ℕ) (us : List ℕ) → Chain n chain e us → left_on chain e ≡ us
  unfolding left_on
  left_these e us c = on_these e e us (omega arith) c

  -- ---- an edge passed on a chain whose codes fall

  pub falls_next : (e : ℕ) → Falls n chain e → (e ≡ 0 → ⊥) → Falls n chain (edge_after chain e)
  falls_next e f p k =
      let q : edge_on (suc k) chain e ≡ edge_on k chain (edge_after chain e) = rw (ne_eqb e 0 p) in
      subst Sound q (f (suc k))

  -- more steps than the code add no node
  enough : (k m e : ℕ) → e ≤ k → e ≤ m → Falls n chain e → nodes_on k chain e ≡ nodes_on m chain e
  enough zero zero e h j f = refl
  enough zero (suc m) e h j f = rw (eq-eqb e 0 (omega arith))
  enough (suc k) zero e h j f = rw (eq-eqb e 0 (omega arith))
  enough (suc k) (suc m) e h j f =
      by_eqb (λ t. cond t [] (node_of_edge e ∷ nodes_on k chain (edge_after chain e)) ≡ cond t [] (node_of_edge e ∷ nodes_on m chain (edge_after chain e))) e 0
      (λ z. refl)
      (λ p. let less = (f 0 p).1 in ap (λ (vs : List ℕ). node_of_edge e ∷ vs) (enough k m (edge_after chain e) (omega arith) (omega arith) (falls_next e f p)))

  pub left_next : (e : ℕ) → Falls n chain e → (e ≡ 0 → ⊥) → left_on chain e ≡ node_of_edge e ∷ left_on chain (edge_after chain e)
  unfolding left_on
  left_next zero f p = absurd (p refl)
  left_next (suc m) f p =
      let less = (f 0 p).1 in
      rw (ne_eqb (suc m) 0 p)
      (ap (λ (vs : List ℕ). node_of_edge (suc m) ∷ vs) (enough m (edge_after chain (suc m)) (edge_after chain (suc m)) (omega arith) (omega arith) (falls_next (suc m) f p)))

pub left_none : (chain : List Links) → left_on chain 0 ≡ []
unfolding left_on
left_none chain = refl
