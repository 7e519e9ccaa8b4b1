-- How the chains are built: what an edge put in front of a chain does to the codes of each node, and that one node's two edges more keep the chains.
-- Assumes nothing.
use borrow.Author.Tests.{ne_eqb}
use Rattle.std.proofs.Common.{[], ◌∷◌, drop, ap₂, ◌≡◌, ℕ, suc, ◌+◌, ◌<◌, List, cond, length, get_or, refl, sym, ap, ◌∙◌, subst, arith, add-one}
use Rattle.std.proofs.Math.ListN.{set, length-set, drop_of_length-le}
use Rattle.std.proofs.Math.Seq.{get_or-set_same, get_or-set_other, set_out, drop-cons}
use native.Mathlib.Decide.{ℕ_discrete, dec_lt}
use lib.Dec.{eqb}
use Rattle.predecessors.specs.declared.Links.{Links}
use Rattle.predecessors.specs.Predecessors.{last_to, last_half, unlinked, Blank, Linked, head_of, after_first, after_second, link_head}
use Rattle.predecessors.proofs.Chains.{by_eqb}

-- before the first node
pub none_built : (f s : List ℕ) (n : ℕ) (chain : List Links) → Blank n chain → Linked f s n 0 chain
none_built f s n chain b =
    record { holds = b.holds; heads = λ v h. ap (λ (l : Links). l.last) (b.none v h); firsts = λ u h l. absurd (omega arith); seconds = λ u h l. absurd (omega arith) }

-- ---- a node's codes after a write

module _ (chain : List Links) (u : ℕ) (r : Links) (w : ℕ) (g : Links → ℕ) where
  -- a code that the write leaves
  same_code : g r ≡ g (get_or chain u unlinked) → g (get_or (set chain u r) w unlinked) ≡ g (get_or chain w unlinked)
  same_code e = elim (ℕ_discrete w u) [
    | yes p ↦ elim (dec_lt u (length chain)) [
      | yes h ↦ rw p (ap g (get_or-set_same chain u r unlinked h) ∙ e)
      | no q ↦ ap (λ (l : List Links). g (get_or l w unlinked)) (set_out chain u r (omega arith))
    ]
    | no q ↦ ap g (get_or-set_other chain u w r unlinked q)
  ]

  -- one that it sets
  new_code : u < length chain → g (get_or (set chain u r) w unlinked) ≡ cond (eqb u w) (g r) (g (get_or chain w unlinked))
  new_code h =
      by_eqb (λ t. g (get_or (set chain u r) w unlinked) ≡ cond t (g r) (g (get_or chain w unlinked))) u w
      (λ p. rw (← p) (ap g (get_or-set_same chain u r unlinked h)))
      (λ q. ap g (get_or-set_other chain u w r unlinked (λ p. q (sym p))))

-- the heads after an edge is put in front of v's chain
head_put : (n v code w : ℕ) (chain : List Links) → length chain ≡ n → w < n → head_of (link_head v code chain) w ≡ cond (eqb v w) code (head_of chain w)
head_put n v code w chain long h = elim (dec_lt v n) [
  | yes j ↦ new_code chain v (record (get_or chain v unlinked) { last = code }) w (λ l. l.last) (omega arith)
  | no q ↦ rw (set_out chain v (record (get_or chain v unlinked) { last = code }) (omega arith), ne_eqb v w (λ e. omega arith))
]

-- node k's turn: x1 and x3 are the column after its edges are put in front, r and t what they follow
module _ (f s : List ℕ) (n k : ℕ) (hk : k < n) (c : List Links) (l : Linked f s n k c) (hc : length c ≡ n) (a b r t : ℕ) (ea : a ≡ get_or f k 0) (eb : b ≡ get_or s k 0) (x1 x3 : List Links) (e1 : x1 ≡ link_head a (k + k + 1) c) where
  abbrev first_kept : Links
  first_kept = record (get_or x1 k unlinked) { after_first = r }

  abbrev c2 : List Links
  c2 = set x1 k first_kept

  long_1 : length x1 ≡ n
  long_1 = ap length e1 ∙ simp length-set hc

  long_2 : length c2 ≡ n
  long_2 = simp length-set long_1

  -- the heads after the first edge
  heads_2 : (w : ℕ) → w < n → head_of c2 w ≡ last_half f s w k
  heads_2 w h =
      same_code x1 k first_kept w (λ x. x.last) refl
      ∙ ap (λ (x : List Links). head_of x w) e1
      ∙ head_put n a (k + k + 1) w c hc h
      ∙ ap₂ (λ (x y : ℕ). cond (eqb x w) (k + k + 1) y) ea (l.heads w h)

  module _ (e3 : x3 ≡ link_head b (k + k + 2) c2) where
    abbrev second_kept : Links
    second_kept = record (get_or x3 k unlinked) { after_second = t }

    abbrev c4 : List Links
    c4 = set x3 k second_kept

    long_3 : length x3 ≡ n
    long_3 = ap length e3 ∙ simp length-set long_1

    heads_4 : (w : ℕ) → w < n → head_of c4 w ≡ last_to f s w (suc k)
    heads_4 w h =
        same_code x3 k second_kept w (λ x. x.last) refl
        ∙ ap (λ (x : List Links). head_of x w) e3
        ∙ head_put n b (k + k + 2) w c2 long_2 h
        ∙ ap₂ (λ (x y : ℕ). cond (eqb x w) (k + k + 2) y) eb (heads_2 w h)

    firsts_4 : (w : ℕ) → after_first c4 w ≡ cond (eqb k w) r (after_first c w)
    firsts_4 w =
        same_code x3 k second_kept w (λ x. x.after_first) refl
        ∙ ap (λ (x : List Links). after_first x w) e3
        ∙ same_code c2 b (record (get_or c2 b unlinked) { last = k + k + 2 }) w (λ x. x.after_first) refl
        ∙ new_code x1 k first_kept w (λ x. x.after_first) (omega (arith, long_1))
        ∙ ap (cond (eqb k w) r)
        (ap (λ (x : List Links). after_first x w) e1
        ∙ same_code c a (record (get_or c a unlinked) { last = k + k + 1 }) w (λ x. x.after_first) refl)

    seconds_4 : (w : ℕ) → after_second c4 w ≡ cond (eqb k w) t (after_second c w)
    seconds_4 w =
        new_code x3 k second_kept w (λ x. x.after_second) (omega (arith, long_3))
        ∙ ap (cond (eqb k w) t)
        (ap (λ (x : List Links). after_second x w) e3
        ∙ same_code c2 b (record (get_or c2 b unlinked) { last = k + k + 2 }) w (λ x. x.after_second) refl
        ∙ same_code x1 k first_kept w (λ x. x.after_second) refl
        ∙ ap (λ (x : List Links). after_second x w) e1
        ∙ same_code c a (record (get_or c a unlinked) { last = k + k + 1 }) w (λ x. x.after_second) refl)

    pub turn_long : length c4 ≡ n
    turn_long = simp length-set long_3

    pub turn_linked : (a < length c → r ≡ head_of c a) → (b < length c2 → t ≡ head_of c2 b) → Linked f s n (suc k) c4
    turn_linked hr ht =
        record {
          holds = omega (arith, turn_long);
          heads = heads_4;
          firsts = λ u hu j. firsts_4 u ∙ by_eqb (λ x. cond x r (after_first c u) ≡ last_to f s (get_or f u 0) u) k u
              (λ e. let h : a < n = rw ea (subst (λ (x : ℕ). get_or f x 0 < n) (sym e) j) in
              hr (omega (arith, hc)) ∙ l.heads a h ∙ ap₂ (λ (x y : ℕ). last_to f s x y) (ea ∙ ap (λ (x : ℕ). get_or f x 0) e) e)
              (λ q. l.firsts u (omega (arith, λ (e : k ≡ u). q e)) j);
          seconds = λ u hu j. seconds_4 u ∙ by_eqb (λ x. cond x t (after_second c u) ≡ last_half f s (get_or s u 0) u) k u
              (λ e. let h : b < n = rw eb (subst (λ (x : ℕ). get_or s x 0 < n) (sym e) j) in
              ht (omega (arith, long_2)) ∙ heads_2 b h ∙ ap₂ (λ (x y : ℕ). last_half f s x y) (eb ∙ ap (λ (x : ℕ). get_or s x 0) e) e)
              (λ q. l.seconds u (omega (arith, λ (e : k ≡ u). q e)) j);
        }

-- ---- a column that a loop goes along

pub drop_next : (k : ℕ) (l : List ℕ) (x : ℕ) (rest : List ℕ) → drop k l ≡ x ∷ rest → (k < length l) × (x ≡ get_or l k 0) × (rest ≡ drop (k + 1) l)
drop_next k l x rest e = elim (dec_lt k (length l)) [
  | yes h ↦ let d : drop k l ≡ get_or l k 0 ∷ drop (k + 1) l = rw (add-one, drop-cons l k 0 h) in (h, cc, cc)
  | no q ↦ absurd (let d : drop k l ≡ [] = drop_of_length-le l (omega arith) in cc)
]
