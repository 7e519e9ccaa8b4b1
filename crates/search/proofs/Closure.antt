-- The flags of `closure` say which nodes a path reaches: 1 at v where `Reach` holds of v, else 0.
-- Assumes nothing.
use Prim.Native.Nat.{ℕ, zero, suc, ◌≤◌, ◌<◌}
use mathlib.Core.Path.{◌≡◌, refl, sym, ◌∙◌, subst}
use mathlib.Core.Logic.{◌⊎◌, inl, inr, ⊎_elim}
use mathlib.Core.List.{List, [], ◌∷◌}
use native.Mathlib.Omega.{arith}
use native.Mathlib.Nat.{le_refl}
use native.Mathlib.Decide.{ℕ_discrete}
use lib.ListN.{length, get_or, set, replicate, length-set, length-replicate}
use lib.Seq.{get_or-set_same, get_or-set_other, set-get_or}
use Rattle.search.specs.Search.{In, Reach, here, on, marked, spread, sweep, rounds, closure, zeros}
use Rattle.search.proofs.Count.{zeros_set, zeros_le, zero_at}

-- a number of at most 1 is 0 or 1
bit : (x : ℕ) → x ≤ 1 → (x ≡ 0) ⊎ (x ≡ 1)
bit zero h = inl refl
bit (suc zero) h = inr refl
bit (suc (suc n)) h = absurd (omega arith)

-- t is s, with 1 at more of its first n cells
pub record Grows (n : ℕ) (s t : List ℕ) : Type 0 where
  pub len : length t ≡ length s
  pub bits : ((v : ℕ) → get_or s v 0 ≤ 1) → (v : ℕ) → get_or t v 0 ≤ 1
  pub mono : (v : ℕ) → get_or s v 0 ≡ 1 → get_or t v 0 ≡ 1
  pub fewer : ((v : ℕ) → get_or s v 0 ≤ 1) → zeros n t ≤ zeros n s
  pub still : ((v : ℕ) → get_or s v 0 ≤ 1) → zeros n t ≡ zeros n s → t ≡ s

grows_refl : (n : ℕ) (s : List ℕ) → Grows n s s
grows_refl n s = record { len = refl; bits = λ b. b; mono = λ v e. e; fewer = λ b. le_refl _; still = λ b e. refl }

-- one step of growth and another (`grows_trans`)
grows_trans : {n : ℕ} {s t r : List ℕ} → Grows n s t → Grows n t r → Grows n s r
grows_trans {n} {s} {t} {r} g h =
    record {
      len = h.len ∙ g.len;
      bits = λ b. h.bits (g.bits b);
      mono = λ v e. h.mono v (g.mono v e);
      fewer = λ b. omega (arith, g.fewer b, h.fewer (g.bits b));
      still = λ b e. h.still (g.bits b) (omega (arith, g.fewer b, h.fewer (g.bits b))) ∙ g.still b (omega (arith, g.fewer b, h.fewer (g.bits b)));
    }

set_mono : (s : List ℕ) (w : ℕ) → w < length s → (v : ℕ) → get_or s v 0 ≡ 1 → get_or (set s w 1) v 0 ≡ 1
set_mono s w k v e =
    elim (ℕ_discrete v w) [ yes p ↦ rw p (get_or-set_same s w 1 0 k) | no q ↦ get_or-set_other s w v 1 0 q ∙ e ]

set_bits : (s : List ℕ) (w : ℕ) → w < length s → ((v : ℕ) → get_or s v 0 ≤ 1) → (v : ℕ) → get_or (set s w 1) v 0 ≤ 1
set_bits s w k b v =
    elim (ℕ_discrete v w) [ yes p ↦ rw p (omega (arith, get_or-set_same s w 1 0 k)) | no q ↦ omega (arith, get_or-set_other s w v 1 0 q, b v) ]

-- a 1 that is there already changes nothing
set_there : (s : List ℕ) (w : ℕ) → get_or s w 0 ≡ 1 → set s w 1 ≡ s
set_there s w e = subst (λ (x : ℕ). set s w x ≡ s) e (set-get_or s w 0)

grows_set : (n : ℕ) (s : List ℕ) (w : ℕ) → w < n → w < length s → Grows n s (set s w 1)
grows_set n s w h k =
    record {
      len = length-set s w 1;
      bits = set_bits s w k;
      mono = set_mono s w k;
      fewer = λ b. ⊎_elim (λ z. omega (arith, zeros_set n s w h k z)) (λ o. rw (set_there s w o) (le_refl _)) (bit (get_or s w 0) (b w));
      still = λ b e. ⊎_elim (λ z. absurd (omega (arith, zeros_set n s w h k z))) (λ o. set_there s w o) (bit (get_or s w 0) (b w));
    }

module _ (n : ℕ) where
  -- each of vs is a node
  abbrev pub Nodes : List ℕ → Type 0
  Nodes vs = (v : ℕ) → In v vs → v < n

  grows_marked : (vs : List ℕ) (s : List ℕ) → Nodes vs → n ≤ length s → Grows n s (marked vs s)
  grows_marked [] s h k = grows_refl n s
  grows_marked (v ∷ vs) s h k =
      let hv : v < n = h v (inl refl) in
      grows_trans (grows_set n s v hv (omega arith))
      (grows_marked vs (set s v 1) (λ w i. h w (inr i)) (omega (arith, length-set s v 1)))

  -- each of vs has its flag
  marked_all : (vs : List ℕ) (s : List ℕ) → Nodes vs → n ≤ length s → (v : ℕ) → In v vs → get_or (marked vs s) v 0 ≡ 1
  marked_all [] s h k v i = absurd i
  marked_all (w ∷ vs) s h k v (inl e) =
      let hw : w < n = h w (inl refl) in
      (grows_marked vs (set s w 1) (λ x i. h x (inr i)) (omega (arith, length-set s w 1))).mono v (rw e (get_or-set_same s w 1 0 (omega arith)))
  marked_all (w ∷ vs) s h k v (inr i) = marked_all vs (set s w 1) (λ x j. h x (inr j)) (omega (arith, length-set s w 1)) v i

  grows_spread : (f : ℕ) (vs : List ℕ) (s : List ℕ) → Nodes vs → n ≤ length s → Grows n s (spread f vs s)
  grows_spread zero vs s h k = grows_refl n s
  grows_spread (suc f) vs s h k = grows_marked vs s h k

  spread_all : (f : ℕ) (vs : List ℕ) (s : List ℕ) → Nodes vs → n ≤ length s → f ≡ 1 → (v : ℕ) → In v vs → get_or (spread f vs s) v 0 ≡ 1
  spread_all zero vs s h k e = absurd (omega arith)
  spread_all (suc f) vs s h k e = marked_all vs s h k

  module _ (starts : List ℕ) (step : ℕ → List ℕ) (hs : Nodes starts) (ht : (u : ℕ) → Nodes (step u)) where
    grows_sweep : (k : ℕ) (s : List ℕ) → n ≤ length s → Grows n s (sweep step k s)
    grows_sweep zero s l = grows_refl n s
    grows_sweep (suc k) s l =
        let g = grows_spread (get_or s k 0) (step k) s (ht k) l in
        grows_trans g (grows_sweep k (spread (get_or s k 0) (step k) s) (omega (arith, g.len)))

    grows_rounds : (r : ℕ) (s : List ℕ) → n ≤ length s → Grows n s (rounds step n r s)
    grows_rounds zero s l = grows_refl n s
    grows_rounds (suc r) s l =
        let g = grows_sweep n s l in
        grows_trans g (grows_rounds r (sweep step n s) (omega (arith, g.len)))

    -- where a node below k has its flag, so has each successor
    abbrev pub ClosedTo : ℕ → List ℕ → Type 0
    ClosedTo k s = (u : ℕ) → u < k → get_or s u 0 ≡ 1 → (v : ℕ) → In v (step u) → get_or s v 0 ≡ 1

    abbrev Bits : List ℕ → Type 0
    Bits s = (v : ℕ) → get_or s v 0 ≤ 1

    sweep_closed : (k : ℕ) (s : List ℕ) → n ≤ length s → Bits s → zeros n (sweep step k s) ≡ zeros n s → ClosedTo k s
    sweep_closed zero s l b e u h o v i = absurd (omega arith)
    sweep_closed (suc k) s l b e u h o v i =
        let t : List ℕ = spread (get_or s k 0) (step k) s in
        let g : Grows n s t = grows_spread (get_or s k 0) (step k) s (ht k) l in
        let lt : n ≤ length t = omega (arith, g.len) in
        let g' : Grows n t (sweep step k t) = grows_sweep k t lt in
        let same : t ≡ s = g.still b (omega (arith, g.fewer b, g'.fewer (g.bits b))) in
        let e' : zeros n (sweep step k t) ≡ zeros n t = omega (arith, g.fewer b, g'.fewer (g.bits b)) in
        let rec : ClosedTo k t = sweep_closed k t lt (g.bits b) e' in
        elim (ℕ_discrete u k) [
          | yes p ↦ subst (λ (l : List ℕ). get_or l v 0 ≡ 1) same (spread_all (get_or s k 0) (step k) s (ht k) l (subst (λ (x : ℕ). get_or s x 0 ≡ 1) p o) v (subst (λ (x : ℕ). In v (step x)) p i))
          | no q ↦ subst (λ (l : List ℕ). get_or l v 0 ≡ 1) same (rec u (omega arith) (g.mono u o) v i)
        ]

    rounds_still : (r : ℕ) (s : List ℕ) → sweep step n s ≡ s → rounds step n r s ≡ s
    rounds_still zero s e = refl
    rounds_still (suc r) s e = rw e (rounds_still r s e)

    rounds_closed : (r : ℕ) (s : List ℕ) → n ≤ length s → Bits s → zeros n s ≤ r → ClosedTo n (rounds step n r s)
    rounds_closed zero s l b z = sweep_closed n s l b (omega (arith, (grows_sweep n s l).fewer b))
    rounds_closed (suc r) s l b z =
        let g : Grows n s (sweep step n s) = grows_sweep n s l in
        elim (ℕ_discrete (zeros n (sweep step n s)) (zeros n s)) [
          | yes e ↦ let same : sweep step n s ≡ s = g.still b e in subst (ClosedTo n) (sym (rounds_still (suc r) s same)) (sweep_closed n s l b e)
          | no q ↦ rounds_closed r (sweep step n s) (omega (arith, g.len)) (g.bits b) (omega (arith, g.fewer b))
        ]

    -- what has its flag is reached
    abbrev Sound : List ℕ → Type 0
    Sound s = (v : ℕ) → get_or s v 0 ≡ 1 → Reach starts step v

    sound_set : (s : List ℕ) (w : ℕ) → w < length s → Sound s → Reach starts step w → Sound (set s w 1)
    sound_set s w k q r v e =
        elim (ℕ_discrete v w) [ yes p ↦ subst (Reach starts step) (sym p) r | no p ↦ q v (sym (get_or-set_other s w v 1 0 p) ∙ e) ]

    sound_marked : (vs : List ℕ) (s : List ℕ) → Nodes vs → n ≤ length s → Sound s → ((v : ℕ) → In v vs → Reach starts step v) → Sound (marked vs s)
    sound_marked [] s h k q r = q
    sound_marked (w ∷ vs) s h k q r =
        let hw : w < n = h w (inl refl) in
        sound_marked vs (set s w 1) (λ x i. h x (inr i)) (omega (arith, length-set s w 1)) (sound_set s w (omega arith) q (r w (inl refl))) (λ x i. r x (inr i))

    sound_spread : (f u : ℕ) (s : List ℕ) → n ≤ length s → Sound s → f ≤ 1 → (f ≡ 1 → Reach starts step u) → Sound (spread f (step u) s)
    sound_spread zero u s k q b r = q
    sound_spread (suc f) u s k q b r = sound_marked (step u) s (ht u) k q (λ v i. on (r (omega arith)) i)

    sound_sweep : (k : ℕ) (s : List ℕ) → n ≤ length s → Bits s → Sound s → Sound (sweep step k s)
    sound_sweep zero s l b q = q
    sound_sweep (suc k) s l b q =
        let g = grows_spread (get_or s k 0) (step k) s (ht k) l in
        sound_sweep k (spread (get_or s k 0) (step k) s) (omega (arith, g.len)) (g.bits b) (sound_spread (get_or s k 0) k s l q (b k) (λ e. q k e))

    sound_rounds : (r : ℕ) (s : List ℕ) → n ≤ length s → Bits s → Sound s → Sound (rounds step n r s)
    sound_rounds zero s l b q = q
    sound_rounds (suc r) s l b q =
        let g = grows_sweep n s l in
        sound_rounds r (sweep step n s) (omega (arith, g.len)) (g.bits b) (sound_sweep n s l b q)

    s₀ : List ℕ
    s₀ = replicate n 0

    l₀ : n ≤ length s₀
    unfolding s₀
    l₀ = omega (arith, length-replicate {A = ℕ} n 0)

    g₁ : Grows n s₀ (marked starts s₀)
    g₁ = grows_marked starts s₀ hs l₀

    b₀ : Bits s₀
    unfolding s₀
    b₀ v = omega (arith, zero_at n v)

    l₁ : n ≤ length (marked starts s₀)
    l₁ = omega (arith, g₁.len, l₀)

    g₂ : Grows n (marked starts s₀) (closure starts step n)
    unfolding closure s₀
    g₂ = grows_rounds n (marked starts s₀) l₁

    pub closure_length : length (closure starts step n) ≡ n
    unfolding s₀
    closure_length = g₂.len ∙ g₁.len ∙ length-replicate {A = ℕ} n 0

    pub closure_bits : (v : ℕ) → get_or (closure starts step n) v 0 ≤ 1
    closure_bits = g₂.bits (g₁.bits b₀)

    pub closure_sound : (v : ℕ) → get_or (closure starts step n) v 0 ≡ 1 → Reach starts step v
    unfolding closure s₀
    closure_sound =
        sound_rounds n (marked starts s₀) l₁ (g₁.bits b₀)
        (sound_marked starts s₀ hs l₀ (λ v e. absurd (omega (arith, zero_at n v))) (λ v i. here i))

    -- a path leads to a node
    pub reach_node : (v : ℕ) → Reach starts step v → v < n
    reach_node v (here i) = hs v i
    reach_node v (on {u = u} r i) = ht u v i

    pub closure_complete : (v : ℕ) → Reach starts step v → get_or (closure starts step n) v 0 ≡ 1
    unfolding closure s₀
    closure_complete v (here i) = g₂.mono v (marked_all starts s₀ hs l₀ v i)
    closure_complete v (on {u = u} r i) =
        rounds_closed n (marked starts s₀) l₁ (g₁.bits b₀) (zeros_le n (marked starts s₀)) u (reach_node u r) (closure_complete u r) v i

    -- what is 1 where a path leads to v, else 0, is the flag of v
    pub flag_decided : (v x : ℕ) → x ≤ 1 → (x ≡ 1 → Reach starts step v) → (Reach starts step v → x ≡ 1) → x ≡ get_or (closure starts step n) v 0
    flag_decided v x b f g =
        ⊎_elim (λ z. ⊎_elim (λ y. z ∙ sym y) (λ o. absurd (omega (arith, g (closure_sound v o)))) (bit (get_or (closure starts step n) v 0) (closure_bits v)))
        (λ o. o ∙ sym (closure_complete v (f o))) (bit x b)
