-- A search that marks by a stamp is, seen as flags, one that marks by 1: each push is a push of `Worklist`, whose law then holds of it.
-- Assumes nothing.
use Prim.Native.Nat.{ℕ, zero, suc, ◌+◌, ◌≤◌, ◌<◌}
use mathlib.Core.Path.{◌≡◌, refl, sym, ap, ◌∙◌, subst}
use mathlib.Core.Logic.{inl, inr}
use mathlib.Core.Bool.{Bool, true, false}
use mathlib.Core.List.{List, [], ◌∷◌, ◌++◌, tail}
use native.Mathlib.Omega.{arith}
use native.Mathlib.Nat.{le_of_suc-le-suc, not-suc-le-zero}
use native.Mathlib.Decide.{ℕ_discrete}
use borrow.Author.Tests.{eq-eqb, ne_eqb, eqb-true, eqb-false}
use lib.Dec.{eqb}
use lib.ListN.{length, get_or, set, replicate, length-set, length-replicate}
use lib.Seq.{get_or-set_same, get_or-set_other, ext_get_or}
use Rattle.search.specs.Search.{cons_if, filter, zeros}
use Rattle.search.specs.Worklist.{State, st, push, push_all, pop, topmost}
use Rattle.search.specs.Stamps.{flag_of, flags_of, Fresh, Stamped, Unmarked, stamped, stamp_push, stamp_all, stamp_when, flagged, Ready}
use Rattle.search.proofs.Count.{zeros_all, zero_at}
use Rattle.search.proofs.Closure.{Nodes, closure_length}
use Rattle.search.proofs.Worklist.{push_fresh, push_known, room_new, room_empty, all_moved, pop_moved, Search, Going, flags, begin, rebase, turn, falls, flag_is, stacked_node, measure, waiting, all_waiting}

-- ---- flags

pub flags_length : (stamp n : ℕ) (m : List ℕ) → length (flags_of stamp n m) ≡ n
unfolding flags_of
flags_length stamp zero m = refl
flags_length stamp (suc n) m = ap suc (flags_length stamp n (tail m))

pub get_d_tail : (m : List ℕ) (v : ℕ) → get_or (tail m) v 0 ≡ get_or m (suc v) 0
get_d_tail [] v = refl
get_d_tail (x ∷ m) v = refl

pub flag_at : (stamp n : ℕ) (m : List ℕ) (v : ℕ) → v < n → get_or (flags_of stamp n m) v 0 ≡ flag_of (eqb (get_or m v 0) stamp)
unfolding flags_of
flag_at stamp zero m v h = absurd (not-suc-le-zero h)
flag_at stamp (suc n) m zero h = refl
flag_at stamp (suc n) m (suc v) h = flag_at stamp n (tail m) v (le_of_suc-le-suc h) ∙ ap (λ (x : ℕ). flag_of (eqb x stamp)) (get_d_tail m v)

pub flag_test : (b : Bool) → eqb (flag_of b) 1 ≡ b
flag_test true = refl
flag_test false = refl

module _ (stamp n : ℕ) (m : List ℕ) (v : ℕ) (h : v < n) where
  pub flag_on : get_or m v 0 ≡ stamp → get_or (flags_of stamp n m) v 0 ≡ 1
  flag_on e = flag_at stamp n m v h ∙ ap flag_of (eq-eqb _ _ e)

  pub flag_off : (get_or m v 0 ≡ stamp → ⊥) → get_or (flags_of stamp n m) v 0 ≡ 0
  flag_off q = flag_at stamp n m v h ∙ ap flag_of (ne_eqb _ _ q)

-- a stamp written is a flag set
flags_set : (stamp n : ℕ) (m : List ℕ) (v : ℕ) → v < n → n ≤ length m → flags_of stamp n (set m v stamp) ≡ set (flags_of stamp n m) v 1
flags_set stamp n m v h l =
    ext_get_or 0 (flags_of stamp n (set m v stamp)) (set (flags_of stamp n m) v 1) (flags_length stamp n (set m v stamp) ∙ sym (length-set (flags_of stamp n m) v 1 ∙ flags_length stamp n m))
    (λ i j. same i (omega (arith, flags_length stamp n (set m v stamp))))
  where
    same : (i : ℕ) → i < n → get_or (flags_of stamp n (set m v stamp)) i 0 ≡ get_or (set (flags_of stamp n m) v 1) i 0
    same i j = elim (ℕ_discrete i v) [
      | yes p ↦ rw p (flag_on stamp n (set m v stamp) v h (get_or-set_same m v stamp 0 (omega arith)) ∙ sym (get_or-set_same (flags_of stamp n m) v 1 0 (omega (arith, flags_length stamp n m))))
      | no q ↦ flag_at stamp n (set m v stamp) i j ∙ ap (λ (x : ℕ). flag_of (eqb x stamp)) (get_or-set_other m v i stamp 0 q) ∙ sym (flag_at stamp n m i j) ∙ sym (get_or-set_other (flags_of stamp n m) v i 1 0 q)
    ]

-- where no mark is above 1, the flags of a search by 1 are the marks
flag_mark : (x : ℕ) → x ≤ 1 → flag_of (eqb x 1) ≡ x
flag_mark zero h = refl
flag_mark (suc zero) h = refl
flag_mark (suc (suc x)) h = absurd (omega arith)

pub flags_marks : (m : List ℕ) → Stamped 1 m → flags_of 1 (length m) m ≡ m
unfolding flags_of
flags_marks [] b = refl
flags_marks (x ∷ m) b = λ i. flag_mark x (b 0) i ∷ flags_marks m (λ v. b (suc v)) i

pub fresh_flags : (stamp n : ℕ) (m : List ℕ) → Fresh stamp m → (v : ℕ) → v < n → get_or (flags_of stamp n m) v 0 ≡ 0
fresh_flags stamp n m f v h = flag_off stamp n m v h (λ e. omega (arith, f v))

pub fresh_stamped : (stamp : ℕ) (m : List ℕ) → Fresh stamp m → Stamped stamp m
fresh_stamped stamp m f v = omega (arith, f v)

pub stamped_fresh : (stamp next : ℕ) (m : List ℕ) → Stamped stamp m → stamp < next → Fresh next m
stamped_fresh stamp next m f h v = omega (arith, f v)

-- ---- columns that a search may begin in

-- after a search by a stamp: they will do for a greater one
pub unmarked_after : {stamp next n : ℕ} {marks stack marks' stack' : List ℕ} → stamp < next → Unmarked stamp n marks stack → Stamped stamp marks' → length marks' ≡ length marks → length stack' ≡ length stack → Unmarked next n marks' stack'
unmarked_after {stamp} {next} {marks' = marks'} h u t m s = record {
  fresh = stamped_fresh stamp next marks' t h;
  marks_hold = omega (arith, m, u.marks_hold);
  stack_holds = omega (arith, s, u.stack_holds);
}

-- where there was none
pub unmarked_still : {stamp next n : ℕ} {marks stack : List ℕ} → stamp < next → Unmarked stamp n marks stack → Unmarked next n marks stack
unmarked_still {stamp} {marks = marks} h u = unmarked_after h u (fresh_stamped stamp marks u.fresh) refl refl

-- whatever a stack holds, if it stays as long
pub unmarked_on : {stamp n : ℕ} {marks stack stack' : List ℕ} → Unmarked stamp n marks stack → length stack' ≡ length stack → Unmarked stamp n marks stack'
unmarked_on u s = record { fresh = u.fresh; marks_hold = u.marks_hold; stack_holds = omega (arith, s, u.stack_holds) }

-- zeros are below every stamp
pub unmarked_zeros : (n k : ℕ) → n ≤ k → Unmarked 1 n (replicate k 0) (replicate k 0)
unmarked_zeros n k h =
    let long : n ≤ length (replicate {A = ℕ} k 0) = omega (arith, length-replicate {A = ℕ} k 0) in
    record { fresh = λ v. omega (arith, zero_at k v); marks_hold = long; stack_holds = long }

-- ---- a push

-- what pushes by a stamp leave as it was
pub record Stamping (stamp : ℕ) (s t : State) : Type 0 where
  pub marks_len : length t.marks ≡ length s.marks
  pub stack_len : length t.stack ≡ length s.stack
  pub bounded : Stamped stamp s.marks → Stamped stamp t.marks

stamping_none : (stamp : ℕ) (s : State) → Stamping stamp s s
stamping_none stamp s = record { marks_len = refl; stack_len = refl; bounded = λ b. b }

stamping_on : {stamp : ℕ} {r s t : State} → Stamping stamp r s → Stamping stamp s t → Stamping stamp r t
stamping_on p q = record { marks_len = q.marks_len ∙ p.marks_len; stack_len = q.stack_len ∙ p.stack_len; bounded = λ b. q.bounded (p.bounded b) }

pub set_bounded : (stamp : ℕ) (m : List ℕ) (v : ℕ) → v < length m → Stamped stamp m → Stamped stamp (set m v stamp)
set_bounded stamp m v h b x =
    elim (ℕ_discrete x v) [ yes p ↦ rw p (omega (arith, get_or-set_same m v stamp 0 h)) | no q ↦ omega (arith, get_or-set_other m v x stamp 0 q, b x) ]

-- what is marked is not pushed again
pub stamp_marked : (stamp v : ℕ) (s : State) → get_or s.marks v 0 ≡ stamp → s ≡ stamp_push stamp v s
unfolding stamp_push
stamp_marked stamp v s e = rw (eq-eqb _ _ e)

module _ (stamp n : ℕ) where
  module _ (v : ℕ) (s : State) (h : v < n) (l : n ≤ length s.marks) where
    stamped_law : (b : Bool) → eqb (get_or s.marks v 0) stamp ≡ b → (flagged stamp n (stamped stamp b v s) ≡ push v (flagged stamp n s)) × Stamping stamp s (stamped stamp b v s)
    stamped_law true e =
        (push_known v (flagged stamp n s) (λ z. omega (arith, flag_on stamp n s.marks v h (eqb-true _ _ e))), stamping_none stamp s)
    stamped_law false e = (
      ap (λ (m : List ℕ). st m (set s.stack s.top v) (s.top + 1)) (flags_set stamp n s.marks v h l) ∙ push_fresh v (flagged stamp n s) (flag_off stamp n s.marks v h (eqb-false _ _ e)),
      record { marks_len = length-set s.marks v stamp; stack_len = length-set s.stack s.top v; bounded = set_bounded stamp s.marks v (omega arith) },
    )

    pub push_law : (flagged stamp n (stamp_push stamp v s) ≡ push v (flagged stamp n s)) × Stamping stamp s (stamp_push stamp v s)
    unfolding stamp_push
    push_law = stamped_law (eqb (get_or s.marks v 0) stamp) refl

  -- ---- pushes of a list

  pub all_law : (vs : List ℕ) (s : State) → Nodes n vs → n ≤ length s.marks → (flagged stamp n (stamp_all stamp vs s) ≡ push_all vs (flagged stamp n s)) × Stamping stamp s (stamp_all stamp vs s)
  all_law [] s h l = (refl, stamping_none stamp s)
  all_law (v ∷ vs) s h l =
      let p = push_law v s (h v (inl refl)) l in
      let q = all_law vs (stamp_push stamp v s) (λ x i. h x (inr i)) (omega (arith, p.1.marks_len)) in
      (q.0 ∙ ap (push_all vs) p.0, stamping_on p.1 q.1)

  -- what holds of a state that may push holds after the pushes
  pub all_ready : (vs : List ℕ) {s t : State} → Nodes n vs → Ready stamp n s → t ≡ stamp_all stamp vs s → Ready stamp n t
  all_ready vs {s} {t} h r e =
      let q = all_law vs s h r.long in
      rw e (record { long = omega (arith, q.1.marks_len, r.long); fits = rw q.0 (all_moved n vs (flagged stamp n s) h r.fits).fits })

  pub push_room : (v : ℕ) {s : State} → v < n → Ready stamp n s → (get_or s.marks v 0 ≡ stamp → ⊥) → s.top < n
  push_room v {s} h r q = room_new n v (flagged stamp n s) r.fits h (flag_off stamp n s.marks v h q)

  pub ready_empty : (m k : List ℕ) → n ≤ length m → n ≤ length k → Ready stamp n (st m k 0)
  ready_empty m k h l = record { long = h; fits = room_empty n (flags_of stamp n m) k (omega (arith, flags_length stamp n m)) l }

pub all_append : (stamp : ℕ) (us vs : List ℕ) (s : State) → stamp_all stamp (us ++ vs) s ≡ stamp_all stamp vs (stamp_all stamp us s)
all_append stamp [] vs s = refl
all_append stamp (u ∷ us) vs s = all_append stamp us vs (stamp_push stamp u s)

-- one that is pushed if it passes the test, and then a list
pub when_all : (stamp : ℕ) (b : Bool) (v : ℕ) (vs : List ℕ) (s : State) → stamp_all stamp vs (stamp_when stamp b v s) ≡ stamp_all stamp (cons_if b v vs) s
when_all stamp true v vs s = refl
when_all stamp false v vs s = refl

pub when_one : (stamp : ℕ) (b : Bool) (v : ℕ) (s : State) → stamp_when stamp b v s ≡ stamp_all stamp (cons_if b v []) s
when_one stamp b v s = when_all stamp b v [] s

-- two nodes, each pushed if it passes the test
pub two_whens : (stamp : ℕ) (p : ℕ → Bool) (x y : ℕ) (s s₁ s₂ : State) → s₁ ≡ stamp_when stamp (p x) x s → s₂ ≡ stamp_when stamp (p y) y s₁ → s₂ ≡ stamp_all stamp (filter p (x ∷ y ∷ [])) s
two_whens stamp p x y s s₁ s₂ e f =
    f ∙ when_one stamp (p y) y s₁ ∙ ap (stamp_all stamp (filter p (y ∷ []))) e ∙ when_all stamp (p x) x (filter p (y ∷ [])) s

pub when_nodes : (n : ℕ) (b : Bool) (v : ℕ) → v < n → Nodes n (cons_if b v [])
when_nodes n true v h x (inl e) = rw e h
when_nodes n true v h x (inr i) = absurd i
when_nodes n false v h x i = absurd i

-- ---- the law of a search by a stamp

-- a search by the stamp has come to s
pub record Underway (stamp : ℕ) (g : Search) (s : State) : Type 0 where
  pub going : Going g (flagged stamp g.n s) (flagged stamp g.n s)
  pub long : g.n ≤ length s.marks
  pub bounded : Stamped stamp s.marks

module _ (stamp : ℕ) (g : Search) where
  -- no node is marked, the stack is empty, and the starts are pushed
  pub stamp_begin : (m k : List ℕ) (s : State) → Unmarked stamp g.n m k → s ≡ stamp_all stamp g.starts (st m k 0) → Underway stamp g s
  stamp_begin m k s u q =
      let law = all_law stamp g.n g.starts (st m k 0) g.starts_in u.marks_hold in
      subst (Underway stamp g) (sym q)
      (record {
        going = rebase g (begin g (ready_empty stamp g.n m k u.marks_hold u.stack_holds).fits refl (fresh_flags stamp g.n m u.fresh) law.0);
        long = omega (arith, law.1.marks_len, u.marks_hold);
        bounded = law.1.bounded (fresh_stamped stamp m u.fresh);
      })

  module _ {s : State} (u : Underway stamp g s) where
    pub node_below : (i : ℕ) → i < s.top → get_or s.stack i 0 < g.n
    node_below = stacked_node g u.going

    pub top_in : s.top ≤ length s.stack
    top_in = omega (arith, u.going.moved.fits)

    pub pop_ready : 0 < s.top → Ready stamp g.n (pop s)
    pop_ready p = record { long = u.long; fits = (pop_moved g.n (flagged stamp g.n s) p u.going.moved.fits).fits }

    module _ (p : 0 < s.top) (t : State) (q : t ≡ stamp_all stamp (g.next (topmost s)) (pop s)) where
      law : (flagged stamp g.n (stamp_all stamp (g.next (topmost s)) (pop s)) ≡ push_all (g.next (topmost s)) (flagged stamp g.n (pop s))) × Stamping stamp (pop s) (stamp_all stamp (g.next (topmost s)) (pop s))
      law = all_law stamp g.n (g.next (topmost s)) (pop s) (g.next_in (topmost s)) u.long

      pub stamp_turn : Underway stamp g t
      stamp_turn =
          subst (Underway stamp g) (sym q)
          (record { going = rebase g (turn g u.going p _ law.0); long = omega (arith, law.1.marks_len, u.long); bounded = law.1.bounded u.bounded })

      pub stamp_falls : measure g.n (flagged stamp g.n t) < measure g.n (flagged stamp g.n s)
      stamp_falls = falls g u.going p (flagged stamp g.n t) (ap (flagged stamp g.n) q ∙ law.0)

    -- once the stack is empty, the marks are the flags
    pub stamp_end : s.top ≡ 0 → flags_of stamp g.n s.marks ≡ flags g
    stamp_end e =
        let n = g.n in
        ext_get_or 0 (flags_of stamp n s.marks) (flags g) (flags_length stamp n s.marks ∙ sym (closure_length n g.starts g.next g.starts_in g.next_in))
        (λ i l. flag_is g u.going e i (omega (arith, flags_length stamp n s.marks)))

-- ---- a search that counts its turns

-- after so many turns: each node has been taken off the stack, stands on it, or is not marked
pub record Counted (stamp : ℕ) (g : Search) (s : State) (count : ℕ) : Type 0 where
  pub underway : Underway stamp g s
  pub counted : count + waiting g.n (flagged stamp g.n s) ≡ g.n

module _ (stamp : ℕ) (g : Search) where
  -- pushes of a list leave as many waiting as there were
  waiting_same : (vs : List ℕ) {s t : State} → Nodes g.n vs → Ready stamp g.n s → t ≡ stamp_all stamp vs s → waiting g.n (flagged stamp g.n t) ≡ waiting g.n (flagged stamp g.n s)
  waiting_same vs {s} h r q =
      let n = g.n in
      ap (λ (x : State). waiting n (flagged stamp n x)) q ∙ ap (waiting n) (all_law stamp n vs s h r.long).0 ∙ all_waiting n vs (flagged stamp n s) h r.fits

  pub count_begin : (m k : List ℕ) (s : State) → Unmarked stamp g.n m k → s ≡ stamp_all stamp g.starts (st m k 0) → Counted stamp g s 0
  count_begin m k s u q =
      let r = ready_empty stamp g.n m k u.marks_hold u.stack_holds in
      record {
        underway = stamp_begin stamp g m k s u q;
        counted = omega (arith, waiting_same g.starts {t = s} g.starts_in r q, zeros_all g.n (flags_of stamp g.n m) r.fits.marks_long_law (fresh_flags stamp g.n m u.fresh));
      }

  module _ {s : State} {count : ℕ} (c : Counted stamp g s count) where
    pub count_turn : (p : 0 < s.top) (t : State) → t ≡ stamp_all stamp (g.next (topmost s)) (pop s) → Counted stamp g t (count + 1)
    count_turn p t q =
        record {
          underway = stamp_turn stamp g c.underway p t q;
          counted = omega (arith, waiting_same (g.next (topmost s)) {t = t} (g.next_in (topmost s)) (pop_ready stamp g c.underway p) q, c.counted);
        }

    -- once the stack is empty, as many nodes were taken off it as are marked
    pub count_end : s.top ≡ 0 → count + zeros g.n (flags g) ≡ g.n
    count_end e = subst (λ (l : List ℕ). count + zeros g.n l ≡ g.n) (stamp_end stamp g c.underway e) (omega (arith, c.counted))
