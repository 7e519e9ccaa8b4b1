-- The law of a search with a worklist: a turn pops a node and pushes the nodes next to it. What holds before a turn holds after it, the measure falls, and once the stack is empty the marks are the flags of `closure`.
-- `Stamps.antt` has the same of a search that marks by stamps, which the proofs of code cite.
-- Assumes nothing.
use Prim.Native.Nat.{ℕ, zero, suc, ◌+◌, ◌-◌, ◌≤◌, ◌<◌}
use mathlib.Core.Path.{◌≡◌, refl, sym, ap, ◌∙◌, subst}
use mathlib.Core.Logic.{◌⊎◌, inl, inr, ⊎_elim}
use mathlib.Core.Bool.{Bool, true, false, ◌&&◌}
use mathlib.Core.List.{List, [], ◌∷◌, ◌++◌}
use native.Mathlib.Omega.{arith}
use native.Mathlib.Decide.{ℕ_discrete}
use borrow.Author.Tests.{ltb-true}
use lib.Dec.{ltb}
use lib.ListN.{length, get_or, set, take, drop, replicate, length-set, length-replicate, get_or-replicate, take-append-drop, get_or-append}
use lib.Seq.{get_or-set_same, get_or-set_other, drop-set-lt, drop_at, ext_get_or, get_or-take, length-take-le}
use Rattle.search.specs.Search.{In, Reach, here, on, closure, zeros, cons_if, filter}
use Rattle.search.specs.Worklist.{State, st, pushed, push, push_all, push_when, push_if, pop, topmost, Room}
use Rattle.search.specs.Engines.{Marks}
use Rattle.search.proofs.Count.{zeros_set, zeros_le}
use Rattle.search.proofs.Closure.{Nodes, reach_node, closure_length}
use Rattle.search.proofs.Engines.{mark_is}

-- ---- what pushes and pops leave as it was

-- each node without a mark weighs 2, each on the stack 1
abbrev pub measure : ℕ → State → ℕ
measure n s = zeros n s.marks + zeros n s.marks + s.top

-- pushes and pops lead from e to s: the columns are as long as they were, and past n as they were
pub record Moved (n : ℕ) (e s : State) : Type 0 where
  pub fits : Room n s
  pub less : measure n s ≤ measure n e
  pub marks_len : length s.marks ≡ length e.marks
  pub stack_len : length s.stack ≡ length e.stack
  pub marks_past : drop n s.marks ≡ drop n e.marks
  pub stack_past : drop n s.stack ≡ drop n e.stack

pub moved_none : {n : ℕ} {s : State} → Room n s → Moved n s s
moved_none r = record { fits = r; less = omega arith; marks_len = refl; stack_len = refl; marks_past = refl; stack_past = refl }

pub moved_on : {n : ℕ} {a b c : State} → Moved n a b → Moved n b c → Moved n a c
moved_on p q =
    record {
      fits = q.fits;
      less = omega (arith, p.less, q.less);
      marks_len = q.marks_len ∙ p.marks_len;
      stack_len = q.stack_len ∙ p.stack_len;
      marks_past = q.marks_past ∙ p.marks_past;
      stack_past = q.stack_past ∙ p.stack_past;
    }

-- a node without a mark has room on the stack
pub room_new : (n v : ℕ) (s : State) → Room n s → v < n → get_or s.marks v 0 ≡ 0 → s.top < n
room_new n v s r h z = omega (arith, r, zeros_set n s.marks v h (omega (arith, r)) z)

pub room_empty : (n : ℕ) (m k : List ℕ) → n ≤ length m → n ≤ length k → Room n (st m k 0)
room_empty n m k h j = record { marks_long_law = h; stack_long = j; room = omega (arith, zeros_le n m) }

pushed_moved : (n v : ℕ) (s : State) (f : ℕ) → get_or s.marks v 0 ≡ f → v < n → Room n s → Moved n s (pushed f v s)
pushed_moved n v s zero z h r =
    let t : s.top < n = room_new n v s r h z in
    let count : zeros n s.marks ≡ zeros n (set s.marks v 1) + 1 = zeros_set n s.marks v h (omega (arith, r)) z in
    record {
      fits = record { marks_long_law = simp length-set r.marks_long_law; stack_long = simp length-set r.stack_long; room = omega (arith, r) };
      less = omega arith;
      marks_len = length-set s.marks v 1;
      stack_len = length-set s.stack s.top v;
      marks_past = drop-set-lt n s.marks v 1 h;
      stack_past = drop-set-lt n s.stack s.top v t;
    }
pushed_moved n v s (suc f) z h r = moved_none r

pub push_moved : (n v : ℕ) (s : State) → v < n → Room n s → Moved n s (push v s)
unfolding push
push_moved n v s h r = pushed_moved n v s (get_or s.marks v 0) refl h r

pub all_moved : (n : ℕ) (vs : List ℕ) (s : State) → Nodes n vs → Room n s → Moved n s (push_all vs s)
all_moved n [] s h r = moved_none r
all_moved n (v ∷ vs) s h r =
    let m : Moved n s (push v s) = push_moved n v s (h v (inl refl)) r in
    moved_on m (all_moved n vs (push v s) (λ x i. h x (inr i)) m.fits)

when_moved : (n v : ℕ) (s : State) (b : Bool) → (b ≡ true → v < n) → Room n s → Moved n s (push_when b v s)
when_moved n v s true h r = push_moved n v s (h refl) r
when_moved n v s false h r = moved_none r

pub if_moved : (n v : ℕ) (s t : State) (p : ℕ → Bool) → (p v ≡ true → v < n) → Room n s → t ≡ push_if p v s → Moved n s t
if_moved n v s t p h r e = subst (Moved n s) (sym e) (when_moved n v s (p v) h r)

pub pop_moved : (n : ℕ) (s : State) → 0 < s.top → Room n s → Moved n s (pop s)
pop_moved n s p r =
    record {
      fits = record { marks_long_law = r.marks_long_law; stack_long = r.stack_long; room = omega (arith, r) };
      less = omega arith;
      marks_len = refl;
      stack_len = refl;
      marks_past = refl;
      stack_past = refl;
    }

-- ---- what a search is over, and what holds on its way

-- nodes below n, where the search starts, and where it goes on from a node
pub record Search : Type 0 where
  pub n : ℕ
  pub starts : List ℕ
  pub next : ℕ → List ℕ
  pub starts_in : Nodes n starts
  pub next_in : (u : ℕ) → Nodes n (next u)

-- u stands on the stack
pub record OnStack (s : State) (u : ℕ) : Type 0 where
  pub at : ℕ
  pub below : at < s.top
  pub holds : get_or s.stack at 0 ≡ u

-- v has its mark, or is among those to be pushed
abbrev pub Seen : List ℕ → State → ℕ → Type 0
Seen pend s v = (get_or s.marks v 0 ≡ 1) ⊎ In v pend

-- what holds between two pushes, with `pend` still to be pushed
pub record Walk (g : Search) (pend : List ℕ) (s : State) : Type 0 where
  pub bits : (v : ℕ) → v < g.n → get_or s.marks v 0 ≤ 1
  pub sound : (v : ℕ) → v < g.n → get_or s.marks v 0 ≡ 1 → Reach g.starts g.next v
  pub begun : (v : ℕ) → In v g.starts → Seen pend s v
  pub closed : (u : ℕ) → u < g.n → get_or s.marks u 0 ≡ 1 → OnStack s u ⊎ ((v : ℕ) → In v (g.next u) → Seen pend s v)
  pub stacked : (i : ℕ) → i < s.top → Reach g.starts g.next (get_or s.stack i 0)
  pub pending : (v : ℕ) → In v pend → Reach g.starts g.next v

module _ (g : Search) where
  reached_node : (v : ℕ) → Reach g.starts g.next v → v < g.n
  reached_node = reach_node g.n g.starts g.next g.starts_in g.next_in

  -- ---- a push, by whether the node has its mark

  module _ (v : ℕ) (pend : List ℕ) (s : State) (r : Room g.n s) (w : Walk g (v ∷ pend) s) where
    in_graph : v < g.n
    in_graph = reached_node v (w.pending v (inl refl))

    module _ (z : get_or s.marks v 0 ≡ 0) where
      top_in : s.top < length s.stack
      top_in = omega (arith, r, room_new g.n v s r in_graph z)

      set_here : get_or (set s.marks v 1) v 0 ≡ 1
      set_here = get_or-set_same s.marks v 1 0 (omega (arith, r, in_graph))

      moved : (x : ℕ) → Seen (v ∷ pend) s x → Seen pend (pushed 0 v s) x
      moved x (inl e) = inl (elim (ℕ_discrete x v) [ yes p ↦ rw p set_here | no q ↦ get_or-set_other s.marks v x 1 0 q ∙ e ])
      moved x (inr (inl p)) = inl (rw p set_here)
      moved x (inr (inr i)) = inr i

      below_top : (i : ℕ) → i < s.top → get_or (set s.stack s.top v) i 0 ≡ get_or s.stack i 0
      below_top i h = get_or-set_other s.stack s.top i v 0 (omega arith)

      at_top : (i : ℕ) → i ≡ s.top → get_or (set s.stack s.top v) i 0 ≡ v
      at_top i p = rw p (get_or-set_same s.stack s.top v 0 top_in)

      push_new : Walk g pend (pushed 0 v s)
      push_new =
          record {
            bits = λ x h. elim (ℕ_discrete x v) [ yes p ↦ rw p (omega (arith, set_here)) | no q ↦ omega (arith, get_or-set_other s.marks v x 1 0 q, w.bits x h) ];
            sound = λ x h e. elim (ℕ_discrete x v) [ yes p ↦ rw p (w.pending v (inl refl)) | no q ↦ w.sound x h (sym (get_or-set_other s.marks v x 1 0 q) ∙ e) ];
            begun = λ x i. moved x (w.begun x i);
            closed = λ u h e. elim (ℕ_discrete u v) [
              | yes p ↦ inl (record { at = s.top; below = omega arith; holds = at_top s.top refl ∙ sym p })
              | no q ↦ ⊎_elim (λ o. inl (record { at = o.at; below = omega (arith, o.below); holds = below_top o.at o.below ∙ o.holds })) (λ c. inr (λ x i. moved x (c x i))) (w.closed u h (sym (get_or-set_other s.marks v u 1 0 q) ∙ e))
            ];
            stacked = λ i h. elim (ℕ_discrete i s.top) [ yes p ↦ rw (at_top i p) (w.pending v (inl refl)) | no q ↦ rw (below_top i (omega arith)) (w.stacked i (omega arith)) ];
            pending = λ x i. w.pending x (inr i);
          }

    module _ (o : get_or s.marks v 0 ≡ 1) where
      kept : (x : ℕ) → Seen (v ∷ pend) s x → Seen pend s x
      kept x (inl e) = inl e
      kept x (inr (inl p)) = inl (rw p o)
      kept x (inr (inr i)) = inr i

      push_old : Walk g pend s
      push_old =
          record {
            bits = w.bits;
            sound = w.sound;
            begun = λ x i. kept x (w.begun x i);
            closed = λ u h e. ⊎_elim (λ k. inl k) (λ c. inr (λ x i. kept x (c x i))) (w.closed u h e);
            stacked = w.stacked;
            pending = λ x i. w.pending x (inr i);
          }

    pushed_walk : (f : ℕ) → get_or s.marks v 0 ≡ f → Walk g pend (pushed f v s)
    pushed_walk zero z = push_new z
    pushed_walk (suc f) z = push_old (omega (arith, w.bits v in_graph))

    push_walk : Walk g pend (push v s)
    unfolding push
    push_walk = pushed_walk (get_or s.marks v 0) refl

  all_walk : (vs : List ℕ) (s : State) → Room g.n s → Walk g vs s → Walk g [] (push_all vs s)
  all_walk [] s r w = w
  all_walk (v ∷ vs) s r w = all_walk vs (push v s) (push_moved g.n v s (in_graph v vs s r w) r).fits (push_walk v vs s r w)

  -- ---- a pop

  module _ (s : State) (w : Walk g [] s) (p : 0 < s.top) where
    still : (x : ℕ) → Seen [] s x → Seen (g.next (topmost s)) s x
    still x (inl e) = inl e
    still x (inr b) = absurd b

    popped : (u : ℕ) → OnStack s u → OnStack (pop s) u ⊎ ((v : ℕ) → In v (g.next u) → Seen (g.next (topmost s)) s v)
    popped u o =
        elim (ℕ_discrete o.at (s.top - 1)) [
          | yes q ↦ inr (λ v i. inr (subst (λ (x : ℕ). In v (g.next x)) (sym o.holds ∙ ap (λ (k : ℕ). get_or s.stack k 0) q) i))
          | no q ↦ inl (record { at = o.at; below = omega (arith, o.below); holds = o.holds })
        ]

    pop_walk : Walk g (g.next (topmost s)) (pop s)
    pop_walk =
        record {
          bits = w.bits;
          sound = w.sound;
          begun = λ x i. still x (w.begun x i);
          closed = λ u h e. ⊎_elim (popped u) (λ c. inr (λ x i. still x (c x i))) (w.closed u h e);
          stacked = λ i h. w.stacked i (omega arith);
          pending = λ x i. on (w.stacked (s.top - 1) (omega arith)) i;
        }

-- ---- the law

-- a search that began with the columns of e has come to s
pub record Going (g : Search) (e s : State) : Type 0 where
  pub moved : Moved g.n e s
  pub walk : Walk g [] s

module _ (g : Search) where
  abbrev pub flags : List ℕ
  flags = closure g.starts g.next g.n

  -- no node has its mark, the stack is empty, and the starts are pushed
  pub begin : {e s : State} → Room g.n e → e.top ≡ 0 → ((v : ℕ) → v < g.n → get_or e.marks v 0 ≡ 0) → s ≡ push_all g.starts e → Going g e s
  begin {e} r t z q =
      subst (Going g e) (sym q)
      (record { moved = all_moved g.n g.starts e g.starts_in r; walk = all_walk g g.starts e r empty })
    where
      empty : Walk g g.starts e
      empty =
          record {
            bits = λ v h. omega (arith, z v h);
            sound = λ v h o. absurd (omega (arith, z v h));
            begun = λ v i. inr i;
            closed = λ u h o. absurd (omega (arith, z u h));
            stacked = λ i h. absurd (omega arith);
            pending = λ v i. here i;
          }

  -- the same search, seen from where it is, and from where it was before
  pub rebase : {e s : State} → Going g e s → Going g s s
  rebase h = record { moved = moved_none h.moved.fits; walk = h.walk }

  pub onward : {d e s : State} → Going g d e → Going g e s → Going g d s
  onward h j = record { moved = moved_on h.moved j.moved; walk = j.walk }

  module _ {e s : State} (h : Going g e s) where
    -- what stands on the stack is a node
    pub stacked_node : (i : ℕ) → i < s.top → get_or s.stack i 0 < g.n
    stacked_node i j = reached_node g (get_or s.stack i 0) (h.walk.stacked i j)

    module _ (p : 0 < s.top) (t : State) (q : t ≡ push_all (g.next (topmost s)) (pop s)) where
      popping : Moved g.n s (pop s)
      popping = pop_moved g.n s p h.moved.fits

      pushing : Moved g.n (pop s) t
      pushing = subst (Moved g.n (pop s)) (sym q) (all_moved g.n (g.next (topmost s)) (pop s) (g.next_in (topmost s)) popping.fits)

      pub turn : Going g e t
      turn =
          record {
            moved = moved_on h.moved (moved_on popping pushing);
            walk = subst (Walk g []) (sym q) (all_walk g (g.next (topmost s)) (pop s) popping.fits (pop_walk g s h.walk p));
          }

      pub falls : measure g.n t < measure g.n s
      falls = omega (arith, pushing.less)

    module _ (t : s.top ≡ 0) where
      only : (x : ℕ) → Seen [] s x → get_or s.marks x 0 ≡ 1
      only x (inl m) = m
      only x (inr b) = absurd b

      ended : Marks g.n g.starts g.next s.marks
      ended =
          record {
            bits = h.walk.bits;
            sound = h.walk.sound;
            begun = λ v i. only v (h.walk.begun v i);
            closed = λ u l m v i. ⊎_elim (λ o. absurd (omega (arith, o.below))) (λ c. only v (c v i)) (h.walk.closed u l m);
          }

      pub flag_is : (v : ℕ) → v < g.n → get_or s.marks v 0 ≡ get_or flags v 0
      flag_is = mark_is g.n g.starts g.next g.starts_in g.next_in ended

      pub marks_are : s.marks ≡ flags ++ drop g.n e.marks
      marks_are =
          let long : length (take g.n s.marks) ≡ g.n = length-take-le g.n s.marks h.moved.fits.marks_long_law in
          let first : take g.n s.marks ≡ flags =
          ext_get_or 0 (take g.n s.marks) flags (long ∙ sym (closure_length g.n g.starts g.next g.starts_in g.next_in))
          (λ i l. get_or-take g.n s.marks i 0 (omega arith) ∙ flag_is i (omega arith)) in
          sym (take-append-drop g.n s.marks) ∙ (λ i. first i ++ h.moved.marks_past i)

-- ---- `push` and `push_all` by cases, for the proofs of code

fresh : (v : ℕ) (s : State) (f : ℕ) → f ≡ 0 → pushed 0 v s ≡ pushed f v s
fresh v s f e = rw e

pub push_fresh : (v : ℕ) (s : State) → get_or s.marks v 0 ≡ 0 → pushed 0 v s ≡ push v s
unfolding push
push_fresh v s e = fresh v s (get_or s.marks v 0) e

known : (v : ℕ) (s : State) (f : ℕ) → (f ≡ 0 → ⊥) → s ≡ pushed f v s
known v s zero q = absurd (q refl)
known v s (suc f) q = refl

pub push_known : (v : ℕ) (s : State) → (get_or s.marks v 0 ≡ 0 → ⊥) → s ≡ push v s
unfolding push
push_known v s q = known v s (get_or s.marks v 0) q

when_all : (b : Bool) (v : ℕ) (vs : List ℕ) (s : State) → push_all vs (push_when b v s) ≡ push_all (cons_if b v vs) s
when_all true v vs s = refl
when_all false v vs s = refl

-- two nodes, each pushed if it passes the test
pub two_pushes : (p : ℕ → Bool) (x y : ℕ) (s s₁ s₂ : State) → s₁ ≡ push_if p x s → s₂ ≡ push_if p y s₁ → s₂ ≡ push_all (filter p (x ∷ y ∷ [])) s
two_pushes p x y s s₁ s₂ e f =
    f ∙ when_all (p y) y [] s₁ ∙ ap (push_all (filter p (y ∷ []))) e ∙ when_all (p x) x (filter p (y ∷ [])) s

cons_if_in : (b : Bool) (x : ℕ) (vs : List ℕ) (v : ℕ) → In v (cons_if b x vs) → ((v ≡ x) × (b ≡ true)) ⊎ In v vs
cons_if_in true x vs v (inl e) = inl (e, refl)
cons_if_in true x vs v (inr i) = inr i
cons_if_in false x vs v i = inr i

-- what is kept passes the test
pub filter_in : (p : ℕ → Bool) (vs : List ℕ) (v : ℕ) → In v (filter p vs) → In v vs × (p v ≡ true)
filter_in p [] v i = absurd i
filter_in p (x ∷ vs) v i =
    ⊎_elim (λ q. (inl q.0, rw q.0 q.1)) (λ j. let k = filter_in p vs v j in (inr k.0, k.1)) (cons_if_in (p x) x (filter p vs) v i)

pub filter_below : (n : ℕ) (vs : List ℕ) → Nodes n (filter (λ v. ltb v n) vs)
filter_below n vs v i = ltb-true v n (filter_in (λ x. ltb x n) vs v i).1

-- ---- a column after `clear`

module _ (n : ℕ) (old new : List ℕ) (e : new ≡ replicate n 0 ++ drop n old) where
  pub cleared_none : (v : ℕ) → v < n → get_or new v 0 ≡ 0
  cleared_none v h =
      rw e (get_or-append (replicate n 0) (drop n old) 0 v (omega (arith, length-replicate {A = ℕ} n 0)) ∙ get_or-replicate n v 0 0 h)

  pub cleared_past : drop n new ≡ drop n old
  cleared_past = rw e (drop_at (replicate n 0) (drop n old) n (length-replicate n 0))

-- ---- two lists, and two tests

pub all_append : (us vs : List ℕ) (s : State) → push_all (us ++ vs) s ≡ push_all vs (push_all us s)
all_append [] vs s = refl
all_append (u ∷ us) vs s = all_append us vs (push u s)

filter_cons : (b : Bool) (q : ℕ → Bool) (v : ℕ) (vs : List ℕ) → filter q (cons_if b v vs) ≡ cons_if (b && q v) v (filter q vs)
filter_cons true q v vs = refl
filter_cons false q v vs = refl

pub filter_filter : (p q : ℕ → Bool) (vs : List ℕ) → filter q (filter p vs) ≡ filter (λ v. p v && q v) vs
filter_filter p q [] = refl
filter_filter p q (v ∷ vs) = filter_cons (p v) q v (filter p vs) ∙ ap (cons_if (p v && q v) v) (filter_filter p q vs)

-- ---- a push takes a node from those without a mark to the stack

abbrev pub waiting : ℕ → State → ℕ
waiting n s = s.top + zeros n s.marks

pushed_waiting : (n v : ℕ) (s : State) (f : ℕ) → get_or s.marks v 0 ≡ f → v < n → Room n s → waiting n (pushed f v s) ≡ waiting n s
pushed_waiting n v s zero z h r = omega (arith, zeros_set n s.marks v h (omega (arith, r)) z)
pushed_waiting n v s (suc f) z h r = refl

push_waiting : (n v : ℕ) (s : State) → v < n → Room n s → waiting n (push v s) ≡ waiting n s
unfolding push
push_waiting n v s h r = pushed_waiting n v s (get_or s.marks v 0) refl h r

pub all_waiting : (n : ℕ) (vs : List ℕ) (s : State) → Nodes n vs → Room n s → waiting n (push_all vs s) ≡ waiting n s
all_waiting n [] s h r = refl
all_waiting n (v ∷ vs) s h r =
    let i : v < n = h v (inl refl) in
    all_waiting n vs (push v s) (λ x j. h x (inr j)) (push_moved n v s i r).fits ∙ push_waiting n v s i r
