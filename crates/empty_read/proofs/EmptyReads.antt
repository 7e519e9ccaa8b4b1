-- A local's first unassigned use, by marks: a mark at the node of an earlier write does for the list of such nodes.
-- Assumes nothing.
use Prim.Native.Nat.{ℕ, suc, ◌+◌, ◌<◌, ◌≤◌}
use mathlib.Core.Path.{◌≡◌, refl, sym, ap, subst, ◌∙◌}
use mathlib.Core.Logic.{inl, inr}
use mathlib.Core.Bool.{Bool, true, false, cond, ◌&&◌, ◌||◌, not, and-true, and-false}
use mathlib.Core.List.{List, [], ◌∷◌, ◌++◌, append_assoc}
use native.Mathlib.Omega.{arith}
use native.Mathlib.Decide.{ℕ_discrete}
use borrow.Author.Tests.{ne_eqb}
use lib.Dec.{eqb}
use lib.ListN.{length, get_or, set, drop, drop_of_length-le}
use lib.Seq.{get_or-set_same, get_or-set_other}
use Rattle.flow.specs.Sheet.{member}
use Rattle.flow.specs.Locals.{only_if}
use Rattle.flow.specs.Findings.{Use, node, is_read, is_write, is_empty_read, first_empty_read}
use Rattle.flow.proofs.Members.{in_append, in_member}
use Rattle.std.specs.Prelude.{Some, None}
use Rattle.search.specs.Running.{NumberSearch as Search}
use Rattle.search.specs.Running.{SameColumns}
use Rattle.search.proofs.Running.{same_on}
use Rattle.search.specs.Stamps.{flag_of, flags_of, Stamped}
use Rattle.search.proofs.Stamps.{flag_at, flag_on, set_bounded, flag_test}
use Rattle.use_words.specs.declared.PlacedUse.{PlacedUse}
use Rattle.use_words.specs.Words.{node_in, use_of, uses_in, no_use, AllPlaced}
use Rattle.use_words.proofs.Words.{uses_next, placed_drop}
use Rattle.empty_read.specs.FirstRead.{mark_if, first_number}

-- ---- the test of a read, by its mark

module _ (stamp n : ℕ) (m : List ℕ) (u : Use) where
  empty_when : node u < n → is_empty_read (flags_of stamp n m) [] u ≡ (is_read u && not u.in_closure && not (eqb (get_or m (node u) 0) stamp))
  unfolding is_empty_read
  empty_when h =
      and-true (is_read u && not u.in_closure && not (eqb (get_or (flags_of stamp n m) (node u) 0) 1))
      ∙ (λ i. is_read u && not u.in_closure && not ((ap (λ (x : ℕ). eqb x 1) (flag_at stamp n m (node u) h) ∙ flag_test (eqb (get_or m (node u) 0) stamp)) i))

-- of a use in code
pub asked : (stamp n : ℕ) (m : List ℕ) (u : PlacedUse) → node_in u < n → is_empty_read (flags_of stamp n m) [] (use_of u) ≡ (is_read (use_of u) && not u.in_closure && not (eqb (get_or m u.node 0) stamp))
unfolding use_of
asked stamp n m u h = empty_when stamp n m (use_of u) h

-- ---- a node that is marked, and one that is written, are the same to a read

other_of : (x v : ℕ) (w : List ℕ) → (x ≡ v → ⊥) → member x (w ++ (v ∷ [])) ≡ member x w
other_of x v [] q = rw (ne_eqb x v q)
other_of x v (y ∷ w) q = ap (λ (b : Bool). eqb x y || b) (other_of x v w q)

module _ (stamp n : ℕ) (m : List ℕ) where
  abbrev live : List ℕ
  live = flags_of stamp n m

  module _ (v : ℕ) (h : v < n) (l : v < length m) where
    -- the flags once v is marked
    abbrev after : List ℕ
    after = flags_of stamp n (set m v stamp)

    others : (x : ℕ) → x < n → (x ≡ v → ⊥) → get_or live x 0 ≡ get_or after x 0
    others x j q =
        flag_at stamp n m x j ∙ ap (λ (y : ℕ). flag_of (eqb y stamp)) (sym (get_or-set_other m v x stamp 0 q)) ∙ sym (flag_at stamp n (set m v stamp) x j)

    marked_read : (u : Use) → node u < n → (w : List ℕ) → is_empty_read live (w ++ (v ∷ [])) u ≡ is_empty_read after w u
    unfolding is_empty_read
    marked_read u j w =
        let b : Bool = is_read u && not u.in_closure in
        elim (ℕ_discrete (node u) v) [
          | yes p ↦ ap (λ (c : Bool). (b && not (eqb (get_or live (node u) 0) 1)) && not c) (in_member (node u) (w ++ (v ∷ [])) (in_append w (v ∷ []) (node u) (inr (inl p)))) ∙ and-false (b && not (eqb (get_or live (node u) 0) 1)) ∙ sym (ap (λ (x : ℕ). (b && not (eqb x 1)) && not (member (node u) w)) (ap (λ (x : ℕ). get_or after x 0) p ∙ flag_on stamp n (set m v stamp) v h (get_or-set_same m v stamp 0 l)) ∙ ap (λ (c : Bool). c && not (member (node u) w)) (and-false b))
          | no q ↦ (λ i. (b && not (eqb (others (node u) j q i) 1)) && not (other_of (node u) v w q i))
        ]

    marked_first : (ws : List PlacedUse) → AllPlaced n ws → (w : List ℕ) → first_empty_read live (w ++ (v ∷ [])) (uses_in ws) ≡ first_empty_read after w (uses_in ws)
    unfolding first_empty_read use_of
    marked_first [] p w = refl
    marked_first (x ∷ ws) p w =
        let u : Use = use_of x in
        let o : List ℕ = only_if (is_write u) (node u ∷ []) in
        λ i. cond (marked_read u (p 0 no_use (omega arith)) w i) (u ∷ []) ((ap (λ (y : List ℕ). first_empty_read live y (uses_in ws)) (sym (append_assoc o w (v ∷ []))) ∙ marked_first ws (λ k d j. p (suc k) d (omega arith)) (o ++ w)) i)

  after_write : (b : Bool) (v : ℕ) (ws : List PlacedUse) → v < n → v < length m → AllPlaced n ws → first_empty_read live (only_if b (v ∷ []) ++ []) (uses_in ws) ≡ first_empty_read (flags_of stamp n (mark_if b v stamp m)) [] (uses_in ws)
  after_write true v ws h l p = marked_first v h l ws p []
  after_write false v ws h l p = refl

-- ---- the use at place i of a column

module _ (stamp n : ℕ) (m : List ℕ) (us : List PlacedUse) (i : ℕ) where
  -- what the marks leave to the uses from there on
  abbrev rest : List Use
  rest = first_empty_read (flags_of stamp n m) [] (uses_in (drop i us))

  module _ (h : i < length us) where
    abbrev used : PlacedUse
    used = get_or us i no_use

    found : is_empty_read (flags_of stamp n m) [] (use_of used) ≡ true → Some used.number ≡ first_number rest
    unfolding first_empty_read use_of
    found e = rw (uses_next us i h, e)

    passed : AllPlaced n us → node_in used < length m → is_empty_read (flags_of stamp n m) [] (use_of used) ≡ false → rest ≡ first_empty_read (flags_of stamp n (mark_if (is_write (use_of used)) (node_in used) stamp m)) [] (uses_in (drop (i + 1) us))
    unfolding first_empty_read use_of
    passed p l e = rw (uses_next us i h, e) (after_write stamp n m (is_write (use_of used)) (node_in used) (drop (i + 1) us) (p i no_use h) l (placed_drop n (i + 1) us p))

  -- past the last use there is none
  ended : length us ≤ i → None ≡ first_number rest
  unfolding first_empty_read
  ended h = rw (drop_of_length-le us {i = i} h)

-- ---- the marks stay bounded

bounded_if : (stamp v : ℕ) (m : List ℕ) (b : Bool) → v < length m → Stamped stamp m → Stamped stamp (mark_if b v stamp m)
bounded_if stamp v m true h f = set_bounded stamp m v h f
bounded_if stamp v m false h f = f

-- ---- the same in code: the first i uses have been asked, and the marks have gone from those of e to those of s

pub record Reading (us : List PlacedUse) (i : ℕ) (e s : Search) : Type 0 where
  pub same : SameColumns e s
  pub stamp : s.stamp ≡ e.stamp
  pub bounded : Stamped e.stamp e.marks.now → Stamped e.stamp s.marks.now
  pub left : (n : ℕ) → AllPlaced n us → first_empty_read (flags_of e.stamp n e.marks.now) [] (uses_in us) ≡ rest e.stamp n s.marks.now us i

module _ {us : List PlacedUse} {i : ℕ} {e s : Search} (r : Reading us i e s) where
  module _ (h : i < length us) (placed : AllPlaced (length e.marks.now) us) where
    inside : node_in (get_or us i no_use) < length s.marks.now
    inside = rw r.same.marks_len (placed i no_use h)

    -- the use at place i has been asked, and its mark made
    module _ {t : Search} (c : SameColumns s t × (t.stamp ≡ s.stamp)) (m : t.marks.now ≡ mark_if (is_write (use_of (get_or us i no_use))) (node_in (get_or us i no_use)) s.stamp s.marks.now) (b : Bool) (told : (n : ℕ) → node_in (get_or us i no_use) < n → b ≡ is_empty_read (flags_of s.stamp n s.marks.now) [] (use_of (get_or us i no_use))) where
      marked : t.marks.now ≡ mark_if (is_write (use_of (get_or us i no_use))) (node_in (get_or us i no_use)) e.stamp s.marks.now
      marked = rw r.stamp at m

      asks : (n : ℕ) → AllPlaced n us → b ≡ is_empty_read (flags_of e.stamp n s.marks.now) [] (use_of (get_or us i no_use))
      asks n p = rw r.stamp at (told n (p i no_use h))

      reading_bounded : Stamped e.stamp e.marks.now → Stamped e.stamp t.marks.now
      reading_bounded f = subst (Stamped e.stamp) (sym marked) (bounded_if e.stamp (node_in (get_or us i no_use)) s.marks.now (is_write (use_of (get_or us i no_use))) inside (r.bounded f))

      pub reading_turn : b ≡ false → Reading us (i + 1) e t
      reading_turn q = record {
        same = same_on r.same c.0;
        stamp = c.1 ∙ r.stamp;
        bounded = reading_bounded;
        left = λ n p. r.left n p ∙ passed e.stamp n s.marks.now us i h p inside (sym (asks n p) ∙ q) ∙ ap (λ (x : List ℕ). first_empty_read (flags_of e.stamp n x) [] (uses_in (drop (i + 1) us))) (sym marked);
      }

      pub reading_found : b ≡ true → (n : ℕ) → AllPlaced n us → Some (get_or us i no_use).number ≡ first_number (first_empty_read (flags_of e.stamp n e.marks.now) [] (uses_in us))
      reading_found q n p = found e.stamp n s.marks.now us i h (sym (asks n p) ∙ q) ∙ ap first_number (sym (r.left n p))

  pub reading_over : length us ≤ i → (n : ℕ) → AllPlaced n us → None ≡ first_number (first_empty_read (flags_of e.stamp n e.marks.now) [] (uses_in us))
  reading_over h n p = ended e.stamp n s.marks.now us i h ∙ ap first_number (sym (r.left n p))
