-- What the code does with the columns of codes and flags, in the graph's terms: the first code that ends past an offset gives `node_among`, and a flag gives `can_run`.
-- Assumes nothing.
use Prim.Native.Nat.{ℕ, zero, suc, ◌+◌, ◌-◌, ◌<◌, ◌≤◌}
use mathlib.Core.Bool.{true}
use mathlib.Core.Path.{◌≡◌, refl, sym, ap, ◌∙◌}
use mathlib.Core.List.{List, [], ◌∷◌}
use native.Mathlib.Omega.{arith}
use native.Mathlib.Decide.{ℕ_discrete}
use native.Mathlib.Nat.{le_of_suc-le-suc, not-suc-le-zero}
use Rattle.std.proofs.lemmas.List.Sorted.{IsPartitionedBy-leb, IsNonDecreasingBy-from_default}
use Rattle.std.specs.List.Sorted.{IsPartitionedBy}
use borrow.Author.Tests.{lt-ltb, le-ltb, leb-true}
use lib.Dec.{eqb, leb}
use lib.ListN.{length, get_or, take}
use lib.Seq.{length-take-le, get_or-take}
use Rattle.std.specs.Prelude.{Some, None}
use Rattle.flow.specs.Sheet.{end_of}
use Rattle.flow.specs.Graph.{Graph, node_count}
use Rattle.flow.specs.Reachable.{reachable, node_among, can_run}
use Rattle.offsets.specs.Codes.{Rising, FirstPast}

-- ---- the node of an offset

-- what ends at or before an offset takes all before it along
pub through : (codes : ℕ) (spans : List ℕ) (o m : ℕ) → Rising codes spans → m < codes → end_of (get_or spans m 0) ≤ o → (i : ℕ) → i < m + 1 → end_of (get_or spans i 0) ≤ o
through codes spans o m r h e i l = elim (ℕ_discrete i m) [ yes p ↦ rw p e | no q ↦ omega (arith, r i m (omega arith) h) ]

-- the code at an index is the first, since it ends past the offset and the code before it does not, or since there is none before it
pub first_after : (codes : ℕ) (spans : List ℕ) (o i : ℕ) → Rising codes spans → i < codes → o < end_of (get_or spans i 0) → 0 < i → leb (end_of (get_or spans (i - 1) 0)) o ≡ true → FirstPast codes spans o i
first_after codes spans o i r l p h e =
    let before = through codes spans o (i - 1) r (omega arith) (leb-true _ _ e) in
    record { within = omega arith; before = λ k m. before k (omega arith); past = λ _. p }

pub first_at_start : (codes : ℕ) (spans : List ℕ) (o i : ℕ) → i < codes → o < end_of (get_or spans i 0) → i ≤ 0 → FirstPast codes spans o i
first_at_start codes spans o i l p h = record { within = omega arith; before = λ k m. absurd (omega arith); past = λ _. p }

-- ends that rise are parted at an offset, as std's search asks
pub parted : (spans : List ℕ) (o : ℕ) → Rising (length spans) spans → IsPartitionedBy (λ s. leb (end_of s) o) spans
parted spans o r =
    IsPartitionedBy-leb end_of spans o (IsNonDecreasingBy-from_default end_of spans 0 (λ i j le lt. elim (ℕ_discrete i j) [ yes p ↦ omega (arith, ap (λ k. end_of (get_or spans k 0)) p) | no q ↦ r i j (omega arith) lt ]))

-- and the ends of the first codes rise where they are cut off
pub rising_cut : (codes : ℕ) (spans : List ℕ) → codes ≤ length spans → Rising codes spans → Rising (length (take codes spans)) (take codes spans)
rising_cut codes spans l r i j h k =
    let long = length-take-le codes spans l in
    rw (get_or-take codes spans i 0 (omega arith), get_or-take codes spans j 0 (omega arith)) (r i j h (omega arith))

among_at : (spans nodes : List ℕ) (o r : ℕ) → ((i : ℕ) → i < r → end_of (get_or spans i 0) ≤ o) → r < length spans → r < length nodes → o < end_of (get_or spans r 0) → node_among spans nodes o ≡ Some (get_or nodes r 0)
unfolding node_among
among_at [] vs o r b l m p = absurd (not-suc-le-zero l)
among_at (s ∷ ss) [] o r b l m p = absurd (not-suc-le-zero m)
among_at (s ∷ ss) (v ∷ vs) o zero b l m p = rw (lt-ltb o (end_of s) p)
among_at (s ∷ ss) (v ∷ vs) o (suc r) b l m p =
    rw (le-ltb o (end_of s) (b 0 (omega arith))) (among_at ss vs o r (λ i h. b (suc i) (omega arith)) (le_of_suc-le-suc l) (le_of_suc-le-suc m) p)

among_none : (spans nodes : List ℕ) (o : ℕ) → ((i : ℕ) → i < length nodes → end_of (get_or spans i 0) ≤ o) → node_among spans nodes o ≡ None
unfolding node_among
among_none [] vs o b = refl
among_none (s ∷ ss) [] o b = refl
among_none (s ∷ ss) (v ∷ vs) o b = rw (le-ltb o (end_of s) (b 0 (omega arith))) (among_none ss vs o (λ i h. b (suc i) (omega arith)))

module _ (spans nodes : List ℕ) (o r : ℕ) (l : length nodes ≤ length spans) (f : FirstPast (length spans) spans o r) where
  pub first_at_law : r < length nodes → Some (get_or nodes r 0) ≡ node_among spans nodes o
  first_at_law h = sym (among_at spans nodes o r f.before (omega arith) h (f.past (omega arith)))

  pub first_none : length nodes ≤ r → None ≡ node_among spans nodes o
  first_none h = sym (among_none spans nodes o (λ i j. f.before i (omega arith)))

-- ---- what can run

pub flag_runs : (g : Graph) (m : List ℕ) (v : ℕ) → take (node_count g) m ≡ reachable g → v < node_count g → eqb (get_or m v 0) 1 ≡ can_run g (Some v)
unfolding can_run
flag_runs g m v e h = ap (λ (x : ℕ). eqb x 1) (sym (get_or-take (node_count g) m v 0 h) ∙ ap (λ (l : List ℕ). get_or l v 0) e)
