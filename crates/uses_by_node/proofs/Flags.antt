-- What a flag ahead says of the marks.
-- Assumes nothing.
use Prim.Native.Nat.{ℕ, ◌≤◌, ◌<◌}
use mathlib.Core.Path.{◌≡◌, refl, sym, ap, ◌∙◌}
use mathlib.Core.Bool.{Bool, true, false, ◌&&◌, ◌||◌, not}
use mathlib.Core.List.{List, [], ◌∷◌}
use native.Mathlib.Omega.{arith}
use native.Mathlib.Decide.{dec_lt}
use borrow.Author.Tests.{lt-ltb, le-ltb}
use lib.Dec.{eqb, ltb}
use lib.ListN.{length, get_or}
use lib.Seq.{length-take-le}
use Rattle.search.specs.Search.{filter}
use Rattle.search.specs.Stamps.{flags_of}
use Rattle.search.proofs.Stamps.{flag_at, flag_test}
use Rattle.flow.specs.Graph.{Graph}
use Rattle.flow.specs.Reachable.{successors}
use Rattle.flow.specs.Findings.{Ahead, any_flag, is_overwritten_unread}
use Rattle.flow.proofs.Flags.{edge_cell}
use Rattle.live_steps.specs.Walk.{chart}

or_false : (b : Bool) → (b || false) ≡ b
or_false true = refl
or_false false = refl

module _ (stamp n : ℕ) (marks : List ℕ) where
  -- whether v is a node that is marked
  abbrev pub marked_at : ℕ → Bool
  marked_at v = ltb v n && eqb (get_or marks v 0) stamp

  one_more : (v : ℕ) (vs : List ℕ) → any_flag (flags_of stamp n marks) (filter (λ x. ltb x n) (v ∷ vs)) ≡ (marked_at v || any_flag (flags_of stamp n marks) (filter (λ x. ltb x n) vs))
  unfolding any_flag
  one_more v vs = elim (dec_lt v n) [
    | yes h ↦ rw (lt-ltb v n h, flag_at stamp n marks v h, flag_test)
    | no h ↦ let l : n ≤ v = omega arith in rw (le-ltb v n l)
  ]

  none_left : any_flag (flags_of stamp n marks) [] ≡ false
  unfolding any_flag
  none_left = refl

  -- whether a successor of v is marked, by the two cells
  module _ (first second start : List ℕ) (v : ℕ) (l : n ≤ length first) (m : n ≤ length second) (h : v < n) (x y : ℕ) (p : x ≡ get_or first v 0) (q : y ≡ get_or second v 0) where
    any_marked : any_flag (flags_of stamp n marks) (successors (chart n first second start) v) ≡ (marked_at x || marked_at y)
    any_marked =
        rw (length-take-le n first l, edge_cell n first v h l, edge_cell n second v h m, ← p, ← q)
        (one_more x (y ∷ []) ∙ ap (λ (b : Bool). marked_at x || b) (one_more y [] ∙ ap (λ (b : Bool). marked_at y || b) none_left ∙ or_false (marked_at y)))

    pub first_marked : marked_at x ≡ true → true ≡ any_flag (flags_of stamp n marks) (successors (chart n first second start) v)
    first_marked e = sym (any_marked ∙ ap (λ (b : Bool). b || marked_at y) e)

    pub second_decides : marked_at x ≡ false → marked_at y ≡ any_flag (flags_of stamp n marks) (successors (chart n first second start) v)
    second_decides e = sym (any_marked ∙ ap (λ (b : Bool). b || marked_at y) e)

and_not_true : (b : Bool) → false ≡ (b && not true)
and_not_true true = refl
and_not_true false = refl

and_not_false : (b : Bool) → b ≡ (b && not false)
and_not_false true = refl
and_not_false false = refl

module _ (g : Graph) (a : Ahead) (v : ℕ) where
  pub read_ahead : any_flag a.reads (successors g v) ≡ true → false ≡ is_overwritten_unread g a v
  unfolding is_overwritten_unread
  read_ahead e = rw e (and_not_true (any_flag a.writes (successors g v)))

  pub unread_ahead : any_flag a.reads (successors g v) ≡ false → any_flag a.writes (successors g v) ≡ is_overwritten_unread g a v
  unfolding is_overwritten_unread
  unread_ahead e = rw e (and_not_false (any_flag a.writes (successors g v)))
