-- Laws of the parse: what an item adds to the open blocks, by its kind.
-- Assumes nothing.
use mathlib.Core.Path.{◌≡◌, refl, ap}
use mathlib.Core.List.{List, [], ◌∷◌}
use mathlib.Core.Bool.{true, false}
use Prim.Native.Nat.{ℕ, zero, suc, ◌+◌, ◌≤◌, ◌<◌}
use native.Mathlib.Numerals.{add-one}
use native.Mathlib.Omega.{arith}
use lib.ListN.{length, drop, drop_of_length-le}
use lib.Dec.{eqb, lit≤}
use borrow.Author.Tests.{ne_eqb}
use Rattle.flow.specs.Sheet.{Item, kind, zip}
use Rattle.flow.specs.Kinds.{closes}
use Rattle.flow.specs.Tree.{Stmt, Arms, Open, simple, do_block, while_loop, repeat_loop, for_loop, if_stmt, no_more, elseif, otherwise, nothing_read, outer, in_front, opened, read, parse}
use Rattle.flow.proofs.Room.{length_zip}
use Rattle.flow.proofs.Nesting.{Made, a_do, a_while, a_repeat, a_for, an_if}
use Rattle.blocks.specs.Open.{item_at, open_at}

-- ---- the items of a sheet

drop_zip : (ks ss : List ℕ) (j : ℕ) → length ss ≡ length ks → j < length ks → drop j (zip ks ss) ≡ item_at ks ss j ∷ drop (suc j) (zip ks ss)
drop_zip [] ss j e h = absurd (omega arith)
drop_zip (k ∷ ks) [] j e h = absurd (omega arith)
drop_zip (k ∷ ks) (s ∷ ss) zero e h = refl
drop_zip (k ∷ ks) (s ∷ ss) (suc j) e h = drop_zip ks ss j (omega arith) (omega arith)

pub drop_both : (ks ss : List ℕ) (j : ℕ) → length ss ≡ length ks → drop j (zip ks ss) ≡ zip (drop j ks) (drop j ss)
drop_both ks ss zero e = refl
drop_both [] ss (suc j) e = refl
drop_both (k ∷ ks) [] (suc j) e = absurd (omega arith)
drop_both (k ∷ ks) (s ∷ ss) (suc j) e = drop_both ks ss j (omega arith)

module _ (ks ss : List ℕ) (e : length ss ≡ length ks) (j : ℕ) where
  pub read_at : j < length ks → open_at ks ss j ≡ read (item_at ks ss j) (open_at ks ss (j + 1))
  unfolding open_at parse
  read_at h = rw (drop_zip ks ss j e h, add-one)

  pub read_end : length ks ≤ j → open_at ks ss j ≡ record { top = nothing_read; below = [] }
  unfolding open_at parse
  read_end h = rw (drop_of_length-le (zip ks ss) {i = j} (omega (arith, length_zip ks ss e)))

-- ---- an item by its kind

module _ (i : Item) (o : Open) where
  pub read_close : closes (kind i) ≡ true → read i o ≡ opened no_more i.span o
  unfolding read
  read_close e = rw e

  pub read_do : kind i ≡ 1 → read i o ≡ in_front (do_block i.word o.top.body) (outer o)
  unfolding read
  read_do e = rw e

  pub read_while : kind i ≡ 2 → read i o ≡ in_front (while_loop i.word i.span o.top.body) (outer o)
  unfolding read
  read_while e = rw e

  pub read_repeat : kind i ≡ 3 → read i o ≡ in_front (repeat_loop i.word o.top.body o.top.close) (outer o)
  unfolding read
  read_repeat e = rw e

  pub read_for : kind i ≡ 4 → read i o ≡ in_front (for_loop i.word i.span o.top.body) (outer o)
  unfolding read
  read_for e = rw e

  pub read_if : kind i ≡ 5 → read i o ≡ in_front (if_stmt i.word i.span o.top.body o.top.arms) (outer o)
  unfolding read
  read_if e = rw e

  pub read_elseif : kind i ≡ 6 → read i o ≡ opened (elseif i.word i.span o.top.body o.top.arms) 0 (outer o)
  unfolding read
  read_elseif e = rw e

  pub read_else : kind i ≡ 7 → read i o ≡ opened (otherwise i.word o.top.body o.top.arms) 0 (outer o)
  unfolding read
  read_else e = rw e

  -- a kind that opens and closes nothing
  pub read_simple : ((k : ℕ) → 1 ≤ k → k ≤ 9 → kind i ≡ k → ⊥) → read i o ≡ in_front (simple i.word i.span) o
  unfolding read
  read_simple q =
      rw (no 8 (lit≤ tt) (lit≤ tt), no 9 (lit≤ tt) (lit≤ tt), no 1 (lit≤ tt) (lit≤ tt), no 2 (lit≤ tt) (lit≤ tt), no 3 (lit≤ tt) (lit≤ tt), no 4 (lit≤ tt) (lit≤ tt), no 5 (lit≤ tt) (lit≤ tt), no 6 (lit≤ tt) (lit≤ tt), no 7 (lit≤ tt) (lit≤ tt))
    where
      no : (k : ℕ) → 1 ≤ k → k ≤ 9 → eqb (kind i) k ≡ false
      no k a b = ne_eqb (kind i) k (q k a b)

-- ---- the four ways to read an item

-- an opener ends the innermost block, ELSEIF and ELSE make an arm of it, a closer starts a block, any other item goes in front
pub data Reads (i : Item) (o : Open) : Open → Type 0 where
  opener : {k : ℕ} {st : Stmt} → Made i o.top k st → Reads i o (in_front st (outer o))
  arm : (as' : Arms) → Reads i o (opened as' 0 (outer o))
  closer : Reads i o (opened no_more i.span o)
  other : Reads i o (in_front (simple i.word i.span) o)

module _ (i : Item) (o : Open) where
  pub read_opener : (k : ℕ) → kind i ≡ k → 1 ≤ k → k ≤ 5 → (st : Stmt) × Made i o.top k st × (read i o ≡ in_front st (outer o))
  read_opener zero e l h = absurd (omega arith)
  read_opener (suc zero) e l h = (_, a_do e, read_do i o e)
  read_opener (suc (suc zero)) e l h = (_, a_while e, read_while i o e)
  read_opener (suc (suc (suc zero))) e l h = (_, a_repeat e, read_repeat i o e)
  read_opener (suc (suc (suc (suc zero)))) e l h = (_, a_for e, read_for i o e)
  read_opener (suc (suc (suc (suc (suc zero))))) e l h = (_, an_if e, read_if i o e)
  read_opener (suc (suc (suc (suc (suc (suc n)))))) e l h = absurd (omega arith)

  as_read : {p : Open} → read i o ≡ p → Reads i o p → Reads i o (read i o)
  as_read e r = rw e r

  pub reads : (k : ℕ) → kind i ≡ k → Reads i o (read i o)
  reads zero e = as_read (read_simple i o (λ k a b q. omega arith)) other
  reads (suc zero) e = as_read (read_do i o e) (opener (a_do e))
  reads (suc (suc zero)) e = as_read (read_while i o e) (opener (a_while e))
  reads (suc (suc (suc zero))) e = as_read (read_repeat i o e) (opener (a_repeat e))
  reads (suc (suc (suc (suc zero)))) e = as_read (read_for i o e) (opener (a_for e))
  reads (suc (suc (suc (suc (suc zero))))) e = as_read (read_if i o e) (opener (an_if e))
  reads (suc (suc (suc (suc (suc (suc zero)))))) e = as_read (read_elseif i o e) (arm _)
  reads (suc (suc (suc (suc (suc (suc (suc zero))))))) e = as_read (read_else i o e) (arm _)
  reads (suc (suc (suc (suc (suc (suc (suc (suc zero)))))))) e = as_read (read_close i o (ap closes e)) closer
  reads (suc (suc (suc (suc (suc (suc (suc (suc (suc zero))))))))) e = as_read (read_close i o (ap closes e)) closer
  reads (suc (suc (suc (suc (suc (suc (suc (suc (suc (suc n)))))))))) e = as_read (read_simple i o (λ k a b q. omega arith)) other
