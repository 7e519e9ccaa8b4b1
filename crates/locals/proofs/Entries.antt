-- Words are listed one after the other: none, one, and some after others.
-- Assumes nothing.
use Prim.Native.Nat.{ℕ, ◌+◌, ◌≤◌}
use mathlib.Core.Path.{◌≡◌, sym, ap, ap₂, ◌∙◌}
use mathlib.Core.List.{List, [], ◌++◌, append_assoc}
use native.Mathlib.Omega.{arith}
use lib.ListN.{length, take, drop, length-append, length-drop, take-append-drop}
use lib.Seq.{take_at, drop_at, drop-drop, length-take-le}
use Rattle.locals.specs.Entries.{Put, Added}

put_none : (k : ℕ) (old : List ℕ) → Put [] k old old
put_none k old = let e : k + 0 ≡ k = omega arith in rw e (sym (take-append-drop k old))

module _ (xs : List ℕ) (k : ℕ) (old : List ℕ) (room : k + length xs ≤ length old) where
  head_long : length (take k old ++ xs) ≡ k + length xs
  head_long = omega (arith, length-append (take k old) xs, length-take-le k old (omega arith))

  put_long : (new : List ℕ) → Put xs k old new → length new ≡ length old
  put_long new p =
      let e : length new ≡ length (take k old ++ (xs ++ drop (k + length xs) old)) = ap length p in
      omega (arith, e, length-append (take k old) (xs ++ drop (k + length xs) old), length-append xs (drop (k + length xs) old), length-take-le k old (omega arith), length-drop (k + length xs) old)

  put_more : (ys mid new : List ℕ) → Put xs k old mid → Put ys (k + length xs) mid new → Put (xs ++ ys) k old new
  put_more ys mid new p q =
      let m : ℕ = k + length xs in
      let s : mid ≡ (take k old ++ xs) ++ drop m old = p ∙ sym (append_assoc (take k old) xs (drop m old)) in
      let a : take m mid ≡ take k old ++ xs = ap (take m) s ∙ take_at (take k old ++ xs) (drop m old) m head_long in
      let b : drop m mid ≡ drop m old = ap (drop m) s ∙ drop_at (take k old ++ xs) (drop m old) m head_long in
      let c : drop (m + length ys) mid ≡ drop (m + length ys) old = sym (drop-drop (length ys) m mid) ∙ ap (drop (length ys)) b ∙ drop-drop (length ys) m old in
      let l : m + length ys ≡ k + length (xs ++ ys) = omega (arith, length-append xs ys) in
      q ∙ ap₂ (λ x y. x ++ (ys ++ y)) a c
      ∙ append_assoc (take k old) xs (ys ++ drop (m + length ys) old)
      ∙ ap (λ x. take k old ++ x) (sym (append_assoc xs ys (drop (m + length ys) old)))
      ∙ ap (λ x. take k old ++ ((xs ++ ys) ++ drop x old)) l

-- ---- words added to those that stand there

pub added_none : (k : ℕ) (old : List ℕ) → Added [] k old k old
added_none k old = record { counted = omega arith; entered = put_none k old }

module _ {xs : List ℕ} {k : ℕ} {old : List ℕ} {r : ℕ} {mid : List ℕ} (p : Added xs k old r mid) where
  -- the column is as long as it was
  pub added_long : k + length xs ≤ length old → length mid ≡ length old
  added_long room = put_long xs k old room mid p.entered

  -- and then more of them
  pub added_more : {ys : List ℕ} {r' : ℕ} {new : List ℕ} → k + length xs ≤ length old → Added ys r mid r' new → Added (xs ++ ys) k old r' new
  added_more {ys} {r'} {new} room q =
      record {
        counted = omega (arith, p.counted, q.counted, length-append xs ys);
        entered = put_more xs k old room ys mid new p.entered (rw p.counted at q.entered);
      }
