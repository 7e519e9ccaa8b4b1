-- What `pairs_up` shows of the tree: which items open, close and go on, as one relation between the open kinds, the items to come and their parse.
-- Assumes nothing.
use Prim.Native.Nat.{ℕ, zero, suc, ◌≤◌, ◌<◌}
use mathlib.Core.Path.{◌≡◌, refl, ◌∙◌}
use mathlib.Core.Logic.{◌≢◌}
use mathlib.Core.Bool.{Bool, true, false, cond, ◌&&◌, not, false≢true}
use mathlib.Core.List.{List, [], ◌∷◌, tail}
use native.Mathlib.Omega.{arith}
use native.Mathlib.Numerals.{add-one}
use borrow.Author.Tests.{eqb-true, leb-true, ne_eqb, le-leb, lt-leb}
use lib.Dec.{eqb, leb}
use lib.ListN.{length, get_or, drop}
use Rattle.search.proofs.Bools.{and_both}
use Rattle.flow.specs.Sheet.{Item, kind, kind_of, member, zip}
use Rattle.flow.specs.Kinds.{kinds, opens, closes}
use Rattle.flow.specs.Refusals.{innermost, may_stand, open_after, pairs_up}
use Rattle.flow.specs.Tree.{Stmt, simple, do_block, while_loop, repeat_loop, for_loop, if_stmt, no_more, elseif, otherwise, Frame, Open, nothing_read, outer, in_front, opened, read, parse}
use Rattle.flow.specs.Admitted.{Tidy, Closed}
open kinds use {DO, WHILE, REPEAT, FOR, IF, ELSEIF, ELSE, END, UNTIL}

-- the statement that an opener of kind k makes of the block behind it
pub data Made (i : Item) (f : Frame) : ℕ → Stmt → Type 0 where
  a_do : kind i ≡ DO → Made i f DO (do_block i.word f.body)
  a_while : kind i ≡ WHILE → Made i f WHILE (while_loop i.word i.span f.body)
  a_repeat : kind i ≡ REPEAT → Made i f REPEAT (repeat_loop i.word f.body f.close)
  a_for : kind i ≡ FOR → Made i f FOR (for_loop i.word i.span f.body)
  an_if : kind i ≡ IF → Made i f IF (if_stmt i.word i.span f.body f.arms)

-- the kinds that open, close or go on
abbrev pub nests : ℕ → Bool
nests k = leb 1 k && leb k 9

-- with the kinds os open, the items is are as `pairs_up` asks, and are read to o
pub data Parsed : List ℕ → List Item → Open → Type 0 where
  nothing : Parsed [] [] (record { top = nothing_read; below = [] })
  opening : {os : List ℕ} {is : List Item} {o : Open} {i : Item} {k : ℕ} {st : Stmt} → Made i o.top k st → Parsed (k ∷ os) is o → Parsed os (i ∷ is) (in_front st (outer o))
  ending : {os : List ℕ} {is : List Item} {o : Open} {i : Item} {k : ℕ} → kind i ≡ END → eqb k REPEAT ≡ false → Parsed os is o → Parsed (k ∷ os) (i ∷ is) (opened no_more i.span o)
  until : {os : List ℕ} {is : List Item} {o : Open} {i : Item} → kind i ≡ UNTIL → Parsed os is o → Parsed (REPEAT ∷ os) (i ∷ is) (opened no_more i.span o)
  an_elseif : {os : List ℕ} {is : List Item} {o : Open} {i : Item} → kind i ≡ ELSEIF → Parsed (IF ∷ os) is o
      → Parsed (IF ∷ os) (i ∷ is) (opened (elseif i.word i.span o.top.body o.top.arms) 0 (outer o))
  an_else : {os : List ℕ} {is : List Item} {o : Open} {i : Item} → kind i ≡ ELSE → Parsed (ELSE ∷ os) is o
      → Parsed (IF ∷ os) (i ∷ is) (opened (otherwise i.word o.top.body o.top.arms) 0 (outer o))
  plain : {os : List ℕ} {is : List Item} {o : Open} {i : Item} → nests (kind i) ≡ false → Parsed os is o → Parsed os (i ∷ is) (in_front (simple i.word i.span) o)

-- ---- from the test to the relation

abbrev Positive : List ℕ → Type 0
Positive [] = Unit {0}
Positive (k ∷ os) = (1 ≤ k) × Positive os

positive_tail : (os : List ℕ) → Positive os → Positive (tail os)
positive_tail [] p = tt
positive_tail (k ∷ os) p = p.1

positive_after : (k : ℕ) (os : List ℕ) → Positive os → Positive (open_after k os)
unfolding open_after
positive_after k os p = go (opens k) (closes k) (eqb k ELSE) (λ e. leb-true 1 k (and_both _ _ e).0)
  where
    go : (a b c : Bool) → (a ≡ true → 1 ≤ k) → Positive (cond a (k ∷ os) (cond b (tail os) (cond c (ELSE ∷ tail os) os)))
    go true b c h = (h refl, p)
    go false true c h = positive_tail os p
    go false false true h = (omega arith, positive_tail os p)
    go false false false h = p

-- what is innermost stands first
first : (os : List ℕ) (k : ℕ) → eqb (innermost os) (suc k) ≡ true → os ≡ suc k ∷ tail os
first [] k e = absurd (omega (arith, eqb-true 0 (suc k) e))
first (l ∷ os) k e = rw (eqb-true l (suc k) e)

-- a kind above 9 neither opens nor closes nor makes an arm
other : (k : ℕ) → 9 < k → (j : ℕ) → leb j 9 ≡ true → eqb k j ≡ false
other k h j l = ne_eqb k j (λ e. omega (arith, leb-true j 9 l))

open_plain : (k : ℕ) (os : List ℕ) → 9 < k → open_after k os ≡ os
unfolding open_after
open_plain k os h = rw (le-leb 1 k (omega arith), lt-leb k 5 (omega arith), other k h 8 refl, other k h 9 refl, other k h 7 refl)

read_plain : (i : Item) (o : Open) → 9 < kind i → read i o ≡ in_front (simple i.word i.span) o
unfolding read
read_plain i o h =
    let n : (j : ℕ) → leb j 9 ≡ true → eqb (kind i) j ≡ false = other (kind i) h in
    rw (n 8 refl, n 9 refl, n 1 refl, n 2 refl, n 3 refl, n 4 refl, n 5 refl, n 6 refl, n 7 refl)

module _ (i : Item) (is : List Item) (o : Open) where
  end_step : (os : List ℕ) → kind i ≡ END → not (member (innermost os) (0 ∷ REPEAT ∷ [])) ≡ true → Parsed (tail os) is o → Parsed os (i ∷ is) (opened no_more i.span o)
  end_step [] e m p = absurd (false≢true m)
  end_step (k ∷ os) e m p = ending e (ne_eqb k REPEAT (λ q. false≢true (rw q at m))) p

  step : (k : ℕ) (os : List ℕ) → kind i ≡ k → may_stand k os ≡ true → Parsed (open_after k os) is o → Parsed os (i ∷ is) (read i o)
  unfolding may_stand open_after read
  step zero os e m p = rw e (plain {i = i} (rw e) p)
  step (suc zero) os e m p = rw e (opening (a_do e) p)
  step (suc (suc zero)) os e m p = rw e (opening (a_while e) p)
  step (suc (suc (suc zero))) os e m p = rw e (opening (a_repeat e) p)
  step (suc (suc (suc (suc zero)))) os e m p = rw e (opening (a_for e) p)
  step (suc (suc (suc (suc (suc zero))))) os e m p = rw e (opening (an_if e) p)
  step (suc (suc (suc (suc (suc (suc zero)))))) os e m p = let q = first os 4 m in rw (e, q) (an_elseif e (rw q at p))
  step (suc (suc (suc (suc (suc (suc (suc zero))))))) os e m p = rw (e, first os 4 m) (an_else e p)
  step (suc (suc (suc (suc (suc (suc (suc (suc zero)))))))) os e m p = rw e (end_step os e m p)
  step (suc (suc (suc (suc (suc (suc (suc (suc (suc zero))))))))) os e m p = rw (e, first os 2 m) (until e p)
  step (suc (suc (suc (suc (suc (suc (suc (suc (suc (suc n)))))))))) os e m p =
      let h : 9 < kind i = omega arith in
      rw read_plain (plain {i = i} (rw (le-leb 1 (kind i) (omega arith), lt-leb (kind i) 9 h)) (rw (← e, open_plain (kind i) os) at p))

pub parsed : (os : List ℕ) (is : List Item) → Positive os → pairs_up os is ≡ true → Parsed os is (parse is)
unfolding pairs_up parse
parsed [] [] n e = nothing
parsed (k ∷ os) [] n e = absurd (omega (arith, eqb-true k 0 e))
parsed os (i ∷ is) n e =
    let b = and_both (may_stand (kind i) os) (pairs_up (open_after (kind i) os) is) e in
    step i is (parse is) (kind i) os refl b.0 (parsed (open_after (kind i) os) is (positive_after (kind i) os n) b.1)

-- ---- the arms

-- the open blocks of the kinds os, but for those of an IF, have no arms, and each stands in another
Bare : List ℕ → Open → Type 0
Bare [] o = Unit {0}
Bare (k ∷ os) o = (k ≢ IF → o.top.arms ≡ no_more) × (o.below ≡ [] → ⊥) × Bare os (outer o)

some : {f : Frame} {fs : List Frame} → f ∷ fs ≡ [] → ⊥
some e = let z : ◌≡◌ {A = ℕ} 0 1 = cc in omega arith

bare_front : (os : List ℕ) (st : Stmt) (o : Open) → Bare os o → Bare os (in_front st o)
unfolding Bare in_front
bare_front [] st o b = tt
bare_front (k ∷ os) st o b = b

bare : {os : List ℕ} {is : List Item} {o : Open} → Parsed os is o → Bare os o
unfolding Bare opened
bare nothing = tt
bare (opening {os = os} {o = o} {st = st} m p) = bare_front os st (outer o) (bare p).2
bare (ending e n p) = (λ q. refl, some, bare p)
bare (until e p) = (λ q. refl, some, bare p)
bare (an_elseif e p) = (λ q. absurd (q refl), some, (bare p).2)
bare (an_else e p) = (λ q. absurd (q refl), some, (bare p).2)
bare (plain {os = os} {o = o} {i = i} h p) = bare_front os (simple i.word i.span) o (bare p)

-- ---- whatever the spans

-- the test goes by the kinds alone
pub pairs_kinds : (ks ss ts os : List ℕ) → length ss ≡ length ks → length ts ≡ length ks → pairs_up os (zip ks ss) ≡ pairs_up os (zip ks ts)
unfolding pairs_up
pairs_kinds [] ss ts os e f = refl
pairs_kinds (k ∷ ks) [] ts os e f = absurd (omega arith)
pairs_kinds (k ∷ ks) (s ∷ ss) [] os e f = absurd (omega arith)
pairs_kinds (k ∷ ks) (s ∷ ss) (t ∷ ts) os e f = rw (pairs_kinds ks ss ts (open_after (kind_of k) os) (omega arith) (omega arith))

open_opener : (k : ℕ) (os : List ℕ) → 1 ≤ k → k ≤ 4 → open_after k os ≡ k ∷ os
unfolding open_after
open_opener k os l h = rw (le-leb 1 k l, le-leb k 5 (omega arith))

-- what holds of the block that the item n opens
bare_at : (ks ss os : List ℕ) → length ss ≡ length ks → Positive os → pairs_up os (zip ks ss) ≡ true
    → (n : ℕ) → n < length ks → 1 ≤ kind_of (get_or ks n 0) → kind_of (get_or ks n 0) ≤ 4 → Bare (kind_of (get_or ks n 0) ∷ []) (parse (drop (suc n) (zip ks ss)))
unfolding pairs_up Bare
bare_at [] ss os e p u n h l m = absurd (omega arith)
bare_at (k ∷ ks) [] os e p u n h l m = absurd (omega arith)
bare_at (k ∷ ks) (s ∷ ss) os e p u zero h l m =
    let b = bare (parsed (open_after (kind_of k) os) (zip ks ss) (positive_after (kind_of k) os p) (and_both (may_stand (kind_of k) os) _ u).1) in
    let q = rw (open_opener (kind_of k) os l) at b in
    (q.0, q.1, tt)
bare_at (k ∷ ks) (s ∷ ss) os e p u (suc n) h l m =
    bare_at ks ss (open_after (kind_of k) os) (omega arith) (positive_after (kind_of k) os p) (and_both (may_stand (kind_of k) os) _ u).1 n (omega arith) l m

pub tidy : (ks ss : List ℕ) → length ss ≡ length ks → pairs_up [] (zip ks ss) ≡ true → Tidy ks
unfolding Bare
tidy ks ss e u ts f i h l m =
    rw add-one ((bare_at ks ts [] f tt (pairs_kinds ks ts ss [] f e ∙ u) i h l m).0 (λ q. omega arith))

pub closed : (ks ss : List ℕ) → length ss ≡ length ks → pairs_up [] (zip ks ss) ≡ true → Closed ks
unfolding Bare
closed ks ss e u ts f i h l m = rw add-one (bare_at ks ts [] f tt (pairs_kinds ks ts ss [] f e ∙ u) i h l m).1
