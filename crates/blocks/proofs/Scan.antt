-- The scan for the labels that stand directly in a block.
-- Assumes nothing.
use mathlib.Core.Path.{◌≡◌, refl, sym, ap, ◌∙◌}
use mathlib.Core.List.{List, [], ◌∷◌, ◌++◌}
use mathlib.Core.Bool.{Bool, true, false, cond, ◌&&◌, not, true≢false, false≢true}
use Prim.Native.Nat.{ℕ, zero, suc, ◌+◌, ◌-◌, ◌≤◌, ◌<◌}
use native.Mathlib.Numerals.{add-one, sub-one}
use native.Mathlib.Omega.{arith}
use native.Mathlib.Decide.{ℕ_discrete}
use lib.ListN.{length, drop, get_or, length-drop}
use lib.Dec.{eqb, leb, eqb-suc-zero}
use borrow.Author.Tests.{ne_eqb, le-leb, lt-leb, eqb-true, leb-true}
use Rattle.search.proofs.Bools.{and_both}
use Rattle.flow.specs.Sheet.{Item, kind, kind_of, argument_of, zip}
use Rattle.flow.specs.Kinds.{kinds, closes, opens}
use Rattle.flow.specs.Tree.{Stmt, Arms, Frame, Open, simple, do_block, while_loop, repeat_loop, for_loop, if_stmt, no_more, elseif, otherwise, nothing_read, outer, in_front, opened, read, parse, label_name, labels_of}
use Rattle.flow.specs.Locals.{only_if}
use Rattle.kinds.specs.Label.{is_label}
use Rattle.blocks.specs.Open.{open_at, labels_at, frame_at, to_come, labels_here, Ender, ends_at, depth_after, labels_in}
use Rattle.blocks.proofs.Parse.{drop_both, read_close, read_do, read_while, read_repeat, read_for, read_if, read_elseif, read_else, read_simple}
open kinds use {LABEL}

-- ---- frames

frame_outer : (d : ℕ) (o : Open) → frame_at d (outer o) ≡ frame_at (suc d) o
frame_outer d o = go d o.below
  where
    go : (d : ℕ) (fs : List Frame) → frame_at d (elim fs [ [] ↦ record { top = nothing_read; below = [] } | f ∷ gs ↦ record { top = f; below = gs } ]) ≡ get_or fs d nothing_read
    go zero [] = refl
    go zero (f ∷ fs) = refl
    go (suc d) [] = refl
    go (suc d) (f ∷ fs) = refl

frame_opened : (d : ℕ) (as' : Arms) (c : ℕ) (o : Open) → frame_at (suc d) (opened as' c o) ≡ frame_at d o
unfolding opened
frame_opened zero as' c o = refl
frame_opened (suc d) as' c o = refl

front_labels : (d : ℕ) (st : Stmt) (o : Open) → to_come d (in_front st o) ≡ only_if (eqb d 0) (label_name st) ++ to_come d o
unfolding in_front labels_of
front_labels zero st o = refl
front_labels (suc d) st o = rw (eqb-suc-zero d)

opened_labels : (as' : Arms) (c : ℕ) (o : Open) → to_come 0 (opened as' c o) ≡ []
unfolding opened labels_of
opened_labels as' c o = refl

opener_labels : (d : ℕ) (st : Stmt) (o : Open) → label_name st ≡ [] → to_come d (in_front st (outer o)) ≡ to_come (suc d) o
opener_labels d st o e = front_labels d st (outer o) ∙ rw e (go (eqb d 0)) ∙ ap (λ (f : Frame). labels_of f.body) (frame_outer d o)
  where
    go : (t : Bool) → only_if {A = ℕ} t [] ++ to_come d (outer o) ≡ to_come d (outer o)
    go true = refl
    go false = refl

here_none : (w d : ℕ) → eqb (kind_of w) LABEL ≡ false → labels_here w d ≡ []
unfolding labels_here
here_none w d e = rw e (go (eqb d 0))
  where
    go : (t : Bool) → only_if (t && false) (argument_of w ∷ []) ≡ []
    go true = refl
    go false = refl

here_simple : (w s d : ℕ) → only_if (eqb d 0) (label_name (simple w s)) ≡ labels_here w d
unfolding labels_here
here_simple w s d = go (eqb d 0) (eqb (kind_of w) LABEL && not (eqb (argument_of w) 0))
  where
    go : (t u : Bool) → only_if t (cond u (argument_of w ∷ []) []) ≡ only_if (t && u) (argument_of w ∷ [])
    go true true = refl
    go true false = refl
    go false u = refl

-- ---- one item of the scan

abbrev Goes : Item → Open → ℕ → Type 0
Goes i o d = to_come d (read i o) ≡ labels_here i.word d ++ to_come (depth_after (kind i) d) o

module _ (i : Item) (o : Open) where
  opener_goes : (k : ℕ) (st : Stmt) → kind i ≡ k → opens k ≡ true → eqb k LABEL ≡ false → label_name st ≡ [] → read i o ≡ in_front st (outer o) → (d : ℕ) → Goes i o d
  unfolding depth_after
  opener_goes k st e p l n r d =
      rw (r, here_none i.word d (ap (λ (z : ℕ). eqb z LABEL) e ∙ l), e, p, add-one) (opener_labels d st o n)

  closer_goes : (k : ℕ) → kind i ≡ k → closes k ≡ true → opens k ≡ false → eqb k LABEL ≡ false → (d : ℕ) → Goes i o (suc d)
  unfolding depth_after
  closer_goes k e p q l d =
      rw (read_close i o (ap closes e ∙ p), here_none i.word (suc d) (ap (λ (z : ℕ). eqb z LABEL) e ∙ l), e, p, q, sub-one)
      (ap (λ (f : Frame). labels_of f.body) (frame_opened d no_more i.span o))

  arm_goes : (k : ℕ) (as' : Arms) → kind i ≡ k → closes k ≡ false → opens k ≡ false → eqb k LABEL ≡ false → read i o ≡ opened as' 0 (outer o) → (d : ℕ) → Goes i o (suc d)
  unfolding depth_after
  arm_goes k as' e p q l r d =
      rw (r, here_none i.word (suc d) (ap (λ (z : ℕ). eqb z LABEL) e ∙ l), e, p, q)
      (ap (λ (f : Frame). labels_of f.body) (frame_opened d as' 0 (outer o) ∙ frame_outer d o))

  -- kinds that open and close nothing
  simple_goes : (k : ℕ) → kind i ≡ k → closes k ≡ false → opens k ≡ false → read i o ≡ in_front (simple i.word i.span) o → (d : ℕ) → Goes i o d
  unfolding depth_after
  simple_goes k e p q r d = rw (r, e, p, q) (front_labels d (simple i.word i.span) o ∙ rw (here_simple i.word i.span d))

large_closes : (k : ℕ) → 9 < k → closes k ≡ false
large_closes k h = rw (ne_eqb k 8 (λ e. omega arith), ne_eqb k 9 (λ e. omega arith))

large_opens : (k : ℕ) → 9 < k → opens k ≡ false
large_opens k h = rw (le-leb 1 k (omega arith), lt-leb k 5 (omega arith))

large_goes : (i : Item) (o : Open) (d : ℕ) → 9 < kind i → Goes i o d
large_goes i o d h =
    simple_goes i o (kind i) refl (large_closes (kind i) h) (large_opens (kind i) h) (read_simple i o (λ k a b e. omega arith)) d

-- an item that does not end the block, by its kind
scan_by : (i : Item) (o : Open) (k : ℕ) → kind i ≡ k → (d : ℕ) → ends_at k d ≡ false → Goes i o d
unfolding ends_at
scan_by i o zero e d h = simple_goes i o 0 e refl refl (read_simple i o (λ k a b q. omega arith)) d
scan_by i o (suc zero) e d h = opener_goes i o 1 (do_block i.word o.top.body) e refl refl refl (read_do i o e) d
scan_by i o (suc (suc zero)) e d h = opener_goes i o 2 (while_loop i.word i.span o.top.body) e refl refl refl (read_while i o e) d
scan_by i o (suc (suc (suc zero))) e d h = opener_goes i o 3 (repeat_loop i.word o.top.body o.top.close) e refl refl refl (read_repeat i o e) d
scan_by i o (suc (suc (suc (suc zero)))) e d h = opener_goes i o 4 (for_loop i.word i.span o.top.body) e refl refl refl (read_for i o e) d
scan_by i o (suc (suc (suc (suc (suc zero))))) e d h = opener_goes i o 5 (if_stmt i.word i.span o.top.body o.top.arms) e refl refl refl (read_if i o e) d
scan_by i o (suc (suc (suc (suc (suc (suc zero)))))) e zero h = absurd (true≢false h)
scan_by i o (suc (suc (suc (suc (suc (suc zero)))))) e (suc d) h = arm_goes i o 6 (elseif i.word i.span o.top.body o.top.arms) e refl refl refl (read_elseif i o e) d
scan_by i o (suc (suc (suc (suc (suc (suc (suc zero))))))) e zero h = absurd (true≢false h)
scan_by i o (suc (suc (suc (suc (suc (suc (suc zero))))))) e (suc d) h = arm_goes i o 7 (otherwise i.word o.top.body o.top.arms) e refl refl refl (read_else i o e) d
scan_by i o (suc (suc (suc (suc (suc (suc (suc (suc zero)))))))) e zero h = absurd (true≢false h)
scan_by i o (suc (suc (suc (suc (suc (suc (suc (suc zero)))))))) e (suc d) h = closer_goes i o 8 e refl refl refl d
scan_by i o (suc (suc (suc (suc (suc (suc (suc (suc (suc zero))))))))) e zero h = absurd (true≢false h)
scan_by i o (suc (suc (suc (suc (suc (suc (suc (suc (suc zero))))))))) e (suc d) h = closer_goes i o 9 e refl refl refl d
scan_by i o (suc (suc (suc (suc (suc (suc (suc (suc (suc (suc n)))))))))) e d h = large_goes i o d (omega arith)

pub scan_on : (i : Item) (o : Open) (d : ℕ) → ends_at (kind i) d ≡ false → Goes i o d
scan_on i o d h = scan_by i o (kind i) refl d h

-- ---- an item that ends the block

pub ends : (k : ℕ) → ends_at k 0 ≡ true → Ender k
unfolding ends_at
ends k e = let p = and_both (leb 6 k) (leb k 9) e in record { least = leb-true 6 k p.0; most = leb-true k 9 p.1 }

pub ends_not : (k : ℕ) → ends_at k 0 ≡ false → Ender k → ⊥
unfolding ends_at
ends_not k e n = true≢false (sym (rw (le-leb 6 k n.least, le-leb k 9 n.most)) ∙ e)

pub ender_closes : {k : ℕ} → Ender k → (k ≡ 6 → ⊥) → (k ≡ 7 → ⊥) → closes k ≡ true
ender_closes {k} n p q = elim (ℕ_discrete k 8) [ yes e ↦ rw e | no r ↦ let e : k ≡ 9 = omega (arith, n.least, n.most) in rw e ]

pub ends_deep : (k d : ℕ) → (d ≡ 0 → ⊥) → ends_at k d ≡ false
unfolding ends_at
ends_deep k d q = rw (ne_eqb d 0 q)

pub scan_end : (i : Item) (o : Open) (d : ℕ) → ends_at (kind i) d ≡ true → to_come d (read i o) ≡ []
scan_end i o zero h = go (ℕ_discrete (kind i) 6) (ℕ_discrete (kind i) 7)
  where
    go : Dec (kind i ≡ 6) → Dec (kind i ≡ 7) → to_come 0 (read i o) ≡ []
    go (yes e) q = rw (read_elseif i o e) (opened_labels _ 0 (outer o))
    go (no p) (yes e) = rw (read_else i o e) (opened_labels _ 0 (outer o))
    go (no p) (no q) = rw (read_close i o (ender_closes (ends (kind i) h) p q)) (opened_labels no_more i.span o)
scan_end i o (suc d) h = absurd (false≢true (sym (ends_deep (kind i) (suc d) (λ e. omega arith)) ∙ h))

-- ---- the label that an item is

pub here_other : (w d : ℕ) → is_label w ≡ false → labels_here w d ≡ []
unfolding labels_here
here_other w d q = rw q (go (eqb d 0))
  where
    go : (t : Bool) → only_if (t && false) (argument_of w ∷ []) ≡ []
    go true = refl
    go false = refl

pub label_kind : (w : ℕ) → is_label w ≡ true → kind_of w ≡ 12
label_kind w e = eqb-true (kind_of w) 12 (go (eqb (kind_of w) LABEL) (not (eqb (argument_of w) 0)) e)
  where
    go : (t u : Bool) → (t && u) ≡ true → t ≡ true
    go true u q = refl
    go false u q = q

-- ---- the labels that a scan has left

in_parse : (ks ss : List ℕ) → length ss ≡ length ks → (d : ℕ) → labels_in ks d ≡ to_come d (parse (zip ks ss))
unfolding labels_in parse labels_of
in_parse [] ss e zero = refl
in_parse [] ss e (suc d) = refl
in_parse (k ∷ ks) [] e d = absurd (omega arith)
in_parse (k ∷ ks) (s ∷ ss) e d = go (ends_at (kind_of k) d) refl (in_parse ks ss (omega arith) (depth_after (kind_of k) d))
  where
    i : Item
    i = record { word = k; span = s }

    o : Open
    o = parse (zip ks ss)

    go : (b : Bool) → ends_at (kind_of k) d ≡ b → labels_in ks (depth_after (kind_of k) d) ≡ to_come (depth_after (kind_of k) d) o → cond b [] (labels_here k d ++ labels_in ks (depth_after (kind_of k) d)) ≡ to_come d (read i o)
    go true q more = sym (scan_end i o d q)
    go false q more = ap (λ (z : List ℕ). labels_here k d ++ z) more ∙ sym (scan_on i o d q)

-- they are those that stand directly in the block, whatever the spans
pub labels_law : (ks ss : List ℕ) → length ss ≡ length ks → (j : ℕ) → labels_in (drop j ks) 0 ≡ labels_at ks ss j
unfolding open_at
labels_law ks ss e j = rw (drop_both ks ss j e) (in_parse (drop j ks) (drop j ss) (omega (arith, length-drop j ks, length-drop j ss)) 0)

-- ---- an item scanned

pub in_none : {ws : List ℕ} (d : ℕ) → ws ≡ [] → labels_in ws d ≡ []
unfolding labels_in
in_none d e = rw e

pub in_end : {ws ks : List ℕ} {k : ℕ} (d : ℕ) → ws ≡ k ∷ ks → ends_at (kind_of k) d ≡ true → labels_in ws d ≡ []
unfolding labels_in
in_end d h e = rw (h, e)

-- any other item gives the label that it is in the block, if it is one
pub in_next : {ws ks : List ℕ} {k n : ℕ} (d : ℕ) → ws ≡ k ∷ ks → ends_at (kind_of k) d ≡ false → n ≡ depth_after (kind_of k) d → labels_in ws d ≡ labels_here k d ++ labels_in ks n
unfolding labels_in
in_next d h e m = rw (h, e, m)

pub depth_most : {n : ℕ} (k d : ℕ) → n ≡ depth_after k d → n ≤ d + 1
unfolding depth_after
depth_most k d e = rw e (go (opens k) (closes k))
  where
    go : (t u : Bool) → cond t (d + 1) (cond u (d - 1) d) ≤ d + 1
    go true u = omega arith
    go false true = omega arith
    go false false = omega arith
