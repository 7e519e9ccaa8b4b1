-- How many labels are still to come in the open blocks: no more than there are in the items that are left.
-- Assumes nothing.
use mathlib.Core.Path.{◌≡◌, refl, sym, ap, ◌∙◌}
use mathlib.Core.List.{List, [], ◌∷◌, ◌++◌}
use mathlib.Core.Bool.{Bool, true, false, cond}
use Prim.Native.Nat.{ℕ, zero, suc, ◌+◌, ◌-◌, ◌≤◌, ◌<◌}
use native.Mathlib.Omega.{arith}
use lib.ListN.{length, take, drop, get_or, length-append, length-drop}
use lib.Seq.{get_or-drop, drop-drop}
use Rattle.flow.specs.Sheet.{Item, kind, kind_of, argument_of, zip}
use Rattle.flow.specs.Refusals.{one}
use Rattle.flow.specs.Tree.{Stmt, Arms, Frame, Open, simple, no_more, nothing_read, outer, in_front, opened, parse, label_name, labels_of}
use Rattle.flow.proofs.Nesting.{Made, a_do, a_while, a_repeat, a_for, an_if}
use Rattle.kinds.specs.Label.{is_label}
use Rattle.blocks.specs.Open.{open_at, to_come, labels_here, ends_at, depth_after, labels_in}
use Rattle.blocks.proofs.Scan.{here_other}
use Rattle.blocks.proofs.Parse.{drop_both, Reads, opener, arm, closer, other, reads}
use Rattle.label_sight.specs.Labels.{named, Unlabelled, frames_labels, labels_to_come}

-- ---- what an item adds

pub made_names : {i : Item} {f : Frame} {k : ℕ} {st : Stmt} → Made i f k st → label_name st ≡ []
made_names (a_do e) = refl
made_names (a_while e) = refl
made_names (a_repeat e) = refl
made_names (a_for e) = refl
made_names (an_if e) = refl

pub outer_to_come : (o : Open) → labels_to_come o ≡ length (labels_of o.top.body) + labels_to_come (outer o)
unfolding labels_to_come frames_labels labels_of
outer_to_come o = go o.below
  where
    go : (fs : List Frame) → length (labels_of o.top.body) + frames_labels fs ≡ length (labels_of o.top.body) + labels_to_come (elim fs [ [] ↦ record { top = nothing_read; below = [] } | g ∷ gs ↦ record { top = g; below = gs } ])
    go [] = refl
    go (f ∷ fs) = refl

pub front_to_come : (st : Stmt) (o : Open) → labels_to_come (in_front st o) ≡ length (label_name st) + labels_to_come o
unfolding labels_to_come in_front labels_of
front_to_come st o = omega (arith, length-append (label_name st) (labels_of o.top.body))

pub opened_to_come : (as' : Arms) (c : ℕ) (o : Open) → labels_to_come (opened as' c o) ≡ labels_to_come o
unfolding labels_to_come frames_labels opened labels_of
opened_to_come as' c o = omega arith

simple_to_come : (w s : ℕ) → length (label_name (simple w s)) ≡ one (is_label w)
simple_to_come w s = go (is_label w)
  where
    go : (t : Bool) → length (cond t (argument_of w ∷ []) []) ≡ one t
    go true = refl
    go false = refl

one_few : (t : Bool) → one t ≤ 1
one_few true = omega arith
one_few false = omega arith

pub simple_few : (w s : ℕ) → length (label_name (simple w s)) ≤ 1
simple_few w s = omega (arith, simple_to_come w s, one_few (is_label w))

read_to_come : {i : Item} {o p : Open} → Reads i o p → labels_to_come p ≤ one (is_label i.word) + labels_to_come o
read_to_come {o = o} (opener {st = st} m) = omega (arith, front_to_come st (outer o), ap length (made_names m), outer_to_come o)
read_to_come {o = o} (arm as') = omega (arith, opened_to_come as' 0 (outer o), outer_to_come o)
read_to_come {i} {o} closer = omega (arith, opened_to_come no_more i.span o)
read_to_come {i} {o} other = omega (arith, front_to_come (simple i.word i.span) o, simple_to_come i.word i.span)

-- those of one of the blocks are among them
pub frames_labels_law : (d : ℕ) (fs : List Frame) → length (labels_of (get_or fs d nothing_read).body) ≤ frames_labels fs
unfolding frames_labels labels_of
frames_labels_law d [] = omega arith
frames_labels_law zero (f ∷ fs) = omega arith
frames_labels_law (suc d) (f ∷ fs) = omega (arith, frames_labels_law d fs)

-- ---- what is left

to_come_law : (ks ss : List ℕ) → length ss ≡ length ks → labels_to_come (parse (zip ks ss)) ≤ named ks
unfolding named parse labels_to_come frames_labels labels_of
to_come_law [] ss e = omega arith
to_come_law (k ∷ ks) [] e = absurd (omega arith)
to_come_law (k ∷ ks) (s ∷ ss) e =
    let i : Item = record { word = k; span = s } in
    omega (arith, read_to_come (reads i (parse (zip ks ss)) (kind i) refl), to_come_law ks ss (omega arith))

to_come_at : (ks ss : List ℕ) → length ss ≡ length ks → (j : ℕ) → labels_to_come (open_at ks ss j) ≤ named (drop j ks)
unfolding open_at
to_come_at ks ss e j = rw (drop_both ks ss j e) (to_come_law (drop j ks) (drop j ss) (omega (arith, length-drop j ks, length-drop j ss)))

named_few : (ws : List ℕ) → named ws ≤ length ws
unfolding named
named_few [] = omega arith
named_few (w ∷ ws) = omega (arith, one_few (is_label w), named_few ws)

pub few_to_come : (ks ss : List ℕ) → length ss ≡ length ks → (j : ℕ) → labels_to_come (open_at ks ss j) ≤ length ks - j
few_to_come ks ss e j = omega (arith, to_come_at ks ss e j, named_few (drop j ks), length-drop j ks)

named_less : (m : ℕ) (ws : List ℕ) → named (drop m ws) ≤ named ws
unfolding named
named_less zero ws = omega arith
named_less (suc m) [] = omega arith
named_less (suc m) (w ∷ ws) = omega (arith, named_less m ws)

frame_labels : (d : ℕ) (o : Open) → length (to_come d o) ≤ labels_to_come o
unfolding labels_to_come
frame_labels zero o = omega arith
frame_labels (suc d) o = omega (arith, frames_labels_law d o.below)

-- past the last label no block has one
pub none_to_come : (ks ss : List ℕ) → length ss ≡ length ks → (end : ℕ) → Unlabelled ks end → (j : ℕ) → end ≤ j → (d : ℕ) → to_come d (open_at ks ss j) ≡ []
none_to_come ks ss e end u j h d = nil _ (omega (arith, frame_labels d (open_at ks ss j), to_come_at ks ss e j, less, u.none))
  where
    nil : (l : List ℕ) → length l ≤ 0 → l ≡ []
    nil [] q = refl
    nil (x ∷ l) q = absurd (omega arith)

    less : named (drop j ks) ≤ named (drop end ks)
    less = rw (← shift) (named_less (j - end) (drop end ks))
      where
        shift : drop (j - end) (drop end ks) ≡ drop j ks
        shift = let q : end + (j - end) ≡ j = omega arith in drop-drop (j - end) end ks ∙ ap (λ (n : ℕ). drop n ks) q

-- past the last label a scan finds none
in_nothing : (ws : List ℕ) → named ws ≡ 0 → (d : ℕ) → labels_in ws d ≡ []
unfolding named labels_in
in_nothing [] e d = refl
in_nothing (w ∷ ws) e d = go (ends_at (kind_of w) d) (here_other w d (not_one (is_label w) (omega (arith, e)))) (in_nothing ws (omega (arith, e)) (depth_after (kind_of w) d))
  where
    not_one : (t : Bool) → one t ≡ 0 → t ≡ false
    not_one true q = absurd (omega arith)
    not_one false q = refl

    go : (t : Bool) {xs ys : List ℕ} → xs ≡ [] → ys ≡ [] → cond t [] (xs ++ ys) ≡ []
    go true p q = refl
    go false p q = rw (p, q)

-- so that it need not look there
pub labels_cut : (ks : List ℕ) (end : ℕ) → named (drop end ks) ≡ 0 → (from d : ℕ) → labels_in (drop from (take end ks)) d ≡ labels_in (drop from ks) d
unfolding labels_in
labels_cut [] zero u from d = refl
labels_cut [] (suc end) u from d = refl
labels_cut (k ∷ ks) zero u zero d = sym (in_nothing (k ∷ ks) u d)
labels_cut (k ∷ ks) zero u (suc from) d = sym (in_nothing (drop from ks) (omega (arith, named_less (suc from) (k ∷ ks), u)) d)
labels_cut (k ∷ ks) (suc end) u zero d = ap (λ (z : List ℕ). cond (ends_at (kind_of k) d) [] (labels_here k d ++ z)) (labels_cut ks end u zero (depth_after (kind_of k) d))
labels_cut (k ∷ ks) (suc end) u (suc from) d = labels_cut ks end u from d

-- ---- the end of the labels

none_named : (ws : List ℕ) → ((k : ℕ) → k < length ws → is_label (get_or ws k 0) ≡ false) → named ws ≡ 0
unfolding named
none_named [] q = refl
none_named (w ∷ ws) q = let e = q 0 (omega arith) in let r = none_named ws (λ k a. q (suc k) (omega (arith, a))) in rw (e, r)

-- no item of the end is a label
pub none_from : (ks : List ℕ) (end : ℕ) → end ≤ length ks → ((k : ℕ) → end ≤ k → k < length ks → is_label (get_or ks k 0) ≡ false) → Unlabelled ks end
none_from ks end h q = record { within = h; none = none_named (drop end ks) (λ k a. ap is_label (get_or-drop end ks k 0) ∙ q (end + k) (omega arith) (omega (arith, a, length-drop end ks))) }
