-- The walk over the items: what each kind does to the blocks that are open, to the labels in sight, and to what is left to check.
-- Assumes nothing.
use mathlib.Core.Path.{◌≡◌, refl, sym, ap, ◌∙◌, subst}
use mathlib.Core.List.{List, [], ◌∷◌, ◌++◌, append-nil}
use mathlib.Core.Bool.{Bool, true, false, ◌&&◌, true≢false, and-true, or_comm}
use Prim.Native.Nat.{ℕ, ◌+◌, ◌-◌, ◌≤◌, ◌<◌}
use native.Mathlib.Omega.{arith}
use lib.ListN.{length, take, drop, get_or, length-append, length-take}
use lib.Seq.{take_at, get_or_at, drop-length}
use native.Mathlib.Decide.{ℕ_discrete}
use borrow.Author.Tests.{ne_eqb}
use Rattle.arrayvec.specs.ArrayVec.{ArrayVec, array_vec_len}
use Rattle.flow.specs.Sheet.{Item, kind, kind_of, argument_of, member, zip}
use Rattle.flow.specs.Kinds.{closes}
use Rattle.flow.specs.Tree.{Stmt, Arms, Frame, Open, simple, no_more, outer, in_front, opened, tree, labels_of}
use Rattle.flow.specs.Labels.{distinct, labels_fine_in, block_fine, arms_fine}
use Rattle.flow.proofs.Lookup.{one_of_append}
use Rattle.blocks.specs.Open.{item_at, open_at, labels_at}
use Rattle.blocks.proofs.Parse.{read_at, read_end, read_close, read_simple, read_opener}
use Rattle.label_sight.specs.declared.LabelStack.{LabelStack}
use Rattle.label_sight.specs.Labels.{labels_to_come, nothing_seen, opened_sight, next_arm, closed_sight, in_block, none_repeats, Entered}
use Rattle.label_sight.proofs.Names.{none_distinct}
use Rattle.label_sight.proofs.Scan.{entered_length}
use Rattle.label_check.specs.Walk.{visible, flat, bases, Holds, whole_fine, open_fine, outside_fine, Checkable, Entering, Walking, After}
use Rattle.label_sight.proofs.Named.{made_names, outer_to_come, front_to_come, opened_to_come, simple_few, few_to_come}
use Rattle.label_check.proofs.Fine.{Enters, front_fine, opener_fine, arm_fine, close_fine, end_fine, opener_enters, arm_enters, goto_fine, simple_fine}

-- ---- how many blocks are open

outer_below : (o : Open) → length o.below ≤ length (outer o).below + 1
outer_below o = go o.below
  where
    go : (fs : List Frame) → length fs ≤ length (outer (record { top = o.top; below = fs })).below + 1
    go [] = omega arith
    go (f ∷ fs) = omega arith

opened_below : (as' : Arms) (c : ℕ) (o : Open) → length (opened as' c o).below ≡ length o.below + 1
unfolding opened
opened_below as' c o = omega arith

front_below : (st : Stmt) (o : Open) → length (in_front st o).below ≡ length o.below
unfolding in_front
front_below st o = refl

-- ---- the labels in sight

bases_length : (ss : List (List ℕ)) → length (bases ss) ≡ length ss
unfolding bases
bases_length [] = refl
bases_length (s ∷ ss) = omega (arith, length-append (bases ss) (length (flat ss) ∷ []), bases_length ss)

-- in whichever order the blocks stand
pub one_of_flat : (a : ℕ) (ss : List (List ℕ)) → member a (flat ss) ≡ member a (visible ss)
unfolding flat visible
one_of_flat a [] = refl
one_of_flat a (s ∷ ss) =
    one_of_append a (flat ss) s ∙ rw (one_of_flat a ss) (or_comm (member a (visible ss)) (member a s)) ∙ sym (one_of_append a s (visible ss))

module _ {top : List ℕ} {around : List (List ℕ)} {x : LabelStack} (h : Holds top around x) where
  count : array_vec_len x.labels ≡ length (flat around) + length top
  count = omega (arith, ap length h.labels, length-append (flat around) top)

  depth : array_vec_len x.marks ≡ length around
  depth = omega (arith, ap length h.marks, bases_length around)

  pub base_count : x.base ≤ array_vec_len x.labels
  base_count = omega (arith, h.base, count)

  -- a block opened, and its next arm
  holds_opened : Holds [] (top ∷ around) (opened_sight x)
  unfolding flat bases
  holds_opened = record {
    labels = h.labels ∙ sym (append-nil (flat around ++ top));
    marks = rw (h.marks, h.base);
    base = ap length h.labels;
  }

  shorter : take x.base x.labels.items ≡ flat around
  shorter = ap (take x.base) h.labels ∙ take_at (flat around) top x.base (sym h.base)

  base_few : length (take x.base x.labels.items) ≤ array_vec_len x.labels
  base_few = omega (arith, length-take x.base x.labels.items)

  holds_arm : Holds [] around (next_arm x)
  holds_arm = record { labels = shorter ∙ sym (append-nil (flat around)); marks = h.marks; base = h.base }

-- the innermost block closed
module _ {top s : List ℕ} {around : List (List ℕ)} {x : LabelStack} (h : Holds top (s ∷ around) x) where
  under : length (bases around) ≡ array_vec_len x.marks - 1
  under = omega (arith, depth h, bases_length around)

  holds_closed : Holds s around (closed_sight x)
  unfolding flat bases
  holds_closed = record {
    labels = shorter h;
    marks = ap (take (array_vec_len x.marks - 1)) h.marks ∙ take_at (bases around) (length (flat around) ∷ []) (array_vec_len x.marks - 1) under;
    base = ap (λ (z : List ℕ). get_or z (array_vec_len x.marks - 1) 0) h.marks ∙ get_or_at (bases around) (length (flat around)) [] 0 (array_vec_len x.marks - 1) under;
  }

-- ---- a block entered

module _ {ks ss : List ℕ} {j : ℕ} {x : LabelStack} (n : Entering ks ss j x) where
  -- its labels have room
  entering_room : length ss ≡ length ks → length ks ≤ 1024 → j ≤ length ks → array_vec_len x.labels + length (labels_at ks ss j) ≤ 1024
  entering_room e few h = omega (arith, n.room, few_to_come ks ss e j)

  none_yet : in_block x ≡ []
  none_yet =
      ap (drop x.base) (n.holds.labels ∙ append-nil (flat n.around))
      ∙ ap (λ (z : ℕ). drop z (flat n.around)) n.holds.base
      ∙ drop-length (flat n.around)

  pub entered_after : {r : LabelStack} {fine : Bool} → Entered (labels_at ks ss j) x r → fine ≡ none_repeats (in_block x) (labels_at ks ss j) → After ks ss j fine r
  unfolding distinct
  entered_after {r} {fine} e o =
      let once : fine ≡ distinct (labels_at ks ss j) = o ∙ ap (λ (z : List ℕ). none_repeats z (labels_at ks ss j)) none_yet ∙ none_distinct [] (labels_at ks ss j) in
      let left : (b : Bool) → fine ≡ b → whole_fine (tree (zip ks ss)) ≡ (b && open_fine (open_at ks ss j) (labels_at ks ss j) n.around) = λ b t. n.left ∙ ap (λ (b : Bool). b && open_fine (open_at ks ss j) (labels_at ks ss j) n.around) (sym once ∙ t) in
      record {
        walking = λ t. record {
          top = labels_at ks ss j;
          around = n.around;
          holds = record {
            labels = e.labels ∙ ap (λ (z : List ℕ). z ++ labels_at ks ss j) (n.holds.labels ∙ append-nil (flat n.around));
            marks = ap (λ (z : ArrayVec ℕ). z.items) e.marks ∙ n.holds.marks;
            base = e.base ∙ n.holds.base;
          };
          opened = n.opened;
          closed = n.closed;
          room = omega (arith, entered_length e, n.room);
          left = left true t;
        };
        lost = left false;
      }

-- what `enter` asks, whatever the spans
pub enter_room : {ks : List ℕ} {j : ℕ} {x : LabelStack} → Checkable ks → j ≤ length ks → ((ss : List ℕ) → length ss ≡ length ks → Entering ks ss j x) → (ss : List ℕ) → length ss ≡ length ks → array_vec_len x.labels + length (labels_at ks ss j) ≤ 1024
enter_room c h n ss e = entering_room (n ss e) e c.few h

-- ---- by kind

arm_left : (o : Open) (as' : Arms) → Enters o (arms_fine as') → (left : List ℕ) (around : List (List ℕ)) → 1 ≤ length around
    → open_fine (opened as' 0 (outer o)) left around ≡ (distinct (labels_of o.top.body) && open_fine o (labels_of o.top.body) around)
arm_left o as' f left [] h = absurd (omega arith)
arm_left o as' f left (s ∷ around) h = arm_fine o s around as' f left

closer_kind : (k : ℕ) → 8 ≤ k → k ≤ 9 → closes k ≡ true
closer_kind k a b = elim (ℕ_discrete k 8) [ yes e ↦ rw e | no q ↦ let e : k ≡ 9 = omega arith in rw e ]

first_of : (around : List (List ℕ)) → 1 ≤ length around → (s : List ℕ) × (ss : List (List ℕ)) × (around ≡ s ∷ ss)
first_of [] h = absurd (omega arith)
first_of (s ∷ ss) h = (s, ss, refl)

module _ {ks ss : List ℕ} (e : length ss ≡ length ks) {j : ℕ} {x : LabelStack} (w : Walking ks ss j x) (h : j < length ks) where
  abbrev item : Item
  item = item_at ks ss j

  abbrev after : Open
  after = open_at ks ss (j + 1)

  pub few_open : Checkable ks → array_vec_len x.marks < 1024
  few_open c = omega (arith, depth w.holds, w.opened, c.few)

  -- an opener
  bare : Checkable ks → 1 ≤ kind_of (get_or ks j 0) → kind_of (get_or ks j 0) ≤ 4 → (open_at ks ss (j + 1)).top.arms ≡ no_more
  unfolding open_at
  bare c a k = c.tidy ss e j h a k

  pub open_entering : Checkable ks → 1 ≤ kind_of (get_or ks j 0) → kind_of (get_or ks j 0) ≤ 5 → {t : LabelStack} → t ≡ opened_sight x → Entering ks ss (j + 1) t
  open_entering c a b f =
      let r = read_opener item after (kind item) refl a b in
      let q : open_at ks ss j ≡ in_front r.0 (outer after) = read_at ks ss e j h ∙ r.2 in
      rw f
      (record {
        around = w.top ∷ w.around;
        holds = holds_opened w.holds;
        opened = omega (arith, w.opened);
        closed = omega (arith, w.closed, ap (λ (o : Open). length o.below) q, front_below r.0 (outer after), outer_below after);
        room = omega (arith, w.room, ap labels_to_come q, front_to_come r.0 (outer after), ap length (made_names r.1), outer_to_come after);
        left = w.left ∙ ap (λ (o : Open). open_fine o w.top w.around) q ∙ opener_fine after w.top w.around r.0 (opener_enters after r.1 (bare c a));
      })

  -- ELSEIF and ELSE
  pub arm_entering : 6 ≤ kind_of (get_or ks j 0) → kind_of (get_or ks j 0) ≤ 7 → {t : LabelStack} → t ≡ next_arm x → Entering ks ss (j + 1) t
  arm_entering a b f =
      let r = arm_enters item after a b in
      let q : open_at ks ss j ≡ opened r.0 0 (outer after) = read_at ks ss e j h ∙ r.1 in
      let below = ap (λ (o : Open). length o.below) q in
      let above : 1 ≤ length w.around = omega (arith, w.closed, below, opened_below r.0 0 (outer after)) in
      rw f
      (record {
        around = w.around;
        holds = holds_arm w.holds;
        opened = omega (arith, w.opened);
        closed = omega (arith, w.closed, below, opened_below r.0 0 (outer after), outer_below after);
        room = omega (arith, w.room, base_few w.holds, ap labels_to_come q, opened_to_come r.0 0 (outer after), outer_to_come after);
        left = w.left ∙ ap (λ (o : Open). open_fine o w.top w.around) q ∙ arm_left after r.0 r.2 w.top w.around above;
      })

  -- END and UNTIL
  module _ (a : 8 ≤ kind_of (get_or ks j 0)) (b : kind_of (get_or ks j 0) ≤ 9) where
    closing : open_at ks ss j ≡ opened no_more (get_or ss j 0) after
    closing = read_at ks ss e j h ∙ read_close item after (closer_kind (kind_of (get_or ks j 0)) a b)

    below_less : length (open_at ks ss j).below ≡ length after.below + 1
    below_less = ap (λ (o : Open). length o.below) closing ∙ opened_below no_more (get_or ss j 0) after

    pub close_open : 1 ≤ array_vec_len x.marks
    close_open = omega (arith, depth w.holds, w.closed, below_less)

    pub close_after : {t : LabelStack} → t ≡ closed_sight x → After ks ss (j + 1) true t
    close_after f =
        let q = first_of w.around (omega (arith, depth w.holds, close_open)) in
        let holds : Holds w.top (q.0 ∷ q.1) x = subst (λ (z : List (List ℕ)). Holds w.top z x) q.2 w.holds in
        let many = ap length q.2 in
        rw f
        (record {
          walking = λ t. record {
            top = q.0;
            around = q.1;
            holds = holds_closed holds;
            opened = omega (arith, w.opened, many);
            closed = omega (arith, w.closed, many, below_less);
            room = omega (arith, w.room, base_few w.holds, ap labels_to_come closing, opened_to_come no_more (get_or ss j 0) after);
            left = w.left ∙ ap (λ (o : Open). open_fine o w.top w.around) closing ∙ ap (open_fine (opened no_more (get_or ss j 0) after) w.top) q.2 ∙ close_fine (get_or ss j 0) after w.top q.0 q.1;
          };
          lost = λ t. absurd (true≢false t);
        })

  -- a statement with no block
  module _ (s : ((k : ℕ) → 1 ≤ k → k ≤ 9 → kind_of (get_or ks j 0) ≡ k → ⊥)) where
    abbrev here : Stmt
    here = simple (get_or ks j 0) (get_or ss j 0)

    passing : open_at ks ss j ≡ in_front here after
    passing = read_at ks ss e j h ∙ read_simple item after s

    simple_after : (f : Bool) → f ≡ labels_fine_in here (visible (w.top ∷ w.around)) → After ks ss (j + 1) f x
    simple_after f q =
        let left : (b : Bool) → f ≡ b → whole_fine (tree (zip ks ss)) ≡ (b && open_fine after w.top w.around) = λ b t. w.left ∙ ap (λ (o : Open). open_fine o w.top w.around) passing ∙ front_fine here after w.top w.around ∙ ap (λ (b : Bool). b && open_fine after w.top w.around) (sym q ∙ t) in
        record {
          walking = λ t. record {
            top = w.top;
            around = w.around;
            holds = w.holds;
            opened = omega (arith, w.opened);
            closed = omega (arith, w.closed, ap (λ (o : Open). length o.below) passing, front_below here after);
            room = omega (arith, w.room, ap labels_to_come passing, front_to_come here after, simple_few (get_or ks j 0) (get_or ss j 0));
            left = left true t;
          };
          lost = left false;
        }

    pub jump_after : kind_of (get_or ks j 0) ≡ 13 → {f : Bool} → f ≡ member (argument_of (get_or ks j 0)) x.labels.items → After ks ss (j + 1) f x
    unfolding flat
    jump_after k {f} e =
        simple_after f
        (e ∙ ap (member (argument_of (get_or ks j 0))) w.holds.labels ∙ one_of_flat (argument_of (get_or ks j 0)) (w.top ∷ w.around) ∙ sym (goto_fine (get_or ks j 0) (get_or ss j 0) (visible (w.top ∷ w.around)) k))

    pub other_after : (kind_of (get_or ks j 0) ≡ 13 → ⊥) → After ks ss (j + 1) true x
    other_after k = simple_after true (sym (simple_fine (get_or ks j 0) (get_or ss j 0) (visible (w.top ∷ w.around)) (ne_eqb (kind_of (get_or ks j 0)) 13 k)))

-- ---- the walk's start and end

module _ (ks ss : List ℕ) (e : length ss ≡ length ks) where
  pub walk_start : Checkable ks → {x : LabelStack} → x ≡ nothing_seen → Entering ks ss 0 x
  unfolding flat bases open_at open_fine outside_fine visible tree labels_to_come
  walk_start c q =
      rw q
      (record {
        around = [];
        holds = record { labels = refl; marks = refl; base = refl };
        opened = omega arith;
        closed = omega (arith, ap length (c.closed ss e));
        room = omega arith;
        left =
            ap (λ (z : List ℕ). distinct (labels_at ks ss 0) && block_fine (open_at ks ss 0).top.body z) (sym (append-nil (labels_at ks ss 0)))
            ∙ ap (λ (b : Bool). distinct (labels_at ks ss 0) && b) (sym (and-true (block_fine (open_at ks ss 0).top.body (labels_at ks ss 0 ++ []))));
      })

  pub walk_end : {j : ℕ} {x : LabelStack} → length ks ≤ j → Walking ks ss j x → true ≡ whole_fine (tree (zip ks ss))
  walk_end {j} {x} h w = sym (w.left ∙ ap (λ (o : Open). open_fine o w.top w.around) (read_end ks ss e j h) ∙ end_fine w.top w.around)

pub walk_lost : {ks ss : List ℕ} {j : ℕ} {x : LabelStack} {f : Bool} → f ≡ false → After ks ss j f x → false ≡ whole_fine (tree (zip ks ss))
walk_lost e a = sym (a.lost e)
