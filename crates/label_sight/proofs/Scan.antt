-- Labels that a scan finds directly in a block come in sight.
-- Assumes nothing.
use mathlib.Core.Path.{◌≡◌, refl, sym, ap, ◌∙◌}
use mathlib.Core.List.{List, [], ◌∷◌, ◌++◌, append_assoc, append-nil}
use mathlib.Core.Bool.{Bool, false, ◌&&◌, not}
use Prim.Native.Nat.{ℕ, ◌+◌, ◌≤◌}
use native.Mathlib.Omega.{arith}
use lib.ListN.{length, length-append}
use lib.Seq.{drop-append-le}
use Rattle.arrayvec.specs.ArrayVec.{array_vec_len}
use Rattle.flow.specs.Sheet.{member}
use Rattle.label_sight.specs.declared.LabelStack.{LabelStack}
use Rattle.label_sight.specs.Labels.{in_block, none_repeats, Entered}
use Rattle.label_sight.proofs.Names.{none_more}

pub entered_none : (x : LabelStack) → Entered [] x x
entered_none x = record { labels = sym (append-nil _); marks = refl; base = refl }

-- names that are entered after others
pub entered_trans : {as' bs : List ℕ} {x t r : LabelStack} → Entered as' x t → Entered bs t r → Entered (as' ++ bs) x r
entered_trans {as'} {bs} {x} p q = record {
  labels = q.labels ∙ ap (λ (z : List ℕ). z ++ bs) p.labels ∙ append_assoc x.labels.items as' bs;
  marks = q.marks ∙ p.marks;
  base = q.base ∙ p.base;
}

pub entered_length : {as' : List ℕ} {x r : LabelStack} → Entered as' x r → array_vec_len r.labels ≡ array_vec_len x.labels + length as'
entered_length {as'} {x} e = omega (arith, ap length e.labels, length-append x.labels.items as')

-- they are labels of the innermost block
pub entered_block : {as' : List ℕ} {x r : LabelStack} → x.base ≤ array_vec_len x.labels → Entered as' x r → in_block r ≡ in_block x ++ as'
entered_block {as'} {x} {r} h e = rw (e.labels, e.base) (drop-append-le x.base x.labels.items as' h)

-- and one label more is the first of its name or a repeat
pub entered_more : {as' : List ℕ} {x t : LabelStack} (a : ℕ) {b f r : Bool} → x.base ≤ array_vec_len x.labels → Entered as' x t → b ≡ none_repeats (in_block x) as' → f ≡ not (member a (in_block t)) → r ≡ (b && f) → r ≡ none_repeats (in_block x) (as' ++ (a ∷ []))
entered_more {as'} {x} a h e p q s = s ∙ rw (p, q, entered_block h e) (sym (none_more (in_block x) as' a))

-- behind a repeat no label more makes a difference
pub still_repeats : (xs as' : List ℕ) (a : ℕ) {b : Bool} → b ≡ none_repeats xs as' → b ≡ false → b ≡ none_repeats xs (as' ++ (a ∷ []))
still_repeats xs as' a p q = q ∙ sym (none_more xs as' a ∙ rw (sym p ∙ q) refl)
