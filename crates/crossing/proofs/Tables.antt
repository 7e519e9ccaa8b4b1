-- A use crosses by the nearest Function over its scope, and by whether the name's scope stands before that; and a jump up passes no scope that is asked for.
-- Assumes nothing.
use Rattle.std.specs.Prelude.{Option, Some, None}
use mathlib.Core.Path.{◌≡◌, refl, sym, ap, ◌∙◌}
use mathlib.Core.Bool.{Bool, true, false, cond, not}
use mathlib.Core.List.{List}
use Prim.Native.Nat.{ℕ, zero, suc, ◌+◌, ◌≤◌, ◌<◌}
use native.Mathlib.Omega.{arith}
use native.Mathlib.Decide.{ℕ_discrete}
use lib.ListN.{get_or}
use lib.Dec.{eqb, ltb}
use borrow.Author.Tests.{eq-eqb, ne_eqb, ltb-false, le-ltb, lt-ltb}
use Rattle.flow.specs.Scopes.{FUNCTION, Lower, crosses}
use Rattle.crossing.specs.Tables.{parent_in, function_over, is_over, Over, here, up}

-- what the nearest Function over a scope, and whether the name's scope is over it, tell of a use
abbrev tells_of : ℕ → Option ℕ → Bool → Bool
tells_of name None over = false
tells_of name (Some f) over = cond (ltb name f) true (not over)

-- a Function has no higher number than s
abbrev AtMost : ℕ → Option ℕ → Type 0
AtMost s None = Unit {0}
AtMost s (Some f) = f ≤ s

tells_no : (name : ℕ) (f : Option ℕ) → AtMost name f → tells_of name f true ≡ false
tells_no name None h = refl
tells_no name (Some f) h = rw (le-ltb name f h)

below_most : {p s : ℕ} (f : Option ℕ) → p ≤ s → AtMost p f → AtMost s f
below_most None l h = tt
below_most (Some f) l h = omega arith

module _ (kinds parents : List ℕ) (low : Lower parents) where
  -- nor has one over it
  function_low : (k s : ℕ) → AtMost s (function_over k kinds parents s)
  unfolding function_over
  function_low zero s = tt
  function_low (suc k) s = by_kind (eqb (get_or kinds s 0) FUNCTION) (get_or parents s 0) (low s) (function_low k)
    where
      by_parent : (w : ℕ) → w ≤ s → ((p : ℕ) → AtMost p (function_over k kinds parents p)) → AtMost s (elim w [ zero ↦ None | suc p ↦ function_over k kinds parents p ])
      by_parent zero l rest = tt
      by_parent (suc p) l rest = below_most (function_over k kinds parents p) (omega arith) (rest p)

      by_kind : (b : Bool) (w : ℕ) → w ≤ s → ((p : ℕ) → AtMost p (function_over k kinds parents p)) → AtMost s (cond b (Some s) (elim w [ zero ↦ None | suc p ↦ function_over k kinds parents p ]))
      by_kind true w l rest = omega arith
      by_kind false w l rest = by_parent w l rest

  -- a scope of a higher number is not over s
  not_over : (k name s : ℕ) → s < name → is_over k parents name s ≡ false
  unfolding is_over
  not_over zero name s h = refl
  not_over (suc k) name s h = rw (ne_eqb s name (λ e. omega arith)) (by_parent (get_or parents s 0) (low s) (not_over k name))
    where
      by_parent : (w : ℕ) → w ≤ s → ((p : ℕ) → p < name → is_over k parents name p ≡ false) → elim w [ zero ↦ false | suc p ↦ is_over k parents name p ] ≡ false
      by_parent zero l rest = refl
      by_parent (suc p) l rest = rest p (omega arith)

  tells_yes : (k name s : ℕ) → (s ≡ name → ⊥) → true ≡ tells_of name (Some s) (is_over k parents name s)
  tells_yes k name s n = by_order (ltb name s) refl
    where
      by_order : (b : Bool) → ltb name s ≡ b → true ≡ cond b true (not (is_over k parents name s))
      by_order true e = refl
      by_order false e = rw (not_over k name s (omega (arith, ltb-false name s e)))

  module _ (k name s : ℕ) (rest : (p : ℕ) → p < s → crosses k kinds parents name p ≡ tells_of name (function_over k kinds parents p) (is_over k parents name p)) where
    by_parent : (w : ℕ) → get_or parents s 0 ≡ w → elim w [ zero ↦ false | suc p ↦ crosses k kinds parents name p ] ≡ tells_of name (elim w [ zero ↦ None | suc p ↦ function_over k kinds parents p ]) (elim w [ zero ↦ false | suc p ↦ is_over k parents name p ])
    by_parent zero e = refl
    by_parent (suc p) e = rest p (omega (arith, low s, e))

    at_function : (s ≡ name → ⊥) → eqb (get_or kinds s 0) FUNCTION ≡ true → crosses (suc k) kinds parents name s ≡ true
    unfolding crosses
    at_function n e = rw (ne_eqb s name n, e)

    function_here : eqb (get_or kinds s 0) FUNCTION ≡ true → function_over (suc k) kinds parents s ≡ Some s
    unfolding function_over
    function_here e = rw e

    further_up : (s ≡ name → ⊥) → eqb (get_or kinds s 0) FUNCTION ≡ false → crosses (suc k) kinds parents name s ≡ tells_of name (function_over (suc k) kinds parents s) (is_over (suc k) parents name s)
    unfolding crosses function_over is_over
    further_up n e = rw (ne_eqb s name n, e) (by_parent (get_or parents s 0) refl)

    by_kind : (s ≡ name → ⊥) → (b : Bool) → eqb (get_or kinds s 0) FUNCTION ≡ b → crosses (suc k) kinds parents name s ≡ tells_of name (function_over (suc k) kinds parents s) (is_over (suc k) parents name s)
    by_kind n true e = at_function n e ∙ tells_yes (suc k) name s n ∙ ap (λ (f : Option ℕ). tells_of name f (is_over (suc k) parents name s)) (sym (function_here e))
    by_kind n false e = further_up n e

    one_more : crosses (suc k) kinds parents name s ≡ tells_of name (function_over (suc k) kinds parents s) (is_over (suc k) parents name s)
    unfolding crosses is_over
    one_more = elim (ℕ_discrete s name) [
      | yes e ↦ rw (eq-eqb s name e) (sym (tells_no name (function_over (suc k) kinds parents s) (below_most (function_over (suc k) kinds parents s) (omega arith) (function_low (suc k) s))))
      | no n ↦ by_kind n (eqb (get_or kinds s 0) FUNCTION) refl
    ]

  crosses_by_tables : (k name s : ℕ) → s < k → crosses k kinds parents name s ≡ tells_of name (function_over k kinds parents s) (is_over k parents name s)
  crosses_by_tables zero name s h = absurd (omega arith)
  crosses_by_tables (suc k) name s h = one_more k name s (λ p l. crosses_by_tables k name p (omega arith))

  -- and by the Function f that is noted of s
  module _ (name s : ℕ) {f : Option ℕ} (t : (k : ℕ) → s < k → f ≡ function_over k kinds parents s) where
    by_noted : {g : Option ℕ} → f ≡ g → (k : ℕ) → s < k → tells_of name g (is_over k parents name s) ≡ crosses k kinds parents name s
    by_noted e k h = ap (λ (g : Option ℕ). tells_of name g (is_over k parents name s)) (sym e ∙ t k h) ∙ sym (crosses_by_tables k name s h)

    pub crosses_none : f ≡ None → (k : ℕ) → s < k → false ≡ crosses k kinds parents name s
    crosses_none e k h = by_noted e k h

    module _ {g : ℕ} (e : f ≡ Some g) where
      pub crosses_past : name < g → (k : ℕ) → s < k → true ≡ crosses k kinds parents name s
      crosses_past l k h = sym (rw (lt-ltb name g l)) ∙ by_noted e k h

      pub crosses_unless_over : g ≤ name → {b : Bool} → ((k : ℕ) → s < k → b ≡ is_over k parents name s) → (k : ℕ) → s < k → not b ≡ crosses k kinds parents name s
      crosses_unless_over l {b} o k h = ap not (o k h) ∙ sym (rw (le-ltb name g l)) ∙ by_noted e k h

-- ---- parents

pub no_parent : (parents : List ℕ) (s : ℕ) → parent_in parents s ≡ None → get_or parents s 0 ≡ 0
no_parent parents s e = go (get_or parents s 0) e
  where
    go : (w : ℕ) → elim w as (λ (v : ℕ). Option ℕ) [ zero ↦ None | suc p ↦ Some p ] ≡ None → w ≡ 0
    go zero q = refl
    go (suc p) q = cc

pub some_parent : (parents : List ℕ) (s : ℕ) {p : ℕ} → parent_in parents s ≡ Some p → get_or parents s 0 ≡ p + 1
some_parent parents s {p} e = go (get_or parents s 0) e
  where
    go : (w : ℕ) → elim w as (λ (v : ℕ). Option ℕ) [ zero ↦ None | suc n ↦ Some n ] ≡ Some p → w ≡ p + 1
    go zero q = cc
    go (suc n) q = let z : n ≡ p = cc in omega arith

-- ---- jumps

abbrev onward : (ℕ → Bool) → ℕ → Bool
onward told w = elim w [ zero ↦ false | suc p ↦ told p ]

module _ (parents : List ℕ) (low : Lower parents) where
  pub over_low : {s t : ℕ} → Over parents s t → t ≤ s
  over_low here = omega arith
  over_low {s} (up e o) = omega (arith, low s, e, over_low o)

  pub over_trans : {s t v : ℕ} → Over parents s t → Over parents t v → Over parents s v
  over_trans here q = q
  over_trans (up e o) q = up e (over_trans o q)

  -- as many scopes as are enough make no difference
  over_same : (k j name s : ℕ) → s < k → s < j → is_over k parents name s ≡ is_over j parents name s
  unfolding is_over
  over_same zero j name s h l = absurd (omega arith)
  over_same (suc k) zero name s h l = absurd (omega arith)
  over_same (suc k) (suc j) name s h l = ap (cond (eqb s name) true) (by_parent (get_or parents s 0) (low s) (λ p q. over_same k j name p (omega arith) (omega arith)))
    where
      by_parent : (w : ℕ) → w ≤ s → ((p : ℕ) → p < s → is_over k parents name p ≡ is_over j parents name p) → onward (is_over k parents name) w ≡ onward (is_over j parents name) w
      by_parent zero q rest = refl
      by_parent (suc p) q rest = rest p (omega arith)

  one_up : (k name s p : ℕ) → (s ≡ name → ⊥) → get_or parents s 0 ≡ p + 1 → is_over (suc k) parents name s ≡ is_over k parents name p
  unfolding is_over
  one_up k name s p n e = let z : get_or parents s 0 ≡ suc p = e ∙ omega arith in rw (ne_eqb s name n, z)

  -- a jump to a scope that is not below the name's passes it by
  pub over_jump : (k j name : ℕ) {s t : ℕ} → Over parents s t → name ≤ t → s < k → t < j → is_over k parents name s ≡ is_over j parents name t
  over_jump k j name {s} here h l m = over_same k j name s l m
  over_jump zero j name (up e o) h l m = absurd (omega arith)
  over_jump (suc k) j name {s} (up {p = p} e o) h l m =
      one_up k name s p (λ q. omega (arith, low s, e, over_low o)) e ∙ over_jump k j name o h (omega (arith, low s, e)) m

  is_it : (k name s : ℕ) → s ≡ name → is_over (suc k) parents name s ≡ true
  unfolding is_over
  is_it k name s e = rw (eq-eqb s name e)

  -- at a scope that is not above the name's, and at a root
  pub over_at : (name s : ℕ) → s ≤ name → (k : ℕ) → s < k → eqb s name ≡ is_over k parents name s
  over_at name s h zero l = absurd (omega arith)
  over_at name s h (suc k) l = elim (ℕ_discrete s name) [ yes e ↦ eq-eqb s name e ∙ sym (is_it k name s e) | no n ↦ ne_eqb s name n ∙ sym (not_over parents parents low (suc k) name s (omega arith)) ]

  pub over_root : (name s : ℕ) → name < s → get_or parents s 0 ≡ 0 → (k : ℕ) → s < k → false ≡ is_over k parents name s
  unfolding is_over
  over_root name s h e zero l = absurd (omega arith)
  over_root name s h e (suc k) l = rw (ne_eqb s name (λ q. omega arith), e)

  pub over_parent : (name s p : ℕ) → name < s → get_or parents s 0 ≡ p + 1 → {b : Bool} → ((k : ℕ) → p < k → b ≡ is_over k parents name p) → (k : ℕ) → s < k → b ≡ is_over k parents name s
  over_parent name s p h e t zero l = absurd (omega arith)
  over_parent name s p h e t (suc k) l = t k (omega (arith, low s, e)) ∙ sym (one_up k name s p (λ q. omega arith) e)

  pub over_by_jump : (name s t : ℕ) → Over parents s t → name ≤ t → {b : Bool} → ((k : ℕ) → t < k → b ≡ is_over k parents name t) → (k : ℕ) → s < k → b ≡ is_over k parents name s
  over_by_jump name s t o h q k l = q (suc t) (omega arith) ∙ sym (over_jump k (suc t) name o h l (omega arith))
