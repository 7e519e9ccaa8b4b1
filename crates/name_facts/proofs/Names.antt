-- A name's facts by its values, and the names of a sheet are those of its kind words.
-- Assumes nothing.
use Prim.Native.Nat.{ℕ, zero, suc, ◌+◌, ◌<◌, ◌≤◌}
use mathlib.Core.Path.{subst, ◌≡◌, refl, sym, ap, ◌∙◌}
use mathlib.Core.Bool.{Bool, true, false, cond}
use mathlib.Core.List.{List, [], ◌∷◌, ◌++◌, append_assoc, append-nil, map, map-append}
use native.Mathlib.Omega.{arith}
use native.Mathlib.Numerals.{add-one}
use borrow.Author.Tests.{eq-eqb, ne_eqb}
use lib.Dec.{eqb}
use lib.ListN.{length-set, length, get_or, set, take, drop, length-map, drop_of_length-le}
use lib.Seq.{get_or-take, drop-cons, drop-drop, take-suc-set, drop-set-lt, length-take-le}
use Rattle.flow.specs.Sheet.{kind_of, argument_of, kind_words, span_words, zip}
use Rattle.flow.specs.Kinds.{kinds}
use Rattle.flow.specs.Locals.{Local, no_local, only_if, locals_from, locals, local_at}
use Rattle.facts.specs.declared.NameFacts.{NameFacts}
use Rattle.facts.specs.Facts.{facts_of, no_facts, FactsOf}
use Rattle.name_facts.specs.Names.{values_after, before_after, name_here, locals_in, Stored}
open kinds use {LOCAL, NAME}

-- ---- a name stored, or none

module _ (w values before k : ℕ) (facts : List NameFacts) where
  pub stored_one : kind_of w ≡ NAME → k < length facts → {x : NameFacts} → x ≡ facts_of (record { flags = argument_of w; values = values; before = before }) → Stored (name_here w values before) k facts (set facts k x) (k + 1)
  stored_one e h {x} q =
      rw (eq-eqb (kind_of w) NAME e)
      (record {
        count = refl;
        cells = rw (add-one k) (take-suc-set facts k x h) ∙ ap (λ (y : NameFacts). take k facts ++ (y ∷ [])) q;
        rest = drop-set-lt (k + 1) facts k x (omega arith);
      })

  pub stored_none : (kind_of w ≡ NAME → ⊥) → Stored (name_here w values before) k facts facts k
  stored_none q =
      rw (ne_eqb (kind_of w) NAME q)
      (record { count = omega arith; cells = sym (append-nil (take k facts)); rest = refl })

-- ---- the names of kind words, one word after the other

-- when i of the words are passed
pub record Reading (kinds : List ℕ) (facts₀ facts : List NameFacts) (names values before i : ℕ) : Type 0 where
  pub within : i ≤ length kinds
  pub few : names ≤ i
  pub short : before ≤ i
  pub long : length facts ≡ length facts₀
  pub cells : take names facts ++ map facts_of (locals_in values before (drop i kinds)) ≡ map facts_of (locals_in 0 0 kinds)
  pub rest : drop names facts ≡ drop names facts₀

one_name : (w v b : ℕ) → length (name_here w v b) ≤ 1
one_name w v b = go (eqb (kind_of w) NAME)
  where
    go : (t : Bool) → length (only_if {A = Local} t (record { flags = argument_of w; values = v; before = b } ∷ [])) ≤ 1
    go true = omega arith
    go false = omega arith

one_more : (w b : ℕ) → before_after w b ≤ b + 1
one_more w b = go (eqb (kind_of w) NAME)
  where
    go : (t : Bool) → cond t (b + 1) 0 ≤ b + 1
    go true = omega arith
    go false = omega arith

module _ (kinds : List ℕ) (facts₀ : List NameFacts) (room : length kinds ≤ length facts₀) where
  module _ {facts : List NameFacts} {names values before i : ℕ} (r : Reading kinds facts₀ facts names values before i) where
    pub reading_turn : i < length kinds → {w k : ℕ} {facts' : List NameFacts} → w ≡ get_or kinds i 0 → length facts' ≡ length facts → Stored (name_here w values before) names facts facts' k → Reading kinds facts₀ facts' k (values_after w values) (before_after w before) (i + 1)
    unfolding locals_in
    reading_turn h {w} {k} {facts'} e q s =
        let here : List Local = name_here w values before in
        let ahead : List Local = locals_in (values_after w values) (before_after w before) (drop (suc i) kinds) in
        let split : drop i kinds ≡ w ∷ drop (suc i) kinds = drop-cons kinds i 0 h ∙ ap (λ (x : ℕ). x ∷ drop (suc i) kinds) (sym e) in
        record {
          within = omega arith;
          few = omega (arith, r.few, s.count, one_name w values before);
          short = omega (arith, r.short, one_more w before);
          long = q ∙ r.long;
          cells = rw (add-one i, s.cells)
              (append_assoc (take names facts) (map facts_of here) (map facts_of ahead)
              ∙ ap (λ (x : List NameFacts). take names facts ++ x) (sym (map-append facts_of here ahead))
              ∙ ap (λ (x : List ℕ). take names facts ++ map facts_of (locals_in values before x)) (sym split)
              ∙ r.cells);
          rest = s.rest ∙ rw s.count (sym (drop-drop (length here) names facts) ∙ ap (drop (length here)) r.rest ∙ drop-drop (length here) names facts₀);
        }

    -- by what the word is
    after : {facts' : List NameFacts} {k v b v' b' : ℕ} → v ≡ v' → b ≡ b' → Reading kinds facts₀ facts' k v b (i + 1) → Reading kinds facts₀ facts' k v' b' (i + 1)
    after {facts'} {k} {b = b} {v' = v'} e d h = subst (λ (y : ℕ). Reading kinds facts₀ facts' k v' y (i + 1)) d (subst (λ (x : ℕ). Reading kinds facts₀ facts' k x b (i + 1)) e h)

    module _ (h : i < length kinds) where
      pub turn_name : kind_of (get_or kinds i 0) ≡ NAME → names < length facts → {x : NameFacts} → x ≡ facts_of (record { flags = argument_of (get_or kinds i 0); values = values; before = before }) → Reading kinds facts₀ (set facts names x) (names + 1) values (before + 1) (i + 1)
      turn_name e room {x} q =
          let w : ℕ = get_or kinds i 0 in
          let v : values_after w values ≡ values = ap (λ (b : Bool). cond b (argument_of w) values) (ne_eqb (kind_of w) LOCAL (λ l. omega arith)) in
          let b : before_after w before ≡ before + 1 = ap (λ (b : Bool). cond b (before + 1) 0) (eq-eqb (kind_of w) NAME e) in
          after v b (reading_turn h refl (length-set facts names x) (stored_one w values before names facts e room q))

      pub turn_local : kind_of (get_or kinds i 0) ≡ LOCAL → Reading kinds facts₀ facts names (argument_of (get_or kinds i 0)) 0 (i + 1)
      turn_local e =
          let w : ℕ = get_or kinds i 0 in
          let v : values_after w values ≡ argument_of w = ap (λ (b : Bool). cond b (argument_of w) values) (eq-eqb (kind_of w) LOCAL e) in
          let q : kind_of w ≡ NAME → ⊥ = λ l. omega arith in
          let b : before_after w before ≡ 0 = ap (λ (b : Bool). cond b (before + 1) 0) (ne_eqb (kind_of w) NAME q) in
          after v b (reading_turn h refl refl (stored_none w values before names facts q))

      pub turn_other : (kind_of (get_or kinds i 0) ≡ NAME → ⊥) → (kind_of (get_or kinds i 0) ≡ LOCAL → ⊥) → Reading kinds facts₀ facts names values 0 (i + 1)
      turn_other q l =
          let w : ℕ = get_or kinds i 0 in
          let v : values_after w values ≡ values = ap (λ (b : Bool). cond b (argument_of w) values) (ne_eqb (kind_of w) LOCAL l) in
          let b : before_after w before ≡ 0 = ap (λ (b : Bool). cond b (before + 1) 0) (ne_eqb (kind_of w) NAME q) in
          after v b (reading_turn h refl refl (stored_none w values before names facts q))

    pub reading_ends : length kinds ≤ i → Stored (locals_in 0 0 kinds) 0 facts₀ facts names
    unfolding locals_in
    reading_ends h =
        let none : drop i kinds ≡ [] = drop_of_length-le kinds {i = i} h in
        let all : take names facts ≡ map facts_of (locals_in 0 0 kinds) =
        sym (append-nil (take names facts)) ∙ ap (λ (x : List ℕ). take names facts ++ map facts_of (locals_in values before x)) (sym none) ∙ r.cells in
        record {
          count = omega (arith, ap length all, length-map (locals_in 0 0 kinds) facts_of, length-take-le names facts (omega (arith, r.few, r.within, r.long)));
          cells = all;
          rest = r.rest;
        }

-- ---- the names of a sheet

locals_in_law : (ws ss : List ℕ) (v b : ℕ) → length ss ≡ length ws → locals_from v b (zip ws ss) ≡ locals_in v b ws
unfolding locals_from locals_in
locals_in_law [] ss v b e = refl
locals_in_law (w ∷ ws) [] v b e = absurd (omega arith)
locals_in_law (w ∷ ws) (s ∷ ss) v b e = ap (λ (x : List Local). name_here w v b ++ x) (locals_in_law ws ss (values_after w v) (before_after w b) (omega arith))

facts_at : (ls : List Local) (i : ℕ) → i < length ls → get_or (map facts_of ls) i no_facts ≡ facts_of (get_or ls i no_local)
facts_at [] i h = absurd (omega arith)
facts_at (l ∷ ls) zero h = refl
facts_at (l ∷ ls) (suc i) h = facts_at ls i (omega arith)

module _ (S : List ℕ) (same : length (span_words S) ≡ length (kind_words S)) {facts₀ facts : List NameFacts} {names : ℕ} (s : Stored (locals_in 0 0 (kind_words S)) 0 facts₀ facts names) where
  all_names_law : locals S ≡ locals_in 0 0 (kind_words S)
  unfolding locals
  all_names_law = locals_in_law (kind_words S) (span_words S) 0 0 same

  pub names_counted : length (locals S) ≡ names
  names_counted = omega (arith, s.count, ap length all_names_law)

  pub names_known : FactsOf (local_at S) names facts
  names_known ℓ h =
      sym (get_or-take names facts ℓ no_facts h)
      ∙ ap (λ (l : List NameFacts). get_or l ℓ no_facts) (s.cells ∙ ap (map facts_of) (sym all_names_law))
      ∙ facts_at (locals S) ℓ (omega (arith, names_counted))
