-- The facts of a name tell what is asked of its local.
-- Assumes nothing.
use Prim.Native.Nat.{ℕ, ◌≤◌}
use mathlib.Core.Path.{◌≡◌, refl, sym, ap, ◌∙◌}
use mathlib.Core.Bool.{Bool, true, false, not, false≢true}
use mathlib.Core.List.{List}
use native.Mathlib.Omega.{arith}
use lib.ListN.{length, get_or, take}
use lib.Seq.{get_or-take, length-take-le}
use Rattle.std.specs.List.{list_any}
use Rattle.std.proofs.lemmas.List.Folds.{list_any_at}
use Rattle.flow.specs.Locals.{Local, no_value, writes_judged, tracked}
use Rattle.facts.specs.declared.NameFacts.{NameFacts}
use Rattle.facts.specs.Facts.{facts_with, is_due, is_judged, tracks, dues, judges, no_facts, None}

not_not : (b : Bool) → not (not b) ≡ b
not_not true = refl
not_not false = refl

module _ (f : NameFacts) (l : Local) (found : Bool) (e : f ≡ facts_with l found) where
  pub tracked_told : tracks f ≡ tracked l
  unfolding tracked writes_judged
  tracked_told = ap tracks e ∙ rw (not_not (no_value l))

  pub due_told : dues f ≡ is_due l found
  unfolding tracked writes_judged
  due_told = ap dues e ∙ rw (not_not (no_value l))

  pub judged_told : judges f ≡ is_judged l found
  unfolding tracked writes_judged
  judged_told = ap judges e ∙ rw (not_not (no_value l))

-- none of the first facts passes a test that tells what is asked of locals
module _ (test : NameFacts → Bool) (asked : Local → Bool → Bool) (tells : (f : NameFacts) (l : Local) (found : Bool) → f ≡ facts_with l found → test f ≡ asked l found) where
  pub none_asked : (names : ℕ) (facts : List NameFacts) → names ≤ length facts → list_any test (take names facts) ≡ false → None asked names facts
  none_asked names facts long none ℓ h l found e = sym (tells _ l found e) ∙ go (test (get_or facts ℓ no_facts)) refl
    where
      go : (b : Bool) → test (get_or facts ℓ no_facts) ≡ b → b ≡ false
      go false q = refl
      go true q =
          absurd (false≢true (sym none ∙ list_any_at test (take names facts) ℓ no_facts (omega (arith, length-take-le names facts long)) (ap test (get_or-take names facts ℓ no_facts h) ∙ q)))
