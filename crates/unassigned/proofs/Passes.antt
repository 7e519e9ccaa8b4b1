-- The pass, local by local: the findings of the locals below ℓ are listed, and their mark figures written.
-- Assumes nothing.
use Prim.Native.Nat.{ℕ, suc, ◌+◌, ◌<◌, ◌≤◌}
use mathlib.Core.Path.{◌≡◌, refl, sym, ap, ◌∙◌}
use mathlib.Core.List.{List, ◌++◌, map-append}
use native.Mathlib.Omega.{arith}
use native.Mathlib.Numerals.{add-one}
use native.Mathlib.Decide.{ℕ_discrete}
use lib.ListN.{length, set, drop, length-set, length-map}
use lib.Seq.{get_or-set_same, get_or-set_other, drop-set-lt, drop-drop}
use Rattle.search.specs.Running.{NumberSearch as Search}
use Rattle.search.specs.Stamps.{Stamped, Unmarked}
use Rattle.search.specs.Running.{SameColumns}
use Rattle.search.proofs.Stamps.{unmarked_after, unmarked_still}
use Rattle.search.proofs.Running.{same_on}
use Rattle.flow.specs.Findings.{unassigned_of, of_each}
use Rattle.flow.specs.Judge.{words_of}
use Rattle.flow.proofs.Few.{all_unassigned_few}
use Rattle.locals.specs.declared.FindingList.{FindingList}
use Rattle.locals.specs.Entries.{Room, AddsTo}
use Rattle.locals.proofs.Entries.{added_none, added_more, added_long}
use Rattle.unassigned.specs.Words.{mark_figure}
use Rattle.unassigned.specs.Pass.{Figures}

-- the walk of the next local may begin, whatever the sheets
pub record Going (n ℓ : ℕ) (e s : Search) : Type 0 where
  pub same : SameColumns e s
  pub unmarked : Unmarked (ℓ + 1) n s.marks.now s.stack.now

module _ {n ℓ : ℕ} {e s : Search} (g : Going n ℓ e s) where
  -- a walk is over, or none was due
  pub going_on : {t : Search} → SameColumns s t → Stamped (ℓ + 1) t.marks.now → Going n (ℓ + 1) e t
  going_on d r = record { same = same_on g.same d; unmarked = unmarked_after (omega arith) g.unmarked r d.marks_len d.stack_len }

  pub going_still : Going n (ℓ + 1) e s
  going_still = record { same = g.same; unmarked = unmarked_still (omega arith) g.unmarked }

module _ (S U : List ℕ) where
  -- ---- the mark figures

  figures_none : {mark : List ℕ} → Figures S U 0 mark mark
  figures_none = record { figure = λ ℓ h. absurd (omega arith); rest = refl; long = refl }

  figures_more : {ℓ : ℕ} {old mid new : List ℕ} → ℓ < length old → Figures S U ℓ old mid → new ≡ set mid ℓ (mark_figure S U ℓ) → Figures S U (ℓ + 1) old new
  figures_more {ℓ} {old} {mid} {new} h m e =
      let x : ℕ = mark_figure S U ℓ in
      rw e (record {
        figure = λ k l. elim (ℕ_discrete k ℓ) [
          | yes q ↦ rw q (get_or-set_same mid ℓ x 0 (omega (arith, m.long)))
          | no q ↦ get_or-set_other mid ℓ k x 0 q ∙ m.figure k (omega arith)
        ];
        rest = drop-set-lt (ℓ + 1) mid ℓ x (omega arith) ∙ sym (drop-drop 1 ℓ mid) ∙ ap (drop 1) m.rest ∙ drop-drop 1 ℓ old;
        long = length-set mid ℓ x ∙ m.long;
      })

  -- ---- the findings

  -- the words of the locals below ℓ
  abbrev words : ℕ → List ℕ
  words ℓ = words_of (of_each (unassigned_of S U) ℓ)

  words_next : (ℓ : ℕ) → words (suc ℓ) ≡ words ℓ ++ words_of (unassigned_of S U ℓ)
  unfolding of_each
  words_next ℓ = map-append (λ f. f.word) (of_each (unassigned_of S U) ℓ) (unassigned_of S U ℓ)

  words_few : (ℓ : ℕ) → length (words ℓ) ≤ ℓ
  words_few ℓ = omega (arith, length-map (of_each (unassigned_of S U) ℓ) (λ f. f.word), all_unassigned_few S U ℓ)

  -- the locals below ℓ are listed
  pub record Listing (ℓ : ℕ) (f₀ f : FindingList) (mark₀ mark : List ℕ) : Type 0 where
    pub listed : AddsTo (words_of (of_each (unassigned_of S U) ℓ)) f₀ f
    pub figures : Figures S U ℓ mark₀ mark

  pub listing_none : (f : FindingList) (mark : List ℕ) → Listing 0 f f mark mark
  unfolding of_each
  listing_none f mark = record { listed = (added_none f.count f.words.now, refl); figures = figures_none }

  module _ {ℓ : ℕ} {f₀ f : FindingList} {mark₀ mark : List ℕ} (l : Listing ℓ f₀ f mark₀ mark) where
    -- at most one finding each
    pub listing_few : f.count ≤ f₀.count + ℓ
    listing_few = omega (arith, l.listed.0.counted, words_few ℓ)

    pub listing_long : Room ℓ f₀.count f₀.words.now → length f.words.now ≡ length f₀.words.now
    listing_long room = added_long l.listed.0 (omega (arith, words_few ℓ))

    pub listing_more : {f' : FindingList} {mark' : List ℕ} → Room ℓ f₀.count f₀.words.now → ℓ < length mark₀ → AddsTo (words_of (unassigned_of S U ℓ)) f f' → mark' ≡ set mark ℓ (mark_figure S U ℓ) → Listing (ℓ + 1) f₀ f' mark₀ mark'
    listing_more room h a e = record {
      listed = (rw (add-one ℓ, words_next ℓ) (added_more l.listed.0 (omega (arith, words_few ℓ)) a.0), a.1 ∙ l.listed.1);
      figures = figures_more h l.figures e;
    }
