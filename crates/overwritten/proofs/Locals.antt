-- The loop over the locals: when those below ℓ are passed, their overwritten values were added, one local after the other. And the work columns that it begins with, as arrays of blanks.
-- Assumes nothing.
use Prim.Native.Nat.{ℕ, zero, suc, ◌+◌, ◌-◌, ◌≤◌, ◌<◌}
use mathlib.Core.Path.{◌≡◌, refl, ◌∙◌}
use mathlib.Core.List.{List, map-append}
use native.Mathlib.Omega.{arith}
use native.Mathlib.Numerals.{add-one}
use lib.ListN.{length, get_or, replicate, length-replicate}
use Rattle.search.proofs.Stamps.{unmarked_still, unmarked_zeros}
use Rattle.flow.specs.Locals.{Finding}
use Rattle.flow.specs.Findings.{overwritten_of, of_each}
use Rattle.flow.specs.Judge.{words_of}
use Rattle.locals.specs.declared.FindingList.{FindingList}
use Rattle.locals.specs.Entries.{Room, Added}
use Rattle.locals.proofs.Entries.{added_none, added_more}
use Rattle.predecessors.specs.declared.Links.{Links}
use Rattle.predecessors.specs.Predecessors.{unlinked}
use Rattle.next_uses.specs.declared.NextUses.{NextUses}
use Rattle.next_uses.specs.Backwards.{AllUnmarked}
use Rattle.next_uses.specs.Searches.{SameMarks}
use Rattle.overwritten.specs.Pass.{Lent}

-- where a stamp is new, the next one is
later : (stamp : ℕ) {n : ℕ} {used reads writes stack : List ℕ} → AllUnmarked (stamp + 1) n used reads writes stack → AllUnmarked (stamp + 1 + 1) n used reads writes stack
later stamp u =
    let h : stamp + 1 < stamp + 1 + 1 = omega arith in
    record { used_new = unmarked_still h u.used_new; reads_new = unmarked_still h u.reads_new; writes_new = unmarked_still h u.writes_new }

same_none : (m : NextUses) → SameMarks m m
same_none m = record { reads_name = refl; writes_name = refl; stack_name = refl; reads_len = refl; writes_len = refl; stack_len = refl }

same_on : {m k l : NextUses} → SameMarks m k → SameMarks k l → SameMarks m l
same_on p q =
    record {
      reads_name = q.reads_name ∙ p.reads_name;
      writes_name = q.writes_name ∙ p.writes_name;
      stack_name = q.stack_name ∙ p.stack_name;
      reads_len = q.reads_len ∙ p.reads_len;
      writes_len = q.writes_len ∙ p.writes_len;
      stack_len = q.stack_len ∙ p.stack_len;
    }

-- P says what the tables stand for
module _ (P : List ℕ → List ℕ → Type 0) (starts : List ℕ) (n names : ℕ) (m₀ : NextUses) (f₀ : FindingList) where
  pub record Done (used : List ℕ) (marks : NextUses) (f : FindingList) (ℓ : ℕ) : Type 0 where
    pub counted : f.count ≤ f₀.count + ℓ + get_or starts ℓ 0
    pub unmarked : AllUnmarked (ℓ + 1) n used marks.reads.now marks.writes.now marks.stack.now
    pub same : SameMarks m₀ marks
    pub words_long : length f.words.now ≡ length f₀.words.now
    pub name : f.words.ghost_name ≡ f₀.words.ghost_name
    pub added : (S U : List ℕ) → P S U → Added (words_of (of_each (overwritten_of S U) ℓ)) f₀.count f₀.words.now f.count f.words.now

  pub done_none : {used : List ℕ} → AllUnmarked 1 n used m₀.reads.now m₀.writes.now m₀.stack.now → Done used m₀ f₀ 0
  unfolding of_each
  done_none u = record { counted = omega arith; unmarked = u; same = same_none m₀; words_long = refl; name = refl; added = λ S U p. added_none f₀.count f₀.words.now }

  -- m uses stand in the parts
  module _ (m : ℕ) (room : Room (names + m) f₀.count f₀.words.now) (rising : (ℓ : ℕ) → ℓ < names → get_or starts ℓ 0 ≤ get_or starts (ℓ + 1) 0) (within : (ℓ : ℕ) → ℓ ≤ names → get_or starts ℓ 0 ≤ m) {used : List ℕ} {marks : NextUses} {f : FindingList} {ℓ : ℕ} (d : Done used marks f ℓ) (h : ℓ < names) where
    pub room_here : Room (1 + (get_or starts (ℓ + 1) 0 - get_or starts ℓ 0)) f.count f.words.now
    room_here = omega (arith, d.counted, d.words_long, room, rising ℓ h, within (ℓ + 1) (omega arith))

    pub done_turn : {used₁ : List ℕ} {marks₁ : NextUses} {f₁ : FindingList} → f₁.count ≤ f.count + (1 + (get_or starts (ℓ + 1) 0 - get_or starts ℓ 0)) → AllUnmarked (ℓ + 1 + 1) n used₁ marks₁.reads.now marks₁.writes.now marks₁.stack.now → SameMarks marks marks₁ → length f₁.words.now ≡ length f.words.now → f₁.words.ghost_name ≡ f.words.ghost_name → ((S U : List ℕ) → P S U → Added (words_of (overwritten_of S U ℓ)) f.count f.words.now f₁.count f₁.words.now) → Done used₁ marks₁ f₁ (ℓ + 1)
    unfolding of_each
    done_turn b u s lw w a =
        record {
          counted = omega (arith, b, d.counted, rising ℓ h);
          unmarked = u;
          same = same_on d.same s;
          words_long = lw ∙ d.words_long;
          name = w ∙ d.name;
          added = λ S U p.
              let q = d.added S U p in
              rw (add-one ℓ, map-append (λ (f : Finding). f.word) (of_each (overwritten_of S U) ℓ) (overwritten_of S U ℓ))
              (added_more q (omega (arith, q.counted, d.counted, room, within ℓ (omega arith))) (a S U p));
        }

    -- a local that has nothing listed
    pub done_still : ((S U : List ℕ) → P S U → Added (words_of (overwritten_of S U ℓ)) f.count f.words.now f.count f.words.now) → Done used marks f (ℓ + 1)
    done_still a = done_turn (omega arith) (later ℓ d.unmarked) (same_none marks) refl refl a

-- arrays of blanks that hold n nodes
blank_at : (k v : ℕ) → get_or (replicate k unlinked) v unlinked ≡ unlinked
blank_at zero v = refl
blank_at (suc k) zero = refl
blank_at (suc k) (suc v) = blank_at k v

pub lent : (n k : ℕ) → n ≤ k → Lent n (replicate k unlinked) (replicate k 0) (replicate k 0) (replicate k 0) (replicate k 0)
lent n k h =
    let long : n ≤ length (replicate {A = Links} k unlinked) = omega (arith, length-replicate {A = Links} k unlinked) in
    let new = unmarked_zeros n k h in
    record { blank = record { holds = long; none = λ v l. blank_at k v }; unmarked = record { used_new = new; reads_new = new; writes_new = new } }
