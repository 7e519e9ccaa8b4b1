-- The loop over the places of a local's uses: when those below i are passed, the overwritten writes among them were added.
-- Assumes nothing.
use Prim.Native.Nat.{ℕ, ◌+◌, ◌≤◌, ◌<◌}
use mathlib.Core.Path.{◌≡◌, refl, ap, sym, ◌∙◌}
use mathlib.Core.Bool.{Bool, true, false}
use mathlib.Core.List.{List, [], ◌∷◌, ◌++◌, map, map-append, append_assoc, append-nil}
use native.Mathlib.Omega.{arith}
use lib.ListN.{length, get_or, drop, length-append, length-map, drop_of_length-le}
use Rattle.flow.specs.Graph.{Graph}
use Rattle.flow.specs.Locals.{only_if}
use Rattle.flow.specs.Findings.{Use, Ahead, is_overwritten}
use Rattle.use_words.specs.declared.PlacedUse.{PlacedUse}
use Rattle.use_words.specs.Words.{use_of, uses_in, no_use}
use Rattle.use_words.proofs.Words.{uses_next}
use Rattle.uses_by_node.specs.Uses.{overwritten_in}
use Rattle.locals.specs.Entries.{Room, Added}
use Rattle.locals.proofs.Entries.{added_none, added_more, added_long}
use Rattle.local_values.specs.Words.{write_word, write_words_at}

one_at_most : (b : Bool) (u : Use) → length (only_if b (u ∷ [])) ≤ 1
one_at_most true u = omega arith
one_at_most false u = omega arith

module _ (g : Graph) (a : Ahead) (local : ℕ) (ws : List PlacedUse) (before : ℕ) (w₀ : List ℕ) where
  -- the places below i are passed: what was found there was added
  pub record Passed (count i : ℕ) (w : List ℕ) : Type 0 where
    pub few : i ≤ length ws
    pub found : List Use
    pub no_more : length found ≤ i
    pub so_far : overwritten_in g a (uses_in ws) ≡ found ++ overwritten_in g a (uses_in (drop i ws))
    pub added : Added (map (write_word local) found) before w₀ count w

  pub passed_none : Passed before 0 w₀
  passed_none = record { few = omega arith; found = []; no_more = omega arith; so_far = refl; added = added_none before w₀ }

  module _ (room : Room (length ws) before w₀) {count i : ℕ} {w : List ℕ} (p : Passed count i w) where
    holds : before + length (map (write_word local) p.found) ≤ length w₀
    holds = omega (arith, length-map p.found (write_word local), p.no_more, p.few, room)

    pub passed_long : length w ≡ length w₀
    passed_long = added_long p.added holds

    pub passed_count : count ≤ before + i
    passed_count = omega (arith, p.added.counted, length-map p.found (write_word local), p.no_more)

    pub room_left : i < length ws → Room 1 count w
    room_left h = omega (arith, passed_count, passed_long, room)

    pub passed_turn : i < length ws → {r : ℕ} {w₁ : List ℕ} → Added (write_words_at local g a ws i) count w r w₁ → Passed r (i + 1) w₁
    passed_turn h {r} {w₁} t =
        let u : Use = use_of (get_or ws i no_use) in
        let after : List Use = uses_in (drop (i + 1) ws) in
        let here : List Use = only_if (is_overwritten g a u after) (u ∷ []) in
        let split : uses_in (drop i ws) ≡ u ∷ after = uses_next ws i h in
        record {
          few = omega arith;
          found = p.found ++ here;
          no_more = omega (arith, length-append p.found here, one_at_most (is_overwritten g a u after) u, p.no_more);
          so_far = p.so_far ∙ ap (λ (us : List Use). p.found ++ overwritten_in g a us) split ∙ sym (append_assoc p.found here (overwritten_in g a after));
          added = rw (map-append (write_word local) p.found here) (added_more p.added holds t);
        }

    pub passed_end : length ws ≤ i → Added (map (write_word local) (overwritten_in g a (uses_in ws))) before w₀ count w
    passed_end h =
        let rest : overwritten_in g a (uses_in (drop i ws)) ≡ [] = ap (λ (l : List PlacedUse). overwritten_in g a (uses_in l)) (drop_of_length-le ws h) in
        let all : overwritten_in g a (uses_in ws) ≡ p.found = p.so_far ∙ ap (λ (l : List Use). p.found ++ l) rest ∙ append-nil p.found in
        rw all p.added
