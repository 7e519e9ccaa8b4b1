-- Refusal 9, clause by clause.
-- Assumes nothing.
use mathlib.Core.Path.{◌≡◌, refl}
use mathlib.Core.Bool.{true, false, not, ◌&&◌}
use mathlib.Core.List.{List, [], ◌∷◌}
use Prim.Native.Nat.{ℕ, ◌+◌, ◌*◌, ◌≤◌, ◌<◌}
use native.Mathlib.Omega.{arith}
use lib.ListN.{length}
use borrow.Author.Tests.{le-leb, lt-leb, eq-eqb, ne_eqb}
use Rattle.flow.specs.Sheet.{all, count_word}
use Rattle.flow.specs.Scopes.{scope_kinds, parent_words, scope_numbers, is_below, parents_lower, scopes_fit, scopes_wrong}

module _ (names uses : ℕ) (C : List ℕ) where
  pub none_comes : length C ≡ 0 → false ≡ scopes_wrong names uses C
  unfolding scopes_wrong
  none_comes e = go C e
    where
      go : (xs : List ℕ) → length xs ≡ 0 → false ≡ scopes_wrong names uses xs
      go [] q = refl
      go (x ∷ xs) q = absurd (omega arith)

  module _ (some : length C ≡ 0 → ⊥) where
    one_comes : scopes_wrong names uses C ≡ not (scopes_fit names uses C)
    unfolding scopes_wrong
    one_comes = go C some
      where
        go : (xs : List ℕ) → (length xs ≡ 0 → ⊥) → scopes_wrong names uses xs ≡ not (scopes_fit names uses xs)
        go [] q = absurd (q refl)
        go (x ∷ xs) q = refl

    pub count_wrong : 512 < count_word C → true ≡ scopes_wrong names uses C
    unfolding scopes_fit
    count_wrong h = rw (one_comes, lt-leb (count_word C) 512 h)

    module _ (few : count_word C ≤ 512) where
      pub length_wrong : (length C ≡ 1 + 2 * count_word C + names + uses → ⊥) → true ≡ scopes_wrong names uses C
      unfolding scopes_fit
      length_wrong q = rw (one_comes, le-leb (count_word C) 512 few, ne_eqb _ _ q)

      module _ (words : length C ≡ 1 + 2 * count_word C + names + uses) where
        left : scopes_wrong names uses C ≡ not (all (is_below 4) (scope_kinds C) && parents_lower 0 (parent_words C) && all (is_below (count_word C)) (scope_numbers C))
        unfolding scopes_fit
        left = rw (one_comes, le-leb (count_word C) 512 few, eq-eqb _ _ words)

        pub kind_wrong : all (is_below 4) (scope_kinds C) ≡ false → true ≡ scopes_wrong names uses C
        kind_wrong q = rw (left, q)

        module _ (kinds : all (is_below 4) (scope_kinds C) ≡ true) where
          pub parent_wrong : parents_lower 0 (parent_words C) ≡ false → true ≡ scopes_wrong names uses C
          parent_wrong q = rw (left, kinds, q)

          pub number_wrong : parents_lower 0 (parent_words C) ≡ true → not (all (is_below (count_word C)) (scope_numbers C)) ≡ scopes_wrong names uses C
          number_wrong q = rw (left, kinds, q)
