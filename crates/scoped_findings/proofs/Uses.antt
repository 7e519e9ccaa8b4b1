-- The uses that are judged: as they are supplied where no scope sheet comes, and else as it has them.
-- Assumes nothing.
use mathlib.Core.Path.{◌≡◌, refl, sym, ap, ap₂, ◌∙◌, subst, subst₂}
use mathlib.Core.Bool.{true, false}
use mathlib.Core.List.{List, [], ◌∷◌, ◌++◌}
use Prim.Native.Nat.{ℕ, ◌+◌, ◌*◌, ◌≤◌, ◌<◌}
use native.Mathlib.Omega.{arith}
use lib.ListN.{length, get_or, take, length-drop}
use lib.Seq.{take_at}
use borrow.Author.Tests.{not-false}
use Rattle.flow.specs.Sheet.{count_word, items, use_words, use_spans, local_of}
use Rattle.flow.specs.Refusals.{name_count}
use Rattle.flow.specs.Scopes.{use_sheet, crossed_from, crossed, scopes_fit, scopes_wrong, bad_scopes}
use Rattle.flow.specs.Admitted.{AdmittedSheet, AdmittedUses, AdmittedScopes}
use Rattle.flow.specs.declared.Counts.{Counts}
use Rattle.crossing.specs.Tables.{names_before}
use Rattle.chart.specs.Lent.{Columns}
use Rattle.findings.specs.Accepted.{FindingsLent, Searchable, FindingsWritten}
use Rattle.flow.proofs.Scopes.{crossed_length, sheet_again, admitted_scopes}

module _ (S U C : List ℕ) (a : AdmittedUses S U) where
  -- no scope sheet
  pub as_supplied : {ws ss : List ℕ} → length C ≡ 0 → ws ≡ use_words U → ss ≡ use_spans U → use_sheet ws ss ≡ crossed S U C
  unfolding crossed
  as_supplied {ws} {ss} e p q = ap₂ use_sheet p q ∙ sheet_again U a.words ∙ go C e
    where
      go : (D : List ℕ) → length D ≡ 0 → U ≡ crossed S U D
      go [] z = refl
      go (d ∷ D) z = absurd (omega arith)

  module _ (some : length C ≡ 0 → ⊥) where
    -- the words of the column that they were replaced in
    pub as_replaced : (names : ℕ) (ws rest : List ℕ) {ss part col : List ℕ} → names ≡ name_count (items S) → ws ≡ use_words U → ss ≡ use_spans U → col ≡ crossed_from names C 0 ws ++ rest → part ≡ take (length ws) col → use_sheet part ss ≡ crossed S U C
    unfolding crossed
    as_replaced names ws rest {ss} {part} {col} n p q c t =
        ap₂ use_sheet (t ∙ ap (take (length ws)) c ∙ take_at (crossed_from names C 0 ws) rest (length ws) (crossed_length names C 0 ws)) q
        ∙ subst₂ (λ (k : ℕ) (l : List ℕ). use_sheet (crossed_from k C 0 l) (use_spans U) ≡ crossed S U C) (sym n) (sym p) (go C some)
      where
        go : (D : List ℕ) → (length D ≡ 0 → ⊥) → use_sheet (crossed_from (name_count (items S)) D 0 (use_words U)) (use_spans U) ≡ crossed S U D
        go [] z = absurd (z refl)
        go (d ∷ D) z = refl

    -- what the replacing asks
    pub scopes_fit_law : (names : ℕ) {ws : List ℕ} → names ≡ name_count (items S) → ws ≡ use_words U → bad_scopes S U C ≡ false → AdmittedScopes names (length ws) C
    unfolding scopes_wrong
    scopes_fit_law names {ws} n p e = subst₂ (λ (k m : ℕ). AdmittedScopes k m C) (sym n) (sym (ap length p ∙ a.uses)) (admitted_scopes _ _ C (go C some e))
      where
        go : (D : List ℕ) → (length D ≡ 0 → ⊥) → scopes_wrong (name_count (items S)) (count_word U) D ≡ false → scopes_fit (name_count (items S)) (count_word U) D ≡ true
        go [] z q = absurd (z refl)
        go (d ∷ D) z q = not-false _ q

    -- how many names it counts
    pub names_are : {ws : List ℕ} → ws ≡ use_words U → bad_scopes S U C ≡ false → names_before ws C ≡ name_count (items S)
    names_are {ws} p e = omega (arith, length-drop (1 + 2 * count_word C) C, (scopes_fit_law (name_count (items S)) refl p e).words)

  pub locals_known : (names : ℕ) {ws : List ℕ} → names ≡ name_count (items S) → ws ≡ use_words U → (u : ℕ) → u < length ws → local_of (get_or ws u 0) < names
  locals_known names {ws} n p u h =
      let q : u < count_word U = omega (arith, ap length p, a.uses) in
      subst₂ (λ (l : List ℕ) (k : ℕ). local_of (get_or l u 0) < k) (sym p) (sym n) (a.known u q)

pub few_names_law : {S U : List ℕ} → AdmittedSheet S → AdmittedUses S U → name_count (items S) ≤ 1024
few_names_law s a = omega (arith, a.names, s.all_names, s.few_names)

-- ---- the same of the sheet that they make

pub searched : {S M N : List ℕ} (c : Counts) (x : Columns) → M ≡ N → Searchable S N c x → Searchable S M c x
searched {S} c x e q = subst (λ (z : List ℕ). Searchable S z c x) (sym e) q

pub written : {S M N : List ℕ} {r : ℕ} {l : FindingsLent} → M ≡ N → FindingsWritten S M r l → FindingsWritten S N r l
written {S} {r = r} {l} e q = subst (λ (z : List ℕ). FindingsWritten S z r l) e q
