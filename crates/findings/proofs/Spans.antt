-- A finding's word tells its span: what stands beside it in demand 3 is what its use number, or its local, has.
-- Assumes nothing.
use Prim.Native.Nat.{ℕ, suc, ◌+◌, ◌/◌, ◌%◌, ◌<◌, ◌≤◌}
use mathlib.Core.Path.{◌≡◌, refl, sym, ap, ap₂, ◌∙◌}
use mathlib.Core.Logic.{inl, inr}
use mathlib.Core.List.{List, [], ◌∷◌, map}
use native.Mathlib.Omega.{arith}
use borrow.Author.Tests.{eq-eqb, ne_eqb}
use lib.ListN.{length, get_or, take, length-map, get_or-map}
use lib.Seq.{get_or-take}
use Rattle.flow.specs.Sheet.{use_words, use_spans}
use Rattle.flow.specs.Graph.{graph}
use Rattle.flow.specs.Locals.{Finding, finding_word, locals}
use Rattle.flow.specs.Findings.{findings}
use Rattle.flow.specs.Judge.{words_of, spans_of}
use Rattle.flow.specs.Demand.{Entry}
use Rattle.flow.specs.Admitted.{AdmittedSheet, AdmittedUses}
use Rattle.flow.proofs.Demand3.{demand3}
use Rattle.finding_spans.specs.Spans.{span_of, Names, Known}

-- the parts of a finding's word
module _ (list ℓ k : ℕ) (h : list ≤ 1) (few : ℓ < 1024) where
  use_told : finding_word list ℓ k / 4294967296 ≡ k
  use_told = omega arith

  local_told : finding_word list ℓ k % 4294967296 / 2 ≡ ℓ
  local_told = omega arith

map_alike : (f g : Finding → ℕ) (d : Finding) (fs : List Finding) → ((i : ℕ) → i < length fs → f (get_or fs i d) ≡ g (get_or fs i d)) → map f fs ≡ map g fs
map_alike f g d [] h = refl
map_alike f g d (x ∷ fs) h = ap₂ (λ y ys. y ∷ ys) (h 0 (omega arith)) (map_alike f g d fs (λ i l. h (suc i) (omega arith)))

map_twice : {A : Type 0} (f : ℕ → ℕ) (g : A → ℕ) (xs : List A) → map f (map g xs) ≡ map (λ x. f (g x)) xs
map_twice f g [] = refl
map_twice f g (x ∷ xs) = ap (λ (ys : List ℕ). f (g x) ∷ ys) (map_twice f g xs)

abbrev nothing : Finding
nothing = record { word = 0; span = 0 }

module _ {S U : List ℕ} (a : AdmittedSheet S) (u : AdmittedUses S U) (column : List ℕ) (names : (graph S).names.span ≡ take (length (locals S)) column) (long : length (locals S) ≤ length column) where
  few : length (locals S) ≤ 1024
  few = omega (arith, a.all_names, a.few_names)

  spans_many : length (use_spans U) ≡ length (use_words U)
  spans_many = u.spans ∙ sym u.uses

  -- what the word of a use says
  of_use_law : (list ℓ k : ℕ) {w s : ℕ} → list ≤ 1 → ℓ < length (locals S) → k < length (use_spans U) → w ≡ finding_word list ℓ (k + 1) → s ≡ get_or (use_spans U) k 0 → Names (length (use_spans U)) (length column) w × (span_of (use_spans U) column w ≡ s)
  of_use_law list ℓ k {w} h l q e p =
      let t : w / 4294967296 ≡ k + 1 = ap (λ (x : ℕ). x / 4294967296) e ∙ use_told list ℓ (k + 1) h (omega (arith, few)) in
      let v : w % 4294967296 / 2 ≡ ℓ = ap (λ (x : ℕ). x % 4294967296 / 2) e ∙ local_told list ℓ (k + 1) h (omega (arith, few)) in (
        record { use_known = omega (arith, t); local_known = omega (arith, v, long) },
        rw (ne_eqb (w / 4294967296) 0 (λ z. omega (arith, t, z))) (ap (λ (x : ℕ). get_or (use_spans U) x 0) (omega (arith, t))) ∙ sym p,
      )

  -- and that of an initial value
  of_name : (ℓ : ℕ) {w s : ℕ} → ℓ < length (locals S) → w ≡ finding_word 1 ℓ 0 → s ≡ get_or (graph S).names.span ℓ 0 → Names (length (use_spans U)) (length column) w × (span_of (use_spans U) column w ≡ s)
  of_name ℓ {w} l e p =
      let t : w / 4294967296 ≡ 0 = ap (λ (x : ℕ). x / 4294967296) e ∙ use_told 1 ℓ 0 (omega arith) (omega (arith, few)) in
      let v : w % 4294967296 / 2 ≡ ℓ = ap (λ (x : ℕ). x % 4294967296 / 2) e ∙ local_told 1 ℓ 0 (omega arith) (omega (arith, few)) in (
        record { use_known = omega (arith, t); local_known = omega (arith, v, long) },
        rw (eq-eqb (w / 4294967296) 0 t) (ap (λ (x : ℕ). get_or column x 0) v) ∙ sym (p ∙ ap (λ (x : List ℕ). get_or x ℓ 0) names ∙ get_or-take (length (locals S)) column ℓ 0 l),
      )

  told : (w s : ℕ) → Entry S U w s → Names (length (use_spans U)) (length column) w × (span_of (use_spans U) column w ≡ s)
  told w s (inl q) = of_use_law 0 q.0 q.1 (omega arith) q.2 (omega (arith, q.5.empty.own.below, spans_many)) q.3 q.4
  told w s (inr (inl q)) = of_use_law 1 q.0 q.1 (omega arith) q.2 (omega (arith, q.5.here.own.below, spans_many)) q.3 q.4
  told w s (inr (inr q)) = of_name q.0 q.1 q.2 q.3

  each_told : (i : ℕ) → i < length (words_of (findings S U)) → Names (length (use_spans U)) (length column) (get_or (words_of (findings S U)) i 0) × (span_of (use_spans U) column (get_or (words_of (findings S U)) i 0) ≡ get_or (spans_of (findings S U)) i 0)
  each_told i h = told _ _ ((demand3 S U few (λ k l. u.kinds k (omega (arith, u.uses)))).nothing_else i h)

  -- each word is of a use or of a name
  pub words_known : Known (length (use_spans U)) (length column) (words_of (findings S U))
  words_known i h = (each_told i h).0

  pub spans_by_words : map (span_of (use_spans U) column) (words_of (findings S U)) ≡ spans_of (findings S U)
  spans_by_words =
      map_twice (span_of (use_spans U) column) (λ f. f.word) (findings S U)
      ∙ map_alike (λ f. span_of (use_spans U) column f.word) (λ f. f.span) nothing (findings S U) (λ i h. ap (span_of (use_spans U) column) (sym (get_or-map (λ f. f.word) (findings S U) i nothing)) ∙ (each_told i (omega (arith, length-map (findings S U) (λ f. f.word)))).1 ∙ get_or-map (λ f. f.span) (findings S U) i nothing)
