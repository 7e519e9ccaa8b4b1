-- Demand 3: the computed findings are those that `Demand.antt` states.
-- Assumes `kinds`, that each use is a read, a write or both, and `few`, that there are at most 1024 locals; admission gives both.
use Prim.Native.Nat.{ℕ, zero, suc, ◌+◌, ◌≤◌, ◌<◌}
use mathlib.Core.Path.{◌≡◌, refl, sym, ap, ◌∙◌, subst, subst₂, subst₃}
use mathlib.Core.Logic.Iff
use mathlib.Core.Logic.{◌⊎◌, inl, inr, ⊎_elim, ◌↔◌}
use mathlib.Core.List.Memᴰ
use mathlib.Core.List.{List, Memᴰ}
use native.Mathlib.Omega.{arith}
use lib.ListN.{length, get_or, length-map, get_or-map}
use Rattle.flow.specs.Sheet.{use_words, use_kind_of}
use Rattle.flow.specs.Locals.{Finding, finding_word, locals}
use Rattle.flow.specs.Findings.{findings, unassigned_of, overwritten_of, of_each}
use Rattle.flow.specs.Judge.{words_of, spans_of}
use Rattle.flow.specs.Demand.{use_word, Listed, Entry, Demand3, Before, order}
use Rattle.flow.proofs.Laws.{mem_append, mem_at, mem_place, or_map}
use Rattle.flow.proofs.Order.{each_findings, mem_each, Rising, rising_append, rising_each, rising_at, Coded, same_word, Prior, prior_by}
use Rattle.flow.proofs.Entries.{Claim, span_for, finding, Told, unassigned_law, overwritten_law, unassigned_rising, overwritten_rising}

abbrev no_finding : Finding
no_finding = record { word = 0; span = 0 }

module _ (fs : List Finding) where
  word_at : (i : ℕ) → get_or (words_of fs) i 0 ≡ (get_or fs i no_finding).word
  word_at i = get_or-map (λ x. x.word) fs i no_finding

  span_at : (i : ℕ) → get_or (spans_of fs) i 0 ≡ (get_or fs i no_finding).span
  span_at i = get_or-map (λ x. x.span) fs i no_finding

  words_length : length (words_of fs) ≡ length fs
  words_length = length-map fs (λ x. x.word)

  -- listed by place, or a member
  listed_law : (f : Finding) → Listed (words_of fs) (spans_of fs) f.word f.span ↔ Memᴰ f fs
  listed_law f = (
    λ l. Memᴰ.cast (λ k. record { word = (sym l.is_word ∙ word_at l.place) k; span = (sym l.is_span ∙ span_at l.place) k }) (mem_at no_finding fs l.place (omega (arith, l.inside, words_length))),
    λ m. let q = mem_place no_finding m in record {
      place = q.0;
      inside = omega (arith, q.1, words_length);
      is_word = word_at q.0 ∙ ap (λ (x : Finding). x.word) q.2;
      is_span = span_at q.0 ∙ ap (λ (x : Finding). x.span) q.2;
    },
  )

module _ (S U : List ℕ) (few : length (locals S) ≤ 1024) (kinds : (u : ℕ) → u < length (use_words U) → use_kind_of (use_word U u) ≤ 2) where
  abbrev n : ℕ
  n = length (locals S)

  abbrev fs : List Finding
  fs = findings S U

  coded : {list ℓ c : ℕ} {f : Finding} → list ≤ 1 → ℓ < n → f ≡ finding S U list ℓ c → Coded f list ℓ c
  coded a b e = record { small = a; few = omega arith; coded = ap (λ (x : Finding). x.word) e }

  -- one list of findings, of all locals
  module _ (list : ℕ) (small : list ≤ 1) (part : ℕ → List Finding) (law : (ℓ : ℕ) (f : Finding) → Memᴰ f (part ℓ) ↔ Told S U list ℓ f) where
    list_law : (f : Finding) → Memᴰ f (of_each part n) ↔ ((ℓ : ℕ) × (ℓ < n) × Told S U list ℓ f)
    list_law f = rw (each_findings part n) (Iff.trans (mem_each part n) (λ q. (q.0, q.1, (law q.0 f).0 q.2), λ q. (q.0, q.1, (law q.0 f).1 q.2)))

    list_rising : ((ℓ : ℕ) → ℓ < n → Rising (Prior S U) (part ℓ)) → Rising (Prior S U) (of_each part n)
    list_rising r =
        rw (each_findings part n)
        (rising_each part n r (λ i j h k x y m l. let p = (law i x).0 m in let q = (law j y).0 l in prior_by S U (coded {ℓ = i} small (omega arith) p.1) (coded {ℓ = j} small k q.1) (inr (refl, inl h))))

  unassigned_list : (f : Finding) → Memᴰ f (of_each (unassigned_of S U) n) ↔ ((ℓ : ℕ) × (ℓ < n) × Told S U 0 ℓ f)
  unassigned_list = list_law 0 (omega arith) (unassigned_of S U) (unassigned_law S U kinds)

  overwritten_list : (f : Finding) → Memᴰ f (of_each (overwritten_of S U) n) ↔ ((ℓ : ℕ) × (ℓ < n) × Told S U 1 ℓ f)
  overwritten_list = list_law 1 (omega arith) (overwritten_of S U) (overwritten_law S U kinds)

  -- a finding of either list
  abbrev Stated : Finding → Type 0
  Stated f = (list : ℕ) × (list ≤ 1) × ((ℓ : ℕ) × (ℓ < n) × Told S U list ℓ f)

  findings_law : (f : Finding) → Memᴰ f fs ↔ Stated f
  unfolding findings
  findings_law f = Iff.trans (mem_append _ _) (Iff.trans (or_map (unassigned_list f) (overwritten_list f)) (λ q. ⊎_elim (λ r. (0, omega arith, r)) (λ r. (1, omega arith, r)) q, λ q. back q.0 q.1 q.2))
    where
      back : (list : ℕ) → list ≤ 1 → ((ℓ : ℕ) × (ℓ < n) × Told S U list ℓ f) → ((ℓ : ℕ) × (ℓ < n) × Told S U 0 ℓ f) ⊎ ((ℓ : ℕ) × (ℓ < n) × Told S U 1 ℓ f)
      back zero h q = inl q
      back (suc zero) h q = inr q
      back (suc (suc list)) h q = absurd (omega arith)

  findings_rising : Rising (Prior S U) fs
  unfolding findings
  findings_rising =
      rising_append _ _ (list_rising 0 (omega arith) (unassigned_of S U) (unassigned_law S U kinds) (λ ℓ h. unassigned_rising S U kinds ℓ))
      (list_rising 1 (omega arith) (overwritten_of S U) (overwritten_law S U kinds) (λ ℓ h. overwritten_rising S U kinds ℓ (omega arith)))
      (λ x y m k. let p = (unassigned_list x).0 m in let q = (overwritten_list y).0 k in prior_by S U (coded {list = 0} (omega arith) p.1 p.2.1) (coded {list = 1} (omega arith) q.1 q.2.1) (inl (omega arith)))

  -- what is listed is what holds
  told : (list ℓ c : ℕ) → list ≤ 1 → ℓ < n → Listed (words_of fs) (spans_of fs) (finding_word list ℓ c) (span_for S U ℓ c) ↔ Claim S U list ℓ c
  told list ℓ c a b = Iff.trans (Iff.trans (listed_law fs (finding S U list ℓ c)) (findings_law (finding S U list ℓ c))) (there, λ k. (list, a, (ℓ, b, (c, refl, k))))
    where
      there : Stated (finding S U list ℓ c) → Claim S U list ℓ c
      there q =
          let r = q.2 in
          let t = r.2 in
          let e = same_word (coded a b refl) (coded q.1 r.1 t.1) in
          subst₃ (Claim S U) e.0 e.1 e.2 t.2

  entry : (list ℓ c : ℕ) → list ≤ 1 → ℓ < n → Claim S U list ℓ c → Entry S U (finding_word list ℓ c) (span_for S U ℓ c)
  entry zero ℓ zero a b k = absurd k
  entry zero ℓ (suc u) a b k = inl (ℓ, u, b, omega arith, refl, k)
  entry (suc zero) ℓ zero a b k = inr (inr (ℓ, b, omega arith, refl, k))
  entry (suc zero) ℓ (suc w) a b k = inr (inl (ℓ, w, b, omega arith, refl, k))
  entry (suc (suc list)) ℓ c a b k = absurd (omega arith)

  stated : (f : Finding) → Stated f → Entry S U f.word f.span
  stated f q =
      let r = q.2 in
      let t = r.2 in
      subst (λ (x : Finding). Entry S U x.word x.span) (sym t.1) (entry q.0 r.0 t.0 q.1 r.1 t.2)

  pub demand3 : Demand3 S U (words_of fs) (spans_of fs)
  unfolding Prior
  demand3 =
      record {
        unassigned = λ ℓ u h. at (finding_word 0 ℓ (suc u)) (finding_word 0 ℓ (u + 1)) (omega arith) (told 0 ℓ (suc u) (omega arith) h);
        overwritten = λ ℓ w h. at (finding_word 1 ℓ (suc w)) (finding_word 1 ℓ (w + 1)) (omega arith) (told 1 ℓ (suc w) (omega arith) h);
        initial = λ ℓ h. told 1 ℓ 0 (omega arith) h;
        as_many = length-map fs (λ (x : Finding). x.span) ∙ sym (length-map fs (λ (x : Finding). x.word));
        nothing_else = λ i h. subst₂ (Entry S U) (sym (word_at fs i)) (sym (span_at fs i)) (stated _ ((findings_law _).0 (mem_at no_finding fs i (omega (arith, words_length fs)))));
        rising = λ i j h k. subst₂ (λ (x y : ℕ). Before (order S U x) (order S U y)) (sym (word_at fs i)) (sym (word_at fs j)) (rising_at no_finding findings_rising i j h (omega (arith, words_length fs)));
      }
    where
      at : {s : ℕ} {C : Type 0} (v w : ℕ) → v ≡ w → Listed (words_of fs) (spans_of fs) v s ↔ C → Listed (words_of fs) (spans_of fs) w s ↔ C
      at {s} {C} v w e l = subst (λ (x : ℕ). Listed (words_of fs) (spans_of fs) x s ↔ C) e l
