-- What stands among the findings of one local in one list, and that they rise.
-- Assumes `kinds`, that each use is a read, a write or both, which admission gives.
use Prim.Native.Nat.{ℕ, zero, suc, ◌<◌}
use mathlib.Core.Path.{◌≡◌, refl, sym, ap, ◌∙◌}
use mathlib.Core.Logic.Iff
use mathlib.Core.Logic.{◌⊎◌, inl, inr, ⊎_elim, ◌↔◌}
use mathlib.Core.Bool.{Bool, true, ◌&&◌}
use mathlib.Core.List.{◌++◌, List, [], ◌∷◌, map, Memᴰ}
use native.Mathlib.Omega.{arith}
use native.Mathlib.Numerals.{add-one}
use lib.ListN.{get_or}
use Rattle.flow.specs.Graph.{Graph, graph, node_count}
use Rattle.flow.specs.Locals.{only_if, Declaration, declaration, local_at, tracked, no_value, writes_judged, Finding, finding_word}
use Rattle.flow.specs.Findings.{Use, is_write, node, live_after_writes, of_use, of_initial, uses_of, all_found, ahead, first_unassigned_use, initial_overwritten, writes_overwritten, unassigned_of, overwritten_of, overwritten_at, overwritten_below, is_empty_read, first_empty_read}
use Rattle.flow.specs.Demand.{use_span, AllFound, Judgeable, Unassigned, Overwritten, OverwrittenInitial, Before}
use Rattle.flow.proofs.Laws.{either, and_then, and_law, not_law, or_map, mem_append, mem_one, mem_only, mem_map}
use Rattle.flow.proofs.Uses.{entry, all_found_law, From, end, one, from_all, Kinds, Is, Among}
use Rattle.flow.proofs.EmptyReads.{empty_read_law}
use Rattle.flow.proofs.Losses.{LostWrite, unread_law, lost_law, lost_from}
use Rattle.flow.proofs.CodeNodes.{code_node_law}
use Rattle.flow.proofs.Order.{each_node, mem_each, Rising, nil, rising_append, rising_one, rising_only, rising_each, rising_map, Coded, Prior, prior_by}

-- what a finding of a list, a local and a use number + 1 or 0 says
abbrev pub Claim : List ℕ → List ℕ → ℕ → ℕ → ℕ → Type 0
Claim S U zero ℓ zero = ⊥
Claim S U zero ℓ (suc u) = Unassigned S U ℓ u
Claim S U (suc list) ℓ zero = OverwrittenInitial S U ℓ
Claim S U (suc list) ℓ (suc w) = Overwritten S U ℓ w

abbrev pub span_for : List ℕ → List ℕ → ℕ → ℕ → ℕ
span_for S U ℓ zero = get_or (graph S).names.span ℓ 0
span_for S U ℓ (suc u) = use_span U u

abbrev pub finding : List ℕ → List ℕ → ℕ → ℕ → ℕ → Finding
finding S U list ℓ c = record { word = finding_word list ℓ c; span = span_for S U ℓ c }

-- a finding of such a list and local that holds
abbrev pub Told : List ℕ → List ℕ → ℕ → ℕ → Finding → Type 0
Told S U list ℓ f = (c : ℕ) × (f ≡ finding S U list ℓ c) × Claim S U list ℓ c

module _ (S U : List ℕ) (kinds : Kinds U) (ℓ : ℕ) where
  abbrev g : Graph
  g = graph S

  abbrev d : Declaration
  d = declaration (graph S) ℓ

  abbrev us : List Use
  us = uses_of S U ℓ

  -- the tests before each list
  judged : {c : Bool} {C : Type 0} → (AllFound S U ℓ → (c ≡ true) ↔ C) → (tracked (local_at S ℓ) && all_found us && c ≡ true) ↔ (Judgeable S U ℓ × C)
  judged f = and_then (Iff.trans (and_law Iff.rfl (all_found_law S U ℓ)) (λ q. record { is_tracked = q.0; all_found = q.1 }, λ j. (j.is_tracked, j.all_found))) (λ j. f j.all_found)

  of_use_law : (list u : ℕ) → of_use list ℓ (entry S U ℓ u) ≡ finding S U list ℓ (suc u)
  of_use_law list u = rw add-one

  -- the findings of a list of uses
  told_uses : (list : ℕ) {l : List Use} {C : ℕ → Type 0} → ((x : Use) → Memᴰ x l ↔ Is S U ℓ C x) → (f : Finding) → Memᴰ f (map (of_use list ℓ) l) ↔ ((u : ℕ) × (f ≡ finding S U list ℓ (suc u)) × C u)
  told_uses list {l} h f =
      Iff.trans (mem_map (of_use list ℓ) l)
      (λ q. let r = (h q.0).0 q.1 in (r.0, q.2 ∙ ap (of_use list ℓ) r.1 ∙ of_use_law list r.0, r.2), λ q. (entry S U ℓ q.0, (h _).1 (q.0, refl, q.2), q.1 ∙ sym (of_use_law list q.0)))

  -- of no use, or of one
  told_split : (list : ℕ) (f : Finding) → (((f ≡ finding S U list ℓ 0) × Claim S U list ℓ 0) ⊎ ((u : ℕ) × (f ≡ finding S U list ℓ (suc u)) × Claim S U list ℓ (suc u))) ↔ Told S U list ℓ f
  told_split list f = (λ q. ⊎_elim (λ r. (zero, r.0, r.1)) (λ r. (suc r.0, r.1, r.2)) q, λ q. back q.0 q.1 q.2)
    where
      back : (c : ℕ) → f ≡ finding S U list ℓ c → Claim S U list ℓ c → ((f ≡ finding S U list ℓ 0) × Claim S U list ℓ 0) ⊎ ((u : ℕ) × (f ≡ finding S U list ℓ (suc u)) × Claim S U list ℓ (suc u))
      back zero e k = inl (e, k)
      back (suc u) e k = inr (u, e, k)

  unassigned_use : (x : Use) → Memᴰ x (first_unassigned_use g (local_at S ℓ) d us) ↔ Is S U ℓ (Unassigned S U ℓ) x
  unfolding first_unassigned_use
  unassigned_use x = Iff.trans (mem_only (judged (λ a. Iff.rfl)) (λ j. empty_read_law S U ℓ kinds j.0.all_found x)) (
    λ q. let n = q.1.2 in (q.1.0, q.1.1, record { judgeable = q.0.0; valueless = q.0.1; empty = n.here; first = λ y l e. n.first y (omega arith) l e }),
    λ q. let w = q.2 in ((w.judgeable, w.valueless), (q.0, q.1, record { here = w.empty; from = omega arith; first = λ y h l e. w.first y l e })),
  )

  -- list 0
  pub unassigned_law : (f : Finding) → Memᴰ f (unassigned_of S U ℓ) ↔ Told S U 0 ℓ f
  unfolding unassigned_of
  unassigned_law f =
      Iff.trans (told_uses 0 unassigned_use f) (Iff.trans (inr, λ q. ⊎_elim (λ r. absurd r.1) (λ r. r) q) (told_split 0 f))

  at_node_law : (v : ℕ) → AllFound S U ℓ → (x : Use) → Memᴰ x (overwritten_at g (ahead g d us) v us) ↔ Among S U ℓ (LostWrite S U ℓ v) 0 x
  at_node_law v all x = lost_from S U ℓ kinds all v (from_all S U ℓ) x

  lost_use : (x : Use) → Memᴰ x (writes_overwritten g (local_at S ℓ) d us) ↔ Is S U ℓ (Overwritten S U ℓ) x
  unfolding writes_overwritten
  lost_use x = Iff.trans (mem_only (judged (λ a. Iff.rfl)) (λ j. at_nodes j.0.all_found)) (there, back)
    where
      AtNodes : Type 0
      AtNodes = (v : ℕ) × (v < node_count g) × Among S U ℓ (LostWrite S U ℓ v) 0 x

      at_nodes : AllFound S U ℓ → Memᴰ x (overwritten_below g (ahead g d us) (node_count g) us) ↔ AtNodes
      at_nodes a =
          rw (each_node g (ahead g d us) (node_count g) us)
          (Iff.trans (mem_each (λ v. overwritten_at g (ahead g d us) v us) (node_count g))
          (λ q. (q.0, q.1, (at_node_law q.0 a x).0 q.2), λ q. (q.0, q.1, (at_node_law q.0 a x).1 q.2)))

      there : (Judgeable S U ℓ × (writes_judged (local_at S ℓ) ≡ true)) × AtNodes → Is S U ℓ (Overwritten S U ℓ) x
      there q =
          let r = q.1.2 in
          let w = r.3 in
          (r.0, r.1, record { judgeable = q.0.0; judged = q.0.1; node = q.1.0; here = w.here; write = w.write; lost = w.lost })

      back : Is S U ℓ (Overwritten S U ℓ) x → (Judgeable S U ℓ × (writes_judged (local_at S ℓ) ≡ true)) × AtNodes
      back q =
          let w = q.2 in
          ((w.judgeable, w.judged), (w.node, code_node_law S _ w.node w.here.at_node, (q.0, q.1, omega arith, record { here = w.here; write = w.write; lost = w.lost })))

  initial_law : (initial_overwritten g (local_at S ℓ) d us ≡ true) ↔ OverwrittenInitial S U ℓ
  unfolding initial_overwritten
  initial_law =
      Iff.trans (and_then (judged (λ a. not_law Iff.rfl)) (λ j. unread_law S U ℓ kinds j.0.all_found d.node))
      (λ q. record { judgeable = q.0.0; valued = q.0.1; lost = q.1 }, λ o. ((o.judgeable, o.valued), o.lost))

  of_initial_law : of_initial ℓ (get_or (graph S).names.span ℓ 0) ≡ finding S U 1 ℓ 0
  of_initial_law = refl

  -- list 1
  pub overwritten_law : (f : Finding) → Memᴰ f (overwritten_of S U ℓ) ↔ Told S U 1 ℓ f
  unfolding overwritten_of
  overwritten_law f =
      Iff.trans (mem_append _ _)
      (Iff.trans (or_map (Iff.trans (mem_only initial_law (λ o. mem_one _)) (λ q. (q.1 ∙ of_initial_law, q.0), λ q. (q.1, q.0 ∙ sym of_initial_law))) (told_uses 1 lost_use f)) (told_split 1 f))

  -- ---- they rise

  first_rising : {R : Use → Use → Type 0} (live written : List ℕ) (l : List Use) → Rising R (first_empty_read live written l)
  unfolding first_empty_read
  first_rising live written [] = nil
  first_rising {R} live written (u ∷ l) = either (Rising R) (is_empty_read live written u) (rising_one u) (first_rising live (only_if (is_write u) (node u ∷ []) ++ written) l)

  pub unassigned_rising : Rising (Prior S U) (unassigned_of S U ℓ)
  unfolding unassigned_of first_unassigned_use
  unassigned_rising = rising_map (Prior S U) (of_use 0 ℓ) (rising_only (judged {c = no_value (local_at S ℓ)} (λ a. Iff.rfl)) (λ j. first_rising (live_after_writes g d us) [] us))

  module _ (few : ℓ < 1024) where
    coded : (c : ℕ) {f : Finding} → f ≡ finding S U 1 ℓ c → Coded f 1 ℓ c
    coded c e = record { small = omega arith; few = few; coded = ap (λ (z : Finding). z.word) e }

    -- two uses by their nodes, then by their numbers
    abbrev Later : Use → Use → Type 0
    Later x y = Prior S U (of_use 1 ℓ x) (of_use 1 ℓ y)

    later_by : (x y : Use) {u w v z : ℕ} → x ≡ entry S U ℓ u → y ≡ entry S U ℓ w → LostWrite S U ℓ v u → LostWrite S U ℓ z w → Before (v ∷ suc u ∷ []) (z ∷ suc w ∷ []) → Later x y
    later_by x y {u} {w} e f m n b =
        prior_by S U (coded (suc u) (ap (of_use 1 ℓ) e ∙ of_use_law 1 u)) (coded (suc w) (ap (of_use 1 ℓ) f ∙ of_use_law 1 w)) (inr (refl, inr (refl, inr (refl, rw (m.here.at_node, n.here.at_node) b))))

    module _ (all : AllFound S U ℓ) where
      at_rising : (v : ℕ) {k : ℕ} {rest : List Use} → From S U ℓ k rest → Rising Later (overwritten_at g (ahead g d us) v rest)
      unfolding overwritten_at
      at_rising v (end h) = nil
      at_rising v (one {u = u} n r) =
          let test = lost_law S U ℓ kinds all v n.here r in
          rising_append _ _ (rising_only test (λ w. rising_one (entry S U ℓ u))) (at_rising v r)
          (λ x y m k. let p = (mem_only test (λ w. mem_one (entry S U ℓ u))).0 m in let q = (lost_from S U ℓ kinds all v r y).0 k in later_by x y p.1 q.1 p.0 q.3 (inr (refl, inl (omega (arith, q.2)))))

      lost_rising : Rising Later (overwritten_below g (ahead g d us) (node_count g) us)
      lost_rising =
          rw (each_node g (ahead g d us) (node_count g) us)
          (rising_each (λ v. overwritten_at g (ahead g d us) v us) (node_count g) (λ v h. at_rising v (from_all S U ℓ))
          (λ i j h k x y m l. let p = (at_node_law i all x).0 m in let q = (at_node_law j all y).0 l in later_by x y p.1 q.1 p.3 q.3 (inl h)))

    pub overwritten_rising : Rising (Prior S U) (overwritten_of S U ℓ)
    unfolding overwritten_of writes_overwritten
    overwritten_rising =
        rising_append _ _ (rising_only initial_law (λ o. rising_one _)) (rising_map (Prior S U) (of_use 1 ℓ) (rising_only (judged {c = writes_judged (local_at S ℓ)} (λ a. Iff.rfl)) (λ j. lost_rising j.0.all_found)))
        (λ x y m k. let p = (mem_only initial_law (λ o. mem_one _)).0 m in let q = (told_uses 1 lost_use y).0 k in prior_by S U (coded 0 (p.1 ∙ of_initial_law)) (coded (suc q.0) q.1) (inr (refl, inr (refl, inl (omega arith)))))
