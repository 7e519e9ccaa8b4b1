-- What is listed of a local, by whether it is judged: a tracked local whose writes are not judged has no initial value, so that one test decides. Where it is judged, the words that its part of the uses by node gives are those of its findings.
-- Assumes nothing.
use Prim.Native.Nat.{ℕ, zero, suc, ◌+◌, ◌-◌, ◌≤◌, ◌<◌}
use mathlib.Core.Path.{◌≡◌, refl, sym, ap, ap₂, ◌∙◌}
use mathlib.Core.Bool.{Bool, true, false, ◌&&◌, ◌||◌, not, false≢true}
use mathlib.Core.List.{List, [], ◌∷◌, ◌++◌, map, map-append, map-map}
use native.Mathlib.Omega.{arith}
use lib.ListN.{length, get_or, drop, length-take}
use Rattle.flow.specs.Graph.{Graph, Nodes, graph, node_count}
use Rattle.flow.specs.Locals.{Local, Finding, only_if, underscore, no_value, writes_judged, tracked, local_at, Declaration, declaration, finding_word}
use Rattle.flow.specs.Findings.{Use, Ahead, all_found, uses_of, ahead, is_overwritten_unread, overwritten_below, initial_overwritten, writes_overwritten, of_initial, of_use, overwritten_of, of_each}
use Rattle.flow.specs.Judge.{words_of}
use Rattle.flow.proofs.OwnUses.{renumbered_ahead, nodes_ahead, nodes_unread, nodes_below}
use Rattle.use_words.specs.Words.{spanless, uses_in}
use Rattle.use_words.proofs.Words.{spanless_renumbers}
use Rattle.live_steps.specs.Walk.{chart}
use Rattle.uses_by_node.specs.Uses.{by_node, Rising, overwritten_in}
use Rattle.uses_by_node.proofs.ByNode.{words_rise, ahead_by, over_spanless, overwritten_by}
use Rattle.use_words.specs.declared.PlacedUse.{PlacedUse}
use Rattle.facts.specs.declared.NameFacts.{NameFacts}
use Rattle.facts.specs.Facts.{is_judged, None}
use Rattle.locals.specs.Columns.{Pass, uses_by_node, part_at}
use Rattle.locals.proofs.Columns.{charted_nodes}
use Rattle.local_values.specs.Words.{write_word, initial_words, write_words, value_words, judged_words}

-- ---- the tests

-- a tracked local whose writes are not judged has no value
lacks_value : (l : Local) → tracked l ≡ true → writes_judged l ≡ false → no_value l ≡ true
unfolding tracked
lacks_value l t j = go (underscore l) (no_value l) (writes_judged l) t j
  where
    go : (u v w : Bool) → (not u && (v || w)) ≡ true → w ≡ false → v ≡ true
    go u true w t j = refl
    go true false w t j = absurd (false≢true t)
    go false false true t j = absurd (false≢true (sym j))
    go false false false t j = absurd (false≢true t)

-- no initial value is tested where t, f and j do not all hold
no_initial : (t f j v x : Bool) → (t ≡ true → j ≡ false → v ≡ true) → (t && f && j) ≡ false → (t && f && not v && x) ≡ false
no_initial false f j v x h e = refl
no_initial true false j v x h e = refl
no_initial true true true v x h e = absurd (false≢true (sym e))
no_initial true true false true x h e = refl
no_initial true true false false x h e = absurd (false≢true (h refl refl))

-- where they do, only its own
an_initial : (t f j y x : Bool) → (t && f && j) ≡ true → (t && f && y && x) ≡ (y && x)
an_initial true true j y x e = refl
an_initial true false j y x e = absurd (false≢true e)
an_initial false f j y x e = absurd (false≢true e)

-- ---- one local

-- the words of a local that is judged, from its uses in use order
abbrev spelled : ℕ → Bool → Graph → Declaration → ℕ → List Use → List ℕ
spelled ℓ has g d n us = initial_words ℓ has g (ahead g d us) d.node ++ map (write_word ℓ) (overwritten_below g (ahead g d us) n us)

module _ (S U : List ℕ) (ℓ : ℕ) where
  abbrev us : List Use
  us = uses_of S U ℓ

  abbrev l : Local
  l = local_at S ℓ

  abbrev d : Declaration
  d = declaration (graph S) ℓ

  abbrev found : Ahead
  found = ahead (graph S) d us

  pub none_listed : is_judged l (all_found us) ≡ false → overwritten_of S U ℓ ≡ []
  unfolding overwritten_of initial_overwritten writes_overwritten
  none_listed e =
      rw (no_initial (tracked l) (all_found us) (writes_judged l) (no_value l) (is_overwritten_unread (graph S) found d.node) (lacks_value l) e, e)

  -- the words of its findings
  initial_word : (b : Bool) (s : ℕ) → words_of (only_if b (of_initial ℓ s ∷ [])) ≡ only_if b (finding_word 1 ℓ 0 ∷ [])
  initial_word true s = refl
  initial_word false s = refl

  words_listed : is_judged l (all_found us) ≡ true → words_of (overwritten_of S U ℓ) ≡ spelled ℓ (not (no_value l)) (graph S) d (node_count (graph S)) us
  unfolding overwritten_of initial_overwritten writes_overwritten
  words_listed e =
      let x : Bool = is_overwritten_unread (graph S) found d.node in
      let s : ℕ = get_or (graph S).names.span ℓ 0 in
      let writes : List Use = overwritten_below (graph S) found (node_count (graph S)) us in
      rw (an_initial (tracked l) (all_found us) (writes_judged l) (not (no_value l)) x e, e)
      (map-append (λ (f : Finding). f.word) (only_if (not (no_value l) && x) (of_initial ℓ s ∷ [])) (map (of_use 1 ℓ) writes)
      ∙ ap₂ (λ (a b : List ℕ). a ++ b) (initial_word (not (no_value l) && x) s) (map-map (λ (f : Finding). f.word) (of_use 1 ℓ) writes))

-- the same by its uses by node, without their spans
module _ (g : Graph) (d : Declaration) (n : ℕ) (us : List Use) (count : node_count g ≡ n) (ℓ : ℕ) (has : Bool) where
  writes_by_node : (a : Ahead) → write_words ℓ g a (map spanless (by_node n us)) ≡ map (write_word ℓ) (overwritten_below g a n us)
  writes_by_node a =
      ap (map (write_word ℓ)) (over_spanless g a (by_node n us))
      ∙ map-map (write_word ℓ) spanless (overwritten_in g a (by_node n us))
      ∙ ap (map (write_word ℓ)) (overwritten_by g a n us)

  words_by_node : judged_words ℓ has g d (map spanless (by_node n us)) ≡ spelled ℓ has g d n us
  words_by_node =
      let a : Ahead = ahead g d us in
      let same : ahead g d (map spanless (by_node n us)) ≡ a = renumbered_ahead spanless_renumbers g d (by_node n us) ∙ ahead_by g d n us count in
      ap (λ (x : Ahead). value_words ℓ has g x d.node (map spanless (by_node n us))) same ∙ ap (λ (ws : List ℕ). initial_words ℓ has g a d.node ++ ws) (writes_by_node a)

-- by the nodes of the graph alone
words_by_nodes : (g h : Graph) → g.nodes ≡ h.nodes → (d : Declaration) (n : ℕ) (us : List Use) (ℓ : ℕ) (has : Bool) → spelled ℓ has g d n us ≡ spelled ℓ has h d n us
words_by_nodes g h e d n us ℓ has =
    ap (λ (a : Ahead). initial_words ℓ has g a d.node ++ map (write_word ℓ) (overwritten_below g a n us)) (nodes_ahead g h e d us)
    ∙ ap₂ (λ (b : Bool) (ws : List Use). only_if (has && b) (finding_word 1 ℓ 0 ∷ []) ++ map (write_word ℓ) ws) (nodes_unread g h e (ahead h d us) d.node) (nodes_below g h e (ahead h d us) n us)

-- ---- by the columns of the pass

module _ {S U : List ℕ} {n names : ℕ} {first second start node_of_name name_end : List ℕ} {facts : List NameFacts} {starts : List ℕ} {column : List PlacedUse} (p : Pass (uses_by_node S U n) S U n names first second start node_of_name name_end facts starts column) {ℓ : ℕ} (h : ℓ < names) where
  judged : is_judged (local_at S ℓ) (all_found (uses_of S U ℓ)) ≡ true → words_of (overwritten_of S U ℓ) ≡ judged_words ℓ (not (no_value (local_at S ℓ))) (chart n first second start) (declaration (graph S) ℓ) (uses_in (part_at ℓ starts column))
  judged e =
      let g : Graph = chart n first second start in
      let same : g.nodes ≡ (graph S).nodes = charted_nodes p.charted.charts in
      let d : Declaration = declaration (graph S) ℓ in
      let us : List Use = uses_of S U ℓ in
      let has : Bool = not (no_value (local_at S ℓ)) in
      let count : node_count g ≡ n = ap (λ (ns : Nodes). length ns.first) same ∙ p.charted.count in
      let by_node_law : judged_words ℓ has g d (uses_in (part_at ℓ starts column)) ≡ spelled ℓ has g d n us = ap (judged_words ℓ has g d) (p.table.parts.holds ℓ h) ∙ words_by_node g d n us count ℓ has in
      rw p.charted.count at (words_listed S U ℓ e) ∙ sym (by_node_law ∙ words_by_nodes g (graph S) same d n us ℓ has)

  -- the same of what was read of the local
  pub judged_as : is_judged (local_at S ℓ) (all_found (uses_of S U ℓ)) ≡ true → (has : Bool) → has ≡ not (no_value (local_at S ℓ)) → (d : Declaration) → d ≡ declaration (graph S) ℓ → (sorted : List PlacedUse) → sorted ≡ part_at ℓ starts column → words_of (overwritten_of S U ℓ) ≡ judged_words ℓ has (chart n first second start) d (uses_in sorted)
  judged_as e has v d w sorted q = judged e ∙ (λ i. judged_words ℓ (sym v i) (chart n first second start) (sym w i) (uses_in (sym q i)))

  -- the local's uses stand by node
  pub part_rises : Rising (part_at ℓ starts column)
  part_rises = words_rise n (uses_of S U ℓ) (part_at ℓ starts column) (p.table.parts.holds ℓ h)

  -- they are no more than its starts say
  pub part_few : length (part_at ℓ starts column) ≤ get_or starts (ℓ + 1) 0 - get_or starts ℓ 0
  part_few = omega (arith, length-take (get_or starts (ℓ + 1) 0 - get_or starts ℓ 0) (drop (get_or starts ℓ 0) column))

-- ---- no local judged

pub each_none : (f : ℕ → List Finding) (k : ℕ) → ((ℓ : ℕ) → ℓ < k → f ℓ ≡ []) → of_each f k ≡ []
unfolding of_each
each_none f zero h = refl
each_none f (suc k) h = rw (each_none f k (λ ℓ l. h ℓ (omega (arith, l))), h k (omega arith))

-- then nothing is listed
pub nothing_listed : {S U : List ℕ} {n names : ℕ} {first second start node_of_name name_end : List ℕ} {facts : List NameFacts} {starts : List ℕ} {column : List PlacedUse} → Pass (uses_by_node S U n) S U n names first second start node_of_name name_end facts starts column → None is_judged names facts → of_each (overwritten_of S U) names ≡ []
nothing_listed {S} {U} {names = names} p none = each_none (overwritten_of S U) names (λ ℓ h. none_listed S U ℓ (none ℓ h (local_at S ℓ) (all_found (uses_of S U ℓ)) (p.table.known.facts_are ℓ h)))
