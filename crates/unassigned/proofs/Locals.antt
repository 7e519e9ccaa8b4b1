-- One local of the pass: its walk over the columns finds what the sheets say.
-- Assumes nothing.
use Prim.Native.Nat.{ℕ, ◌-◌, ◌<◌, ◌≤◌}
use mathlib.Core.Path.{◌≡◌, refl, sym, ap, ap₂, ◌∙◌}
use mathlib.Core.Bool.{Bool, true, false, cond}
use mathlib.Core.List.{List, [], ◌∷◌, map}
use native.Mathlib.Omega.{arith}
use Rattle.std.specs.Prelude.{Option, None}
use Rattle.search.specs.Search.{zeros}
use Rattle.flow.specs.Graph.{Graph, node_count, graph}
use Rattle.flow.specs.Locals.{local_at, Declaration, declaration}
use Rattle.flow.specs.Findings.{Use, uses_of, all_found, live_after_writes, first_empty_read, first_unassigned_use, unassigned_of}
use Rattle.flow.specs.Judge.{words_of}
use Rattle.flow.proofs.OwnUses.{nodes_live, renumbered_live, renumbered_first}
use Rattle.use_words.specs.declared.PlacedUse.{PlacedUse}
use Rattle.use_words.specs.Words.{uses_in, spanless}
use Rattle.use_words.proofs.Words.{spanless_renumbers}
use Rattle.live_steps.specs.Walk.{chart}
use Rattle.empty_read.specs.FirstRead.{first_number}
use Rattle.local_walk.specs.Walks.{first_empty}
use Rattle.facts.specs.declared.NameFacts.{NameFacts}
use Rattle.facts.specs.Facts.{is_due}
use Rattle.locals.specs.Columns.{part_at, Pass}
use Rattle.locals.proofs.Columns.{charted_nodes}
use Rattle.unassigned.specs.Words.{words_at, unassigned_words, visits, mark_figure}
use Rattle.flow.proofs.Few.{first_few}
use Rattle.unassigned.proofs.Words.{words_are}

number_kept : (us : List Use) → first_number (map spanless us) ≡ first_number us
number_kept [] = refl
number_kept (u ∷ us) = refl

-- "at most the node count"
pub figure_few : (S U : List ℕ) (ℓ : ℕ) → mark_figure S U ℓ ≤ node_count (graph S)
unfolding mark_figure
figure_few S U ℓ = go (is_due (local_at S ℓ) (all_found (uses_of S U ℓ))) (node_count (graph S)) (zeros (node_count (graph S)) (live_after_writes (graph S) (declaration (graph S) ℓ) (uses_of S U ℓ)))
  where
    go : (b : Bool) (n k : ℕ) → cond b (n - k) 0 ≤ n
    go true n k = omega arith
    go false n k = omega arith

-- ---- the columns of a pass

module _ {S U : List ℕ} {n names : ℕ} {first second start node_of_name name_end : List ℕ} {facts : List NameFacts} {starts : List ℕ} {byLocal : List PlacedUse} (p : Pass (uses_of S U) S U n names first second start node_of_name name_end facts starts byLocal) (ℓ : ℕ) (h : ℓ < names) where
  module _ (d : Declaration) where
    abbrev columns : Graph
    columns = chart n first second start

    abbrev own : List Use
    own = uses_of S U ℓ

    -- a walk over the columns marks the nodes of the graph
    walk_live : live_after_writes columns d (uses_in (part_at ℓ starts byLocal)) ≡ live_after_writes (graph S) d own
    walk_live =
        ap (live_after_writes columns d) (p.table.parts.holds ℓ h)
        ∙ renumbered_live spanless_renumbers columns d own
        ∙ nodes_live columns (graph S) (charted_nodes p.charted.charts) d own

    -- and finds the same use
    walk_first : first_number (first_empty columns d (uses_in (part_at ℓ starts byLocal))) ≡ first_number (first_empty (graph S) d own)
    walk_first =
        ap₂ (λ (live : List ℕ) (us : List Use). first_number (first_empty_read live [] us)) walk_live (p.table.parts.holds ℓ h)
        ∙ ap first_number (renumbered_first spanless_renumbers (live_after_writes (graph S) d own) [] own)
        ∙ number_kept (first_empty (graph S) d own)

  -- what the walk with the facts, declaration and uses that were read gives
  module _ (due : Bool) (e : due ≡ is_due (local_at S ℓ) (all_found (uses_of S U ℓ))) (d : Declaration) (t : d ≡ declaration (graph S) ℓ) (mine : List PlacedUse) (m : mine ≡ part_at ℓ starts byLocal) where
    pub local_words : unassigned_words due ℓ (chart n first second start) d (uses_in mine) ≡ words_of (unassigned_of S U ℓ)
    unfolding unassigned_of first_unassigned_use
    local_words =
        let us : List Use = uses_of S U ℓ in
        let d' : Declaration = declaration (graph S) ℓ in
        ap (λ (l : List PlacedUse). words_at ℓ (cond due (first_number (first_empty (chart n first second start) d (uses_in l))) None)) m
        ∙ ap (λ (c : Option ℕ). words_at ℓ (cond due c None)) (walk_first d)
        ∙ ap₂ (λ (b : Bool) (x : Declaration). words_at ℓ (cond b (first_number (first_empty (graph S) x us)) None)) e t
        ∙ words_are ℓ (is_due (local_at S ℓ) (all_found us)) (first_empty (graph S) d' us) (first_few (live_after_writes (graph S) d' us) [] us)

    pub local_figure : visits due n (chart n first second start) d (uses_in mine) ≡ mark_figure S U ℓ
    unfolding mark_figure
    local_figure =
        ap (λ (l : List PlacedUse). visits due n (chart n first second start) d (uses_in l)) m
        ∙ ap (λ (l : List ℕ). cond due (n - zeros n l) 0) (walk_live d)
        ∙ (λ i. visits (e i) (sym p.charted.count i) (graph S) (t i) (uses_of S U ℓ))
