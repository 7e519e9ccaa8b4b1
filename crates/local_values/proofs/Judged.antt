-- What is listed by the marks of a local's next uses is what is listed by what is ahead of its uses: the tests go by edges alone, and not by where code starts.
-- Assumes nothing.
use Prim.Native.Nat.{ℕ}
use mathlib.Core.Path.{◌≡◌, refl, ap, ap₂, ◌∙◌}
use mathlib.Core.Bool.{Bool}
use mathlib.Core.List.{List, [], ◌∷◌, ◌++◌}
use Rattle.flow.specs.Locals.{only_if, Declaration}
use Rattle.flow.specs.Findings.{Use, Ahead, ahead, is_overwritten_unread, is_overwritten}
use Rattle.live_steps.specs.declared.Edges.{Edges}
use Rattle.live_steps.specs.declared.FlowGraph.{FlowGraph}
use Rattle.live_steps.specs.Walk.{nodes_in, nodes_of, chart, charted}
use Rattle.uses_by_node.specs.declared.AheadMarks.{AheadMarks}
use Rattle.uses_by_node.specs.Uses.{marked, edges_of, overwritten_in}
use Rattle.uses_by_node.specs.Marks.{ahead_of}
use Rattle.next_uses.specs.Backwards.{AheadMarked}
use Rattle.local_values.specs.Words.{value_words, judged_words}

module _ (n : ℕ) (first second start : List ℕ) where
  writes_alike : (a : Ahead) (us : List Use) → overwritten_in (chart n first second []) a us ≡ overwritten_in (chart n first second start) a us
  unfolding is_overwritten is_overwritten_unread
  writes_alike a [] = refl
  writes_alike a (u ∷ us) = ap (λ (l : List Use). only_if (is_overwritten (chart n first second start) a u us) (u ∷ []) ++ l) (writes_alike a us)

  values_alike : (ℓ : ℕ) (has : Bool) (a : Ahead) (v : ℕ) (us : List Use) → value_words ℓ has (chart n first second []) a v us ≡ value_words ℓ has (chart n first second start) a v us
  unfolding is_overwritten_unread
  values_alike ℓ has a v us = rw (writes_alike a us)

-- in the graph of code's columns, by marks of what is ahead there
pub judged_by_marks : (g : FlowGraph) (r : AheadMarks) (ℓ : ℕ) (has : Bool) (d : Declaration) (us : List Use) → r.edges ≡ g.edges → AheadMarked r.stamp (nodes_of g) r.reads.now r.writes.now (ahead (charted g) d us) → value_words ℓ has (edges_of r.edges) (ahead_of r) d.node us ≡ judged_words ℓ has (charted g) d us
judged_by_marks g r ℓ has d us e m =
    let marks : marked r.stamp (nodes_of g) r.reads.now r.writes.now ≡ ahead (charted g) d us = ap₂ (λ (x y : List ℕ). record { reads = x; writes = y }) m.reads_are m.writes_are in
    ap (λ (x : Edges). value_words ℓ has (edges_of x) (marked r.stamp (nodes_in x) r.reads.now r.writes.now) d.node us) e
    ∙ ap (λ (a : Ahead). value_words ℓ has (edges_of g.edges) a d.node us) marks
    ∙ values_alike (nodes_of g) g.edges.first.now g.edges.second.now g.start.now ℓ has (ahead (charted g) d us) d.node us
