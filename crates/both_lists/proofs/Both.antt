-- From what both passes list to the findings of the specification, and what each pass asks of a pair's tables.
-- Assumes nothing.
use Prim.Native.Nat.{ℕ, ◌≤◌}
use mathlib.Core.Path.{◌≡◌, sym, ap, ◌∙◌}
use mathlib.Core.List.{List, ◌++◌, map-append}
use native.Mathlib.Omega.{arith}
use lib.ListN.{length}
use Rattle.flow.specs.Locals.{Finding, locals}
use Rattle.flow.specs.Findings.{uses_of, unassigned_of, overwritten_of, of_each, findings}
use Rattle.flow.specs.Judge.{words_of}
use Rattle.use_words.specs.declared.PlacedUse.{PlacedUse}
use Rattle.live_steps.specs.Walk.{nodes_of}
use Rattle.locals.specs.declared.PassTables.{PassTables}
use Rattle.locals.specs.declared.FindingList.{FindingList}
use Rattle.locals.specs.Columns.{Pass, PassOf, uses_by_node}
use Rattle.locals.specs.Entries.{AddsTo}
use Rattle.locals.proofs.Entries.{added_more}
use Rattle.both_lists.specs.Passes.{Pair}

module _ {S U : List ℕ} {p : PassTables} {by_node : List PlacedUse} (q : Pair S U p by_node) where
  pub in_use_order : PassOf (uses_of S U) p S U
  in_use_order = record { charted = q.charted; named = q.named; table = q.tables.in_use_order }

  pub in_node_order : Pass (uses_by_node S U (nodes_of p.graph)) S U (nodes_of p.graph) (length p.facts.now) p.graph.edges.first.now p.graph.edges.second.now p.graph.start.now p.names.node.now p.names.scope_end.now p.facts.now p.uses.starts.now by_node
  in_node_order = record { charted = q.charted; named = q.named; table = q.tables.in_node_order }

-- what both list, one after the other
module _ (S U : List ℕ) {names : ℕ} (e : length (locals S) ≡ names) where
  abbrev unassigned : List Finding
  unassigned = of_each (unassigned_of S U) names

  abbrev overwritten : List Finding
  overwritten = of_each (overwritten_of S U) names

  both_words : words_of unassigned ++ words_of overwritten ≡ words_of (findings S U)
  unfolding findings
  both_words = sym (map-append (λ f. f.word) unassigned overwritten) ∙ ap (λ (k : ℕ). words_of (of_each (unassigned_of S U) k ++ of_each (overwritten_of S U) k)) (sym e)

  pub both_listed : (old mid new : FindingList) → mid.count ≤ length old.words.now → AddsTo (words_of unassigned) old mid → AddsTo (words_of overwritten) mid new → AddsTo (words_of (findings S U)) old new
  both_listed old mid new h a b = (rw (← both_words) (added_more a.0 (omega (arith, a.0.counted)) b.0), b.1 ∙ a.1)
