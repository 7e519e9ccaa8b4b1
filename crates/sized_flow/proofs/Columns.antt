-- What both passes ask, once the tables are made, and that columns of zeros are memory enough.
-- Assumes nothing.
use Prim.Native.Nat.{ℕ, ◌≤◌, ◌<◌}
use mathlib.Core.Path.{◌≡◌}
use mathlib.Core.List.{List}
use native.Mathlib.Omega.{arith}
use lib.ListN.{length, replicate, length-replicate}
use Rattle.search.proofs.Stamps.{unmarked_zeros}
use Rattle.use_words.specs.declared.PlacedUse.{PlacedUse}
use Rattle.predecessors.specs.Predecessors.{unlinked}
use Rattle.facts.specs.declared.NameFacts.{NameFacts}
use Rattle.live_steps.specs.declared.FlowGraph.{FlowGraph}
use Rattle.live_steps.specs.Walk.{nodes_of}
use Rattle.locals.specs.declared.DeclarationTable.{DeclarationTable}
use Rattle.locals.specs.declared.PassTables.{PassTables}
use Rattle.locals.specs.Columns.{Tables}
use Rattle.tables.specs.declared.CodeColumns.{CodeColumns}
use Rattle.sheet_parts.specs.declared.Items.{Items}
use Rattle.tables.specs.declared.PairTables.{PairTables}
use Rattle.tables.specs.Tables.{Room}
use Rattle.overwritten.proofs.Locals.{lent}
use Rattle.both_lists.specs.declared.GraphWalk.{GraphWalk}
use Rattle.both_lists.specs.Passes.{Pair, Walks}
use Rattle.sized_flow.specs.Given.{Given}

pub pair : {S U : List ℕ} {g : FlowGraph} {names : DeclarationTable} {codes : CodeColumns} {uses : Items} {facts₀ : List NameFacts}
    → Given S U g names codes uses facts₀ → (p : PassTables) (by_node : List PlacedUse) → p.graph ≡ g → p.names ≡ names → length p.facts.now ≡ length facts₀
    → Tables S U (nodes_of g) (length facts₀) p.facts.now p.uses.starts.now p.uses.uses.now by_node → Pair S U p by_node
pair q p by_node eg en ef t = record {
  charted = rw eg q.columns.charted;
  named = rw (eg, en, ef) q.columns.named;
  tables = rw (eg, ef) t;
}

-- ---- the memory

-- tables of j uses, whatever they hold, and m zeros are memory for all that has at most k nodes and names, and at most j uses
pub tables_room : {n names uses m : ℕ} {tables : PairTables} (x : PlacedUse) (k j : ℕ) → n ≤ k → names ≤ k → uses ≤ j → k < m
    → tables.starts.now ≡ replicate m 0 → tables.by_local.now ≡ replicate j x → tables.by_node.now ≡ replicate j x → Room uses names n (replicate j x) tables
tables_room {m = m} x k j h i u l s a b =
    let cells = length-replicate {A = PlacedUse} j x in
    let keys = length-replicate {A = ℕ} m 0 in
    record {
      uses_long = omega (arith, cells);
      name_starts = rw s (omega (arith, keys));
      node_starts = rw s (omega (arith, keys));
      by_local_long = rw a (omega (arith, cells));
      by_node_long = rw b (omega (arith, cells));
    }

-- columns of k zeros are memory for the walks in a graph of at most k nodes
pub walking_room : {n : ℕ} {w : GraphWalk} (k : ℕ) → n ≤ k → w.visited.now ≡ replicate k 0 → w.stack.now ≡ replicate k 0 → w.chain.now ≡ replicate k unlinked
    → w.used.now ≡ replicate k 0 → w.reads.now ≡ replicate k 0 → w.writes.now ≡ replicate k 0 → Walks n w
walking_room {n} k h v s c u r w = record { unmarked = rw (v, s) (unmarked_zeros n k h); lent = rw (c, u, r, w, s) (lent n k h) }
