-- Columns that are not too short are wide enough, and stay so.
-- Assumes nothing.
use mathlib.Core.Bool.{false}
use mathlib.Core.List.{List}
use mathlib.Core.Path.{◌≡◌}
use Prim.Native.Nat.{ℕ, ◌≤◌}
use native.Mathlib.Omega.{arith}
use lib.ListN.{length, length-append, length-drop}
use Rattle.column_lengths.specs.Lengths.{chart_too_short}
use Rattle.column_lengths.proofs.Long.{all_long}
use Rattle.flow.specs.declared.Counts.{Counts}
use Rattle.flow.specs.Graph.{graph}
use Rattle.flow.specs.Reachable.{reachable}
use Rattle.chart.specs.Lent.{overlay, Columns, Lent, node_lengths, code_lengths, name_lengths, chart_short, Wide, chart_of, Charted}

pub wide : (x : Columns) → chart_short x ≡ false → Wide x
unfolding chart_too_short
wide x e =
    let n = all_long 1600 (node_lengths x) _ e in
    let c = all_long 1024 (code_lengths x) _ n.1 in
    let l = all_long 1024 (name_lengths x) _ c.1 in
    record {
      first = n.0.0;
      second = n.0.1.0;
      start = n.0.1.1.0;
      reachable = n.0.1.1.1.0;
      code_span = c.0.0;
      code_node = c.0.1.0;
      name_span = l.0.0;
      node_of_name = l.0.1.0;
      name_end = l.0.1.1.0;
    }

-- what is written over a column makes it no shorter
pub over : {n : ℕ} (written old : List ℕ) → n ≤ length old → n ≤ length (overlay written old)
over written old h = simp (length-append, length-drop) (omega (arith, h))

pub wide_after : {S : List ℕ} {r : Counts} {l : Lent} → Charted S r l → Wide l.before → Wide l.after
unfolding chart_of
wide_after {S} {l = l} h w =
    rw h.written record {
      first = over (graph S).nodes.first l.before.nodes.first w.first;
      second = over (graph S).nodes.second l.before.nodes.second w.second;
      start = over (graph S).nodes.start l.before.nodes.start w.start;
      reachable = over (reachable (graph S)) l.before.nodes.reachable w.reachable;
      code_span = over (graph S).codes.span l.before.codes.span w.code_span;
      code_node = over (graph S).codes.node l.before.codes.node w.code_node;
      name_span = over (graph S).names.span l.before.names.span w.name_span;
      node_of_name = over (graph S).names.node l.before.names.node w.node_of_name;
      name_end = over (graph S).names.scope_end l.before.names.scope_end w.name_end;
    }
