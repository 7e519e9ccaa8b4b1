-- What run answers, from a chart's columns.
-- Assumes nothing.
use mathlib.Core.Path.{◌≡◌, sym, ap, ap₂, ◌∙◌}
use mathlib.Core.Bool.{Bool}
use mathlib.Core.List.{List}
use Prim.Native.Nat.{ℕ}
use native.Mathlib.Omega.{arith}
use lib.ListN.{length, take}
use lib.Seq.{length-take-le}
use Rattle.std.specs.Prelude.{Option}
use Rattle.flow.specs.declared.Counts.{Counts}
use Rattle.flow.specs.declared.Ran.{Ran}
use Rattle.flow.specs.Graph.{node_count, graph}
use Rattle.flow.specs.Reachable.{reachable, node_among, node_at, can_run}
use Rattle.flow.specs.Admitted.{AdmittedSheet}
use Rattle.flow.proofs.CodeNodes.{code_node_law}
use Rattle.offsets.specs.Codes.{Rising, Within}
use Rattle.offsets.proofs.Offsets.{rising_cut}
use Rattle.chart.specs.Lent.{Columns, Lent, Charted}
use Rattle.chart.proofs.Read.{nodes_are, flags_read, spans_read, code_nodes_read, ends_rise}

module _ {S : List ℕ} {r : Counts} {l : Lent} (a : AdmittedSheet S) (h : Charted S r l) where
  abbrev y : Columns
  y = l.after

  -- both columns of codes, cut to the codes
  pub spans_cut : r.codes ≡ length (take r.codes y.codes.span)
  spans_cut = sym (length-take-le r.codes y.codes.span (spans_read a h).long)

  pub nodes_cut : r.codes ≡ length (take r.codes y.codes.node)
  nodes_cut = sym (length-take-le r.codes y.codes.node (code_nodes_read a h).long)

  pub codes_rise : Rising (length (take r.codes y.codes.span)) (take r.codes y.codes.span)
  codes_rise = rising_cut r.codes y.codes.span (spans_read a h).long (ends_rise a h)

  pub place_is : (o : ℕ) {p : Option ℕ} → p ≡ node_among (take r.codes y.codes.span) (take r.codes y.codes.node) o → p ≡ node_at (graph S) o
  unfolding node_at
  place_is o e = e ∙ ap₂ (λ (s n : List ℕ). node_among s n o) (spans_read a h).cells (code_nodes_read a h).cells

  pub place_in : (o : ℕ) {p : Option ℕ} → p ≡ node_at (graph S) o → Within (node_count (graph S)) p
  place_in o e v q = code_node_law S o v (sym e ∙ q)

  pub place_long : (o : ℕ) {p : Option ℕ} → p ≡ node_at (graph S) o → Within (length y.nodes.reachable) p
  place_long o e v q = omega (arith, place_in o e v q, (flags_read a h).long, nodes_are a h)

  pub flags_are : take (node_count (graph S)) y.nodes.reachable ≡ reachable (graph S)
  flags_are = ap (λ (k : ℕ). take k y.nodes.reachable) (sym (nodes_are a h)) ∙ (flags_read a h).cells

pub ran : (S : List ℕ) (o : ℕ) {p : Option ℕ} {b : Bool} → p ≡ node_at (graph S) o → b ≡ can_run (graph S) p → ◌≡◌ {A = Ran} (record { node = p; can_run = b }) (record { node = node_at (graph S) o; can_run = can_run (graph S) (node_at (graph S) o) })
ran S o e f = ap₂ (λ (q : Option ℕ) (c : Bool). record { node = q; can_run = c }) e (f ∙ ap (can_run (graph S)) e)
