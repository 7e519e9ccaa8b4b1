-- A chart's columns read back: the first cells of each are what the graph gives, as many as the counts say.
-- Assumes nothing.
use mathlib.Core.Path.{◌≡◌, sym, ap, ◌∙◌}
use mathlib.Core.List.{List}
use Prim.Native.Nat.{ℕ, ◌≤◌, ◌<◌}
use native.Mathlib.Omega.{arith}
use lib.ListN.{length, get_or, take, drop, length-append, get_or-append}
use lib.Seq.{take_at}
use Rattle.flow.specs.declared.Counts.{Counts}
use Rattle.flow.specs.Graph.{node_count, graph}
use Rattle.flow.specs.Reachable.{reachable}
use Rattle.flow.specs.Admitted.{AdmittedSheet}
use Rattle.flow.proofs.Flags.{reachable_length, reachable_flagged}
use Rattle.offsets.specs.Codes.{Rising}
use Rattle.chart.specs.Lent.{overlay, Columns, Lent, chart_of, Charted, Shown}

-- a column that begins with n entries
pub record Begins (n : ℕ) (entries col : List ℕ) : Type 0 where
  pub cells : take n col ≡ entries
  pub long : n ≤ length col
  pub cell : (i : ℕ) → i < n → get_or col i 0 ≡ get_or entries i 0

begins : {n : ℕ} (entries old : List ℕ) {col : List ℕ} → length entries ≡ n → col ≡ overlay entries old → Begins n entries col
begins {n} entries old e q = record {
  cells = rw q (take_at entries (drop (length entries) old) n e);
  long = rw q (simp length-append (omega arith));
  cell = λ i h. ap (λ (l : List ℕ). get_or l i 0) q ∙ get_or-append entries (drop (length entries) old) 0 i (omega arith);
}

module _ {S : List ℕ} {r : Counts} {l : Lent} (a : AdmittedSheet S) (h : Charted S r l) where
  abbrev x : Columns
  x = l.before

  abbrev y : Columns
  y = l.after

  pub nodes_are : r.nodes ≡ node_count (graph S)
  nodes_are = ap (λ (c : Counts). c.nodes) h.counts

  pub codes_are : r.codes ≡ length (graph S).codes.span
  codes_are = ap (λ (c : Counts). c.codes) h.counts

  pub names_are : r.names ≡ length (graph S).names.span
  names_are = ap (λ (c : Counts). c.names) h.counts

  pub first_read : Begins r.nodes (graph S).nodes.first y.nodes.first
  unfolding chart_of
  first_read = begins (graph S).nodes.first x.nodes.first (sym nodes_are) (ap (λ (z : Columns). z.nodes.first) h.written)

  pub second_read : Begins r.nodes (graph S).nodes.second y.nodes.second
  unfolding chart_of
  second_read = begins (graph S).nodes.second x.nodes.second (h.parallel.seconds ∙ sym nodes_are) (ap (λ (z : Columns). z.nodes.second) h.written)

  pub start_read : Begins r.nodes (graph S).nodes.start y.nodes.start
  unfolding chart_of
  start_read = begins (graph S).nodes.start x.nodes.start (h.parallel.starts ∙ sym nodes_are) (ap (λ (z : Columns). z.nodes.start) h.written)

  pub flags_read : Begins r.nodes (reachable (graph S)) y.nodes.reachable
  unfolding chart_of
  flags_read = begins (reachable (graph S)) x.nodes.reachable (reachable_length S ∙ sym nodes_are) (ap (λ (z : Columns). z.nodes.reachable) h.written)

  pub spans_read : Begins r.codes (graph S).codes.span y.codes.span
  unfolding chart_of
  spans_read = begins (graph S).codes.span x.codes.span (sym codes_are) (ap (λ (z : Columns). z.codes.span) h.written)

  pub code_nodes_read : Begins r.codes (graph S).codes.node y.codes.node
  unfolding chart_of
  code_nodes_read = begins (graph S).codes.node x.codes.node (a.code_nodes ∙ sym codes_are) (ap (λ (z : Columns). z.codes.node) h.written)

  pub ends_rise : Rising r.codes y.codes.span
  ends_rise i j p q =
      rw (spans_read.cell i (omega arith), spans_read.cell j q) (a.ends i j p (omega (arith, codes_are)))

  pub code_nodes_in : (i : ℕ) → i < r.codes → get_or y.codes.node i 0 < r.nodes
  code_nodes_in i q = rw (code_nodes_read.cell i q) (h.code_nodes i q)

  pub name_spans_read : Begins r.names (graph S).names.span y.names.span
  unfolding chart_of
  name_spans_read = begins (graph S).names.span x.names.span (sym names_are) (ap (λ (z : Columns). z.names.span) h.written)

  pub name_nodes_read : Begins r.names (graph S).names.node y.names.node
  unfolding chart_of
  name_nodes_read = begins (graph S).names.node x.names.node (a.name_nodes ∙ sym names_are) (ap (λ (z : Columns). z.names.node) h.written)

  pub name_ends_read : Begins r.names (graph S).names.scope_end y.names.scope_end
  unfolding chart_of
  name_ends_read = begins (graph S).names.scope_end x.names.scope_end (a.name_ends ∙ sym names_are) (ap (λ (z : Columns). z.names.scope_end) h.written)

  pub shown : Shown S y
  shown = record {
    parallel = h.parallel;
    local_names = sym a.all_names;
    flagged = record {
      bit = λ v q. rw (flags_read.cell v (omega (arith, nodes_are))) ((reachable_flagged S).bit v q);
      exactly = λ v q. rw (flags_read.cell v (omega (arith, nodes_are))) ((reachable_flagged S).exactly v q);
    };
  }
