-- A chart's columns and a use sheet are what the search for findings asks, and what it finds is what judge leaves.
-- Assumes nothing.
use mathlib.Core.Path.{◌≡◌, refl, sym, ap, ap₂, ◌∙◌, subst}
use mathlib.Core.List.{List, ◌++◌, map}
use Prim.Native.Nat.{ℕ, ◌<◌, ◌≤◌}
use native.Mathlib.Omega.{arith}
use lib.ListN.{length, get_or, take, drop, length-map}
use lib.Seq.{take_at, take_all, get_or-take, length-take-le}
use mathlib.Core.Bool.{false}
use Rattle.std.specs.Prelude.{Ok}
use Rattle.flow.specs.declared.Counts.{Counts}
use Rattle.flow.specs.Sheet.{kind_words, use_words, use_spans}
use Rattle.flow.specs.Refusals.{sheet_verdict}
use Rattle.flow.specs.Graph.{graph}
use Rattle.flow.specs.Locals.{locals}
use Rattle.flow.specs.Findings.{findings}
use Rattle.flow.specs.Judge.{words_of, spans_of}
use Rattle.flow.specs.Admitted.{AdmittedSheet, AdmittedUses}
use Rattle.flow.proofs.Flags.{node_count_law}
use Rattle.flow.proofs.NameNodes.{name_node}
use Rattle.flow.proofs.Few.{findings_few}
use Rattle.locals.specs.Entries.{Added}
use Rattle.unassigned.specs.Pass.{Figures}
use Rattle.finding_spans.specs.Spans.{span_of, Known}
use Rattle.live_steps.specs.declared.FlowGraph.{FlowGraph}
use Rattle.live_steps.specs.Walk.{nodes_of}
use Rattle.locals.specs.declared.DeclarationTable.{DeclarationTable}
use Rattle.locals.specs.Columns.{Charted as Held}
use Rattle.tables.specs.declared.CodeColumns.{CodeColumns}
use Rattle.sheet_parts.specs.declared.Items.{Items}
use Rattle.local_flow.specs.Sheets.{Sheets}
use Rattle.chart.specs.Lent.{Columns, Lent, Charted}
use Rattle.chart.proofs.Read.{Begins, nodes_are, names_are, first_read, second_read, start_read, spans_read, code_nodes_read, ends_rise, code_nodes_in, name_spans_read, name_nodes_read, name_ends_read, shown}
use Rattle.findings.proofs.Spans.{words_known, spans_by_words}
use Rattle.findings.specs.Accepted.{FindingsLent, Searchable, FindingsWritten, Accepted}

module _ {S U : List ℕ} {r : Counts} {l : Lent} (v : sheet_verdict false S ≡ Ok tt) (a : AdmittedSheet S) (u : AdmittedUses S U) (h : Charted S r l) where
  abbrev y : Columns
  y = l.after

  pub all_names_law : r.names ≡ length (locals S)
  all_names_law = names_are a h ∙ a.all_names

  name_nodes_law : Begins (length (locals S)) (graph S).names.node y.names.node
  name_nodes_law = subst (λ (k : ℕ). Begins k (graph S).names.node y.names.node) all_names_law (name_nodes_read a h)

  name_ends_law : Begins (length (locals S)) (graph S).names.scope_end y.names.scope_end
  name_ends_law = subst (λ (k : ℕ). Begins k (graph S).names.scope_end y.names.scope_end) all_names_law (name_ends_read a h)

  name_spans_law : Begins (length (locals S)) (graph S).names.span y.names.span
  name_spans_law = subst (λ (k : ℕ). Begins k (graph S).names.span y.names.span) all_names_law (name_spans_read a h)

  name_in : (ℓ : ℕ) → ℓ < length (locals S) → get_or y.names.node ℓ 0 < r.nodes
  name_in ℓ q = rw (name_nodes_law.cell ℓ q, nodes_are a h) (name_node S v ℓ (omega (arith, a.name_nodes, a.all_names)))

  pub sheets : Searchable S U r y
  sheets = (
    record {
      beside = a.spans ∙ sym a.kinds;
      few = omega (arith, a.kinds, a.few);
      charted = record {
        count = sym (nodes_are a h);
        some = omega (arith, node_count_law S, nodes_are a h);
        few = h.few;
        charts = record { firsts = sym (first_read a h).cells; seconds = sym (second_read a h).cells; starts = sym (start_read a h).cells };
        long = record { firsts = (first_read a h).long; seconds = (second_read a h).long; starts = (start_read a h).long };
      };
      named = record {
        count = refl;
        few = omega (arith, a.all_names, a.few_names);
        nodes = sym name_nodes_law.cells;
        nodes_long = name_nodes_law.long;
        ends = sym name_ends_law.cells;
        ends_long = name_ends_law.long;
        within = name_in;
      };
      spans_long = (spans_read a h).long;
      nodes_long = (code_nodes_read a h).long;
      rising = ends_rise a h;
      within = code_nodes_in a h;
      code_spans_law = sym (spans_read a h).cells;
      code_nodes_law = sym (code_nodes_read a h).cells;
      names_known = λ k q. omega (arith, u.known k (omega (arith, u.uses)), u.names);
    },
    sym name_spans_law.cells,
    name_spans_law.long,
  )

-- ---- the parts as the code takes them, cut to their length

module _ {S U : List ℕ} (c : Counts) (x : Columns) (q : Searchable S U c x) where
  module _ (g : FlowGraph) (ef : g.edges.first.now ≡ take c.nodes x.nodes.first) (es : g.edges.second.now ≡ take c.nodes x.nodes.second) (et : g.start.now ≡ take c.nodes x.nodes.start) where
    nodes_cut : nodes_of g ≡ c.nodes
    nodes_cut = ap length ef ∙ length-take-le c.nodes x.nodes.first q.0.charted.long.firsts

    -- a column that holds the nodes alone
    column : {l : List ℕ} (old cut : List ℕ) → l ≡ take c.nodes old → cut ≡ take c.nodes old → length cut ≤ nodes_of g → l ≡ take (nodes_of g) cut
    column old cut a e h = a ∙ sym e ∙ sym (take_all (nodes_of g) cut h)

    charted_cut : Held S (nodes_of g) g.edges.first.now g.edges.second.now g.start.now
    charted_cut =
        let p = q.0.charted in
        record {
          count = p.count ∙ sym nodes_cut;
          some = omega (arith, nodes_cut, p.some);
          few = omega (arith, nodes_cut, p.few);
          charts = record {
            firsts = column x.nodes.first g.edges.first.now p.charts.firsts ef (omega arith);
            seconds = column x.nodes.second g.edges.second.now p.charts.seconds es (omega (arith, g.edges.as_long));
            starts = column x.nodes.start g.start.now p.charts.starts et (omega (arith, g.as_long));
          };
          long = record { firsts = omega arith; seconds = omega (arith, g.edges.as_long); starts = omega (arith, g.as_long) };
        }

    pub in_parts : (codes : CodeColumns) → codes.spans.now ≡ take c.codes x.codes.span → codes.nodes.now ≡ take c.codes x.codes.node → (names : DeclarationTable) → names.node.now ≡ x.names.node → names.scope_end.now ≡ x.names.scope_end
        → (uses : Items) → uses.words.now ≡ use_words U → uses.spans.now ≡ use_spans U → {ks : List ℕ} → ks ≡ kind_words S → Sheets S U ks g codes names uses
    in_parts codes eo en names em ee uses ew eu ek =
        let p = q.0 in
        let long : length codes.spans.now ≡ c.codes = ap length eo ∙ length-take-le c.codes x.codes.span p.spans_long in
        let beside : length codes.nodes.now ≡ c.codes = ap length en ∙ length-take-le c.codes x.codes.node p.nodes_long in
        record {
          kinds_are = ek;
          beside = p.beside;
          few = rw ek p.few;
          columns = record {
            charted = charted_cut;
            named = rw (nodes_cut, em, ee) p.named;
            code_table = record {
              nodes_long = omega arith;
              rising = rw (long, eo) (λ i j h l. rw (get_or-take c.codes x.codes.span i 0 (omega arith), get_or-take c.codes x.codes.span j 0 l) (p.rising i j h l));
              within = rw (long, en, nodes_cut) (λ i l. rw (get_or-take c.codes x.codes.node i 0 l) (p.within i l));
            };
            uses_named = rw ew p.names_known;
            sources = record { code_spans_law = rw eo p.code_spans_law; code_nodes_law = rw (long, en) (p.code_nodes_law ∙ sym (take_all c.codes (take c.codes x.codes.node) (omega (arith, length-take-le c.codes x.codes.node p.nodes_long)))); words_are = ew; spans_are = eu };
          };
        }

-- ---- what is left

pub all_few : {S U : List ℕ} → AdmittedSheet S → AdmittedUses S U → length (findings S U) ≤ 3072
all_few {S} {U} a u = findings_few S U (omega (arith, a.all_names, a.few_names)) (omega (arith, u.uses, u.few))

-- words that are added to none stand over what stood there
pub from_first : {xs old new : List ℕ} {r : ℕ} → Added xs 0 old r new → new ≡ xs ++ drop r old
from_first {xs} {old} d = d.entered ∙ ap (λ (k : ℕ). xs ++ drop k old) (sym d.counted)

module _ {S U : List ℕ} (a : AdmittedSheet S) (u : AdmittedUses S U) (c : Counts) (x : Columns) (t : Searchable S U c x)
    {r : ℕ} {words words' : List ℕ} (d : Added (words_of (findings S U)) 0 words r words') where
  all : r ≡ length (words_of (findings S U))
  all = omega (arith, d.counted)

  front : take r words' ≡ words_of (findings S U)
  front = ap (take r) (from_first d) ∙ take_at (words_of (findings S U)) (drop r words) r (sym all)

  -- the spans can be looked up
  pub known : {uses : List ℕ} → uses ≡ use_spans U → Known (length uses) (length x.names.span) (take r words')
  known e = rw (e, front) (words_known a u x.names.span t.1 t.2)

  pub found : {uses spans spans' marks marks' : List ℕ} → uses ≡ use_spans U → spans' ≡ map (span_of uses x.names.span) (take r words') ++ drop r spans → Figures S U (length (locals S)) marks marks'
      → FindingsWritten S U r (record { before = record { word = words; span = spans; mark = marks }; after = record { word = words'; span = spans'; mark = marks' } })
  found {uses} {spans} {spans'} e s k =
      let ws : List ℕ = words_of (findings S U) in
      let some : length ws ≡ length (spans_of (findings S U)) = length-map (findings S U) (λ f. f.word) ∙ sym (length-map (findings S U) (λ f. f.span)) in
      record {
        count = all ∙ length-map (findings S U) (λ f. f.word);
        words = from_first d ∙ ap (λ (j : ℕ). ws ++ drop j words) all;
        spans = s ∙ ap (λ (l : List ℕ). map (span_of uses x.names.span) l ++ drop r spans) front ∙ ap (λ (l : List ℕ). map (span_of l x.names.span) ws ++ drop r spans) e
            ∙ ap₂ (λ l j. l ++ drop j spans) (spans_by_words a u x.names.span t.1 t.2) (all ∙ some);
        marks = k;
      }

pub accepted : {S U : List ℕ} {l : Lent} {f : FindingsLent} {c : Counts} {r : ℕ} → AdmittedSheet S → Charted S c l → FindingsWritten S U r f → Accepted S U (record { counts = c; findings = r }) l f
accepted {S} {U} {f = f} a h g = record {
  answer = ap₂ (λ (k : Counts) (n : ℕ). record { counts = k; findings = n }) h.counts g.count;
  columns = h.written;
  shown = shown a h;
  found = record { count = refl; words = g.words; spans = g.spans; marks = g.marks };
}
