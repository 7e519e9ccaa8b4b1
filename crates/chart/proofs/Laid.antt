-- From the words of a built graph, taken apart, to the columns of its chart.
-- Assumes nothing.
use mathlib.Core.Path.{◌≡◌, refl, sym, ap, ◌∙◌, subst}
use mathlib.Core.List.{List, ◌++◌, map}
use Prim.Native.Nat.{ℕ, ◌≤◌, ◌<◌}
use native.Mathlib.Omega.{arith}
use lib.ListN.{length, get_or, take, drop, replicate, length-map, length-replicate, get_or-map}
use lib.Seq.{length-take-le, get_or-take, take_at, drop_at}
use Rattle.flow.specs.declared.Counts.{Counts}
use Rattle.flow.specs.Graph.{Graph, node_count, graph}
use Rattle.flow.specs.Reachable.{reachable, counts_of}
use Rattle.flow.proofs.Flags.{reachable_length}
use Rattle.cfg_edges.specs.Halves.{lo, hi}
use Rattle.cfg_steps.specs.declared.GraphBuilder.{GraphBuilder}
use Rattle.cfg_steps.specs.Columns.{cols, node_of_name, name_item, painted, graph_of}
use Rattle.cfg_steps.proofs.Ops.{painted_length}
use Rattle.cfg.specs.Steps.{Sane, Wide as WideWords, WholeRoom, Whole}
use Rattle.cfg.proofs.Sanity.{sane, whole_room}
use Rattle.cfg.proofs.Sheets.{is_graph}
use Rattle.reach.specs.Columns.{Flags}
use Rattle.code_columns.specs.Words.{CodeWithin}
use Rattle.chart.specs.Lent.{overlay, PartsOf, columns, chart_of, Charted}

-- a column that begins with n entries and is past them as it was
pub laid : {n : ℕ} {entries entries' front : List ℕ} (old mid : List ℕ) → entries ≡ entries' → length entries ≡ n → drop n mid ≡ drop n old → front ≡ entries' → front ++ drop n mid ≡ overlay entries old
laid {n} {entries} {front = front} old mid e l d q = (λ i. (q ∙ sym e) i ++ d i) ∙ ap (λ (k : ℕ). entries ++ drop k old) (sym l)

-- the parts of a sheet
pub as_many : {S ks ss : List ℕ} {e : ℕ} → PartsOf S ks ss e → length ss ≡ length ks
as_many p = ap length p.spans ∙ p.admitted.spans ∙ sym p.admitted.kinds ∙ sym (ap length p.kinds)

-- what the builder asks for
pub build_asks : {S ks ss : List ℕ} {e : ℕ} (edges codes names labels : List ℕ) → PartsOf S ks ss e → 1600 ≤ length edges → 1024 ≤ length codes → 1024 ≤ length names → 1600 ≤ length labels
    → Sane ks × WideWords (cols edges codes names labels) × (e < 4294967296) × WholeRoom ks
build_asks {S} edges codes names labels p a b c d = (
  subst (λ (k : List ℕ). Sane k) (sym p.kinds) (sane S p.admitted),
  record { edges = a; codes = b; names = c; labels = d },
  omega (arith, p.outer, p.admitted.outer_end),
  subst (λ (k : List ℕ). WholeRoom k) (sym p.kinds) (whole_room S p.admitted),
)

module _ {S ks ss : List ℕ} {e : ℕ} (p : PartsOf S ks ss e) {f cn nn r f' cn' nn' r' : List ℕ} {b : GraphBuilder} (w : Whole ks ss e (cols f cn nn r) b (cols f' cn' nn' r')) where
  is_built : graph_of ks ss b (cols f' cn' nn' r') ≡ graph S
  is_built = is_graph S p.kinds p.spans p.outer w

  -- what the code and name words name
  pub codes_within : (k : ℕ) → k < b.codes → CodeWithin b.nodes ks ss (get_or cn' k 0)
  codes_within k h =
      let i = w.good.code_items k h in
      record { node = w.good.code_nodes k h; kind = omega (arith, w.within); span = omega (arith, w.within, as_many p) }

  pub names_within : (k : ℕ) → k < b.names → name_item (get_or nn' k 0) < length ss
  names_within k h = let i = w.good.name_items k h in omega (arith, w.within, as_many p)

  -- the entries of each column
  nodes_long : b.nodes ≤ length f'
  nodes_long = omega (arith, w.good.nodes, w.good.wide_edges)

  codes_long : b.codes ≤ length cn'
  codes_long = omega (arith, w.good.codes, w.good.items, w.good.wide_codes)

  names_long : b.names ≤ length nn'
  names_long = omega (arith, w.good.names, w.good.items, w.good.wide_names)

  edges_many : (h : ℕ → ℕ) → length (map h (take b.nodes f')) ≡ b.nodes
  edges_many h = length-map (take b.nodes f') h ∙ length-take-le b.nodes f' nodes_long

  codes_many : (h : ℕ → ℕ) → length (map h (take b.codes cn')) ≡ b.codes
  codes_many h = length-map (take b.codes cn') h ∙ length-take-le b.codes cn' codes_long

  names_many : (h : ℕ → ℕ) → length (map h (take b.names nn')) ≡ b.names
  names_many h = length-map (take b.names nn') h ∙ length-take-le b.names nn' names_long

  -- what the callees ask for
  pub codes_ask : (t : List ℕ) → length t ≡ b.nodes → (k : ℕ) → k < length (take b.codes cn') → CodeWithin (length t) ks ss (get_or (take b.codes cn') k 0)
  codes_ask t q k h = let g : k < b.codes = omega (arith, length-take-le b.codes cn' codes_long) in rw (q, get_or-take b.codes cn' k 0 g) (codes_within k g)

  pub names_ask : (k : ℕ) → k < length (take b.names nn') → name_item (get_or (take b.names nn') k 0) < length ss
  names_ask k h = let g : k < b.names = omega (arith, length-take-le b.names nn' names_long) in rw (get_or-take b.names nn' k 0 g) (names_within k g)

  pub firsts : (graph S).nodes.first ≡ map lo (take b.nodes f')
  unfolding graph_of
  firsts = ap (λ (g : Graph). g.nodes.first) (sym is_built)

  pub seconds : (graph S).nodes.second ≡ map hi (take b.nodes f')
  unfolding graph_of
  seconds = ap (λ (g : Graph). g.nodes.second) (sym is_built)

  starts : (graph S).nodes.start ≡ painted ks ss (take b.codes cn') (replicate b.nodes 0)
  unfolding graph_of
  starts = ap (λ (g : Graph). g.nodes.start) (sym is_built)

  code_spans_law : (graph S).codes.span ≡ map (λ c. get_or ss (hi c) 0) (take b.codes cn')
  unfolding graph_of
  code_spans_law = ap (λ (g : Graph). g.codes.span) (sym is_built)

  code_nodes_law : (graph S).codes.node ≡ map lo (take b.codes cn')
  unfolding graph_of
  code_nodes_law = ap (λ (g : Graph). g.codes.node) (sym is_built)

  name_spans_law : (graph S).names.span ≡ map (λ c. get_or ss (name_item c) 0) (take b.names nn')
  unfolding graph_of
  name_spans_law = ap (λ (g : Graph). g.names.span) (sym is_built)

  name_nodes_law : (graph S).names.node ≡ map node_of_name (take b.names nn')
  unfolding graph_of
  name_nodes_law = ap (λ (g : Graph). g.names.node) (sym is_built)

  name_ends_law : (graph S).names.scope_end ≡ map hi (take b.names nn')
  unfolding graph_of
  name_ends_law = ap (λ (g : Graph). g.names.scope_end) (sym is_built)

  node_count_law : node_count (graph S) ≡ b.nodes
  node_count_law = ap length firsts ∙ edges_many lo

  flags_many : length (reachable (graph S)) ≡ b.nodes
  flags_many = reachable_length S ∙ node_count_law

  start_many : length (graph S).nodes.start ≡ b.nodes
  start_many = ap length starts ∙ painted_length ks ss (take b.codes cn') (replicate b.nodes 0) ∙ length-replicate {A = ℕ} b.nodes 0

  counts_are : ◌≡◌ {A = Counts} (record { nodes = b.nodes; codes = b.codes; names = b.names }) (counts_of (graph S))
  counts_are =
      let c : b.codes ≡ length (graph S).codes.span = sym (ap length code_spans_law ∙ codes_many _) in
      let n : b.names ≡ length (graph S).names.span = sym (ap length name_spans_law ∙ names_many _) in
      (λ i. record { nodes = sym node_count_law i; codes = c i; names = n i })

  node_below : (i : ℕ) → i < b.codes → get_or (graph S).codes.node i 0 < b.nodes
  node_below i h = rw (code_nodes_law, get_or-map lo (take b.codes cn') i 0, get_or-take b.codes cn' i 0 h) (w.good.code_nodes i h)

  -- the columns as `write_chart` leaves them
  pub charted : (s t t' cs ns ne : List ℕ) {f'' s'' t'' r'' cs'' cn'' ns'' nn'' ne'' : List ℕ} → length t' ≡ b.nodes
      → f'' ≡ map lo (take b.nodes f') → s'' ≡ map hi (take b.nodes f') → Flags (map lo (take b.nodes f')) (map hi (take b.nodes f')) r''
      → cn'' ≡ map lo (take b.codes cn') → cs'' ≡ map (λ c. get_or ss (hi c) 0) (take b.codes cn')
      → t'' ≡ painted ks ss (take b.codes cn') (replicate (length (take b.nodes (t' ++ drop b.nodes t))) 0)
      → nn'' ≡ map node_of_name (take b.names nn') → ns'' ≡ map (λ c. get_or ss (name_item c) 0) (take b.names nn') → ne'' ≡ map hi (take b.names nn')
      → Charted S (record { nodes = b.nodes; codes = b.codes; names = b.names })
      (record {
        before = columns f s t r cs cn ns nn ne;
        after = columns (f'' ++ drop b.nodes f') (s'' ++ drop b.nodes s) (t'' ++ drop b.nodes (t' ++ drop b.nodes t)) (r'' ++ drop b.nodes r') (cs'' ++ drop b.codes cs) (cn'' ++ drop b.codes cn') (ns'' ++ drop b.names ns) (nn'' ++ drop b.names nn') (ne'' ++ drop b.names ne);
      })
  unfolding chart_of
  charted s t t' cs ns ne lt ef es er ecn ecs et enn ens ene =
      let past = drop_at t' (drop b.nodes t) b.nodes lt in
      let long : length (take b.nodes (t' ++ drop b.nodes t)) ≡ b.nodes = ap length (take_at t' (drop b.nodes t) b.nodes lt) ∙ lt in
      let first = laid f f' firsts (ap length firsts ∙ edges_many lo) w.edges_past ef in
      let second = laid s s seconds (ap length seconds ∙ edges_many hi) refl es in
      let start = laid t (t' ++ drop b.nodes t) starts start_many past (rw long at et) in
      let flags = laid {entries = reachable (graph S)} r r' refl flags_many w.labels_past (er (graph S) firsts seconds) in
      let code_span = laid cs cs code_spans_law (ap length code_spans_law ∙ codes_many _) refl ecs in
      let code_node = laid cn cn' code_nodes_law (ap length code_nodes_law ∙ codes_many lo) w.codes_past ecn in
      let name_span = laid ns ns name_spans_law (ap length name_spans_law ∙ names_many _) refl ens in
      let node_of_name = laid nn nn' name_nodes_law (ap length name_nodes_law ∙ names_many node_of_name) w.names_past enn in
      let name_end = laid ne ne name_ends_law (ap length name_ends_law ∙ names_many hi) refl ene in
      record {
        counts = counts_are;
        written = λ i. columns (first i) (second i) (start i) (flags i) (code_span i) (code_node i) (name_span i) (node_of_name i) (name_end i);
        parallel = record {
          seconds = ap length seconds ∙ edges_many hi ∙ sym node_count_law;
          starts = start_many ∙ sym node_count_law;
          flags = reachable_length S;
          code_nodes = p.admitted.code_nodes;
          name_nodes = p.admitted.name_nodes;
          name_ends = p.admitted.name_ends;
        };
        few = w.good.nodes;
        code_nodes = node_below;
      }
