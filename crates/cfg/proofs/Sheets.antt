-- A whole sheet.
-- Assumes nothing.
use mathlib.Core.Path.{◌≡◌, refl, ap, ◌∙◌}
use Rattle.std.specs.Prelude.{Some}
use mathlib.Core.List.{List, [], ◌∷◌, ◌++◌}
use Prim.Native.Nat.{ℕ, ◌≤◌}
use native.Mathlib.Omega.{arith}
use lib.ListN.{length, drop, replicate}
use Rattle.flow.specs.Sheet.{kind_words, span_words, outer_end}
use Rattle.flow.specs.Tree.{Block, tree}
use Rattle.flow.specs.Graph.{Graph, Settings, new_node, outside, start_graph, inside, entered, build_block, close_into, graph}
use Rattle.blocks.specs.Open.{open_at}
use Rattle.cfg_edges.specs.Halves.{label_list}
use Rattle.cfg_steps.specs.Columns.{Place, Cols, cols, graph_of, settings_of, painted, Did}
use Rattle.cfg_steps.proofs.Ops.{drop_more}
use Rattle.cfg.specs.Steps.{free, Started, Whole, Scoped}

pub six : (es : List ℕ) → 6 ≤ length es → Started es (replicate 6 free ++ drop 6 es)
six [] h = absurd (omega arith)
six (a ∷ []) h = absurd (omega arith)
six (a ∷ b ∷ []) h = absurd (omega arith)
six (a ∷ b ∷ c ∷ []) h = absurd (omega arith)
six (a ∷ b ∷ c ∷ d ∷ []) h = absurd (omega arith)
six (a ∷ b ∷ c ∷ d ∷ e ∷ []) h = absurd (omega arith)
six (a ∷ b ∷ c ∷ d ∷ e ∷ f ∷ es) h = record { nodes = refl; past = refl; size = refl }

-- the builder at the start
abbrev pub first : Place
first = record { item = 0; nodes = 6; codes = 0; names = 0; cursor = Some 5; settings = record { labels = 0; scope_end = 0; break_target = 1; continue_target = 0 } }

module _ (e c n l e' : List ℕ) (s : Started e e') where
  first_graph : (ks ss : List ℕ) → graph_of ks ss first (cols e' c n l) ≡ start_graph
  unfolding graph_of painted start_graph new_node
  first_graph ks ss = rw s.nodes

  first_settings : settings_of first (cols e' c n l) ≡ outside
  unfolding settings_of label_list outside
  first_settings = refl

  pub whole : (ks ss : List ℕ) (scope : ℕ) {t r : Place} {y z : Cols} → Scoped ks ss scope first (cols e' c n l) t y → Did ks (λ js. close_into 0) 0 t y r z → Whole ks ss scope (cols e c n l) r z
  whole ks ss scope {t} {r} {y} {z} sc d =
      let g = sc.moved.grown in
      let k = d.grown in
      let six' : 6 ≤ r.nodes = omega (arith, d.good.exits) in
      record {
        good = d.good;
        within = omega (arith, d.item, sc.moved.within);
        edges_past = k.edges_past ∙ drop_more {n = t.nodes} {m = r.nodes} y.edges e' k.nodes g.edges_past ∙ drop_more {n = 6} {m = r.nodes} e' e six' s.past;
        codes_past = k.codes_past ∙ drop_more {n = t.codes} {m = r.codes} y.codes c k.codes g.codes_past;
        names_past = k.names_past ∙ drop_more {n = t.names} {m = r.names} y.names n k.names g.names_past;
        labels_past = k.labels_past ∙ drop_more {n = t.nodes} {m = r.nodes} y.labels l k.nodes g.labels_past;
        edges_length = k.edges_length ∙ g.edges_length ∙ s.size;
        codes_length = k.codes_length ∙ g.codes_length;
        names_length = k.names_length ∙ g.names_length;
        labels_length = k.labels_length ∙ g.labels_length;
        built = d.built ss ∙ ap (close_into 0) (sc.built
            ∙ ap (λ (q : Settings). build_block B (inside scope B q G) (entered B G)) first_settings
            ∙ ap (λ (q : Graph). build_block B (inside scope B outside q) (entered B q)) (first_graph ks ss));
      }
    where
      B : Block
      B = (open_at ks ss 0).top.body

      G : Graph
      G = graph_of ks ss first (cols e' c n l)

-- the same of the columns that are found to hold that
pub whole_as : {ks ss : List ℕ} {scope : ℕ} {x y y' : Cols} {q : Place} → y ≡ y' → Whole ks ss scope x q y' → Whole ks ss scope x q y
whole_as {ks} {ss} {scope} {x} {q = q} e w = rw e w

-- the graph of the definition, for a sheet's own kinds and spans
pub is_graph : (S : List ℕ) {ks ss : List ℕ} {e : ℕ} {x y : Cols} {r : Place} → ks ≡ kind_words S → ss ≡ span_words S → e ≡ outer_end S
    → Whole ks ss e x r y → graph_of ks ss r y ≡ graph S
unfolding graph tree open_at
is_graph S k s o w = w.built ∙ rw (k, s, o)
