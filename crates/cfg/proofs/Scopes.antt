-- A block inside its scope, and a loop's body: the settings that hold inside, and those that return.
-- Assumes nothing.
use mathlib.Core.Path.{◌≡◌, refl, sym, ap, ◌∙◌, subst}
use mathlib.Core.List.{List}
use Prim.Native.Nat.{ℕ, ◌≤◌, ◌<◌, ◌^◌}
use native.Mathlib.Nat.{le_refl}
use native.Mathlib.Omega.{arith}
use lib.ListN.{take, get_or}
use Rattle.flow.specs.Sheet.{kind_of}
use Rattle.flow.specs.Tree.{Block, labels_of}
use Rattle.flow.specs.Graph.{Settings, Label, build_block, inside, in_loop, entered, close_into, with_labels}
use Rattle.blocks.specs.Open.{open_at, Ender, labels_at}
use Rattle.block_settings.specs.declared.BlockSettings.{BlockSettings}
use Rattle.block_settings.specs.Settings.{scope_settings, loop_settings}
use Rattle.cfg_edges.specs.Halves.{label_list}
use Rattle.cfg_steps.specs.Columns.{Place, Cols, cols, graph_of, settings_of, within, Good, Did, Entered}
use Rattle.cfg_steps.proofs.Fits.{good_as}
use Rattle.cfg_steps.proofs.Ops.{grown_trans, same_labels, take_less}
use Rattle.cfg.specs.Steps.{bare, Finished, Scoped, Looped}
use Rattle.cfg.proofs.Blocks.{nodes_of_law}

pub good_within : {b : Place} {x : Cols} (st : BlockSettings) → st.labels ≤ b.settings.labels → st.scope_end < 2 ^ 32 → st.break_target < b.nodes → st.continue_target < b.nodes → Good b x → Good (within st b) x
good_within st hl hs hb hc ok = good_as ok (omega (arith, ok)) ok.cursor

-- a builder that has entered a scope, or a loop
pub good_scope : {b t : Place} {x : Cols} (s : ℕ) → t ≡ within (scope_settings s b.settings) b → s < 2 ^ 32 → Good b x → Good t x
good_scope {b} {t} {x} s q hs ok = subst (λ (w : Place). Good w x) (sym q) (good_within (scope_settings s b.settings) (le_refl _) hs ok.break_target ok.continue_target ok)

pub entered_scope : (ks ss : List ℕ) (b : Place) {t e : Place} {x y : Cols} (s : ℕ) → t ≡ within (scope_settings s b.settings) b → Entered ks (labels_at ks ss t.item) t x e y → Entered ks (labels_at ks ss b.item) (within (scope_settings s b.settings) b) x e y
entered_scope ks ss b {e = e} {x = x} {y = y} s q n = subst (λ (w : Place). Entered ks (labels_at ks ss w.item) w x e y) q n

pub scoped_loop : (ks ss : List ℕ) (b : Place) {t r : Place} {x y : Cols} (s after next : ℕ) → t ≡ within (loop_settings after next b.settings) b → Scoped ks ss s t x r y → Scoped ks ss s (within (loop_settings after next b.settings) b) x r y
scoped_loop ks ss b {r = r} {x = x} {y = y} s after next q f = subst (λ (w : Place). Scoped ks ss s w x r y) q f

same_settings : {a a' c c' s s' : ℕ} {l l' : List Label} → a ≡ a' → c ≡ c' → s ≡ s' → l ≡ l'
    → ◌≡◌ {A = Settings} (record { break_to = a; continue_to = c; scope_end = s; labels = l }) (record { break_to = a'; continue_to = c'; scope_end = s'; labels = l' })
same_settings p q r s = cc

module _ (ks ss : List ℕ) {b : Place} {x : Cols} (ok : Good b x) (s : ℕ) where
  abbrev inner : Place
  inner = within (scope_settings s b.settings) b

  abbrev body : Block
  body = (open_at ks ss b.item).top.body

  module _ {e : Place} {y : Cols} (n : Entered ks (labels_of body) inner x e y) where
    -- the settings inside
    inside_settings : settings_of e y ≡ inside s body (settings_of b x) (graph_of ks ss b x)
    unfolding settings_of inside
    inside_settings =
        same_settings n.break_target n.continue_target n.scope_end
        (n.in_force ∙ ap (λ (v : ℕ). with_labels (labels_of body) v (label_list b.settings.labels x.labels)) (sym (nodes_of_law ks ss ok)))

    entered_graph : graph_of ks ss e y ≡ entered body (graph_of ks ss b x)
    unfolding entered graph_of
    entered_graph = n.built ss

    -- the block is built, and the settings return
    pub scoped : {r r' : Place} {z : Cols} → Finished ks ss e y r z → r' ≡ within b.settings r → Scoped ks ss s b x r' z
    unfolding settings_of graph_of
    scoped {r} {r'} {z} f back =
        let m = f.moved in
        let kept : take b.settings.labels z.labels ≡ take b.settings.labels x.labels =
        take_less {n = b.settings.labels} {m = e.settings.labels} z.labels y.labels (omega (arith, n.labels)) m.grown.labels_kept ∙ n.grown.labels_kept in
        let g = grown_trans (omega (arith, n.labels)) n.grown m.grown in
        subst (λ (q : Place). Scoped ks ss s b x q z) (sym back)
        record {
          moved = record {
            good = good_within b.settings (omega (arith, m.labels, n.labels)) ok.scope_end (omega (arith, ok.break_target, g.nodes)) (omega (arith, ok.continue_target, g.nodes)) m.good;
            grown = record {
              nodes = g.nodes;
              codes = g.codes;
              names = g.names;
              edges_past = g.edges_past;
              codes_past = g.codes_past;
              names_past = g.names_past;
              labels_past = g.labels_past;
              labels_kept = kept;
              edges_length = g.edges_length;
              codes_length = g.codes_length;
              names_length = g.names_length;
              labels_length = g.labels_length;
            };
            forward = omega (arith, m.forward, n.item);
            within = m.within;
            labels = refl;
            settings = same_settings refl refl refl (same_labels b.settings.labels z.labels x.labels kept);
          };
          ended = f.ended;
          shut = f.shut ∙ ap (λ (j : ℕ). bare (open_at ks ss j)) n.item;
          built = f.built
              ∙ ap (λ (j : ℕ). build_block (open_at ks ss j).top.body (settings_of e y) (graph_of ks ss e y)) n.item
              ∙ ap (λ (q : Settings). build_block body q (graph_of ks ss e y)) inside_settings
              ∙ ap (build_block body (inside s body (settings_of b x) (graph_of ks ss b x))) entered_graph;
        }

-- a loop's body: inside, BREAK and CONTINUE have the loop's targets, and the body's end goes on
module _ (ks ss : List ℕ) {b : Place} {x : Cols} (ok : Good b x) (s after next : ℕ) where
  abbrev looping : Place
  looping = within (loop_settings after next b.settings) b

  pub looped : {t r r' : Place} (e c n l : List ℕ) {z : Cols} → Scoped ks ss s looping x t (cols e c n l) → Did ks (λ js. close_into next) 0 t (cols e c n l) r z
      → r' ≡ within b.settings r → Looped ks ss s after next b x r' z
  unfolding settings_of graph_of in_loop
  looped {t} {r} {r'} e c n l {z} f d back =
      let m = f.moved in
      let g = grown_trans (omega (arith, m.labels)) m.grown d.grown in
      subst (λ (q : Place). Looped ks ss s after next b x q z) (sym back)
      record {
        moved = record {
          good = good_within b.settings (omega (arith, d.labels, m.labels)) ok.scope_end (omega (arith, ok.break_target, g.nodes)) (omega (arith, ok.continue_target, g.nodes)) d.good;
          grown = record {
            nodes = g.nodes;
            codes = g.codes;
            names = g.names;
            edges_past = g.edges_past;
            codes_past = g.codes_past;
            names_past = g.names_past;
            labels_past = g.labels_past;
            labels_kept = g.labels_kept;
            edges_length = g.edges_length;
            codes_length = g.codes_length;
            names_length = g.names_length;
            labels_length = g.labels_length;
          };
          forward = omega (arith, m.forward, d.item);
          within = omega (arith, m.within, d.item);
          labels = refl;
          settings = same_settings refl refl refl (same_labels b.settings.labels z.labels x.labels g.labels_kept);
        };
        ended = λ h. subst (λ (j : ℕ). Ender (kind_of (get_or ks j 0))) (sym d.item) (f.ended (rw (← d.item) h));
        shut = ap (open_at ks ss) d.item ∙ f.shut;
        built = d.built ss ∙ ap (close_into next) f.built;
      }
