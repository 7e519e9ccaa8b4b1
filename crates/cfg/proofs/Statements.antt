-- Statements that hold blocks: from what their parts give to what they give.
-- Assumes nothing.
use mathlib.Core.Path.{◌≡◌, refl, sym, ap, ◌∙◌, subst}
use mathlib.Core.List.{List}
use mathlib.Core.Bool.{true}
use Rattle.std.specs.Prelude.{Some, Bool, Option, None}
use Prim.Native.Nat.{ℕ, ◌+◌, ◌≤◌, ◌<◌}
use native.Mathlib.Omega.{arith}
use lib.ListN.{length, get_or}
use Rattle.flow.specs.Sheet.{kind_of, condition_of, scope_end_of}
use Rattle.flow.specs.Kinds.{literal_truth}
use Rattle.flow.specs.Tree.{Stmt, Block, Open, while_loop, repeat_loop, for_loop, if_stmt, no_more, in_front, outer}
use Rattle.flow.specs.Graph.{Graph, Settings, node_count, new_node, code, advance_to, set_current, connect, record_code, enter_when, unless_true, unless_false, build_stmt, build_block, build_arms, inside, in_loop, entered, close_into}
use Rattle.blocks.specs.Open.{item_at, open_at}
use Rattle.blocks.proofs.Parse.{read_at, read_while, read_repeat, read_for, read_if}
use Rattle.loop_nodes.specs.declared.LoopTargets.{LoopTargets}
use Rattle.cfg_steps.specs.Columns.{Place, Cols, graph_of, settings_of, Good, Grown, Did}
use Rattle.cfg_steps.proofs.Fits.{good_as}
use Rattle.cfg.specs.Steps.{bare, Moved, Opened, Scoped, Looped, Chosen}
use Rattle.cfg.proofs.Blocks.{nodes_of_law, moved_trans, moved_did, past_close}

-- a loop's body with the targets that are found to be its own
pub looped_to : {ks ss : List ℕ} {e : ℕ} {s t : LoopTargets} {b r : Place} {x y : Cols} → s ≡ t → Looped ks ss e s.break_target s.continue_target b x r y → Looped ks ss e t.break_target t.continue_target b x r y
looped_to {ks} {ss} {e} {b = b} {r} {x} {y} q l = subst (λ (z : LoopTargets). Looped ks ss e z.break_target z.continue_target b x r y) q l

-- ---- another place in the sheet

abbrev pub with_item : ℕ → Place → Place
with_item j b = record {
  item = j;
  nodes = b.nodes;
  codes = b.codes;
  names = b.names;
  cursor = b.cursor;
  settings = b.settings;
}

pub good_item : {b : Place} {x : Cols} (j : ℕ) → b.item ≤ j → j ≤ 1024 → Good b x → Good (with_item j b) x
good_item j h k ok = good_as ok (omega (arith, ok)) ok.cursor

pub moved_item : {ks : List ℕ} {b r : Place} {x y : Cols} (j : ℕ) → length ks ≤ 1024 → r.item ≤ j → j ≤ length ks → Moved ks b x r y → Moved ks b x (with_item j r) y
unfolding settings_of
moved_item {ks} {b} {r} {x} {y} j few h k m = record {
  good = good_item j h (omega arith) m.good;
  grown = regrown m.grown;
  forward = omega (arith, m.forward);
  within = k;
  labels = m.labels;
  settings = m.settings;
}
  where
    regrown : Grown b x r y → Grown b x (with_item j r) y
    regrown g = record {
      nodes = g.nodes;
      codes = g.codes;
      names = g.names;
      edges_past = g.edges_past;
      codes_past = g.codes_past;
      names_past = g.names_past;
      labels_past = g.labels_past;
      labels_kept = g.labels_kept;
      edges_length = g.edges_length;
      codes_length = g.codes_length;
      names_length = g.names_length;
      labels_length = g.labels_length;
    }

pub graph_item : (ks ss : List ℕ) (j : ℕ) (b : Place) (x : Cols) → graph_of ks ss (with_item j b) x ≡ graph_of ks ss b x
unfolding graph_of
graph_item ks ss j b x = refl

-- another current node
abbrev pub with_cursor : ℕ → Place → Place
with_cursor v b = record {
  item = b.item;
  nodes = b.nodes;
  codes = b.codes;
  names = b.names;
  cursor = Some v;
  settings = b.settings;
}

pub moved_cursor : {ks : List ℕ} {b r : Place} {x y : Cols} (v : ℕ) → Good (with_cursor v r) y → Moved ks b x r y → Moved ks b x (with_cursor v r) y
unfolding settings_of
moved_cursor {ks} {b} {r} {x} {y} v ok m = record { good = ok; grown = regrown m.grown; forward = m.forward; within = m.within; labels = m.labels; settings = m.settings }
  where
    regrown : Grown b x r y → Grown b x (with_cursor v r) y
    regrown g = record {
      nodes = g.nodes;
      codes = g.codes;
      names = g.names;
      edges_past = g.edges_past;
      codes_past = g.codes_past;
      names_past = g.names_past;
      labels_past = g.labels_past;
      labels_kept = g.labels_kept;
      edges_length = g.edges_length;
      codes_length = g.codes_length;
      names_length = g.names_length;
      labels_length = g.labels_length;
    }

-- a builder whose cursor is set stands for a graph whose current node is (`graph_cursor`)
pub graph_cursor : (ks ss : List ℕ) (v : ℕ) (b : Place) (x : Cols) → graph_of ks ss (with_cursor v b) x ≡ set_current v (graph_of ks ss b x)
unfolding graph_of set_current
graph_cursor ks ss v b x = refl

pub good_cursor : {b : Place} {x : Cols} (v : ℕ) → v < b.nodes → Good b x → Good (with_cursor v b) x
good_cursor v h ok = good_as ok (omega (arith, ok)) h

-- ---- loops

module _ (ks ss : List ℕ) (e : length ss ≡ length ks) (few : length ks ≤ 1024) (i : ℕ) (lt : i < length ks) where
  abbrev word : ℕ
  word = get_or ks i 0

  abbrev o : Open
  o = open_at ks ss (i + 1)

  abbrev B : Block
  B = o.top.body

  -- a loop of the item i: its head, its body, its end
  loop_opened : {b h t r : Place} {x y z u : Cols} (st : Stmt) (f T : List ℕ → Graph → Graph) (n s after next j : ℕ)
      → b.item ≡ i + 1 → Good b x → o.top.arms ≡ no_more → open_at ks ss i ≡ in_front st (outer o)
      → Did ks f n b x h y → Looped ks ss s after next h y t z → (t.item < length ks → j ≡ t.item + 1) → (length ks ≤ t.item → j ≡ t.item) → j ≤ length ks → t.item ≤ j
      → Did ks T 0 (with_item j t) z r u
      → ((g : Graph) → node_count g ≡ b.nodes → T ss (close_into next (build_block B (inside s B (in_loop after next (settings_of b x)) (f ss g)) (entered B (f ss g)))) ≡ build_stmt st (settings_of b x) g)
      → Opened ks ss i b x r u
  loop_opened {b} {h} {t} {r} {x} {y} {z} {u} st f T n s after next j at ok a rd hd bd j1 j2 j3 j4 tl eq =
      let m1 : Moved ks b x h y = moved_did (omega arith) hd in
      let m2 : Moved ks b x (with_item j t) z = moved_item j few j4 j3 (moved_trans m1 bd.moved) in
      let m3 : Moved ks (with_item j t) z r u = moved_did j3 tl in
      let hi' : h.item ≡ i + 1 = hd.item ∙ at in
      let out : open_at ks ss j ≡ outer o = past_close ks ss e t.item o bd.ended (bd.shut ∙ ap (λ (q : ℕ). bare (open_at ks ss q)) hi') a j j1 j2 in
      record {
        moved = moved_trans m2 m3;
        stmt = st;
        reads = rd ∙ ap (in_front st) (sym out) ∙ ap (λ (q : ℕ). in_front st (open_at ks ss q)) (sym tl.item);
        built =
            tl.built ss ∙ ap (T ss) (graph_item ks ss j t z ∙ bd.built ∙ inner hi' (hd.built ss) hd.settings)
            ∙ eq (graph_of ks ss b x) (nodes_of_law ks ss ok);
      }
    where
      made : ℕ → Settings → Graph → Graph
      made q S G = close_into next (build_block (open_at ks ss q).top.body (inside s (open_at ks ss q).top.body (in_loop after next S) G) (entered (open_at ks ss q).top.body G))

      inner : h.item ≡ i + 1 → graph_of ks ss h y ≡ f ss (graph_of ks ss b x) → settings_of h y ≡ settings_of b x
          → close_into next (build_block (open_at ks ss h.item).top.body (inside s (open_at ks ss h.item).top.body (in_loop after next (settings_of h y)) (graph_of ks ss h y)) (entered (open_at ks ss h.item).top.body (graph_of ks ss h y)))
          ≡ close_into next (build_block B (inside s B (in_loop after next (settings_of b x)) (f ss (graph_of ks ss b x))) (entered B (f ss (graph_of ks ss b x))))
      inner p q v =
          ap (λ (m : ℕ). made m (settings_of h y) (graph_of ks ss h y)) p ∙ ap (λ (S : Settings). made (i + 1) S (graph_of ks ss h y)) v ∙ ap (made (i + 1) (settings_of b x)) q

  -- ---- each loop

  pub while_opened : {b h t r : Place} {x y z u : Cols} (truth : Option Bool) (s j : ℕ) → kind_of word ≡ 2 → truth ≡ literal_truth (condition_of word) → s ≡ scope_end_of word
      → b.item ≡ i + 1 → Good b x → o.top.arms ≡ no_more
      → Did ks (λ js g. enter_when truth (new_node (code (get_or js i 0) g))) 2 b x h y → Looped ks ss s (b.nodes + 1) b.nodes h y t z
      → (t.item < length ks → j ≡ t.item + 1) → (length ks ≤ t.item → j ≡ t.item) → j ≤ length ks → t.item ≤ j
      → Did ks (λ js g. set_current (b.nodes + 1) (unless_true truth (connect b.nodes (b.nodes + 1)) g)) 0 (with_item j t) z r u → Opened ks ss i b x r u
  unfolding build_stmt
  while_opened truth s j k et es at ok a hd bd j1 j2 j3 j4 tl =
      loop_opened (while_loop word (get_or ss i 0) B) _ _ 2 s _ _ j at ok a (read_at ks ss e i lt ∙ read_while (item_at ks ss i) o k) hd bd j1 j2 j3 j4 tl
      (λ g c. rw (et, es, c))

  pub repeat_opened : {b h t r : Place} {x y z u : Cols} (truth : Option Bool) (s j : ℕ) → kind_of word ≡ 3 → truth ≡ literal_truth (condition_of word) → s ≡ scope_end_of word
      → b.item ≡ i + 1 → Good b x → o.top.arms ≡ no_more
      → Did ks (λ js g. advance_to b.nodes (new_node (new_node (new_node g)))) 3 b x h y → Looped ks ss s (b.nodes + 2) (b.nodes + 1) h y t z
      → (t.item < length ks → j ≡ t.item + 1) → (length ks ≤ t.item → j ≡ t.item) → j ≤ length ks → t.item ≤ j → get_or ss t.item 0 ≡ o.top.close
      → Did ks (λ js g. set_current (b.nodes + 2) (record_code (get_or js t.item 0) (b.nodes + 1) (unless_false truth (connect (b.nodes + 1) (b.nodes + 2)) (unless_true truth (connect (b.nodes + 1) b.nodes) g)))) 0 (with_item j t) z r u → Opened ks ss i b x r u
  unfolding build_stmt
  repeat_opened truth s j k et es at ok a hd bd j1 j2 j3 j4 close tl =
      loop_opened (repeat_loop word B o.top.close) _ _ 3 s _ _ j at ok a (read_at ks ss e i lt ∙ read_repeat (item_at ks ss i) o k) hd bd j1 j2 j3 j4 tl
      (λ g c. rw (et, es, c, close))

  pub for_opened : {b h t r : Place} {x y z u : Cols} (s j : ℕ) → kind_of word ≡ 4 → s ≡ scope_end_of word
      → b.item ≡ i + 1 → Good b x → o.top.arms ≡ no_more
      → Did ks (λ js g. new_node (advance_to (b.nodes + 1) (new_node (code (get_or js i 0) g)))) 3 b x h y → Looped ks ss s (b.nodes + 1 + 1) (b.nodes + 1) h y t z
      → (t.item < length ks → j ≡ t.item + 1) → (length ks ≤ t.item → j ≡ t.item) → j ≤ length ks → t.item ≤ j
      → Did ks (λ js g. set_current (b.nodes + 1 + 1) (unless_true None (connect (b.nodes + 1) (b.nodes + 1 + 1)) g)) 0 (with_item j t) z r u → Opened ks ss i b x r u
  unfolding build_stmt
  for_opened {b} s j k es at ok a hd bd j1 j2 j3 j4 tl =
      let two : b.nodes + 1 + 1 ≡ b.nodes + 2 = omega arith in
      loop_opened (for_loop word (get_or ss i 0) B) _ _ 3 s _ _ j at ok a (read_at ks ss e i lt ∙ read_for (item_at ks ss i) o k) hd bd j1 j2 j3 j4 tl
      (λ g c. rw (es, c, two))

  -- ---- IF

  pub if_opened : {b h t c r : Place} {x y z u v : Cols} (s : ℕ) → kind_of word ≡ 5 → s ≡ scope_end_of word → b.item ≡ i + 1 → Good b x
      → Did ks (λ js g. new_node (code (get_or js i 0) g)) 2 b x h y → Scoped ks ss s h y t z → Did ks (λ js. close_into (b.nodes + 1)) 0 t z c u
      → Chosen ks ss b.nodes (b.nodes + 1) true c u r v → Good (with_cursor (b.nodes + 1) r) v
      → Opened ks ss i b x (with_cursor (b.nodes + 1) r) v
  unfolding build_stmt
  if_opened {b} {h} {t} {c} {r} {x} {y} {z} {u} {v} s k es at ok hd sc cl ch good =
      let m1 : Moved ks b x h y = moved_did (omega arith) hd in
      let m2 : Moved ks b x t z = moved_trans m1 sc.moved in
      let m3 : Moved ks b x c u = moved_trans m2 (moved_did sc.moved.within cl) in
      let hi' : h.item ≡ i + 1 = hd.item ∙ at in
      let shut : open_at ks ss c.item ≡ bare o = ap (open_at ks ss) cl.item ∙ sc.shut ∙ ap (λ (q : ℕ). bare (open_at ks ss q)) hi' in
      let out : open_at ks ss r.item ≡ outer o = ch.reads ∙ ap outer shut in
      record {
        moved = moved_cursor (b.nodes + 1) good (moved_trans m3 ch.moved);
        stmt = if_stmt word (get_or ss i 0) B o.top.arms;
        reads = read_at ks ss e i lt ∙ read_if (item_at ks ss i) o k ∙ ap (in_front (if_stmt word (get_or ss i 0) B o.top.arms)) (sym out);
        built =
            graph_cursor ks ss (b.nodes + 1) r v
            ∙ ap (set_current (b.nodes + 1))
            (ch.built ∙ ap (λ (w : Open). build_arms w.top.arms b.nodes (b.nodes + 1) true (settings_of c u) (graph_of ks ss c u)) shut
            ∙ ap (λ (S : Settings). build_arms o.top.arms b.nodes (b.nodes + 1) true S (graph_of ks ss c u)) m3.settings
            ∙ ap (build_arms o.top.arms b.nodes (b.nodes + 1) true (settings_of b x)) (cl.built ss ∙ ap (close_into (b.nodes + 1)) (sc.built ∙ inner hi' (hd.built ss) hd.settings)))
            ∙ done_if (graph_of ks ss b x) (nodes_of_law ks ss ok);
      }
    where
      made : ℕ → Settings → Graph → Graph
      made q S G = build_block (open_at ks ss q).top.body (inside s (open_at ks ss q).top.body S G) (entered (open_at ks ss q).top.body G)

      inner : h.item ≡ i + 1 → graph_of ks ss h y ≡ new_node (code (get_or ss i 0) (graph_of ks ss b x)) → settings_of h y ≡ settings_of b x
          → build_block (open_at ks ss h.item).top.body (inside s (open_at ks ss h.item).top.body (settings_of h y) (graph_of ks ss h y)) (entered (open_at ks ss h.item).top.body (graph_of ks ss h y))
          ≡ made (i + 1) (settings_of b x) (new_node (code (get_or ss i 0) (graph_of ks ss b x)))
      inner p q w = ap (λ (m : ℕ). made m (settings_of h y) (graph_of ks ss h y)) p ∙ ap (λ (S : Settings). made (i + 1) S (graph_of ks ss h y)) w ∙ ap (made (i + 1) (settings_of b x)) q

      done_if : (g : Graph) → node_count g ≡ b.nodes
          → set_current (b.nodes + 1) (build_arms o.top.arms b.nodes (b.nodes + 1) true (settings_of b x) (close_into (b.nodes + 1) (made (i + 1) (settings_of b x) (new_node (code (get_or ss i 0) g)))))
          ≡ build_stmt (if_stmt word (get_or ss i 0) B o.top.arms) (settings_of b x) g
      done_if g q = rw (es, q)
