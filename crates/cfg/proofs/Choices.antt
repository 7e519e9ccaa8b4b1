-- The arms of an IF, and which statement an item begins.
-- Assumes nothing.
use mathlib.Core.Path.{◌≡◌, sym, ap, ◌∙◌}
use mathlib.Core.List.{List}
use mathlib.Core.Bool.{Bool, true, false, cond}
use Prim.Native.Nat.{ℕ, ◌+◌, ◌≤◌, ◌<◌}
use native.Mathlib.Decide.{dec_lt}
use native.Mathlib.Omega.{arith}
use lib.ListN.{length, get_or}
use Rattle.flow.specs.Sheet.{kind_of, argument_of, scope_end_of}
use Rattle.flow.specs.Kinds.{closes}
use Rattle.flow.specs.Tree.{Arms, Open, simple, do_block, no_more, elseif, otherwise, in_front, opened, outer}
use Rattle.flow.specs.Size.{block_nodes, arm_nodes}
use Rattle.flow.specs.Graph.{Graph, Settings, node_count, code, set_current, connect, simple_stmt, build_stmt, build_block, build_arms, inside, entered, close_into}
use Rattle.blocks.specs.Open.{item_at, open_at, Ender}
use Rattle.blocks.proofs.Scan.{ender_closes}
use Rattle.blocks.proofs.Parse.{read_at, read_end, read_do, read_elseif, read_else, read_close, read_simple}
use Rattle.cfg_steps.specs.Columns.{Place, Cols, graph_of, settings_of, Good, Did}
use Rattle.cfg.specs.Steps.{bare, Moved, Stepped, Opened, Scoped, Arm, Armed, Chosen, ArmRoom}
use Rattle.cfg.proofs.Blocks.{nodes_of_law, moved_none, moved_trans, moved_did, past_close}
use Rattle.cfg.proofs.Rooms.{elseif_room, else_room, ended_on, arms_left}
use Rattle.cfg.proofs.Statements.{with_item, moved_item, graph_item}

-- ---- arms on their way

pub arm_else : (k : ℕ) → Arm k → (k ≡ 6 → ⊥) → k ≡ 7
arm_else k h q = omega (arith, h.0, h.1)

module _ {ks ss : List ℕ} {join test : ℕ} {falls : Bool} {b : Place} {x : Cols} where
  module _ {test' : ℕ} {falls' : Bool} {t : Place} {y : Cols} (g : Armed ks ss join test falls b x test' falls' t y) where
    pub armed_more : {test'' : ℕ} {falls'' : Bool} {r : Place} {z : Cols} → Armed ks ss join test' falls' t y test'' falls'' r z → Armed ks ss join test falls b x test'' falls'' r z
    armed_more {test''} {falls''} {r} {z} a = record {
      moved = moved_trans g.moved a.moved;
      ended = a.ended;
      tested = a.tested;
      room = a.room;
      rest = a.rest ∙ g.rest;
      still =
          sym (ap (λ (S : Settings). build_arms (open_at ks ss r.item).top.arms test'' join falls'' S (graph_of ks ss r z)) g.moved.settings) ∙ a.still
          ∙ ap (λ (S : Settings). build_arms (open_at ks ss t.item).top.arms test' join falls' S (graph_of ks ss t y)) g.moved.settings ∙ g.still;
    }

    pub armed_chosen : {r : Place} {z : Cols} → Chosen ks ss test' join falls' t y r z → Chosen ks ss test join falls b x r z
    armed_chosen a = record {
      moved = moved_trans g.moved a.moved;
      reads = a.reads ∙ g.rest;
      built = a.built ∙ ap (λ (S : Settings). build_arms (open_at ks ss t.item).top.arms test' join falls' S (graph_of ks ss t y)) g.moved.settings ∙ g.still;
    }

module _ (ks ss : List ℕ) (e : length ss ≡ length ks) (few : length ks ≤ 1024) where
  -- past all arms
  arms_over : {b r : Place} {x y : Cols} (test join : ℕ) (falls : Bool) (j : ℕ) → Good b x → b.item ≤ j → j ≤ length ks
      → (open_at ks ss b.item).top.arms ≡ no_more → open_at ks ss j ≡ outer (open_at ks ss b.item)
      → Did ks (λ js g. cond falls (connect test join g) g) 0 (with_item j b) x r y → Chosen ks ss test join falls b x r y
  unfolding build_arms
  arms_over {b} {r} {x} {y} test join falls j ok h k a o d = record {
    moved = moved_trans (moved_item j few h k (moved_none ok (omega arith))) (moved_did k d);
    reads = ap (open_at ks ss) d.item ∙ o;
    built = d.built ss ∙ ap (λ (g : Graph). cond falls (connect test join g) g) (graph_item ks ss j b x)
        ∙ sym (ap (λ (as' : Arms). build_arms as' test join falls (settings_of b x) (graph_of ks ss b x)) a);
  }

  chosen_over : {b r : Place} {x y : Cols} (test join : ℕ) (falls : Bool) (j : ℕ) → Good b x → length ks ≤ b.item → b.item ≤ length ks → j ≡ b.item
      → Did ks (λ js g. cond falls (connect test join g) g) 0 (with_item j b) x r y → Chosen ks ss test join falls b x r y
  chosen_over {b} test join falls j ok h k q d =
      let n = read_end ks ss e b.item h in
      arms_over test join falls j ok (omega arith) (omega arith) (ap (λ (o : Open). o.top.arms) n) (ap (open_at ks ss) q ∙ n ∙ sym (ap outer n)) d

  module _ {b : Place} {x : Cols} (ok : Good b x) (lt : b.item < length ks) where
    abbrev at : ℕ
    at = b.item

    abbrev word : ℕ
    word = get_or ks b.item 0

    abbrev next : Open
    next = open_at ks ss (b.item + 1)

    chosen_end : {r : Place} {y : Cols} (test join : ℕ) (falls : Bool) (j : ℕ) → closes (kind_of word) ≡ true → j ≡ b.item + 1
        → Did ks (λ js g. cond falls (connect test join g) g) 0 (with_item j b) x r y → Chosen ks ss test join falls b x r y
    unfolding opened
    chosen_end test join falls j c q d =
        let n = read_at ks ss e b.item lt ∙ read_close (item_at ks ss b.item) next c in
        arms_over test join falls j ok (omega arith) (omega arith) (ap (λ (o : Open). o.top.arms) n) (ap (open_at ks ss) q ∙ sym (ap outer n)) d

    -- one arm: its head h, its block, and on to the join
    arm_built : {h t c : Place} {y z u : Cols} (as' : Arms) (f : List ℕ → Graph → Graph) (n s test test' join : ℕ) (falls falls' : Bool)
        → open_at ks ss b.item ≡ opened as' 0 (outer next)
        → Did ks f n (with_item (b.item + 1) b) x h y → Scoped ks ss s h y t z → Did ks (λ js. close_into join) 0 t z c u
        → test' < b.nodes + n → (b.nodes + n) + (block_nodes next.top.body + arm_nodes next.top.arms) ≤ 1600
        → ((g : Graph) → node_count g ≡ b.nodes
        → build_arms next.top.arms test' join falls' (settings_of b x) (close_into join (build_block next.top.body (inside s next.top.body (settings_of b x) (f ss g)) (entered next.top.body (f ss g))))
        ≡ build_arms as' test join falls (settings_of b x) g)
        → Armed ks ss join test falls b x test' falls' c u
    unfolding opened
    arm_built {h} {t} {c} {y} {z} {u} as' f n s test test' join falls falls' rd hd sc cl tl room eq =
        let m1 : Moved ks b x (with_item (b.item + 1) b) x = moved_item (b.item + 1) few (omega arith) (omega arith) (moved_none ok (omega arith)) in
        let m2 : Moved ks b x h y = moved_trans m1 (moved_did (omega arith) hd) in
        let m3 : Moved ks b x c u = moved_trans (moved_trans m2 sc.moved) (moved_did sc.moved.within cl) in
        let hi : h.item ≡ b.item + 1 = hd.item in
        let shut : open_at ks ss c.item ≡ bare next = ap (open_at ks ss) cl.item ∙ sc.shut ∙ ap (λ (k : ℕ). bare (open_at ks ss k)) hi in
        record {
          moved = m3;
          ended = ended_on ks t c cl.item sc.ended;
          tested = omega (arith, hd.nodes, sc.moved.grown.nodes, cl.nodes);
          room = arms_left (b.item + 1) c hd.good hi sc cl.item cl.nodes (omega (arith, room, hd.nodes));
          rest = ap outer shut ∙ sym (ap outer rd);
          still =
              ap (λ (w : Open). build_arms w.top.arms test' join falls' (settings_of b x) (graph_of ks ss c u)) shut
              ∙ ap (build_arms next.top.arms test' join falls' (settings_of b x)) (cl.built ss ∙ ap (close_into join) (sc.built ∙ inner hi (hd.built ss ∙ ap (f ss) (graph_item ks ss (b.item + 1) b x)) m2.settings))
              ∙ eq (graph_of ks ss b x) (nodes_of_law ks ss ok)
              ∙ sym (ap (λ (w : Open). build_arms w.top.arms test join falls (settings_of b x) (graph_of ks ss b x)) rd);
        }
      where
        made : ℕ → Settings → Graph → Graph
        made k S G = build_block (open_at ks ss k).top.body (inside s (open_at ks ss k).top.body S G) (entered (open_at ks ss k).top.body G)

        inner : h.item ≡ b.item + 1 → graph_of ks ss h y ≡ f ss (graph_of ks ss b x) → settings_of h y ≡ settings_of b x
            → made h.item (settings_of h y) (graph_of ks ss h y) ≡ made (b.item + 1) (settings_of b x) (f ss (graph_of ks ss b x))
        inner p k w = ap (λ (m : ℕ). made m (settings_of h y) (graph_of ks ss h y)) p ∙ ap (λ (S : Settings). made (b.item + 1) S (graph_of ks ss h y)) w ∙ ap (made (b.item + 1) (settings_of b x)) k

    pub elseif_built : {h t c : Place} {y z u : Cols} (s test join : ℕ) (falls : Bool) → kind_of word ≡ 6 → s ≡ scope_end_of word → ArmRoom ks b
        → Did ks (λ js g. code (get_or js b.item 0) (set_current test g)) 1 (with_item (b.item + 1) b) x h y → Scoped ks ss s h y t z → Did ks (λ js. close_into join) 0 t z c u
        → Armed ks ss join test falls b x b.nodes falls c u
    unfolding build_arms
    elseif_built s test join falls k es room hd sc cl =
        arm_built (elseif word (get_or ss b.item 0) next.top.body next.top.arms) _ 1 s test b.nodes join falls falls
        (read_at ks ss e b.item lt ∙ read_elseif (item_at ks ss b.item) next k) hd sc cl (omega arith) (omega (arith, elseif_room ks ss e b lt room k))
        (λ g c. rw es (ap (λ (n : ℕ). build_arms next.top.arms n join falls (settings_of b x) (close_into join (build_block next.top.body (inside (scope_end_of word) next.top.body (settings_of b x) (code (get_or ss b.item 0) (set_current test g))) (entered next.top.body (code (get_or ss b.item 0) (set_current test g)))))) (sym c)))

    pub else_built : {h t c : Place} {y z u : Cols} (s test join : ℕ) (falls : Bool) → kind_of word ≡ 7 → s ≡ scope_end_of word → test < b.nodes → ArmRoom ks b
        → Did ks (λ js. set_current test) 0 (with_item (b.item + 1) b) x h y → Scoped ks ss s h y t z → Did ks (λ js. close_into join) 0 t z c u
        → Armed ks ss join test falls b x test false c u
    unfolding build_arms
    else_built s test join falls k es tl room hd sc cl =
        arm_built (otherwise word next.top.body next.top.arms) _ 0 s test test join falls false
        (read_at ks ss e b.item lt ∙ read_else (item_at ks ss b.item) next k) hd sc cl (omega arith) (omega (arith, else_room ks ss e b lt room k)) (λ g c. rw es)

    -- ---- a statement

    pub opened_stepped : {r : Place} {y : Cols} → Opened ks ss b.item (with_item (b.item + 1) b) x r y → Stepped ks ss b x r y
    unfolding settings_of
    opened_stepped {r} {y} p = record {
      moved = moved_trans (moved_item (b.item + 1) few (omega arith) (omega arith) (moved_none ok (omega arith))) p.moved;
      on = omega (arith, p.moved.forward);
      stmt = p.stmt;
      reads = p.reads;
      built = p.built ∙ ap (build_stmt p.stmt (settings_of b x)) (graph_item ks ss (b.item + 1) b x);
    }

    pub do_stepped : {t : Place} {y : Cols} (s j : ℕ) → kind_of word ≡ 1 → s ≡ scope_end_of word → next.top.arms ≡ no_more
        → Scoped ks ss s (with_item (b.item + 1) b) x t y → (t.item < length ks → j ≡ t.item + 1) → (length ks ≤ t.item → j ≡ t.item) → j ≤ length ks → t.item ≤ j
        → Stepped ks ss b x (with_item j t) y
    unfolding build_stmt settings_of graph_of
    do_stepped {t} {y} s j k es a sc j1 j2 j3 j4 = record {
      moved = moved_item j few j4 j3 (moved_trans (moved_item (b.item + 1) few (omega arith) (omega arith) (moved_none ok (omega arith))) sc.moved);
      on = omega (arith, sc.moved.forward);
      stmt = do_block word next.top.body;
      reads = read_at ks ss e b.item lt ∙ read_do (item_at ks ss b.item) next k ∙ ap (in_front (do_block word next.top.body)) (sym (past_close ks ss e t.item next sc.ended sc.shut a j j1 j2));
      built = sc.built ∙ rw es;
    }

    pub simple_stepped : {r : Place} {y : Cols} (n : ℕ) → ((k : ℕ) → 1 ≤ k → k ≤ 9 → kind_of word ≡ k → ⊥)
        → Did ks (λ js. simple_stmt (kind_of word) (argument_of word) (get_or js b.item 0) (settings_of (with_item (b.item + 1) b) x)) n (with_item (b.item + 1) b) x r y → Stepped ks ss b x r y
    unfolding build_stmt settings_of graph_of
    simple_stepped {r} {y} n q d = record {
      moved = moved_trans (moved_item (b.item + 1) few (omega arith) (omega arith) (moved_none ok (omega arith))) (moved_did (omega arith) d);
      on = omega (arith, d.item);
      stmt = simple word (get_or ss b.item 0);
      reads = read_at ks ss e b.item lt ∙ read_simple (item_at ks ss b.item) next q ∙ ap (λ (j : ℕ). in_front (simple word (get_or ss b.item 0)) (open_at ks ss j)) (sym d.item);
      built = d.built ss;
    }

  -- where no arm follows
  pub chosen_last : {b r : Place} {x y : Cols} (test join : ℕ) (falls : Bool) (j : ℕ) → Good b x → b.item ≤ length ks
      → (b.item < length ks → Ender (kind_of (get_or ks b.item 0))) → (b.item < length ks → Arm (kind_of (get_or ks b.item 0)) → ⊥)
      → (b.item < length ks → j ≡ b.item + 1) → (length ks ≤ b.item → j ≡ b.item)
      → Did ks (λ js g. cond falls (connect test join g) g) 0 (with_item j b) x r y → Chosen ks ss test join falls b x r y
  chosen_last {b} test join falls j ok k n q j1 j2 d = elim (dec_lt b.item (length ks)) [
    | yes h ↦ chosen_end ok h test join falls j (ender_closes (n h) (λ p. q h (omega arith, omega arith)) (λ p. q h (omega arith, omega arith))) (j1 h) d
    | no h ↦ chosen_over test join falls j ok (omega arith) k (j2 (omega arith)) d
  ]
