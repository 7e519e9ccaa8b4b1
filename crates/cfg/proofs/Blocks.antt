-- Blocks: from what the steps do to what a block's builder gives.
-- Assumes nothing.
use mathlib.Core.Path.{◌≡◌, refl, sym, ap, ◌∙◌}
use mathlib.Core.List.{List, [], ◌++◌}
use mathlib.Core.Bool.{true}
use native.Mathlib.Decide.{ℕ_discrete, dec_lt}
use Prim.Native.Nat.{ℕ, ◌+◌, ◌≤◌, ◌<◌}
use native.Mathlib.Omega.{arith}
use lib.ListN.{length, get_or, length-append}
use Rattle.flow.specs.Sheet.{kind_of}
use Rattle.flow.specs.Kinds.{kinds, closes}
use Rattle.flow.specs.Tree.{Stmt, Block, Arms, Open, done, then, no_more, in_front, opened, read, outer, label_name, labels_of}
use Rattle.flow.specs.Size.{stmt_nodes, block_nodes}
use Rattle.flow.specs.Graph.{Graph, Settings, node_count, build_stmt, build_block}
use Rattle.flow.proofs.Builds.{labels_inside}
use Rattle.flow.proofs.NodeCount.{stmt_count}
use Rattle.blocks.specs.Open.{item_at, open_at, Ender}
use Rattle.blocks.proofs.Parse.{read_at, read_end, read_close, read_elseif, read_else}
use Rattle.blocks.proofs.Scan.{ender_closes}
use Rattle.cfg_steps.specs.Columns.{Place, Cols, graph_of, settings_of, Good, Did}
use Rattle.cfg_steps.proofs.Ops.{count_of, grown_same, grown_trans}
use Rattle.cfg.specs.Steps.{bare, Moved, Stepped, Finished}
open kinds use {LABEL}

-- ---- moves

pub nodes_of_law : {b : Place} {x : Cols} (ks ss : List ℕ) → Good b x → node_count (graph_of ks ss b x) ≡ b.nodes
nodes_of_law {b} {x} ks ss ok = count_of ks ss b x (omega (arith, ok.wide_edges, ok.nodes))

pub moved_none : {ks : List ℕ} {b : Place} {x : Cols} → Good b x → b.item ≤ length ks → Moved ks b x b x
moved_none {ks} {b} {x} ok h = record { good = ok; grown = grown_same b x; forward = omega arith; within = h; labels = refl; settings = refl }

pub moved_trans : {ks : List ℕ} {b t r : Place} {x y z : Cols} → Moved ks b x t y → Moved ks t y r z → Moved ks b x r z
moved_trans p q = record {
  good = q.good;
  grown = grown_trans (omega (arith, p.labels)) p.grown q.grown;
  forward = omega (arith, p.forward, q.forward);
  within = q.within;
  labels = q.labels ∙ p.labels;
  settings = q.settings ∙ p.settings;
}

pub moved_did : {ks js : List ℕ} {f : List ℕ → Graph → Graph} {n : ℕ} {b r : Place} {x y : Cols} → b.item ≤ length ks → Did js f n b x r y → Moved ks b x r y
moved_did h d = record {
  good = d.good;
  grown = d.grown;
  forward = omega (arith, d.item);
  within = omega (arith, d.item);
  labels = d.labels;
  settings = d.settings;
}

-- ---- a block on its way

pub record Going (ks ss : List ℕ) (b : Place) (x : Cols) (t : Place) (y : Cols) : Type 0 where
  pub moved : Moved ks b x t y
  pub rest : bare (open_at ks ss t.item) ≡ bare (open_at ks ss b.item)
  pub still : build_block (open_at ks ss t.item).top.body (settings_of b x) (graph_of ks ss t y) ≡ build_block (open_at ks ss b.item).top.body (settings_of b x) (graph_of ks ss b x)
  pub room : t.nodes + block_nodes (open_at ks ss t.item).top.body ≤ 1600 + length (labels_of (open_at ks ss t.item).top.body)

module _ {ks ss : List ℕ} {b : Place} {x : Cols} where
  pub going_room : {t : Place} {y : Cols} → Going ks ss b x t y → (st : Stmt) (o : Open) → open_at ks ss t.item ≡ in_front st o → t.nodes + stmt_nodes st ≤ 1600 + length (label_name st)
  unfolding in_front labels_of
  going_room {t} g st o e =
      let q : t.nodes + (stmt_nodes st + block_nodes o.top.body) ≤ 1600 + length (label_name st ++ labels_of o.top.body) = rw e at g.room in
      omega (arith, q, length-append (label_name st) (labels_of o.top.body), labels_inside o.top.body)

  pub going_more : {t r : Place} {y z : Cols} → Going ks ss b x t y → Stepped ks ss t y r z → Going ks ss b x r z
  unfolding build_block in_front labels_of
  going_more {t} {r} {y} {z} g s =
      let e = s.reads in
      let st = s.stmt in
      let rest' : Block = (open_at ks ss r.item).top.body in
      let body : (open_at ks ss t.item).top.body ≡ then st rest' = ap (λ (o : Open). o.top.body) e in
      record {
        moved = moved_trans g.moved s.moved;
        rest = sym (ap bare e) ∙ g.rest;
        still =
            ap (build_block rest' (settings_of b x)) (s.built ∙ ap (λ (q : Settings). build_stmt st q (graph_of ks ss t y)) g.moved.settings)
            ∙ sym (ap (λ (k : Block). build_block k (settings_of b x) (graph_of ks ss t y)) body) ∙ g.still;
        room =
            let q : t.nodes + (stmt_nodes st + block_nodes rest') ≤ 1600 + length (label_name st ++ labels_of rest') = rw body at g.room in
            let n = stmt_count st (settings_of t y) (graph_of ks ss t y) in
            omega (arith, q, length-append (label_name st) (labels_of rest'), rw (← s.built) at n, nodes_of_law ks ss s.moved.good, nodes_of_law ks ss g.moved.good);
      }

  -- at an item that ends the block, and at the sheet's end
  pub going_ended : {t : Place} {y : Cols} → Going ks ss b x t y → (open_at ks ss t.item).top.body ≡ done → (t.item < length ks → Ender (kind_of (get_or ks t.item 0))) → Finished ks ss b x t y
  unfolding build_block
  going_ended {t} {y} g e n = record {
    moved = g.moved;
    ended = n;
    shut = bare_done (open_at ks ss t.item) e ∙ g.rest;
    built = sym (ap (λ (k : Block). build_block k (settings_of b x) (graph_of ks ss t y)) e) ∙ g.still;
  }
    where
      bare_done : (o : Open) → o.top.body ≡ done → o ≡ bare o
      bare_done o e = ap (λ (k : Block). record { top = record { body = k; arms = o.top.arms; close = o.top.close }; below = o.below }) e

-- ---- where a block ends

module _ (ks ss : List ℕ) (e : length ss ≡ length ks) (j : ℕ) where
  pub ender_done : j < length ks → Ender (kind_of (get_or ks j 0)) → (open_at ks ss j).top.body ≡ done
  unfolding opened
  ender_done h n = rw (read_at ks ss e j h) (go (ℕ_discrete (kind_of (get_or ks j 0)) 6) (ℕ_discrete (kind_of (get_or ks j 0)) 7))
    where
      go : Dec (kind_of (get_or ks j 0) ≡ 6) → Dec (kind_of (get_or ks j 0) ≡ 7) → (read (item_at ks ss j) (open_at ks ss (j + 1))).top.body ≡ done
      go (yes p) q = rw (read_elseif (item_at ks ss j) (open_at ks ss (j + 1)) p)
      go (no p) (yes q) = rw (read_else (item_at ks ss j) (open_at ks ss (j + 1)) q)
      go (no p) (no q) = rw (read_close (item_at ks ss j) (open_at ks ss (j + 1)) (ender_closes n p q))

  pub end_done : length ks ≤ j → (open_at ks ss j).top.body ≡ done
  end_done h = rw (read_end ks ss e j h)

  -- past the end of a block that no arm follows
  pub past_close : (o : Open) → (j < length ks → Ender (kind_of (get_or ks j 0))) → open_at ks ss j ≡ bare o → o.top.arms ≡ no_more → (r : ℕ) → (j < length ks → r ≡ j + 1) → (length ks ≤ j → r ≡ j) → open_at ks ss r ≡ outer o
  unfolding opened
  past_close o n s a r p q = elim (dec_lt j (length ks)) [ yes h ↦ within h | no h ↦ beyond (omega arith) ]
    where
      beyond : length ks ≤ j → open_at ks ss r ≡ outer o
      beyond h = rw (q h, read_end ks ss e j h) (ap outer (sym (read_end ks ss e j h) ∙ s))

      closed : j < length ks → (as' : Arms) (c : ℕ) (u : Open) → read (item_at ks ss j) (open_at ks ss (j + 1)) ≡ opened as' c u → as' ≡ no_more
      closed h as' c u w = ap (λ (k : Open). k.top.arms) (sym w ∙ sym (read_at ks ss e j h) ∙ s) ∙ a

      within : j < length ks → open_at ks ss r ≡ outer o
      within h = rw (p h) (go (ℕ_discrete (kind_of (get_or ks j 0)) 6) (ℕ_discrete (kind_of (get_or ks j 0)) 7))
        where
          go : Dec (kind_of (get_or ks j 0) ≡ 6) → Dec (kind_of (get_or ks j 0) ≡ 7) → open_at ks ss (j + 1) ≡ outer o
          go (yes z) w = absurd (let k : ◌≡◌ {A = ℕ} 0 1 = let m = closed h _ _ _ (read_elseif (item_at ks ss j) (open_at ks ss (j + 1)) z) in cc in omega arith)
          go (no z) (yes w) = absurd (let k : ◌≡◌ {A = ℕ} 0 1 = let m = closed h _ _ _ (read_else (item_at ks ss j) (open_at ks ss (j + 1)) w) in cc in omega arith)
          go (no z) (no w) = ap outer (sym (read_close (item_at ks ss j) (open_at ks ss (j + 1)) (ender_closes (n h) z w)) ∙ sym (read_at ks ss e j h) ∙ s)

  -- a block that no arm follows and that is closed ends at an item that closes it
  pub closed_at : (o : Open) → (j < length ks → Ender (kind_of (get_or ks j 0))) → open_at ks ss j ≡ bare o → o.top.arms ≡ no_more → (o.below ≡ [] → ⊥)
      → (j < length ks) × (closes (kind_of (get_or ks j 0)) ≡ true) × (get_or ss j 0 ≡ o.top.close)
  unfolding opened
  closed_at o n s a q = elim (dec_lt j (length ks)) [ yes h ↦ found h | no h ↦ absurd (q (ap (λ (k : Open). k.below) (sym s ∙ read_end ks ss e j (omega arith)))) ]
    where
      arms_of : j < length ks → (as' : Arms) (c : ℕ) (u : Open) → read (item_at ks ss j) (open_at ks ss (j + 1)) ≡ opened as' c u → as' ≡ no_more
      arms_of h as' c u w = ap (λ (k : Open). k.top.arms) (sym w ∙ sym (read_at ks ss e j h) ∙ s) ∙ a

      found : j < length ks → (j < length ks) × (closes (kind_of (get_or ks j 0)) ≡ true) × (get_or ss j 0 ≡ o.top.close)
      found h = go (ℕ_discrete (kind_of (get_or ks j 0)) 6) (ℕ_discrete (kind_of (get_or ks j 0)) 7)
        where
          go : Dec (kind_of (get_or ks j 0) ≡ 6) → Dec (kind_of (get_or ks j 0) ≡ 7) → (j < length ks) × (closes (kind_of (get_or ks j 0)) ≡ true) × (get_or ss j 0 ≡ o.top.close)
          go (yes z) w = absurd (let k : ◌≡◌ {A = ℕ} 0 1 = let m = arms_of h _ _ _ (read_elseif (item_at ks ss j) (open_at ks ss (j + 1)) z) in cc in omega arith)
          go (no z) (yes w) = absurd (let k : ◌≡◌ {A = ℕ} 0 1 = let m = arms_of h _ _ _ (read_else (item_at ks ss j) (open_at ks ss (j + 1)) w) in cc in omega arith)
          go (no z) (no w) =
              let c = ender_closes (n h) z w in
              (h, c, ap (λ (k : Open). k.top.close) (sym (read_close (item_at ks ss j) (open_at ks ss (j + 1)) c) ∙ sym (read_at ks ss e j h) ∙ s))
