-- Room: what a statement's nodes leave for its parts; and what the steps ask.
-- Assumes nothing.
use mathlib.Core.Path.{◌≡◌, sym, ap, ◌∙◌, subst}
use mathlib.Core.List.{List}
use mathlib.Core.Bool.{true, false, false≢true}
use native.Mathlib.Decide.{ℕ_discrete}
use Prim.Native.Nat.{ℕ, zero, suc, ◌+◌, ◌≤◌, ◌<◌}
use native.Mathlib.Omega.{arith}
use lib.ListN.{length, get_or}
use Rattle.flow.specs.Sheet.{kind_of}
use Rattle.flow.specs.Kinds.{closes}
use Rattle.flow.specs.Tree.{Open, simple, do_block, while_loop, repeat_loop, for_loop, if_stmt, opened, outer, label_name}
use Rattle.flow.specs.Size.{stmt_nodes, block_nodes, arm_nodes}
use Rattle.flow.specs.Graph.{Graph}
use Rattle.flow.proofs.NodeCount.{built_count}
use Rattle.blocks.specs.Open.{item_at, open_at, Ender, ends_at}
use Rattle.blocks.proofs.Scan.{ends, ends_not}
use Rattle.kinds.specs.Ends.{ends_block}
use Rattle.blocks.proofs.Parse.{read_at, read_do, read_while, read_repeat, read_for, read_if, read_elseif, read_else, read_simple}
use Rattle.kinds.specs.Starts.{has_start}
use Rattle.cfg_steps.specs.Columns.{Place, Cols, simple_made, Good}
use Rattle.cfg_steps.proofs.Simple.{starts}
use borrow.Author.Tests.{ne_eqb}
use Rattle.cfg.specs.Steps.{Scoped, StmtRoom, ArmRoom, BlockRoom}
use Rattle.cfg.proofs.Blocks.{nodes_of_law}

-- a block that is entered and built has made its nodes
pub scoped_nodes : {ks ss : List ℕ} {s : ℕ} {b r : Place} {x y : Cols} → Good b x → Scoped ks ss s b x r y → r.nodes ≡ b.nodes + block_nodes (open_at ks ss b.item).top.body
scoped_nodes {ks} {ss} {b = b} ok c =
    sym (nodes_of_law ks ss c.moved.good) ∙ ap (λ (g : Graph). length g.nodes.first) c.built ∙ built_count _ _ _
    ∙ ap (λ (n : ℕ). n + block_nodes (open_at ks ss b.item).top.body) (nodes_of_law ks ss ok)

module _ (ks ss : List ℕ) (e : length ss ≡ length ks) (i : ℕ) (lt : i < length ks) (b : Place) (room : StmtRoom ks i b) where
  abbrev o : Open
  o = open_at ks ss (i + 1)

  pub do_room : kind_of (get_or ks i 0) ≡ 1 → b.nodes + block_nodes o.top.body ≤ 1600
  do_room k = room ss e (do_block (get_or ks i 0) o.top.body) (outer o) (read_at ks ss e i lt ∙ read_do (item_at ks ss i) o k)

  pub while_room : kind_of (get_or ks i 0) ≡ 2 → b.nodes + (2 + block_nodes o.top.body) ≤ 1600
  while_room k = room ss e (while_loop (get_or ks i 0) (get_or ss i 0) o.top.body) (outer o) (read_at ks ss e i lt ∙ read_while (item_at ks ss i) o k)

  pub repeat_room : kind_of (get_or ks i 0) ≡ 3 → b.nodes + (3 + block_nodes o.top.body) ≤ 1600
  repeat_room k = room ss e (repeat_loop (get_or ks i 0) o.top.body o.top.close) (outer o) (read_at ks ss e i lt ∙ read_repeat (item_at ks ss i) o k)

  pub for_room : kind_of (get_or ks i 0) ≡ 4 → b.nodes + (3 + block_nodes o.top.body) ≤ 1600
  for_room k = room ss e (for_loop (get_or ks i 0) (get_or ss i 0) o.top.body) (outer o) (read_at ks ss e i lt ∙ read_for (item_at ks ss i) o k)

  pub if_room : kind_of (get_or ks i 0) ≡ 5 → b.nodes + (2 + block_nodes o.top.body + arm_nodes o.top.arms) ≤ 1600
  if_room k = room ss e (if_stmt (get_or ks i 0) (get_or ss i 0) o.top.body o.top.arms) (outer o) (read_at ks ss e i lt ∙ read_if (item_at ks ss i) o k)

  pub simple_room : b.nodes ≤ 1600 → ((k : ℕ) → 1 ≤ k → k ≤ 9 → kind_of (get_or ks i 0) ≡ k → ⊥) → b.nodes + simple_made (kind_of (get_or ks i 0)) ≤ 1600
  simple_room few q = go (ℕ_discrete (kind_of (get_or ks i 0)) 11) (ℕ_discrete (kind_of (get_or ks i 0)) 12) (ℕ_discrete (kind_of (get_or ks i 0)) 19)
    where
      all : b.nodes + stmt_nodes (simple (get_or ks i 0) (get_or ss i 0)) ≤ 1600 + length (label_name (simple (get_or ks i 0) (get_or ss i 0)))
      all = room ss e (simple (get_or ks i 0) (get_or ss i 0)) o (read_at ks ss e i lt ∙ read_simple (item_at ks ss i) o q)

      go : Dec (kind_of (get_or ks i 0) ≡ 11) → Dec (kind_of (get_or ks i 0) ≡ 12) → Dec (kind_of (get_or ks i 0) ≡ 19) → b.nodes + simple_made (kind_of (get_or ks i 0)) ≤ 1600
      go (yes p) y z = rw p (omega arith)
      go (no p) (yes y) z = rw y (omega arith)
      go (no p) (no y) (yes z) = rw z (omega arith)
      go (no p) (no y) (no z) = rw (ne_eqb (kind_of (get_or ks i 0)) 11 p, ne_eqb (kind_of (get_or ks i 0)) 12 y, ne_eqb (kind_of (get_or ks i 0)) 19 z)
          (omega (arith, rw (ne_eqb (kind_of (get_or ks i 0)) 11 p, ne_eqb (kind_of (get_or ks i 0)) 12 y, ne_eqb (kind_of (get_or ks i 0)) 19 z) at all))

module _ (ks ss : List ℕ) (e : length ss ≡ length ks) (b : Place) (lt : b.item < length ks) (room : ArmRoom ks b) where
  pub elseif_room : kind_of (get_or ks b.item 0) ≡ 6 → b.nodes + (1 + block_nodes (open_at ks ss (b.item + 1)).top.body + arm_nodes (open_at ks ss (b.item + 1)).top.arms) ≤ 1600
  unfolding opened
  elseif_room k = rw (read_at ks ss e b.item lt ∙ read_elseif (item_at ks ss b.item) (open_at ks ss (b.item + 1)) k) at (room ss e)

  pub else_room : kind_of (get_or ks b.item 0) ≡ 7 → b.nodes + (block_nodes (open_at ks ss (b.item + 1)).top.body + arm_nodes (open_at ks ss (b.item + 1)).top.arms) ≤ 1600
  unfolding opened
  else_room k = rw (read_at ks ss e b.item lt ∙ read_else (item_at ks ss b.item) (open_at ks ss (b.item + 1)) k) at (room ss e)

-- the code of a kind from 2 to 7 starts at its span
pub code_starts : (w k : ℕ) → kind_of w ≡ k → k ≤ 7 → has_start w ≡ true
code_starts w k e h = starts w (λ q. omega arith) (λ q. omega arith) (λ q. omega arith)

-- an item that closes has no start
pub close_starts : (w : ℕ) → closes (kind_of w) ≡ true → has_start w ≡ false
close_starts w c = elim (ℕ_discrete (kind_of w) 8) [ yes e ↦ rw e | no p ↦ elim (ℕ_discrete (kind_of w) 9) [ yes e ↦ rw e | no q ↦ absurd (false≢true (rw (ne_eqb (kind_of w) 8 p, ne_eqb (kind_of w) 9 q) at c)) ] ]

-- ---- what ends a block

pub block_ends : (k : ℕ) → ends_block k ≡ true → Ender k
unfolding ends_at
block_ends k e = ends k e

pub block_goes_on : (k : ℕ) → ends_block k ≡ false → Ender k → ⊥
unfolding ends_at
block_goes_on k e = ends_not k e

-- a word of a kind that opens nothing
abbrev pub OpensNone : ℕ → Type 0
OpensNone w = (kind_of w ≡ 1 → ⊥) × (kind_of w ≡ 2 → ⊥) × (kind_of w ≡ 3 → ⊥) × (kind_of w ≡ 4 → ⊥) × (kind_of w ≡ 5 → ⊥)

-- a kind that opens nothing and ends nothing
pub simple_kind : (w : ℕ) → (kind_of w ≡ 1 → ⊥) → (kind_of w ≡ 2 → ⊥) → (kind_of w ≡ 3 → ⊥) → (kind_of w ≡ 4 → ⊥) → (kind_of w ≡ 5 → ⊥) → (Ender (kind_of w) → ⊥) → (k : ℕ) → 1 ≤ k → k ≤ 9 → kind_of w ≡ k → ⊥
simple_kind w a b c d f g zero l m e = omega arith
simple_kind w a b c d f g (suc zero) l m e = a e
simple_kind w a b c d f g (suc (suc zero)) l m e = b e
simple_kind w a b c d f g (suc (suc (suc zero))) l m e = c e
simple_kind w a b c d f g (suc (suc (suc (suc zero)))) l m e = d e
simple_kind w a b c d f g (suc (suc (suc (suc (suc zero))))) l m e = f e
simple_kind w a b c d f g (suc (suc (suc (suc (suc (suc n)))))) l m e = g (record { least = rw e (omega arith); most = rw e m })

pub ended_on : (ks : List ℕ) (t c : Place) → c.item ≡ t.item → (t.item < length ks → Ender (kind_of (get_or ks t.item 0))) → c.item < length ks → Ender (kind_of (get_or ks c.item 0))
ended_on ks t c e n h = subst (λ (j : ℕ). Ender (kind_of (get_or ks j 0))) (sym e) (n (omega arith))

-- what is left for the arms once the block above them is built
pub arms_left : {ks ss : List ℕ} {s : ℕ} {h t : Place} {y z : Cols} (j : ℕ) (c : Place) → Good h y → h.item ≡ j → Scoped ks ss s h y t z → c.item ≡ t.item → c.nodes ≡ t.nodes + 0
    → h.nodes + (block_nodes (open_at ks ss j).top.body + arm_nodes (open_at ks ss j).top.arms) ≤ 1600 → c.nodes + arm_nodes (open_at ks ss c.item).top.arms ≤ 1600
arms_left {ks} {ss} {s} {h} {t} j c ok e sc ci cn room =
    let a : (open_at ks ss c.item).top.arms ≡ (open_at ks ss j).top.arms = ap (λ (k : ℕ). (open_at ks ss k).top.arms) ci ∙ ap (λ (w : Open). w.top.arms) sc.shut ∙ ap (λ (k : ℕ). (open_at ks ss k).top.arms) e in
    let n : t.nodes ≡ h.nodes + block_nodes (open_at ks ss j).top.body = scoped_nodes ok sc ∙ ap (λ (k : ℕ). h.nodes + block_nodes (open_at ks ss k).top.body) e in
    omega (arith, ap arm_nodes a)

-- the room of a block that is reached with its item known
pub at_item : (ks : List ℕ) (b : Place) (j : ℕ) → b.item ≡ j → ((ss : List ℕ) → length ss ≡ length ks → b.nodes + block_nodes (open_at ks ss j).top.body ≤ 1600) → BlockRoom ks b
at_item ks b j e room ss q = omega (arith, room ss q, ap (λ (k : ℕ). block_nodes (open_at ks ss k).top.body) e)
