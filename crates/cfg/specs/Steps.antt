-- What the builders take and give.
-- Assumes nothing: these are definitions.
use Rattle.std.specs.Prelude.{◌≡◌, Bool, List, [], ◌∷◌, ℕ, ◌+◌, ◌≤◌, ◌<◌, ◌^◌, length, get_or, take, drop}
use Rattle.flow.specs.Sheet.{kind_of, scope_end_of}
use Rattle.flow.specs.Tree.{Stmt, Open, done, no_more, in_front, outer, label_name, labels_of}
use Rattle.flow.specs.Size.{stmt_nodes, block_nodes, arm_nodes}
use Rattle.flow.specs.Graph.{exits, build_stmt, build_block, build_arms, inside, in_loop, entered, close_into, outside, start_graph}
use Rattle.blocks.specs.Open.{open_at, Ender}
use Rattle.if_builder.specs.declared.IfBuilder.{IfBuilder}
use Rattle.std.specs.Borrow.{MutBor}
use Rattle.cfg_steps.specs.declared.LentGraph.{LentGraph}
use Rattle.cfg_steps.specs.Columns.{place, columns, Place, Cols, graph_of, settings_of, Good, Grown, LabelsFit}
open exits use {End}

-- what admission shows of the kinds alone
pub record Sane (ks : List ℕ) : Type 0 where
  pub few : length ks ≤ 1024
  pub labels : LabelsFit ks
  pub scopes : (i : ℕ) → i < length ks → 1 ≤ kind_of (get_or ks i 0) → kind_of (get_or ks i 0) ≤ 7 → scope_end_of (get_or ks i 0) < 2 ^ 32
  pub tidy : (ss : List ℕ) → length ss ≡ length ks → (i : ℕ) → i < length ks → 1 ≤ kind_of (get_or ks i 0) → kind_of (get_or ks i 0) ≤ 4 → (open_at ks ss (i + 1)).top.arms ≡ no_more
  pub closed : (ss : List ℕ) → length ss ≡ length ks → (i : ℕ) → i < length ks → kind_of (get_or ks i 0) ≡ 3 → (open_at ks ss (i + 1)).below ≡ [] → ⊥

-- P holds of the kinds, whatever their spans are
abbrev pub ForSpans : List ℕ → (List ℕ → List ℕ → Type 0) → Type 0
ForSpans ks P = (ss : List ℕ) → length ss ≡ length ks → P ks ss

-- the open blocks with the innermost one read
abbrev pub bare : Open → Open
bare o = record { top = record { body = done; arms = o.top.arms; close = o.top.close }; below = o.below }

-- items are read; the settings are again what they were
pub record Moved (ks : List ℕ) (b : Place) (x : Cols) (r : Place) (y : Cols) : Type 0 where
  pub good : Good r y
  pub grown : Grown b x r y
  pub forward : b.item ≤ r.item
  pub within : r.item ≤ length ks
  pub labels : r.settings.labels ≡ b.settings.labels
  pub settings : settings_of r y ≡ settings_of b x

-- one statement is built
pub record Stepped (ks ss : List ℕ) (b : Place) (x : Cols) (r : Place) (y : Cols) : Type 0 where
  pub moved : Moved ks b x r y
  pub on : b.item < r.item
  pub stmt : Stmt
  pub reads : open_at ks ss b.item ≡ in_front stmt (open_at ks ss r.item)
  pub built : graph_of ks ss r y ≡ build_stmt stmt (settings_of b x) (graph_of ks ss b x)

-- a statement whose first item i stands right before the builder's is built
pub record Opened (ks ss : List ℕ) (i : ℕ) (b : Place) (x : Cols) (r : Place) (y : Cols) : Type 0 where
  pub moved : Moved ks b x r y
  pub stmt : Stmt
  pub reads : open_at ks ss i ≡ in_front stmt (open_at ks ss r.item)
  pub built : graph_of ks ss r y ≡ build_stmt stmt (settings_of b x) (graph_of ks ss b x)

-- the innermost block is built, up to the item that ends it or the sheet's end
pub record Finished (ks ss : List ℕ) (b : Place) (x : Cols) (r : Place) (y : Cols) : Type 0 where
  pub moved : Moved ks b x r y
  pub ended : r.item < length ks → Ender (kind_of (get_or ks r.item 0))
  pub shut : open_at ks ss r.item ≡ bare (open_at ks ss b.item)
  pub built : graph_of ks ss r y ≡ build_block (open_at ks ss b.item).top.body (settings_of b x) (graph_of ks ss b x)

-- the same inside a scope that ends at e
pub record Scoped (ks ss : List ℕ) (e : ℕ) (b : Place) (x : Cols) (r : Place) (y : Cols) : Type 0 where
  pub moved : Moved ks b x r y
  pub ended : r.item < length ks → Ender (kind_of (get_or ks r.item 0))
  pub shut : open_at ks ss r.item ≡ bare (open_at ks ss b.item)
  pub built : graph_of ks ss r y
      ≡ build_block (open_at ks ss b.item).top.body (inside e (open_at ks ss b.item).top.body (settings_of b x) (graph_of ks ss b x)) (entered (open_at ks ss b.item).top.body (graph_of ks ss b x))

-- the same as a loop's body, with the loop's targets
pub record Looped (ks ss : List ℕ) (e after next : ℕ) (b : Place) (x : Cols) (r : Place) (y : Cols) : Type 0 where
  pub moved : Moved ks b x r y
  pub ended : r.item < length ks → Ender (kind_of (get_or ks r.item 0))
  pub shut : open_at ks ss r.item ≡ bare (open_at ks ss b.item)
  pub built : graph_of ks ss r y
      ≡ close_into next (build_block (open_at ks ss b.item).top.body (inside e (open_at ks ss b.item).top.body (in_loop after next (settings_of b x)) (graph_of ks ss b x)) (entered (open_at ks ss b.item).top.body (graph_of ks ss b x)))

-- a kind that begins an arm: ELSEIF or ELSE
abbrev pub Arm : ℕ → Type 0
Arm k = (6 ≤ k) × (k ≤ 7)

-- some arms are built: from here the arms that are left build what all of them build from there
pub record Armed (ks ss : List ℕ) (join test : ℕ) (falls : Bool) (b : Place) (x : Cols) (test' : ℕ) (falls' : Bool) (r : Place) (y : Cols) : Type 0 where
  pub moved : Moved ks b x r y
  pub ended : r.item < length ks → Ender (kind_of (get_or ks r.item 0))
  pub tested : test' < r.nodes
  pub room : r.nodes + arm_nodes (open_at ks ss r.item).top.arms ≤ 1600
  pub rest : outer (open_at ks ss r.item) ≡ outer (open_at ks ss b.item)
  pub still : build_arms (open_at ks ss r.item).top.arms test' join falls' (settings_of b x) (graph_of ks ss r y) ≡ build_arms (open_at ks ss b.item).top.arms test join falls (settings_of b x) (graph_of ks ss b x)

-- the same between two states of an IF
abbrev pub ArmBuilt : List ℕ → List ℕ → ℕ → IfBuilder → Place → Cols → IfBuilder → Place → Cols → Type 0
ArmBuilt ks ss join s b x s' r y = Armed ks ss join s.test s.falls b x s'.test s'.falls r y

-- P holds between what a builder's graph was and what it is
abbrev pub Between : (Place → Cols → Place → Cols → Type 0) → MutBor LentGraph → MutBor LentGraph → Type 0
Between P b r = P (place b.now) (columns b.now) (place r.now) (columns r.now)

abbrev pub ArmBetween : List ℕ → List ℕ → ℕ → IfBuilder → MutBor LentGraph → IfBuilder → MutBor LentGraph → Type 0
ArmBetween ks ss join s b s' r = ArmBuilt ks ss join s (place b.now) (columns b.now) s' (place r.now) (columns r.now)

-- the arms that follow the item that ends a block, and the last end
pub record Chosen (ks ss : List ℕ) (test join : ℕ) (falls : Bool) (b : Place) (x : Cols) (r : Place) (y : Cols) : Type 0 where
  pub moved : Moved ks b x r y
  pub reads : open_at ks ss r.item ≡ outer (open_at ks ss b.item)
  pub built : graph_of ks ss r y ≡ build_arms (open_at ks ss b.item).top.arms test join falls (settings_of b x) (graph_of ks ss b x)

-- room for the nodes still to be made: of a block that is entered, of a block and of a statement whose labels have their nodes, of arms
abbrev pub BlockRoom : List ℕ → Place → Type 0
BlockRoom ks b = (ss : List ℕ) → length ss ≡ length ks → b.nodes + block_nodes (open_at ks ss b.item).top.body ≤ 1600

abbrev pub EnteredRoom : List ℕ → Place → Type 0
EnteredRoom ks b = (ss : List ℕ) → length ss ≡ length ks → b.nodes + block_nodes (open_at ks ss b.item).top.body ≤ 1600 + length (labels_of (open_at ks ss b.item).top.body)

abbrev pub StmtRoom : List ℕ → ℕ → Place → Type 0
StmtRoom ks i b = (ss : List ℕ) → length ss ≡ length ks → (st : Stmt) (o : Open) → open_at ks ss i ≡ in_front st o → b.nodes + stmt_nodes st ≤ 1600 + length (label_name st)

abbrev pub ArmRoom : List ℕ → Place → Type 0
ArmRoom ks b = (ss : List ℕ) → length ss ≡ length ks → b.nodes + arm_nodes (open_at ks ss b.item).top.arms ≤ 1600

-- ---- where a builder stands: in sane kinds, with room for what it is to build

-- at a block, whose scope ends at e
abbrev pub AtBlock : List ℕ → ℕ → Place → Type 0
AtBlock ks e b = Sane ks × (b.item ≤ length ks) × BlockRoom ks b × (e < 4294967296)

-- in a block whose labels have their nodes, at a statement or the block's end
abbrev pub InBlock : List ℕ → Place → Type 0
InBlock ks b = Sane ks × (b.item ≤ length ks) × EnteredRoom ks b

-- at a statement
abbrev pub AtStmt : List ℕ → Place → Type 0
AtStmt ks b = Sane ks × (b.item < length ks) × (Ender (kind_of (get_or ks b.item 0)) → ⊥) × StmtRoom ks b.item b

-- right past item i, of kind k, which begins a statement
abbrev pub PastHead : List ℕ → ℕ → ℕ → Place → Type 0
PastHead ks i k b = Sane ks × (b.item ≡ i + 1) × (b.codes < b.item) × (i < length ks) × (kind_of (get_or ks i 0) ≡ k) × StmtRoom ks i b

-- at the item that ends a block, or at the sheet's end
abbrev pub AtEnd : List ℕ → Place → Type 0
AtEnd ks b = Sane ks × (b.item ≤ length ks) × ((b.item < length ks) → Ender (kind_of (get_or ks b.item 0))) × ArmRoom ks b

-- at an arm
abbrev pub AtArm : List ℕ → Place → Type 0
AtArm ks b = Sane ks × (b.item < length ks) × Arm (kind_of (get_or ks b.item 0)) × ArmRoom ks b

-- ---- a whole sheet

abbrev pub free : ℕ
free = 18446744073709551615

-- six nodes with no successor, and what lies past them as it was
pub record Started (es es' : List ℕ) : Type 0 where
  pub nodes : take 6 es' ≡ free ∷ free ∷ free ∷ free ∷ free ∷ free ∷ []
  pub past : drop 6 es' ≡ drop 6 es
  pub size : length es' ≡ length es

pub record Wide (x : Cols) : Type 0 where
  pub edges : 1600 ≤ length x.edges
  pub codes : 1024 ≤ length x.codes
  pub names : 1024 ≤ length x.names
  pub labels : 1600 ≤ length x.labels

abbrev pub WholeRoom : List ℕ → Type 0
WholeRoom ks = (ss : List ℕ) → length ss ≡ length ks → 6 + block_nodes (open_at ks ss 0).top.body ≤ 1600

-- the graph of the statement rules; lengths, and what lies past the counts, are as they were
pub record Whole (ks ss : List ℕ) (e : ℕ) (x : Cols) (r : Place) (y : Cols) : Type 0 where
  pub good : Good r y
  pub within : r.item ≤ length ks
  pub edges_past : drop r.nodes y.edges ≡ drop r.nodes x.edges
  pub codes_past : drop r.codes y.codes ≡ drop r.codes x.codes
  pub names_past : drop r.names y.names ≡ drop r.names x.names
  pub labels_past : drop r.nodes y.labels ≡ drop r.nodes x.labels
  pub edges_length : length y.edges ≡ length x.edges
  pub codes_length : length y.codes ≡ length x.codes
  pub names_length : length y.names ≡ length x.names
  pub labels_length : length y.labels ≡ length x.labels
  pub built : graph_of ks ss r y
      ≡ close_into End (build_block (open_at ks ss 0).top.body (inside e (open_at ks ss 0).top.body outside start_graph) (entered (open_at ks ss 0).top.body start_graph))
