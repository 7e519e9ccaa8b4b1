-- The columns of a graph that is being built, and the graph that they stand for. A word holds both successors of a node; a code's word its node and its item; a name's word its node, item and scope end; a label's word its name and node.
-- Assumes nothing: these are definitions.
use Rattle.std.specs.Prelude.{◌≡◌, Bool, cond, List, [], ◌∷◌, map, ℕ, ◌+◌, ◌/◌, ◌%◌, ◌^◌, ◌≤◌, ◌<◌, length, take, drop, get_or, set, replicate, eqb, Option, Some, None, IfSome}
use Rattle.std.specs.Borrow.{MutBor}
use Rattle.search.specs.Lent.{Column}
use Rattle.flow.specs.Sheet.{kind_of, argument_of, start_of, member}
use Rattle.flow.specs.Kinds.{kinds}
use Rattle.flow.specs.Graph.{exits, new_nodes, with_labels, stand_at, label_node, or_break, jump, connect, set_current, record_code, unless_true, unless_false, simple_stmt, Graph, Settings, Label, absent}
use Rattle.kinds.specs.Starts.{has_start}
use Rattle.blocks.specs.Open.{labels_at}
use Rattle.cfg_edges.specs.Halves.{lo, hi, label_list}
use Rattle.block_settings.specs.declared.BlockSettings.{BlockSettings}
use Rattle.cfg_steps.specs.declared.GraphBuilder.{GraphBuilder}
use Rattle.cfg_steps.specs.declared.LentGraph.{LentGraph}
open exits use {ReturnValue, ReturnEmpty, Error}
open kinds use {END, UNTIL, NAME, LABEL, BREAK, CONTINUE, RETURN, CALL, EMPTY}

pub record Cols : Type 0 where
  pub edges : List ℕ
  pub codes : List ℕ
  pub names : List ℕ
  pub labels : List ℕ

abbrev pub cols : List ℕ → List ℕ → List ℕ → List ℕ → Cols
cols e c n l = record { edges = e; codes = c; names = n; labels = l }

-- four lent columns, at the entry (`held`) or at the exit (`left`)
abbrev pub cols_at : (Column → List ℕ) → Column → Column → Column → Column → Cols
cols_at at e c n l = cols (at e) (at c) (at n) (at l)

-- the builder's place in the sheet, its counts, its current node and its settings
abbrev pub Place : Type 0
Place = GraphBuilder

-- what a graph that is being built says of itself, and what its columns hold
abbrev pub place : LentGraph → Place
place b = b.at

abbrev pub columns : LentGraph → Cols
columns b = cols b.edges.now b.codes.now b.names.now b.labels.now

-- the current node's number, absent where there is none
abbrev pub cursor_node : Option ℕ → ℕ
cursor_node None = absent
cursor_node (Some v) = v

-- the code starts that code words give, by the sheet's kinds and spans
unfoldable pub painted : List ℕ → List ℕ → List ℕ → List ℕ → List ℕ
painted ks ss [] ps = ps
painted ks ss (c ∷ cs) ps = painted ks ss cs (cond (has_start (get_or ks (hi c) 0)) (set ps (lo c) (start_of (get_or ss (hi c) 0))) ps)

-- a name's word: node + 2^16 × item + 2^32 × scope end, where 65,535 stands for no node
abbrev pub node_of_name : ℕ → ℕ
node_of_name w = cond (eqb (w % 2 ^ 16) 65535) absent (w % 2 ^ 16)

abbrev pub name_item : ℕ → ℕ
name_item w = w / 2 ^ 16 % 2 ^ 16

unfoldable pub graph_of : List ℕ → List ℕ → Place → Cols → Graph
graph_of ks ss b x = record {
  nodes = record {
    first = map lo (take b.nodes x.edges);
    second = map hi (take b.nodes x.edges);
    start = painted ks ss (take b.codes x.codes) (replicate b.nodes 0);
  };
  codes = record {
    span = map (λ c. get_or ss (hi c) 0) (take b.codes x.codes);
    node = map lo (take b.codes x.codes);
  };
  names = record {
    span = map (λ w. get_or ss (name_item w) 0) (take b.names x.names);
    node = map node_of_name (take b.names x.names);
    scope_end = map hi (take b.names x.names);
  };
  current = cursor_node b.cursor;
}

unfoldable pub settings_of : Place → Cols → Settings
settings_of b x = record { break_to = b.settings.break_target; continue_to = b.settings.continue_target; scope_end = b.settings.scope_end; labels = label_list b.settings.labels x.labels }

-- other settings with the same place, counts and current node
abbrev pub within : BlockSettings → Place → Place
within st b = record {
  item = b.item;
  nodes = b.nodes;
  codes = b.codes;
  names = b.names;
  cursor = b.cursor;
  settings = st;
}

-- the columns are wide enough, and all that they hold are nodes and items that were read
pub record Good (b : Place) (x : Cols) : Type 0 where
  pub wide_edges : 1600 ≤ length x.edges
  pub wide_codes : 1024 ≤ length x.codes
  pub wide_names : 1024 ≤ length x.names
  pub wide_labels : 1600 ≤ length x.labels
  pub items : b.item ≤ 1024
  pub nodes : b.nodes ≤ 1600
  pub exits : 6 ≤ b.nodes
  pub codes : b.codes ≤ b.item
  pub names : b.names ≤ b.item
  pub labels : b.settings.labels ≤ b.nodes
  pub cursor : IfSome b.cursor (λ v. v < b.nodes)
  pub break_target : b.settings.break_target < b.nodes
  pub continue_target : b.settings.continue_target < b.nodes
  pub scope_end : b.settings.scope_end < 2 ^ 32
  pub code_nodes : (k : ℕ) → k < b.codes → lo (get_or x.codes k 0) < b.nodes
  pub code_items : (k : ℕ) → k < b.codes → hi (get_or x.codes k 0) < b.item
  pub name_items : (k : ℕ) → k < b.names → name_item (get_or x.names k 0) < b.item
  pub label_nodes : (k : ℕ) → k < b.settings.labels → hi (get_or x.labels k 0) < b.nodes

-- the current node, if there is one, has its place among the edges
pub record Standing (b : Place) (es : List ℕ) : Type 0 where
  pub cursor : IfSome b.cursor (λ v. v < b.nodes)
  pub nodes : b.nodes ≤ length es
  pub few : b.nodes ≤ 1600

-- counts grow, lengths stay, and so does what lies past the counts and the labels that were in force
pub record Grown (b : Place) (x : Cols) (r : Place) (y : Cols) : Type 0 where
  pub nodes : b.nodes ≤ r.nodes
  pub codes : b.codes ≤ r.codes
  pub names : b.names ≤ r.names
  pub edges_past : drop r.nodes y.edges ≡ drop r.nodes x.edges
  pub codes_past : drop r.codes y.codes ≡ drop r.codes x.codes
  pub names_past : drop r.names y.names ≡ drop r.names x.names
  pub labels_past : drop r.nodes y.labels ≡ drop r.nodes x.labels
  pub labels_kept : take b.settings.labels y.labels ≡ take b.settings.labels x.labels
  pub edges_length : length y.edges ≡ length x.edges
  pub codes_length : length y.codes ≡ length x.codes
  pub names_length : length y.names ≡ length x.names
  pub labels_length : length y.labels ≡ length x.labels

-- one operation, with no item read: n nodes more, and the graph that f makes of the graph before
pub record Did (ks : List ℕ) (f : List ℕ → Graph → Graph) (n : ℕ) (b : Place) (x : Cols) (r : Place) (y : Cols) : Type 0 where
  pub good : Good r y
  pub grown : Grown b x r y
  pub item : r.item ≡ b.item
  pub nodes : r.nodes ≡ b.nodes + n
  pub labels : r.settings.labels ≡ b.settings.labels
  pub settings : settings_of r y ≡ settings_of b x
  pub built : (ss : List ℕ) → graph_of ks ss r y ≡ f ss (graph_of ks ss b x)

-- a call that leaves b as r does that operation, if the columns are good
abbrev pub Does : List ℕ → (List ℕ → Graph → Graph) → ℕ → LentGraph → LentGraph → Type 0
Does ks f n b r = Good (place b) (columns b) → Did ks f n (place b) (columns b) (place r) (columns r)

-- the same with the span of item i, which gives its node a code start (true) or none (false)
abbrev pub DoesCode : List ℕ → ℕ → Bool → (ℕ → Graph → Graph) → ℕ → LentGraph → LentGraph → Type 0
DoesCode ks i starts f n b r = Good (place b) (columns b) → has_start (get_or ks i 0) ≡ starts → Did ks (λ ss. f (get_or ss i 0)) n (place b) (columns b) (place r) (columns r)

-- a call that leaves b as r leaves good columns good
abbrev pub StaysGood : LentGraph → LentGraph → Type 0
StaysGood b r = Good (place b) (columns b) → Good (place r) (columns r)

-- "then condition to body unless true, to after unless false. UNTIL records its span at condition": the three nodes stand in a row
abbrev pub repeat_end : Option Bool → ℕ → ℕ → Graph → Graph
repeat_end t body s g = set_current (body + 2) (record_code s (body + 1) (unless_false t (connect (body + 1) (body + 2)) (unless_true t (connect (body + 1) body) g)))

-- ---- which columns a call writes: the others are as they were, and each is still the column that was lent

-- the sheet, and the columns by name
abbrev pub Kept : LentGraph → LentGraph → Type 0
Kept b r = (r.kinds ≡ b.kinds) × (r.edges.ghost_name ≡ b.edges.ghost_name) × (r.codes.ghost_name ≡ b.codes.ghost_name) × (r.names.ghost_name ≡ b.names.ghost_name) × (r.labels.ghost_name ≡ b.labels.ghost_name)

abbrev pub EdgesOnly : LentGraph → LentGraph → Type 0
EdgesOnly b r = (r.kinds ≡ b.kinds) × (r.edges.ghost_name ≡ b.edges.ghost_name) × (r.codes ≡ b.codes) × (r.names ≡ b.names) × (r.labels ≡ b.labels)

abbrev pub CodesOnly : LentGraph → LentGraph → Type 0
CodesOnly b r = (r.kinds ≡ b.kinds) × (r.edges ≡ b.edges) × (r.codes.ghost_name ≡ b.codes.ghost_name) × (r.names ≡ b.names) × (r.labels ≡ b.labels)

abbrev pub NamesOnly : LentGraph → LentGraph → Type 0
NamesOnly b r = (r.kinds ≡ b.kinds) × (r.edges ≡ b.edges) × (r.codes ≡ b.codes) × (r.names.ghost_name ≡ b.names.ghost_name) × (r.labels ≡ b.labels)

abbrev pub EdgesAndCodes : LentGraph → LentGraph → Type 0
EdgesAndCodes b r = (r.kinds ≡ b.kinds) × (r.edges.ghost_name ≡ b.edges.ghost_name) × (r.codes.ghost_name ≡ b.codes.ghost_name) × (r.names ≡ b.names) × (r.labels ≡ b.labels)

abbrev pub EdgesAndLabels : LentGraph → LentGraph → Type 0
EdgesAndLabels b r = (r.kinds ≡ b.kinds) × (r.edges.ghost_name ≡ b.edges.ghost_name) × (r.codes ≡ b.codes) × (r.names ≡ b.names) × (r.labels.ghost_name ≡ b.labels.ghost_name)

abbrev pub LabelsKept : LentGraph → LentGraph → Type 0
LabelsKept b r = (r.kinds ≡ b.kinds) × (r.edges.ghost_name ≡ b.edges.ghost_name) × (r.codes.ghost_name ≡ b.codes.ghost_name) × (r.names.ghost_name ≡ b.names.ghost_name) × (r.labels ≡ b.labels)

-- the same graph is held on to, and K says what becomes of it
abbrev pub Keeps : (LentGraph → LentGraph → Type 0) → MutBor LentGraph → MutBor LentGraph → Type 0
Keeps K b r = K b.now r.now × (r.ghost_name ≡ b.ghost_name)

-- ---- the labels standing directly in a block

-- a label's name fits its word
abbrev pub LabelsFit : List ℕ → Type 0
LabelsFit ks = (i : ℕ) → i < length ks → kind_of (get_or ks i 0) ≡ 12 → argument_of (get_or ks i 0) < 2 ^ 32

-- the names as' have nodes and are in force
pub record Entered (ks as' : List ℕ) (b : Place) (x : Cols) (r : Place) (y : Cols) : Type 0 where
  pub good : Good r y
  pub grown : Grown b x r y
  pub item : r.item ≡ b.item
  pub codes : r.codes ≡ b.codes
  pub names : r.names ≡ b.names
  pub cursor : r.cursor ≡ b.cursor
  pub scope_end : r.settings.scope_end ≡ b.settings.scope_end
  pub break_target : r.settings.break_target ≡ b.settings.break_target
  pub continue_target : r.settings.continue_target ≡ b.settings.continue_target
  pub nodes : r.nodes ≡ b.nodes + length as'
  pub labels : r.settings.labels ≡ b.settings.labels + length as'
  pub in_force : label_list r.settings.labels y.labels ≡ with_labels as' b.nodes (label_list b.settings.labels x.labels)
  pub built : (ss : List ℕ) → graph_of ks ss r y ≡ new_nodes as' (graph_of ks ss b x)

-- a call that leaves b as r enters the names as', if the columns are good
abbrev pub Enters : List ℕ → List ℕ → LentGraph → LentGraph → Type 0
Enters ks as' b r = Good (place b) (columns b) → Entered ks as' (place b) (columns b) (place r) (columns r)

-- a call that leaves b as r enters the block at b's item, and has room for that
abbrev pub EntersBlock : LentGraph → LentGraph → Type 0
EntersBlock b r = (ss : List ℕ) → length ss ≡ length b.kinds.now → Enters b.kinds.now (labels_at b.kinds.now ss b.at.item) b r

abbrev pub LabelsRoom : LentGraph → Type 0
LabelsRoom b = (ss : List ℕ) → length ss ≡ length b.kinds.now → b.at.nodes + length (labels_at b.kinds.now ss b.at.item) ≤ 1600

-- ---- statements of one item

-- "LABEL records its span at its label's node and moves there. Name 0 does nothing."
unfoldable pub labelled : ℕ → List Label → ℕ → Graph → Graph
labelled a ls s g = cond (eqb a 0) g (stand_at (label_node a ls) s g)

-- "GOTO jumps to its label; when no visible label is found it jumps to exit Break."
abbrev pub gone : ℕ → List Label → ℕ → Graph → Graph
gone a ls s = jump s (or_break (label_node a ls))

-- how many nodes a statement of one item makes; a label's node is made as its block is entered
abbrev pub simple_made : ℕ → ℕ
simple_made k = cond (member k (NAME ∷ LABEL ∷ EMPTY ∷ [])) 0 1

-- a call that leaves b as r does the statement of the one item i, whose word is w
abbrev pub DoesSimple : List ℕ → ℕ → ℕ → LentGraph → LentGraph → Type 0
DoesSimple ks i w b r =
    get_or ks i 0 ≡ w → Did ks (λ ss. simple_stmt (kind_of w) (argument_of w) (get_or ss i 0) (settings_of (place b) (columns b))) (simple_made (kind_of w)) (place b) (columns b) (place r) (columns r)
