-- 01, "From items to edges (cfg.rs)": the graph by the statement rules, in their order. Operations bear the names of the Rust's methods.
-- Assumes nothing: these are definitions.
use Rattle.std.specs.Prelude.{Bool, true, false, cond, ◌&&◌, List, [], ◌∷◌, ◌++◌, ℕ, ◌+◌, length, get_or, set, eqb, Option, Some, None}
use Rattle.flow.specs.Sheet.{Word, Span, Node, items, outer_end, kind_of, argument_of, condition_of, scope_end_of, start_of}
use Rattle.flow.specs.Kinds.{kinds, literal_truth, raises}
use Rattle.flow.specs.Tree.{Stmt, Block, Arms, simple, do_block, while_loop, repeat_loop, for_loop, if_stmt, done, then, no_more, elseif, otherwise, tree, labels_of}
open kinds use {NAME, LABEL, GOTO, BREAK, CONTINUE, RETURN, CALL, EMPTY}

-- "Absent successors are stored as 4,294,967,295"; the same number stands for no current node
abbrev pub absent : Node
absent = 4294967295

-- "Nodes 0 to 4 are the exits End, Break, ReturnValue, ReturnEmpty, Error; 5 is the entry."
abbrev pub exits : record { End : Node; Break : Node; ReturnValue : Node; ReturnEmpty : Node; Error : Node }
exits = record { End = 0; Break = 1; ReturnValue = 2; ReturnEmpty = 3; Error = 4 }

open exits use {End, Break, ReturnValue, ReturnEmpty, Error}

abbrev pub entry_node : Node
entry_node = 5

-- "per node, both successors, code start"
abbrev pub Nodes : Type 0
Nodes = record { first : List Node; second : List Node; start : List ℕ }

-- "per code its span and node"
abbrev pub Codes : Type 0
Codes = record { span : List Span; node : List Node }

-- "per name its span, node and scope end"
abbrev pub Names : Type 0
Names = record { span : List Span; node : List Node; scope_end : List ℕ }

abbrev pub Graph : Type 0
Graph = record { nodes : Nodes; codes : Codes; names : Names; current : Node }

abbrev pub node_count : Graph → ℕ
node_count g = length g.nodes.first

-- a label: its name number and its node
abbrev pub Label : Type 0
Label = record { name : ℕ; node : Node }

-- what holds inside a block: "Break target, continue target and scope end return to their outer settings when a body closes"
abbrev pub Settings : Type 0
Settings = record { break_to : Node; continue_to : Node; scope_end : ℕ; labels : List Label }

-- the same graph with other nodes
abbrev pub with_nodes : Nodes → Graph → Graph
with_nodes n g = record { nodes = n; codes = g.codes; names = g.names; current = g.current }

-- a node more, without edge or code start
unfoldable pub new_node : Graph → Graph
new_node g = with_nodes (record { first = g.nodes.first ++ (absent ∷ []); second = g.nodes.second ++ (absent ∷ []); start = g.nodes.start ++ (0 ∷ []) }) g

-- "A node has a first and a second successor; a third edge is dropped."; an edge from x to v, and none where x is no node
unfoldable pub connect : Node → Node → Graph → Graph
connect x v g =
    let n : Nodes = g.nodes in
    with_nodes (cond (eqb x absent) n
    (cond (eqb (get_or n.first x 0) absent) (record { first = set n.first x v; second = n.second; start = n.start })
    (cond (eqb (get_or n.second x 0) absent) (record { first = n.first; second = set n.second x v; start = n.start }) n))) g

-- another node is current, with no edge to it; 01's "moves there" is `advance_to`
unfoldable pub set_current : Node → Graph → Graph
set_current v g = record { nodes = g.nodes; codes = g.codes; names = g.names; current = v }

-- "takes an edge from the current node if there is one, and becomes current"
unfoldable pub advance_to : Node → Graph → Graph
advance_to v g = set_current v (connect g.current v g)

-- a span recorded at a node
unfoldable pub record_code : Span → Node → Graph → Graph
record_code s v g = record { nodes = g.nodes; codes = record { span = g.codes.span ++ (s ∷ []); node = g.codes.node ++ (v ∷ []) }; names = g.names; current = g.current }

-- a node's code start
unfoldable pub set_start : Node → ℕ → Graph → Graph
set_start v p g = with_nodes (record { first = g.nodes.first; second = g.nodes.second; start = set g.nodes.start v p }) g

-- "Each code item but LABEL and UNTIL makes a new node, records span and start, takes an edge .. and becomes current."
unfoldable pub code : Span → Graph → Graph
code s g = advance_to (node_count g) (record_code s (node_count g) (set_start (node_count g) (start_of s) (new_node g)))

-- an edge from the current node, after which nothing is current
unfoldable pub close_into : Node → Graph → Graph
close_into v g = set_current absent (connect g.current v g)

-- "After a jump nothing is current."
unfoldable pub jump : Span → Node → Graph → Graph
jump s v g = close_into v (code s g)

-- a NAME: "its span, node and scope end"; its LOCAL's node is current
unfoldable pub declare : Span → Settings → Graph → Graph
declare s st g =
    let n : Names = record { span = g.names.span ++ (s ∷ []); node = g.names.node ++ (g.current ∷ []); scope_end = g.names.scope_end ++ (st.scope_end ∷ []) } in
    record { nodes = g.nodes; codes = g.codes; names = n; current = g.current }

-- "A name means the innermost, then latest, such label": the labels in force, the latest first. Name 0 has no label.
unfoldable pub label_node : ℕ → List Label → Option ℕ
label_node a [] = None
label_node a (l ∷ ls) = cond (eqb a l.name) (Some l.node) (label_node a ls)

-- "LABEL records its span at its label's node (code start remains 0) and moves there."
abbrev pub stand_at : Option ℕ → Span → Graph → Graph
stand_at f s g = elim f [ Some v ↦ advance_to v (record_code s v g) | None ↦ g ]

-- "GOTO jumps to its label; when no visible label is found it jumps to exit Break."
abbrev pub or_break : Option ℕ → Node
or_break f = elim f [ Some v ↦ v | None ↦ Break ]

-- a statement of one item, by its kind, argument and span. LABEL: "Name 0 does nothing." "BREAK, CONTINUE, RETURN, a raising CALL jump: RETURN to ReturnValue or ReturnEmpty by its argument, CALL to Error"
unfoldable pub simple_stmt : ℕ → ℕ → Span → Settings → Graph → Graph
simple_stmt k a s st g =
    cond (eqb k NAME) (declare s st g)
    (cond (eqb k LABEL) (cond (eqb a 0) g (stand_at (label_node a st.labels) s g))
    (cond (eqb k GOTO) (jump s (or_break (label_node a st.labels)) g)
    (cond (eqb k BREAK) (jump s st.break_to g)
    (cond (eqb k CONTINUE) (jump s st.continue_to g)
    (cond (eqb k RETURN) (jump s (cond (eqb a 1) ReturnValue ReturnEmpty) g)
    (cond (eqb k CALL && raises a) (jump s Error g)
    (cond (eqb k EMPTY) g (code s g))))))))

-- a new node for each name of a list
unfoldable pub new_nodes : List ℕ → Graph → Graph
new_nodes [] g = g
new_nodes (a ∷ as') g = new_nodes as' (new_node g)

-- the labels in force once these names have got the nodes from v on
unfoldable pub with_labels : List ℕ → Node → List Label → List Label
with_labels [] v ls = ls
with_labels (a ∷ as') v ls = with_labels as' (v + 1) (record { name = a; node = v } ∷ ls)

-- "On entering a block, each named LABEL standing directly in it gets a node, in order."
unfoldable pub entered : Block → Graph → Graph
entered b g = new_nodes (labels_of b) g

-- the settings inside a block that is entered at g, with its scope end e
unfoldable pub inside : ℕ → Block → Settings → Graph → Settings
inside e b st g = record { break_to = st.break_to; continue_to = st.continue_to; scope_end = e; labels = with_labels (labels_of b) (node_count g) st.labels }

-- "BREAK to the loop's after. CONTINUE goes to head, or REPEAT's condition."
unfoldable pub in_loop : Node → Node → Settings → Settings
in_loop after next st = record { break_to = after; continue_to = next; scope_end = st.scope_end; labels = st.labels }

-- "unless the condition is true"; "unless true", "unless false"
abbrev pub unless_true : Option Bool → (Graph → Graph) → Graph → Graph
unless_true t step g = elim t [ Some false ↦ step g | Some true ↦ g | None ↦ step g ]

abbrev pub unless_false : Option Bool → (Graph → Graph) → Graph → Graph
unless_false t step g = elim t [ Some false ↦ g | Some true ↦ step g | None ↦ step g ]

-- "A false condition enters the body with nothing current."
abbrev pub enter_when : Option Bool → Graph → Graph
enter_when t g = elim t [ Some false ↦ set_current absent g | Some true ↦ g | None ↦ g ]

-- the steps of a rule, in the order of its sentence: a graph, and what is done to it next
infixl 1 ◌▷◌
abbrev pub ◌▷◌ : Graph → (Graph → Graph) → Graph
g ▷ f = f g

-- "A block holds statements and a statement holds blocks, and numbering follows the source": each builds upon the graph of what stands before it. "Past a WHILE, REPEAT or FOR its after is current, past an IF its join."
unfoldable mutual
  pub build_stmt : Stmt → Settings → Graph → Graph
  build_stmt (simple w s) st g = simple_stmt (kind_of w) (argument_of w) s st g
  build_stmt (do_block w b) st g = build_block b (inside (scope_end_of w) b st g) (g ▷ entered b)
  -- "WHILE: code node head, node after, body, edge body end to head, then head to after unless the condition is true."
  build_stmt (while_loop w s b) st g =
      let head = node_count g in let after = node_count g + 1 in let t = literal_truth (condition_of w) in
      let h : Graph = g ▷ code s ▷ new_node ▷ enter_when t in
      build_block b (inside (scope_end_of w) b (in_loop after head st) h) (h ▷ entered b)
      ▷ close_into head
      ▷ unless_true t (connect head after)
      ▷ set_current after
  -- "REPEAT: nodes body, condition, after; move to body; body end to condition; then condition to body unless true, to after unless false. UNTIL records its span at condition, whose code start remains 0."
  build_stmt (repeat_loop w b until) st g =
      let body = node_count g in let condition = node_count g + 1 in let after = node_count g + 2 in let t = literal_truth (condition_of w) in
      let h : Graph = g ▷ new_node ▷ new_node ▷ new_node ▷ advance_to body in
      build_block b (inside (scope_end_of w) b (in_loop after condition st) h) (h ▷ entered b)
      ▷ close_into condition
      ▷ unless_true t (connect condition body)
      ▷ unless_false t (connect condition after)
      ▷ record_code until condition
      ▷ set_current after
  -- "FOR: code node; node head, moved to; node after; body end to head; then head to after."
  build_stmt (for_loop w s b) st g =
      let head = node_count g + 1 in let after = node_count g + 2 in
      let h : Graph = g ▷ code s ▷ new_node ▷ advance_to head ▷ new_node in
      build_block b (inside (scope_end_of w) b (in_loop after head st) h) (h ▷ entered b)
      ▷ close_into head
      ▷ connect head after
      ▷ set_current after
  -- "IF: code node test, node join; each arm ends in join"
  build_stmt (if_stmt w s b arms) st g =
      let test = node_count g in let join = node_count g + 1 in
      let h : Graph = g ▷ code s ▷ new_node in
      let arm : Graph = build_block b (inside (scope_end_of w) b st h) (h ▷ entered b) ▷ close_into join in
      build_arms arms test join true st arm
      ▷ set_current join

  pub build_block : Block → Settings → Graph → Graph
  build_block done st g = g
  build_block (then stmt b) st g = build_block b st (build_stmt stmt st g)

  -- the arms after a test: "ELSEIF is a code node reached from the test before; without ELSE the last test goes to join", which `falls` says
  pub build_arms : Arms → Node → Node → Bool → Settings → Graph → Graph
  build_arms no_more test join falls st g = cond falls (connect test join g) g
  build_arms (elseif w s b arms) test join falls st g =
      let h : Graph = g ▷ set_current test ▷ code s in
      let arm : Graph = build_block b (inside (scope_end_of w) b st h) (h ▷ entered b) ▷ close_into join in
      build_arms arms (node_count g) join falls st arm
  build_arms (otherwise w b arms) test join falls st g =
      let h : Graph = g ▷ set_current test in
      let arm : Graph = build_block b (inside (scope_end_of w) b st h) (h ▷ entered b) ▷ close_into join in
      build_arms arms test join false st arm

-- five exits and the entry, which is current
unfoldable pub start_graph : Graph
start_graph =
    let n : Nodes = record { first = []; second = []; start = [] } in
    let none : Graph = record { nodes = n; codes = record { span = []; node = [] }; names = record { span = []; node = []; scope_end = [] }; current = entry_node } in
    new_node (new_node (new_node (new_node (new_node (new_node none)))))

-- "Outside a loop BREAK goes to Break, CONTINUE to End."
unfoldable pub outside : Settings
outside = record { break_to = Break; continue_to = End; scope_end = 0; labels = [] }

-- "The outermost end goes to End."
unfoldable pub graph : List Word → Graph
graph S =
    let b : Block = tree (items S) in
    build_block b (inside (outer_end S) b outside start_graph) (start_graph ▷ entered b) ▷ close_into End
