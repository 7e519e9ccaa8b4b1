-- What each operation of the builder keeps, a build keeps: the one induction over statements, blocks and arms.
-- Assumes nothing.
use Prim.Native.Nat.{ℕ, ◌+◌, ◌-◌, ◌≤◌, ◌<◌}
use mathlib.Core.Path.{◌≡◌, refl, ◌∙◌, subst}
use mathlib.Core.Logic.{◌⊎◌, inl, inr}
use mathlib.Core.Bool.{Bool, true, false, cond, ◌&&◌, ◌||◌, not, and-true, and-false, false≢true}
use mathlib.Core.List.{List, [], ◌∷◌, ◌++◌}
use native.Mathlib.Omega.{arith}
use native.Mathlib.Decide.{ℕ_discrete}
use borrow.Author.Tests.{ne_eqb}
use lib.Dec.{eqb}
use lib.ListN.{length, length-append, length-set}
use Rattle.std.specs.Prelude.{Option, Some, None}
use Rattle.search.specs.Search.{In}
use Rattle.flow.specs.Sheet.{items, outer_end, member, kind_of, argument_of, scope_end_of, condition_of, start_of}
use Rattle.flow.specs.Kinds.{kinds, literal_truth, raises}
use Rattle.flow.specs.Tree.{Stmt, Block, Arms, simple, do_block, while_loop, repeat_loop, for_loop, if_stmt, done, then, no_more, elseif, otherwise, tree, label_name, labels_of}
use Rattle.flow.specs.Size.{stmt_nodes, block_nodes, arm_nodes}
use Rattle.flow.specs.Graph.{exits, absent, Nodes, Graph, Settings, node_count, new_node, connect, set_current, advance_to, record_code, set_start, code, close_into, jump, declare, label_node, stand_at, or_break, simple_stmt, new_nodes, entered, inside, in_loop, build_stmt, build_block, build_arms, start_graph, outside, graph}
use Rattle.flow.proofs.Members.{in_append}
use Rattle.flow.proofs.Laws.{either}
use Rattle.flow.proofs.Tests.{split, same}
use Rattle.flow.proofs.Sources.{put, of_stmt, of_block, of_arms, code_word, name_word}
use Rattle.flow.proofs.Targets.{Node, node_more, Looked, or_break_law, Fits, fits_more, fits_part, fits_loop, fits_inside}
open exits use {End, ReturnValue, ReturnEmpty, Error}
open kinds use {LOCAL, NAME, LABEL, GOTO, BREAK, CONTINUE, RETURN, CALL, EMPTY}

-- ---- the nodes of a tree: `Size.antt` counts them

pub labels_within : (st : Stmt) → length (label_name st) ≤ stmt_nodes st
labels_within (simple w s) = elim (ℕ_discrete (kind_of w) LABEL) [ yes e ↦ rw e (named (eqb (argument_of w) 0)) | no q ↦ rw (ne_eqb (kind_of w) LABEL q) (omega arith) ]
  where
    named : (t : Bool) → length (cond (not t) (argument_of w ∷ []) []) ≤ cond t 0 1
    named true = omega arith
    named false = omega arith
labels_within (do_block w b) = omega arith
labels_within (while_loop w s b) = omega arith
labels_within (repeat_loop w b u) = omega arith
labels_within (for_loop w s b) = omega arith
labels_within (if_stmt w s b as') = omega arith

pub labels_inside : (b : Block) → length (labels_of b) ≤ block_nodes b
unfolding labels_of
labels_inside done = omega arith
labels_inside (then st b) = omega (arith, length-append (label_name st) (labels_of b), labels_within st, labels_inside b)

-- those that are made once its labels have theirs
abbrev pub stmt_makes : Stmt → ℕ
stmt_makes st = stmt_nodes st - length (label_name st)

abbrev pub block_makes : Block → ℕ
block_makes b = block_nodes b - length (labels_of b)

-- ---- the names of a tree

-- a NAME may stand behind these kinds
abbrev pub names : ℕ → Bool
names k = member k (LOCAL ∷ NAME ∷ [])

abbrev pub leads : Stmt → Bool
leads (simple w s) = names (kind_of w)
leads (do_block w b) = false
leads (while_loop w s b) = false
leads (repeat_loop w b u) = false
leads (for_loop w s b) = false
leads (if_stmt w s b as') = false

-- each NAME stands behind a LOCAL or a NAME, the first if q
abbrev mutual
  pub FollowStmt : Bool → Stmt → Type 0
  FollowStmt q (simple w s) = (not (eqb (kind_of w) NAME) || q) ≡ true
  FollowStmt q (do_block w b) = Follow false b
  FollowStmt q (while_loop w s b) = Follow false b
  FollowStmt q (repeat_loop w b u) = Follow false b
  FollowStmt q (for_loop w s b) = Follow false b
  FollowStmt q (if_stmt w s b as') = Follow false b × FollowArms as'

  pub Follow : Bool → Block → Type 0
  Follow q done = Unit {0}
  Follow q (then s b) = FollowStmt q s × Follow (leads s) b

  pub FollowArms : Arms → Type 0
  FollowArms no_more = Unit {0}
  FollowArms (elseif w s b as') = Follow false b × FollowArms as'
  FollowArms (otherwise w b as') = Follow false b × FollowArms as'

-- where nothing is known
pub nothing_known : {A : Type 0} → false ≡ true → A
nothing_known e = absurd (false≢true e)

-- where a NAME may stand the current node is one of those that statements make
ready_simple : (w s : ℕ) (q : Bool) (st : Settings) {n : ℕ} (g : Graph) → node_count g ≡ n → 6 ≤ n → FollowStmt q (simple w s) → (q ≡ true → Node n g.current) → names (kind_of w) ≡ true
    → Node (n + stmt_makes (simple w s)) (simple_stmt (kind_of w) (argument_of w) s st g).current
unfolding simple_stmt declare code advance_to set_current
ready_simple w s q st g c l f h = elim (ℕ_discrete (kind_of w) NAME) [
  | yes e ↦ rw e (λ t. node_more (omega arith) (h (rw e at f)))
  | no x ↦ elim (ℕ_discrete (kind_of w) LOCAL) [
    | yes e ↦ rw e (λ t. (omega arith, omega arith))
    | no y ↦ λ t. nothing_known (rw (ne_eqb (kind_of w) NAME x, ne_eqb (kind_of w) LOCAL y) at t)
  ]
]

ready_after : (s : Stmt) (q : Bool) (st : Settings) {n : ℕ} (g : Graph) → node_count g ≡ n → 6 ≤ n → FollowStmt q s → (q ≡ true → Node n g.current) → leads s ≡ true → Node (n + stmt_makes s) (build_stmt s st g).current
unfolding build_stmt
ready_after (simple w s) q st g c l f h = ready_simple w s q st g c l f h
ready_after (do_block w b) q st g c l f h = nothing_known
ready_after (while_loop w s b) q st g c l f h = nothing_known
ready_after (repeat_loop w b u) q st g c l f h = nothing_known
ready_after (for_loop w s b) q st g c l f h = nothing_known
ready_after (if_stmt w s b as') q st g c l f h = nothing_known

-- ---- one operation

connected : (a b : ℕ) (g : Graph) → node_count (connect a b g) ≡ node_count g
unfolding connect
connected a b g = simp (split (λ (n : Nodes). length n.first), length-set, same)

-- Each operation keeps P, which speaks of the number of nodes, of the codes' spans if c, of the names' spans, and of the graph.
-- If c, an edge leads to a node and a code is recorded at one; if d too, a name is.
pub record Kept (c d : Bool) (P : ℕ → List ℕ → List ℕ → Graph → Type 0) : Type 0 where
  pub new : {n : ℕ} {cs ns : List ℕ} {g : Graph} → P n cs ns g → P (n + 1) cs ns (new_node g)
  pub edge : {n : ℕ} {cs ns : List ℕ} {g : Graph} (a b : ℕ) → (c ≡ true → b < n) → P n cs ns g → P n cs ns (connect a b g)
  pub move : {n : ℕ} {cs ns : List ℕ} {g : Graph} (v : ℕ) → P n cs ns g → P n cs ns (set_current v g)
  pub begin : {n : ℕ} {cs ns : List ℕ} {g : Graph} (v p : ℕ) → P n cs ns g → P n cs ns (set_start v p g)
  pub span : {n : ℕ} {cs ns : List ℕ} {g : Graph} (s v : ℕ) → (c ≡ true → Node n v) → P n cs ns g → P n (put c s cs) ns (record_code s v g)
  pub name : {n : ℕ} {cs ns : List ℕ} {g : Graph} (s : ℕ) (st : Settings) → (c ≡ true → d ≡ true → Node n g.current) → P n cs ns g → P n cs (ns ++ (s ∷ [])) (declare s st g)

module _ {c d : Bool} {P : ℕ → List ℕ → List ℕ → Graph → Type 0} (k : Kept c d P) where
  -- g has n nodes, the exits and the entry among them if c, and P holds of it
  pub record Holds (n : ℕ) (cs ns : List ℕ) (g : Graph) : Type 0 where
    pub count : node_count g ≡ n
    pub many : c ≡ true → 6 ≤ n
    pub holds : P n cs ns g

  counted : {m n : ℕ} {cs ns : List ℕ} {g : Graph} → Holds m cs ns g → m ≡ n → Holds n cs ns g
  counted {cs = cs} {ns} {g} r e = subst (λ (i : ℕ). Holds i cs ns g) e r

  new : {n : ℕ} {cs ns : List ℕ} {g : Graph} → Holds n cs ns g → Holds (n + 1) cs ns (new_node g)
  new {g = g} r = record { count = unfold new_node in omega (arith, r.count, length-append g.nodes.first (absent ∷ [])); many = λ t. omega (arith, r.many t); holds = k.new r.holds }

  edge : {n : ℕ} {cs ns : List ℕ} {g : Graph} (a b : ℕ) → (c ≡ true → b < n) → Holds n cs ns g → Holds n cs ns (connect a b g)
  edge {g = g} a b h r = record { count = connected a b g ∙ r.count; many = r.many; holds = k.edge a b h r.holds }

  move : {n : ℕ} {cs ns : List ℕ} {g : Graph} (v : ℕ) → Holds n cs ns g → Holds n cs ns (set_current v g)
  move v r = record { count = unfold set_current in r.count; many = r.many; holds = k.move v r.holds }

  begin : {n : ℕ} {cs ns : List ℕ} {g : Graph} (v p : ℕ) → Holds n cs ns g → Holds n cs ns (set_start v p g)
  begin v p r = record { count = unfold set_start in r.count; many = r.many; holds = k.begin v p r.holds }

  span : {n : ℕ} {cs ns : List ℕ} {g : Graph} (s v : ℕ) → (c ≡ true → Node n v) → Holds n cs ns g → Holds n (put c s cs) ns (record_code s v g)
  span s v h r = record { count = unfold record_code in r.count; many = r.many; holds = k.span s v h r.holds }

  name : {n : ℕ} {cs ns : List ℕ} {g : Graph} (s : ℕ) (st : Settings) → (c ≡ true → d ≡ true → Node n g.current) → Holds n cs ns g → Holds n cs (ns ++ (s ∷ [])) (declare s st g)
  name s st h r = record { count = unfold declare in r.count; many = r.many; holds = k.name s st h r.holds }

  -- ---- composed ones

  advance : {n : ℕ} {cs ns : List ℕ} {g : Graph} (v : ℕ) → (c ≡ true → v < n) → Holds n cs ns g → Holds n cs ns (advance_to v g)
  unfolding advance_to
  advance {g = g} v h r = move v (edge g.current v h r)

  close : {n : ℕ} {cs ns : List ℕ} {g : Graph} (b : ℕ) → (c ≡ true → b < n) → Holds n cs ns g → Holds n cs ns (close_into b g)
  unfolding close_into
  close {g = g} b h r = move absent (edge g.current b h r)

  coded : {n : ℕ} {cs ns : List ℕ} {g : Graph} (s : ℕ) → Holds n cs ns g → Holds (n + 1) (put c s cs) ns (code s g)
  unfolding code
  coded {g = g} s r =
      let v = node_count g in
      let e = r.count in
      advance v (λ t. omega arith) (span s v (λ t. (omega (arith, r.many t), omega arith)) (begin v (start_of s) (new r)))

  jumped : {n : ℕ} {cs ns : List ℕ} {g : Graph} (s b : ℕ) → (c ≡ true → b < n) → Holds n cs ns g → Holds (n + 1) (put c s cs) ns (jump s b g)
  unfolding jump
  jumped s b h r = close b (λ t. omega (arith, h t)) (coded s r)

  by_truth : {n : ℕ} {cs ns : List ℕ} (t : Option Bool) {x y z : Graph} → Holds n cs ns x → Holds n cs ns y → Holds n cs ns z → Holds n cs ns (elim t [ Some false ↦ x | Some true ↦ y | None ↦ z ])
  by_truth (Some false) r s u = r
  by_truth (Some true) r s u = s
  by_truth None r s u = u

  entering : {n : ℕ} {cs ns : List ℕ} {g : Graph} (as' : List ℕ) → Holds n cs ns g → Holds (n + length as') cs ns (new_nodes as' g)
  unfolding new_nodes
  entering [] r = counted r (omega arith)
  entering {n = n} (a ∷ as') r = counted (entering {n = n + 1} as' (new r)) (omega arith)

  -- ---- a statement of one item

  unwritten : (b : Bool) {n : ℕ} {cs ns : List ℕ} {g : Graph} (s : ℕ) → (b ≡ true → ⊥) → Holds n cs ns g → Holds n (put b s cs) ns g
  unwritten true s h r = absurd (h refl)
  unwritten false s h r = r

  stand : {n : ℕ} {cs ns : List ℕ} {g : Graph} (s a : ℕ) (f : Option ℕ) → (c ≡ true → Looked n (In a (a ∷ [])) f) → Holds n cs ns g → Holds n (put c s cs) ns (stand_at f s g)
  stand s a (Some v) h r = advance v (λ t. (h t).1) (span s v h r)
  stand s a None h r = unwritten c s (λ t. h t (inl refl)) r

  label : {n : ℕ} {cs ns : List ℕ} {g : Graph} (s a : ℕ) (f : Option ℕ) (b : Bool) → (c ≡ true → Looked n (In a (cond (not b) (a ∷ []) [])) f) → Holds n cs ns g
      → Holds (n + (cond b 0 1 - length (cond (not b) (a ∷ []) []))) (put (c && not b) s cs) ns (cond b g (stand_at f s g))
  label s a f true h r = rw (and-false c) (counted r (omega arith))
  label s a f false h r = rw (and-true c) (counted (stand s a f h r) (omega arith))

  simply : {n : ℕ} {cs ns : List ℕ} {g : Graph} (w s : ℕ) (q : Bool) (st : Settings) → (c ≡ true → Fits n st (label_name (simple w s))) → (d ≡ true → FollowStmt q (simple w s)) → (c ≡ true → d ≡ true → q ≡ true → Node n g.current)
      → Holds n cs ns g → Holds (n + stmt_makes (simple w s)) (put (c && code_word w) s cs) (put (name_word w) s ns) (simple_stmt (kind_of w) (argument_of w) s st g)
  unfolding simple_stmt
  simply {n} {cs} {ns} w s q st h f l r =
      let k = kind_of w in
      let a = argument_of w in
      let H : Graph → Type 0 = Holds (n + 1) (put c s cs) ns in
      elim (ℕ_discrete k NAME) [
        | yes e ↦ rw (e, and-false c) (counted (name s st (λ t u. l t u (rw e at (f u))) r) (omega arith))
        | no x ↦ elim (ℕ_discrete k LABEL) [
          | yes e ↦ rw e (label s a (label_node a st.labels) (eqb a 0) (λ t. (rw e at (h t)).labels a) r)
          | no y ↦ elim (ℕ_discrete k EMPTY) [
            | yes e ↦ rw (e, and-false c) (counted r (omega arith))
            | no z ↦
                rw (ne_eqb k NAME x, ne_eqb k LABEL y, ne_eqb k EMPTY z, and-true c)
                (counted
                (either H (eqb k GOTO) (jumped s (or_break (label_node a st.labels)) (λ t. or_break_law _ (label_node a st.labels) (r.many t) ((h t).labels a)) r)
                (either H (eqb k BREAK) (jumped s st.break_to (λ t. (h t).break_to) r)
                (either H (eqb k CONTINUE) (jumped s st.continue_to (λ t. (h t).continue_to) r)
                (either H (eqb k RETURN) (jumped s (cond (eqb a 1) ReturnValue ReturnEmpty) (λ t. either (λ (v : ℕ). v < n) (eqb a 1) (omega (arith, r.many t)) (omega (arith, r.many t))) r)
                (either H (eqb k CALL && raises a) (jumped s Error (λ t. omega (arith, r.many t)) r) (coded s r)))))) (omega arith))
          ]
        ]
      ]

  -- ---- the tree: what is known of the settings, if c, and of where NAMEs stand, if d

  abbrev pub code_of : ℕ → Bool
  code_of w = c && code_word w

  abbrev pub BlockKeeps : Block → Type 0
  BlockKeeps b = (n : ℕ) (cs ns : List ℕ) (g : Graph) (q : Bool) (st : Settings) → (c ≡ true → Fits n st (labels_of b)) → (d ≡ true → Follow q b) → (c ≡ true → d ≡ true → q ≡ true → Node n g.current)
      → Holds n cs ns g → Holds (n + block_makes b) (of_block c code_of b cs) (of_block false name_word b ns) (build_block b st g)

  module _ (b : Block) (keeps : BlockKeeps b) {n : ℕ} {cs ns : List ℕ} {g : Graph} where
    -- a block that is entered
    pub inner : (st : Settings) → (c ≡ true → Fits (n + length (labels_of b)) st (labels_of b)) → (d ≡ true → Follow false b)
        → Holds n cs ns g → Holds (n + block_nodes b) (of_block c code_of b cs) (of_block false name_word b ns) (build_block b st (entered b g))
    unfolding entered
    inner st h f r = counted (keeps (n + length (labels_of b)) cs ns (entered b g) false st h f (λ t u. nothing_known) (entering (labels_of b) r)) (omega (arith, labels_inside b))

    scoped : (e : ℕ) (st : Settings) → (c ≡ true → Fits n st []) → (d ≡ true → Follow false b)
        → Holds n cs ns g → Holds (n + block_nodes b) (of_block c code_of b cs) (of_block false name_word b ns) (build_block b (inside e b st g) (entered b g))
    scoped e st h f r = inner (inside e b st g) (λ t. fits_inside e b g r.count (r.many t) (h t)) f r

    -- and closed
    arm : (e j : ℕ) (st : Settings) → (c ≡ true → Fits n st [] × (j < n)) → (d ≡ true → Follow false b)
        → Holds n cs ns g → Holds (n + block_nodes b) (of_block c code_of b cs) (of_block false name_word b ns) (close_into j (build_block b (inside e b st g) (entered b g)))
    arm e j st h f r = close j (λ t. omega (arith, (h t).1)) (scoped e st (λ t. (h t).0) f r)

  mutual
    unfolding build_stmt build_block build_arms labels_of

    pub of_stmt_law : (s : Stmt) (n : ℕ) (cs ns : List ℕ) (g : Graph) (q : Bool) (st : Settings) → (c ≡ true → Fits n st (label_name s)) → (d ≡ true → FollowStmt q s) → (c ≡ true → d ≡ true → q ≡ true → Node n g.current)
        → Holds n cs ns g → Holds (n + stmt_makes s) (of_stmt c code_of s cs) (of_stmt false name_word s ns) (build_stmt s st g)
    of_stmt_law (simple w s) n cs ns g q st h f l r = simply w s q st h f l r
    of_stmt_law (do_block w b) n cs ns g q st h f l r = counted (scoped b (of_block_law b) (scope_end_of w) st h f r) (omega arith)
    of_stmt_law (while_loop w s b) n cs ns g q st h f l r =
        let v = node_count g in
        let e = r.count in
        let x = literal_truth (condition_of w) in
        let i = new (coded s r) in
        let o = arm b (of_block_law b) (scope_end_of w) v (in_loop (v + 1) v st) (λ t. (fits_loop (v + 1) v (omega arith) (omega arith) (omega arith) (h t), omega arith)) f (by_truth x (move absent i) i i) in
        let p = edge v (v + 1) (λ t. omega arith) o in
        counted (move (v + 1) (by_truth x p o p)) (omega arith)
    of_stmt_law (repeat_loop w b u) n cs ns g q st h f l r =
        let v = node_count g in
        let e = r.count in
        let x = literal_truth (condition_of w) in
        let i = advance v (λ t. omega arith) (new (new (new r))) in
        let o = arm b (of_block_law b) (scope_end_of w) (v + 1) (in_loop (v + 2) (v + 1) st) (λ t. (fits_loop (v + 2) (v + 1) (omega arith) (omega arith) (omega arith) (h t), omega arith)) f i in
        let p = edge (v + 1) v (λ t. omega arith) o in
        let z = by_truth x p o p in
        let m = edge (v + 1) (v + 2) (λ t. omega arith) z in
        counted (move (v + 2) (span u (v + 1) (λ t. (omega (arith, r.many t), omega arith)) (by_truth x z m m))) (omega arith)
    of_stmt_law (for_loop w s b) n cs ns g q st h f l r =
        let v = node_count g in
        let e = r.count in
        let i = new (advance (v + 1) (λ t. omega arith) (new (coded s r))) in
        let o = arm b (of_block_law b) (scope_end_of w) (v + 1) (in_loop (v + 2) (v + 1) st) (λ t. (fits_loop (v + 2) (v + 1) (omega arith) (omega arith) (omega arith) (h t), omega arith)) f i in
        counted (move (v + 2) (edge (v + 1) (v + 2) (λ t. omega arith) o)) (omega arith)
    of_stmt_law (if_stmt w s b as') n cs ns g q st h f l r =
        let v = node_count g in
        let e = r.count in
        let o = arm b (of_block_law b) (scope_end_of w) (v + 1) st (λ t. (fits_more (omega arith) (h t), omega arith)) (λ t. (f t).0) (new (coded s r)) in
        counted (move (v + 1) (of_arms_law as' _ _ _ _ v (v + 1) true st (λ t. (fits_more (omega arith) (h t), omega arith)) (λ t. (f t).1) o)) (omega arith)

    pub of_block_law : (b : Block) → BlockKeeps b
    of_block_law done = λ n cs ns g q st h f l r. counted r (omega arith)
    of_block_law (then s b) = λ n cs ns g q st h f l r.
        let part : (a : ℕ) → In a (label_name s) ⊎ In a (labels_of b) → In a (label_name s ++ labels_of b) = in_append (label_name s) (labels_of b) in
        counted
        (of_block_law b (n + stmt_makes s) _ _ (build_stmt s st g) (leads s) st (λ t. fits_part (omega arith) (λ a i. part a (inr i)) (h t)) (λ u. (f u).1) (λ t u. ready_after s q st g r.count (r.many t) (f u).0 (l t u))
        (of_stmt_law s n cs ns g q st (λ t. fits_part (omega arith) (λ a i. part a (inl i)) (h t)) (λ u. (f u).0) l r))
        (omega (arith, labels_within s, labels_inside b, length-append (label_name s) (labels_of b)))

    of_arms_law : (as' : Arms) (n : ℕ) (cs ns : List ℕ) (g : Graph) (test join : ℕ) (falls : Bool) (st : Settings) → (c ≡ true → Fits n st [] × (join < n)) → (d ≡ true → FollowArms as')
        → Holds n cs ns g → Holds (n + arm_nodes as') (of_arms c code_of as' cs) (of_arms false name_word as' ns) (build_arms as' test join falls st g)
    of_arms_law no_more n cs ns g test join falls st h f r = counted (either (Holds n cs ns) falls (edge test join (λ t. (h t).1) r) r) (omega arith)
    of_arms_law (elseif w s b as') n cs ns g test join falls st h f r =
        let o = arm b (of_block_law b) (scope_end_of w) join st (λ t. (fits_more (omega arith) (h t).0, omega (arith, (h t).1))) (λ u. (f u).0) (coded s (move test r)) in
        counted (of_arms_law as' _ _ _ _ (node_count g) join falls st (λ t. (fits_more (omega arith) (h t).0, omega (arith, (h t).1))) (λ u. (f u).1) o) (omega arith)
    of_arms_law (otherwise w b as') n cs ns g test join falls st h f r =
        let o = arm b (of_block_law b) (scope_end_of w) join st h (λ u. (f u).0) (move test r) in
        counted (of_arms_law as' _ _ _ _ test join false st (λ t. (fits_more (omega arith) (h t).0, omega (arith, (h t).1))) (λ u. (f u).1) o) (omega arith)

  -- the graph of a sheet
  pub whole : (ws : List ℕ) → (d ≡ true → Follow false (tree (items ws))) → P 6 [] [] start_graph
      → Holds (6 + block_nodes (tree (items ws))) (of_block c code_of (tree (items ws)) []) (of_block false name_word (tree (items ws)) []) (graph ws)
  unfolding graph outside label_node
  whole ws f r =
      arm (tree (items ws)) (of_block_law (tree (items ws))) (outer_end ws) End outside (λ t. (record { break_to = omega arith; continue_to = omega arith; labels = λ a i. i }, omega arith)) f
      (record { count = unfold start_graph new_node in refl; many = λ t. omega arith; holds = r })
