-- The items of a tree, in order: a sheet that is admitted has the items of its tree, so that nothing is lost, added or moved where the tree is read from the right.
-- Assumes nothing.
use Prim.Native.Nat.{ℕ}
use mathlib.Core.Path.{◌≡◌, refl, sym, ap₂, ◌∙◌}
use mathlib.Core.Logic.{◌≢◌}
use mathlib.Core.Bool.{Bool, true, false, cond, ◌&&◌, ◌||◌, not}
use mathlib.Core.List.{List, [], ◌∷◌, ◌++◌, map, append_assoc}
use native.Mathlib.Omega.{arith}
use borrow.Author.Tests.{eqb-true}
use lib.Dec.{eqb, leb}
use Rattle.std.specs.Prelude.{Ok}
use Rattle.search.proofs.Bools.{and_both}
use Rattle.flow.specs.Sheet.{Item, items, kind, kind_of, argument_of, start_of, end_of, member, all}
use Rattle.flow.specs.Kinds.{kinds, argument_fits, spanless, item_fits, closes}
use Rattle.flow.specs.Refusals.{pairs_up, sheet_verdict}
use Rattle.flow.specs.Tree.{Stmt, Block, Arms, simple, do_block, while_loop, repeat_loop, for_loop, if_stmt, done, then, no_more, elseif, otherwise, Frame, Open, outer, in_front, opened, tree}
use Rattle.flow.proofs.Nesting.{Made, a_do, a_while, a_repeat, a_for, an_if, Parsed, nothing, opening, ending, until, an_elseif, an_else, plain, nests, parsed}
use Rattle.flow.proofs.Tests.{same, sheet_passed}
open kinds use {DO, WHILE, REPEAT, FOR, IF, ELSEIF, ELSE, END, UNTIL}

abbrev pub item : ℕ → ℕ → Item
item w s = record { word = w; span = s }

-- What a tree does not hold is the same in each admitted sheet: the word of END and of UNTIL, whose argument is 0, and the span of DO, REPEAT, ELSE and END, which is 0.
unfoldable mutual
  pub stmt_items : Stmt → List Item
  stmt_items (simple w s) = item w s ∷ []
  stmt_items (do_block w b) = item w 0 ∷ (flatten b ++ (item END 0 ∷ []))
  stmt_items (while_loop w s b) = item w s ∷ (flatten b ++ (item END 0 ∷ []))
  stmt_items (repeat_loop w b u) = item w 0 ∷ (flatten b ++ (item UNTIL u ∷ []))
  stmt_items (for_loop w s b) = item w s ∷ (flatten b ++ (item END 0 ∷ []))
  stmt_items (if_stmt w s b as') = item w s ∷ (flatten b ++ arm_items as')

  pub flatten : Block → List Item
  flatten done = []
  flatten (then st b) = stmt_items st ++ flatten b

  -- the arms behind an IF's first block, and its END
  pub arm_items : Arms → List Item
  arm_items no_more = item END 0 ∷ []
  arm_items (elseif w s b as') = item w s ∷ (flatten b ++ arm_items as')
  arm_items (otherwise w b as') = item w 0 ∷ (flatten b ++ arm_items as')

-- each word is of the kind that its place asks, and ELSE is an IF's last arm
unfoldable mutual
  pub StmtKinds : Stmt → Type 0
  StmtKinds (simple w s) = nests (kind_of w) ≡ false
  StmtKinds (do_block w b) = (kind_of w ≡ DO) × BlockKinds b
  StmtKinds (while_loop w s b) = (kind_of w ≡ WHILE) × BlockKinds b
  StmtKinds (repeat_loop w b u) = (kind_of w ≡ REPEAT) × BlockKinds b
  StmtKinds (for_loop w s b) = (kind_of w ≡ FOR) × BlockKinds b
  StmtKinds (if_stmt w s b as') = (kind_of w ≡ IF) × BlockKinds b × ArmKinds as'

  pub BlockKinds : Block → Type 0
  BlockKinds done = Unit {0}
  BlockKinds (then st b) = StmtKinds st × BlockKinds b

  pub ArmKinds : Arms → Type 0
  ArmKinds no_more = Unit {0}
  ArmKinds (elseif w s b as') = (kind_of w ≡ ELSEIF) × BlockKinds b × ArmKinds as'
  ArmKinds (otherwise w b as') = (kind_of w ≡ ELSE) × BlockKinds b × (as' ≡ no_more)

-- what the tree holds of an item: a closer's kind but not its argument, and no span where the kind has none
abbrev pub kept : Item → Item
kept i = cond (nests (kind i)) (item (cond (closes (kind i)) (kind i) i.word) (cond (spanless (kind i)) 0 i.span)) i

-- ---- along the parse: the items of the open blocks

-- what stands behind an open block that an item of kind k opened, up to its closer
abbrev closing : ℕ → Frame → List Item
closing k f = cond (eqb k REPEAT) (item UNTIL f.close ∷ []) (cond (member k (IF ∷ ELSE ∷ [])) (arm_items f.arms) (item END 0 ∷ []))

open_items : List ℕ → Open → List Item
open_items [] o = flatten o.top.body
open_items (k ∷ os) o = flatten o.top.body ++ (closing k o.top ++ open_items os (outer o))

front_items : (os : List ℕ) (st : Stmt) (o : Open) → open_items os (in_front st o) ≡ stmt_items st ++ open_items os o
unfolding open_items flatten in_front
front_items [] st o = refl
front_items (k ∷ os) st o = append_assoc (stmt_items st) (flatten o.top.body) _

made_items : {i : Item} {f : Frame} {k : ℕ} {st : Stmt} → Made i f k st → stmt_items st ≡ kept i ∷ (flatten f.body ++ closing k f)
unfolding stmt_items flatten arm_items
made_items (a_do e) = rw e
made_items (a_while e) = rw e
made_items (a_repeat e) = rw e
made_items (a_for e) = rw e
made_items (an_if e) = rw e

ended : (k s : ℕ) → eqb k REPEAT ≡ false → closing k (record { body = done; arms = no_more; close = s }) ≡ item END 0 ∷ []
unfolding arm_items
ended k s n = rw n (same (member k (IF ∷ ELSE ∷ [])) (item END 0 ∷ []))

parsed_items : {os : List ℕ} {is : List Item} {o : Open} → Parsed os is o → open_items os o ≡ map kept is
unfolding open_items stmt_items flatten arm_items opened
parsed_items nothing = refl
parsed_items (opening {os = os} {o = o} {st = st} m p) = rw (front_items os st (outer o), made_items m, append_assoc, parsed_items p)
parsed_items (ending {i = i} {k = k} e n p) = rw (ended k i.span n, parsed_items p, e)
parsed_items (until e p) = rw (parsed_items p, e)
parsed_items (an_elseif e p) = rw (append_assoc, parsed_items p, e)
parsed_items (an_else e p) = rw (append_assoc, parsed_items p, e)
parsed_items (plain {os = os} {o = o} {i = i} h p) = rw (front_items os (simple i.word i.span) o, parsed_items p, h)

-- ---- along the parse: the kinds

-- an open block that an item of kind k opened, and all the open blocks
abbrev FrameKinds : ℕ → Frame → Type 0
FrameKinds k f = BlockKinds f.body × ArmKinds f.arms × (k ≢ IF → f.arms ≡ no_more)

OpenKinds : List ℕ → Open → Type 0
OpenKinds [] o = BlockKinds o.top.body
OpenKinds (k ∷ os) o = FrameKinds k o.top × OpenKinds os (outer o)

front_kinds : (os : List ℕ) (st : Stmt) (o : Open) → StmtKinds st → OpenKinds os o → OpenKinds os (in_front st o)
unfolding OpenKinds BlockKinds in_front
front_kinds [] st o h q = (h, q)
front_kinds (k ∷ os) st o h q = (((h, q.0.0), q.0.1, q.0.2), q.1)

made_kinds : {i : Item} {f : Frame} {k : ℕ} {st : Stmt} → Made i f k st → FrameKinds k f → StmtKinds st
unfolding StmtKinds
made_kinds (a_do e) q = (e, q.0)
made_kinds (a_while e) q = (e, q.0)
made_kinds (a_repeat e) q = (e, q.0)
made_kinds (a_for e) q = (e, q.0)
made_kinds (an_if e) q = (e, q.0, q.1)

parsed_kinds : {os : List ℕ} {is : List Item} {o : Open} → Parsed os is o → OpenKinds os o
unfolding OpenKinds StmtKinds BlockKinds ArmKinds opened
parsed_kinds nothing = tt
parsed_kinds (opening {os = os} {o = o} {st = st} m p) = let q = parsed_kinds p in front_kinds os st (outer o) (made_kinds m q.0) q.1
parsed_kinds (ending e n p) = ((tt, tt, λ q. refl), parsed_kinds p)
parsed_kinds (until e p) = ((tt, tt, λ q. refl), parsed_kinds p)
parsed_kinds (an_elseif e p) = let q = parsed_kinds p in ((tt, (e, q.0.0, q.0.1), λ n. absurd (n refl)), q.1)
parsed_kinds (an_else e p) = let q = parsed_kinds p in ((tt, (e, q.0.0, q.0.2 (λ z. omega arith)), λ n. absurd (n refl)), q.1)
parsed_kinds (plain {os = os} {o = o} {i = i} h p) = front_kinds os (simple i.word i.span) o h (parsed_kinds p)

-- ---- an item that fits is kept whole

module _ (i : Item) (f : item_fits i ≡ true) where
  parts : (argument_fits (kind i) (argument_of i.word) ≡ true) × ((not (spanless (kind i)) || eqb i.span 0) ≡ true)
  unfolding item_fits
  parts =
      let known : Bool = leb 1 (kind i) && leb (kind i) 19 in
      let upto : Bool = known && argument_fits (kind i) (argument_of i.word) in
      let s = and_both (upto && leb (start_of i.span) (end_of i.span)) _ f in
      ((and_both known _ (and_both upto _ s.0).0).1, s.1)

  kept_span : cond (spanless (kind i)) 0 i.span ≡ i.span
  kept_span = go (spanless (kind i)) parts.1
    where
      go : (b : Bool) → (not b || eqb i.span 0) ≡ true → cond b 0 i.span ≡ i.span
      go true h = sym (eqb-true i.span 0 h)
      go false h = refl

  no_argument : (k : ℕ) → kind i ≡ k → argument_fits k (argument_of i.word) ≡ eqb (argument_of i.word) 0 → kind i ≡ i.word
  no_argument k e z = let a = eqb-true (argument_of i.word) 0 (sym z ∙ rw (← e) parts.0) in omega arith

  kept_word : cond (closes (kind i)) (kind i) i.word ≡ i.word
  unfolding argument_fits
  kept_word = go (eqb (kind i) END) (eqb (kind i) UNTIL) refl refl
    where
      go : (t u : Bool) → eqb (kind i) END ≡ t → eqb (kind i) UNTIL ≡ u → cond (t || u) (kind i) i.word ≡ i.word
      go true u p q = no_argument END (eqb-true (kind i) END p) refl
      go false true p q = no_argument UNTIL (eqb-true (kind i) UNTIL q) refl
      go false false p q = refl

  kept_item : kept i ≡ i
  kept_item = rw (kept_span, kept_word) (same (nests (kind i)) i)

kept_all : (is : List Item) → all item_fits is ≡ true → map kept is ≡ is
unfolding all
kept_all [] a = refl
kept_all (i ∷ is) a = let b = and_both (item_fits i) (all item_fits is) a in ap₂ (λ (j : Item) (js : List Item). j ∷ js) (kept_item i b.0) (kept_all is b.1)

-- ---- the laws

pub tree_items : (is : List Item) → pairs_up [] is ≡ true → flatten (tree is) ≡ map kept is
unfolding tree open_items
tree_items is p = parsed_items (parsed [] is tt p)

module _ (S : List ℕ) (e : sheet_verdict false S ≡ Ok tt) where
  pub flatten_tree : flatten (tree (items S)) ≡ items S
  flatten_tree = let p = sheet_passed false S e in tree_items (items S) p.pairs ∙ kept_all (items S) p.fits

  pub tree_kinds : BlockKinds (tree (items S))
  unfolding tree OpenKinds
  tree_kinds = parsed_kinds (parsed [] (items S) tt (sheet_passed false S e).pairs)
