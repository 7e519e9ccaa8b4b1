-- "every GOTO finds a label": the label check finds a name exactly where the builder's lookup gives a node, so that the jump does not fall back to Break.
-- Assumes nothing.
use Prim.Native.Nat.{ℕ, ◌+◌}
use mathlib.Core.Path.{◌≡◌, refl, sym, ap, ◌∙◌}
use mathlib.Core.Logic.{⊎_elim, ◌↔◌}
use mathlib.Core.Bool.{Bool, true, false, cond, ◌&&◌, ◌||◌, not, or_assoc, or-false}
use mathlib.Core.List.Memᴰ
use mathlib.Core.List.{List, [], ◌∷◌, ◌++◌, Memᴰ}
use borrow.Author.Tests.{eqb-true, eqb-false}
use lib.Dec.{eqb}
use Rattle.std.specs.Prelude.{Option, Some}
use Rattle.search.proofs.Bools.{and_both}
use Rattle.flow.specs.Sheet.{items, outer_end, member, kind_of, argument_of}
use Rattle.flow.specs.Kinds.{kinds}
use Rattle.flow.specs.Tree.{Stmt, Block, Arms, simple, do_block, while_loop, repeat_loop, for_loop, if_stmt, done, then, no_more, elseif, otherwise, tree, label_name, labels_of}
use Rattle.flow.specs.Graph.{Graph, Label, Settings, node_count, label_node, with_labels, inside, outside, start_graph}
use Rattle.flow.specs.Findings.{is_found}
use Rattle.flow.specs.Labels.{distinct, labels_fine_in, block_fine, arms_fine, labels_fine}
use Rattle.flow.proofs.Members.{both_and}
use Rattle.flow.proofs.Laws.{found_law}
open kinds use {GOTO}

-- the blocks that a statement holds
abbrev pub arm_blocks : Arms → List Block
arm_blocks no_more = []
arm_blocks (elseif w s b as') = b ∷ arm_blocks as'
arm_blocks (otherwise w b as') = b ∷ arm_blocks as'

abbrev pub blocks_in : Stmt → List Block
blocks_in st = elim st [ simple w s ↦ [] | do_block w b ↦ b ∷ [] | while_loop w s b ↦ b ∷ [] | repeat_loop w b u ↦ b ∷ [] | for_loop w s b ↦ b ∷ [] | if_stmt w s b as' ↦ b ∷ arm_blocks as' ]

-- The label check comes to the rest of a block with these names visible, and the builder with these settings. It enters a block by `inside`; the scope end, a loop's targets and the graph so far may be any.
pub data Comes (S : List ℕ) : Block → List ℕ → Settings → Type 0 where
  outermost : Comes S (tree (items S)) (labels_of (tree (items S))) (inside (outer_end S) (tree (items S)) outside start_graph)
  along : {s : Stmt} {b : Block} {visible : List ℕ} {st : Settings} → Comes S (then s b) visible st → Comes S b visible st
  into : {s : Stmt} {b d : Block} {visible : List ℕ} {st : Settings} → Comes S (then s b) visible st → Memᴰ d (blocks_in s)
      → (st' : Settings) → st'.labels ≡ st.labels → (e : ℕ) (g : Graph) → Comes S d (labels_of d ++ visible) (inside e d st' g)

-- the builder's lookup gives a node for the name a
abbrev pub LooksUp : ℕ → Settings → Type 0
LooksUp a st = (v : ℕ) × (label_node a st.labels ≡ Some v)

-- ---- a name

pub one_of_append : (a : ℕ) (xs ys : List ℕ) → member a (xs ++ ys) ≡ (member a xs || member a ys)
one_of_append a [] ys = refl
one_of_append a (x ∷ xs) ys = ap (eqb a x ||◌) (one_of_append a xs ys) ∙ sym (or_assoc (eqb a x) (member a xs) (member a ys))

newer : (t u : Bool) (v : ℕ) (f : Option ℕ) → (u || is_found (cond t (Some v) f)) ≡ (t || u || is_found f)
newer true true v f = refl
newer true false v f = refl
newer false u v f = refl

found_with : (a : ℕ) (names : List ℕ) (v : ℕ) (ls : List Label) → is_found (label_node a (with_labels names v ls)) ≡ (member a names || is_found (label_node a ls))
unfolding label_node with_labels
found_with a [] v ls = refl
found_with a (x ∷ names) v ls = found_with a names (v + 1) _ ∙ newer (eqb a x) (member a names) v (label_node a ls)

module _ (S : List ℕ) where
  agree : {b : Block} {visible : List ℕ} {st : Settings} → Comes S b visible st → (a : ℕ) → member a visible ≡ is_found (label_node a st.labels)
  unfolding inside outside label_node
  agree outermost a = let names = labels_of (tree (items S)) in sym (found_with a names (node_count start_graph) [] ∙ or-false (member a names))
  agree (along c) a = agree c a
  agree (into {d = d} {visible = visible} c m st' q e g) a =
      rw (one_of_append a (labels_of d) visible, found_with a (labels_of d) (node_count g) st'.labels, q, agree c a)

  -- the label check finds a name exactly where the builder's lookup gives a node
  pub lookup_law : {b : Block} {visible : List ℕ} {st : Settings} → Comes S b visible st → (a : ℕ) → (member a visible ≡ true) ↔ LooksUp a st
  lookup_law {st = st} c a = rw (agree c a) (found_law (label_node a st.labels))

-- ---- the blocks that a statement holds

module _ (visible : List ℕ) where
  -- the check of a block that is entered
  abbrev enters : Block → Bool
  enters b = distinct (labels_of b) && block_fine b (labels_of b ++ visible)

  abbrev AllEnter : List Block → Type 0
  AllEnter bs = (d : Block) → Memᴰ d bs → enters d ≡ true

  none_enters : AllEnter []
  none_enters d m = absurd (Memᴰ.not-nil m)

  one_enters : {b : Block} {bs : List Block} → enters b ≡ true → AllEnter bs → AllEnter (b ∷ bs)
  one_enters h f d m = ⊎_elim (λ e. rw e h) (f d) (Memᴰ.cases_cons m)

  arms_enter : (as' : Arms) → arms_fine as' visible ≡ true → AllEnter (arm_blocks as')
  unfolding arms_fine
  arms_enter no_more h = none_enters
  arms_enter (elseif w s b as') h = let p = and_both (enters b) _ h in one_enters p.0 (arms_enter as' p.1)
  arms_enter (otherwise w b as') h = let p = and_both (enters b) _ h in one_enters p.0 (arms_enter as' p.1)

  all_enter : (s : Stmt) → labels_fine_in s visible ≡ true → AllEnter (blocks_in s)
  unfolding labels_fine_in
  all_enter (simple w s) h = none_enters
  all_enter (do_block w b) h = one_enters h none_enters
  all_enter (while_loop w s b) h = one_enters h none_enters
  all_enter (repeat_loop w b u) h = one_enters h none_enters
  all_enter (for_loop w s b) h = one_enters h none_enters
  all_enter (if_stmt w s b as') h = let p = and_both (enters b) _ h in one_enters p.0 (arms_enter as' p.1)

distinct_behind : (xs ys : List ℕ) → distinct (xs ++ ys) ≡ true → distinct ys ≡ true
unfolding distinct
distinct_behind [] ys h = h
distinct_behind (x ∷ xs) ys h = distinct_behind xs ys (and_both (not (member x (xs ++ ys))) _ h).1

-- ---- the whole sheet

module _ (S : List ℕ) where
  -- "no two labels with the same name number, not 0, stand directly in the same block and every GOTO finds a label", by the graph's lookup
  pub record Fine : Type 0 where
    pub apart : (b : Block) (visible : List ℕ) (st : Settings) → Comes S b visible st → distinct (labels_of b) ≡ true
    pub finds : (w s : ℕ) (b : Block) (visible : List ℕ) (st : Settings) → Comes S (then (simple w s) b) visible st → kind_of w ≡ GOTO → LooksUp (argument_of w) st

  goto_law : {w s : ℕ} {b : Block} {visible : List ℕ} {st : Settings} → Comes S (then (simple w s) b) visible st
      → (labels_fine_in (simple w s) visible ≡ true) ↔ (kind_of w ≡ GOTO → LooksUp (argument_of w) st)
  unfolding labels_fine_in
  goto_law {w} {visible = visible} {st = st} c = go (eqb (kind_of w) GOTO) refl
    where
      go : (t : Bool) → eqb (kind_of w) GOTO ≡ t → ((not t || member (argument_of w) visible) ≡ true) ↔ (kind_of w ≡ GOTO → LooksUp (argument_of w) st)
      go true e = let l = lookup_law S c (argument_of w) in (λ h q. l.0 h, λ f. l.1 (f (eqb-true (kind_of w) GOTO e)))
      go false e = (λ h q. absurd (eqb-false (kind_of w) GOTO e q), λ f. refl)

  checked : labels_fine S ≡ true → {b : Block} {visible : List ℕ} {st : Settings} → Comes S b visible st → (distinct (labels_of b) ≡ true) × (block_fine b visible ≡ true)
  unfolding labels_fine block_fine labels_of
  checked h outermost = and_both _ _ h
  checked h (along {s = s} {b = b} {visible = visible} c) =
      let p = checked h c in
      (distinct_behind (label_name s) (labels_of b) p.0, (and_both (labels_fine_in s visible) _ p.1).1)
  checked h (into {s = s} {d = d} {visible = visible} c m st' q e g) = and_both _ _ (all_enter visible s (and_both (labels_fine_in s visible) _ (checked h c).1).0 d m)

  module _ (f : Fine) where
    abbrev BlockFine : Block → Type 0
    BlockFine b = (visible : List ℕ) (st : Settings) → Comes S b visible st → block_fine b visible ≡ true

    enters_fine : {s : Stmt} {b d : Block} {visible : List ℕ} {st : Settings} → Comes S (then s b) visible st → Memᴰ d (blocks_in s) → BlockFine d → enters visible d ≡ true
    enters_fine {st = st} c m g = let k = into c m st refl 0 start_graph in both_and (f.apart _ _ _ k) (g _ _ k)

    mutual
      unfolding labels_fine_in block_fine arms_fine

      stmt_fine : (s : Stmt) {b : Block} {visible : List ℕ} {st : Settings} → Comes S (then s b) visible st → labels_fine_in s visible ≡ true
      stmt_fine (simple w s) c = (goto_law c).1 (f.finds w s _ _ _ c)
      stmt_fine (do_block w b) c = enters_fine c (Memᴰ.head refl) (block_fine_law b)
      stmt_fine (while_loop w s b) c = enters_fine c (Memᴰ.head refl) (block_fine_law b)
      stmt_fine (repeat_loop w b u) c = enters_fine c (Memᴰ.head refl) (block_fine_law b)
      stmt_fine (for_loop w s b) c = enters_fine c (Memᴰ.head refl) (block_fine_law b)
      stmt_fine (if_stmt w s b as') c = both_and (enters_fine c (Memᴰ.head refl) (block_fine_law b)) (arms_fine_law as' c (λ d m. Memᴰ.tail m))

      block_fine_law : (b : Block) → BlockFine b
      block_fine_law done = λ visible st c. refl
      block_fine_law (then s b) = λ visible st c. both_and (stmt_fine s c) (block_fine_law b visible st (along c))

      arms_fine_law : (as' : Arms) {s : Stmt} {b : Block} {visible : List ℕ} {st : Settings} → Comes S (then s b) visible st → ((d : Block) → Memᴰ d (arm_blocks as') → Memᴰ d (blocks_in s)) → arms_fine as' visible ≡ true
      arms_fine_law no_more c m = refl
      arms_fine_law (elseif w s b as') c m = both_and (enters_fine c (m b (Memᴰ.head refl)) (block_fine_law b)) (arms_fine_law as' c (λ d n. m d (Memᴰ.tail n)))
      arms_fine_law (otherwise w b as') c m = both_and (enters_fine c (m b (Memᴰ.head refl)) (block_fine_law b)) (arms_fine_law as' c (λ d n. m d (Memᴰ.tail n)))

  -- the label check says yes exactly when the labels of a block differ and the graph's lookup gives each GOTO a node
  pub labels_law : (labels_fine S ≡ true) ↔ Fine
  unfolding labels_fine block_fine
  labels_law = (there, back)
    where
      there : labels_fine S ≡ true → Fine
      there h = record { apart = λ b visible st c. (checked h c).0; finds = λ w s b visible st c. (goto_law c).0 (and_both (labels_fine_in (simple w s) visible) _ (checked h c).1).0 }

      back : Fine → labels_fine S ≡ true
      back f = both_and (f.apart _ _ _ outermost) (block_fine_law f (tree (items S)) _ _ outermost)
