-- Where the settings of a build fit: their targets are nodes, and their labels stand for nodes.
-- Assumes nothing.
use Prim.Native.Nat.{ℕ, ◌+◌, ◌≤◌, ◌<◌}
use mathlib.Core.Path.{◌≡◌}
use mathlib.Core.Logic.{◌⊎◌, inl, inr, ⊎_elim}
use mathlib.Core.Bool.{cond}
use mathlib.Core.List.{List, [], ◌∷◌}
use native.Mathlib.Omega.{arith}
use native.Mathlib.Nat.{le_refl}
use native.Mathlib.Decide.{ℕ_discrete}
use borrow.Author.Tests.{ne_eqb, eq-eqb}
use lib.Dec.{eqb}
use lib.ListN.{length}
use Rattle.std.specs.Prelude.{Option, Some, None}
use Rattle.search.specs.Search.{In}
use Rattle.flow.specs.Tree.{Block, labels_of}
use Rattle.flow.specs.Graph.{Graph, Label, Settings, node_count, label_node, or_break, with_labels, inside, in_loop}

-- one of n nodes, and no exit and not the entry
abbrev pub Node : ℕ → ℕ → Type 0
Node n v = (6 ≤ v) × (v < n)

pub node_more : {m n v : ℕ} → m ≤ n → Node m v → Node n v
node_more l h = (h.0, omega arith)

-- where a label is found is a node; it is found if A
abbrev pub Looked : ℕ → Type 0 → Option ℕ → Type 0
Looked n A (Some v) = Node n v
Looked n A None = A → ⊥

looked : {m n : ℕ} {A B : Type 0} (f : Option ℕ) → m ≤ n → (B → A) → Looked m A f → Looked n B f
looked (Some v) l h q = node_more l q
looked None l h q = λ b. q (h b)

-- a block's labels come to stand for the nodes from v on
labels_stand : (n : ℕ) (A : ℕ → Type 0) (as' : List ℕ) (v : ℕ) (ls : List Label) → 6 ≤ v → v + length as' ≤ n → ((a : ℕ) → Looked n (A a) (label_node a ls)) → (a : ℕ) → Looked n (In a as' ⊎ A a) (label_node a (with_labels as' v ls))
unfolding with_labels label_node
labels_stand n A [] v ls l h q a = looked (label_node a ls) (le_refl n) (⊎_elim (λ i. absurd i) (λ x. x)) (q a)
labels_stand n A (x ∷ as') v ls l h q a =
    looked (label_node a (with_labels as' (v + 1) (record { name = x; node = v } ∷ ls))) (le_refl n) (⊎_elim (⊎_elim (λ e. inr (inl e)) (λ i. inl i)) (λ y. inr (inr y)))
    (labels_stand n (λ b. (b ≡ x) ⊎ A b) as' (v + 1) (record { name = x; node = v } ∷ ls) (omega arith) (omega arith) newest a)
  where
    newest : (b : ℕ) → Looked n ((b ≡ x) ⊎ A b) (cond (eqb b x) (Some v) (label_node b ls))
    newest b = elim (ℕ_discrete b x) [
      | yes e ↦ rw (eq-eqb b x e) (l, omega arith)
      | no e ↦ rw (ne_eqb b x e) (looked (label_node b ls) (le_refl n) (⊎_elim (λ z. absurd (e z)) (λ y. y)) (q b))
    ]

-- among n nodes: the targets are nodes, and the labels that are named stand for nodes
pub record Fits (n : ℕ) (st : Settings) (as' : List ℕ) : Type 0 where
  pub break_to : st.break_to < n
  pub continue_to : st.continue_to < n
  pub labels : (a : ℕ) → Looked n (In a as') (label_node a st.labels)

pub fits_part : {m n : ℕ} {st : Settings} {as' bs' : List ℕ} → m ≤ n → ((a : ℕ) → In a bs' → In a as') → Fits m st as' → Fits n st bs'
fits_part {st = st} l h w = record {
  break_to = omega (arith, w.break_to);
  continue_to = omega (arith, w.continue_to);
  labels = λ a. looked (label_node a st.labels) l (h a) (w.labels a);
}

pub fits_more : {m n : ℕ} {st : Settings} {as' : List ℕ} → m ≤ n → Fits m st as' → Fits n st as'
fits_more l w = fits_part l (λ a i. i) w

pub fits_loop : {m n : ℕ} {st : Settings} {as' : List ℕ} (a b : ℕ) → m ≤ n → a < n → b < n → Fits m st as' → Fits n (in_loop a b st) as'
unfolding in_loop
fits_loop a b l h i w = let u = fits_more l w in record { break_to = h; continue_to = i; labels = u.labels }

pub fits_inside : {n : ℕ} {st : Settings} (e : ℕ) (b : Block) (g : Graph) → node_count g ≡ n → 6 ≤ n → Fits n st [] → Fits (n + length (labels_of b)) (inside e b st g) (labels_of b)
unfolding inside
fits_inside {n} {st} e b g c l w =
    let u : Fits (n + length (labels_of b)) st [] = fits_more (omega arith) w in
    record {
      break_to = u.break_to;
      continue_to = u.continue_to;
      labels = λ a. looked (label_node a (with_labels (labels_of b) (node_count g) st.labels)) (le_refl _) (λ i. inl i)
          (labels_stand _ (λ x. ⊥) (labels_of b) (node_count g) st.labels (omega arith) (omega arith) u.labels a);
    }

pub or_break_law : {n : ℕ} (A : Type 0) (f : Option ℕ) → 6 ≤ n → Looked n A f → or_break f < n
or_break_law A (Some v) l h = h.1
or_break_law A None l h = omega arith
