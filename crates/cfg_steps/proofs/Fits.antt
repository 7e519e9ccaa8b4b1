-- Good columns by their parts: the numbers of the builder, and what the words hold. So a step shows only what it changes.
-- Assumes nothing.
use mathlib.Core.List.{List}
use Prim.Native.Nat.{ℕ, ◌+◌, ◌^◌, ◌≤◌, ◌<◌}
use native.Mathlib.Omega.{arith}
use native.Mathlib.Decide.{ℕ_discrete}
use Rattle.std.specs.Prelude.{IfSome}
use lib.ListN.{length, get_or, set}
use lib.Seq.{get_or-set_same, get_or-set_other}
use Rattle.cfg_edges.specs.Halves.{lo, hi}
use Rattle.cfg_steps.specs.Columns.{Place, Cols, cols, name_item, Good}

-- ---- words

-- what f reads in each of the first n words of l is below m
abbrev pub Each : (ℕ → ℕ) → ℕ → List ℕ → ℕ → Type 0
Each f n l m = (k : ℕ) → k < n → f (get_or l k 0) < m

-- one word more
pub each_more : (f : ℕ → ℕ) (n : ℕ) (l : List ℕ) (w m : ℕ) → n < length l → f w < m → Each f n l m → Each f (n + 1) (set l n w) m
each_more f n l w m long h each = λ k q. elim (ℕ_discrete k n) [
  | yes p ↦ rw (p, get_or-set_same l n w 0 long) h
  | no p ↦ rw (get_or-set_other l n k w 0 p) (each k (omega arith))
]

-- fewer words, and a higher bound
each_as : (f : ℕ → ℕ) {n n' m m' : ℕ} (l : List ℕ) → n' ≤ n → m ≤ m' → Each f n l m → Each f n' l m'
each_as f l hn hm each = λ k q. omega (arith, each k (omega arith))

-- ---- good columns

-- the columns are wide enough, the counts are small enough, and the targets are nodes
abbrev pub Sized : Place → Cols → Type 0
Sized b x =
    (1600 ≤ length x.edges) × (1024 ≤ length x.codes) × (1024 ≤ length x.names) × (1600 ≤ length x.labels)
    × (b.item ≤ 1024) × (b.nodes ≤ 1600) × (6 ≤ b.nodes) × (b.codes ≤ b.item) × (b.names ≤ b.item) × (b.settings.labels ≤ b.nodes)
    × (b.settings.break_target < b.nodes) × (b.settings.continue_target < b.nodes) × (b.settings.scope_end < 2 ^ 32)

pub good_of : {b : Place} {x : Cols} → Sized b x → IfSome b.cursor (λ v. v < b.nodes)
    → Each lo b.codes x.codes b.nodes → Each hi b.codes x.codes b.item → Each name_item b.names x.names b.item → Each hi b.settings.labels x.labels b.nodes → Good b x
good_of s v cn ci ni ln = record {
  wide_edges = s.0;
  wide_codes = s.1;
  wide_names = s.2;
  wide_labels = s.3;
  items = s.4;
  nodes = s.5;
  exits = s.6;
  codes = s.7;
  names = s.8;
  labels = s.9;
  cursor = v;
  break_target = s.10;
  continue_target = s.11;
  scope_end = s.12;
  code_nodes = cn;
  code_items = ci;
  name_items = ni;
  label_nodes = ln;
}

-- r may follow b: it stands no earlier, and has no fewer nodes and no more codes, names and labels
pub record Fitting (b r : Place) (y : Cols) : Type 0 where
  pub sized : Sized r y
  pub item : b.item ≤ r.item
  pub nodes : b.nodes ≤ r.nodes
  pub codes : r.codes ≤ b.codes
  pub names : r.names ≤ b.names
  pub labels : r.settings.labels ≤ b.settings.labels

-- another item, current node or settings, or more nodes, where the words stay
pub good_as : {b r : Place} {x : Cols} {es : List ℕ} → Good b x → Fitting b r (cols es x.codes x.names x.labels) → IfSome r.cursor (λ v. v < r.nodes) → Good r (cols es x.codes x.names x.labels)
good_as {x = x} ok f v =
    good_of f.sized v (each_as lo x.codes f.codes f.nodes ok.code_nodes) (each_as hi x.codes f.codes f.item ok.code_items)
    (each_as name_item x.names f.names f.item ok.name_items) (each_as hi x.labels f.labels f.nodes ok.label_nodes)
