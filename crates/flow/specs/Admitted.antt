-- What 01's table shows of a sheet that it admits: the facts that later layers lean on. `proofs/Admission.antt` draws them from `sheet_verdict`.
-- Assumes nothing: these are definitions.
use Rattle.std.specs.Prelude.{◌≡◌, Bool, true, false, List, [], ◌∷◌, ◌++◌, ℕ, ◌+◌, ◌*◌, ◌^◌, ◌≤◌, ◌<◌, length, get_or, drop, eqb, Ok}
use Rattle.flow.specs.Sheet.{Item, kind, count_word, outer_end, items, kind_words, span_words, zip, kind_of, end_of, use_words, use_spans, local_of, use_kind_of}
use Rattle.flow.specs.Kinds.{kinds, item_fits, is_code}
use Rattle.flow.specs.Refusals.{name_count, sheet_verdict, outnumbered, pairs_up, side_by_side, in_order, inside_scopes, names_fit}
use Rattle.flow.specs.Scopes.{parent_words, scope_numbers, Lower}
use Rattle.flow.specs.Tree.{parse, tree, no_more}
use Rattle.flow.specs.Size.{block_nodes}
use Rattle.flow.specs.Graph.{graph}
use Rattle.flow.specs.Locals.{only_if, locals}
open kinds use {NAME}

-- the spans of those items that pass a test, in order
unfoldable pub spans_where : (Item → Bool) → List Item → List ℕ
spans_where p [] = []
spans_where p (i ∷ is) = only_if (p i) (i.span ∷ []) ++ spans_where p is

abbrev pub is_name : Item → Bool
is_name i = eqb (kind i) NAME

abbrev pub an_item : Item
an_item = record { word = 0; span = 0 }

-- a block that DO, WHILE, REPEAT or FOR opens is followed by no arm; this is a fact of the kinds alone, whatever the spans
abbrev pub Tidy : List ℕ → Type 0
Tidy ks = (ss : List ℕ) → length ss ≡ length ks → (i : ℕ) → i < length ks → 1 ≤ kind_of (get_or ks i 0) → kind_of (get_or ks i 0) ≤ 4 → (parse (drop (i + 1) (zip ks ss))).top.arms ≡ no_more

-- and it stands in another block
abbrev pub Closed : List ℕ → Type 0
Closed ks =
    (ss : List ℕ) → length ss ≡ length ks → (i : ℕ) → i < length ks → 1 ≤ kind_of (get_or ks i 0) → kind_of (get_or ks i 0) ≤ 4 → (parse (drop (i + 1) (zip ks ss))).below ≡ [] → ⊥

-- a tree of these kinds has room for 1,600 nodes, whatever the spans
abbrev pub Roomy : List ℕ → Type 0
Roomy ks = (ss : List ℕ) → length ss ≡ length ks → 6 + block_nodes (tree (zip ks ss)) ≤ 1542

pub record AdmittedSheet (S : List ℕ) : Type 0 where
  pub words : length S ≡ 2 * count_word S + 2
  pub few : count_word S ≤ 1024
  pub kinds : length (kind_words S) ≡ count_word S
  pub spans : length (span_words S) ≡ count_word S
  pub outer_end : outer_end S < 2 ^ 32
  pub fits : (i : ℕ) → i < count_word S → item_fits (get_or (items S) i an_item) ≡ true
  pub shallow : outnumbered 0 0 (items S) ≡ false
  pub pairs : pairs_up [] (items S) ≡ true
  pub beside : side_by_side 0 (items S) ≡ true
  pub in_order : in_order 0 (items S) ≡ true
  pub inside_scopes : inside_scopes (Rattle.flow.specs.Sheet.outer_end S ∷ []) (items S) ≡ true
  pub names_inside : names_fit 0 0 (items S) ≡ true
  pub tidy : Tidy (kind_words S)
  pub closed : Closed (kind_words S)
  pub room : Roomy (kind_words S)
  pub codes : (graph S).codes.span ≡ spans_where is_code (items S)
  pub code_nodes : length (graph S).codes.node ≡ length (graph S).codes.span
  pub few_codes : length (graph S).codes.span ≤ 1024
  pub ends : (i j : ℕ) → i < j → j < length (graph S).codes.span → end_of (get_or (graph S).codes.span i 0) ≤ end_of (get_or (graph S).codes.span j 0)
  pub names : (graph S).names.span ≡ spans_where is_name (items S)
  pub name_nodes : length (graph S).names.node ≡ length (graph S).names.span
  pub name_ends : length (graph S).names.scope_end ≡ length (graph S).names.span
  pub few_names : length (graph S).names.span ≤ 1024
  pub all_names : length (graph S).names.span ≡ length (locals S)

-- the same of a use sheet
pub record AdmittedUses (S U : List ℕ) : Type 0 where
  pub words : length U ≡ 2 * count_word U + 1
  pub few : count_word U ≤ 1024
  pub uses : length (use_words U) ≡ count_word U
  pub spans : length (use_spans U) ≡ count_word U
  pub names : name_count (items S) ≡ length (locals S)
  pub known : (u : ℕ) → u < count_word U → local_of (get_or (use_words U) u 0) < name_count (items S)
  pub kinds : (u : ℕ) → u < count_word U → use_kind_of (get_or (use_words U) u 0) ≤ 2

-- and of a scope sheet that comes with so many names and uses
pub record AdmittedScopes (names uses : ℕ) (C : List ℕ) : Type 0 where
  pub few : count_word C ≤ 512
  pub words : length C ≡ 1 + 2 * count_word C + names + uses
  pub lower : Lower (parent_words C)
  pub inside : (i : ℕ) → i < names + uses → get_or (scope_numbers C) i 0 < count_word C

-- what the verdict of a pair shows
pub record AdmittedPair (short : Bool) (S U : List ℕ) : Type 0 where
  pub enough : short ≡ false
  pub sheet : sheet_verdict false S ≡ Ok tt
  pub uses : AdmittedUses S U
