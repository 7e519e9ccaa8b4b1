-- 01, "Bench pieces": the starred ones as one list that one evaluation checks, and three more that show a slip which no starred piece shows. `pieces_hold` is that evaluation; `printed_sheet_words` and `printed_use_words` are 01's own words for the printed sheet.
-- Assumes nothing.
use Rattle.std.specs.Prelude.{◌≡◌, refl, Bool, true, false, ◌&&◌, not, List, [], ◌∷◌, ◌++◌, map, ℕ, ◌+◌, ◌*◌, ◌^◌, length, get_or, eqb, Option, Some, None, Ok, Err}
use Prim.Native.String.{String}
use Rattle.search.specs.Search.{closure}
use Rattle.flow.specs.Sheet.{all, Item}
use Rattle.flow.specs.Kinds.{kinds, argument_fits, item_fits, is_code, literal_truth}
use Rattle.flow.specs.Refusals.{Verdict, pair_verdict, miscount, bad_item, outnumbered, too_deep, may_stand, open_after, pairs_up, may_follow, side_by_side, bad_nesting, in_order, scopes_after, inside_scopes, off_the_line, name_fits, names_fit, bad_name, name_count, use_fits, uses_fit, bad_use, first_applying, item_tests, pair_tests}
use Rattle.flow.specs.Graph.{node_count, graph, new_node, connect, set_current, advance_to, record_code, set_start, code, close_into, jump, declare, label_node, simple_stmt, new_nodes, with_labels, entered, inside, in_loop, start_graph, outside, build_stmt, build_block, build_arms}
use Rattle.flow.specs.Reachable.{successors, reachable, node_at, can_run, node_among}
use Rattle.flow.specs.Locals.{Finding, locals_from, locals, no_value, writes_judged, tracked, is_in_closure}
use Rattle.flow.specs.Findings.{findings, uses_from, all_found, is_alive_at, after_writes, live_after_writes, is_empty_read, first_empty_read, first_at, meets_here, predecessors, meets, ahead, any_flag, is_overwritten_unread, is_overwritten, overwritten_at, overwritten_below, first_unassigned_use, initial_overwritten, writes_overwritten, uses_of, unassigned_of, overwritten_of, of_each}
use Rattle.flow.specs.Scopes.{crossed, scopes_wrong, scoped_tests, scoped_verdict}
use Rattle.flow.specs.Judge.{judge}
use Rattle.flow.specs.Tree.{in_front, opened, read, parse, tree, labels_of}
use Rattle.flow.specs.Listing.{bytes, printed_words, digits, numbers, finding_line, finding_lines, report}
open kinds use {WHILE, REPEAT, IF, END, UNTIL, LOCAL, NAME, LABEL, GOTO, DO, CALL, PLAIN}

-- an item of a kind, an argument, a start and an end; a scoped item's argument is its condition + 32 × its scope end
abbrev pub item : ℕ → ℕ → ℕ → ℕ → Item
item k a s e = record { word = k + 256 * a; span = s + 2 ^ 32 * e }

abbrev pub with_scope : ℕ → ℕ → ℕ
with_scope c e = c + 32 * e

abbrev pub sheet : ℕ → List Item → List ℕ
sheet end is = length is ∷ end ∷ map (λ i. i.word) is ++ map (λ i. i.span) is

-- a use of local 0, by its kind and span
abbrev pub use0 : ℕ → ℕ → ℕ → Item
use0 k s e = record { word = 65536 * k; span = s + 2 ^ 32 * e }

abbrev pub uses : List Item → List ℕ
uses us = length us ∷ map (λ i. i.word) us ++ map (λ i. i.span) us

-- what a piece says
pub data Fact : Type 0 where
  nodes : ℕ → Fact
  edges : ℕ → List ℕ → Fact
  reached : ℕ → ℕ → Fact
  offset : ℕ → Option ℕ → Bool → Fact
  lists : List Finding → Fact
  prints : String → Fact

abbrev pub same_list : List ℕ → List ℕ → Bool
same_list [] [] = true
same_list [] (y ∷ ys) = false
same_list (x ∷ xs) [] = false
same_list (x ∷ xs) (y ∷ ys) = eqb x y && same_list xs ys

abbrev pub same_found : Option ℕ → Option ℕ → Bool
same_found (Some v) (Some w) = eqb v w
same_found (Some v) None = false
same_found None (Some w) = false
same_found None None = true

abbrev pub same_bool : Bool → Bool → Bool
same_bool true b = b
same_bool false b = not b

abbrev pub flat : List Finding → List ℕ
flat fs = map (λ f. f.word) fs ++ map (λ f. f.span) fs

abbrev pub holds : List ℕ → List ℕ → Fact → Bool
holds S U (nodes n) = eqb (node_count (graph S)) n
holds S U (edges v vs) = same_list (successors (graph S) v) vs
holds S U (reached v f) = eqb (get_or (reachable (graph S)) v 0) f
holds S U (offset o p r) = same_found (node_at (graph S) o) p && same_bool (can_run (graph S) (node_at (graph S) o)) r
holds S U (lists fs) = same_list (flat (findings S U)) (flat fs)
holds S U (prints t) = same_list (printed_words (S ++ U)) (bytes t)

pub record Piece : Type 0 where
  pub sheet_of : List ℕ
  pub uses_of : List ℕ
  pub facts : List Fact

abbrev pub is_admitted : Verdict → Bool
is_admitted (Ok tt) = true
is_admitted (Err r) = false

abbrev pub every : List ℕ → List ℕ → List Fact → Bool
every S U [] = true
every S U (f ∷ fs) = holds S U f && every S U fs

abbrev pub all_hold : List Piece → Bool
all_hold [] = true
all_hold (p ∷ ps) = is_admitted (pair_verdict false p.sheet_of p.uses_of) && every p.sheet_of p.uses_of p.facts && all_hold ps

abbrev pub printed_sheet : List ℕ
printed_sheet = sheet 22 (item LOCAL 1 0 9 ∷ item NAME 2 6 7 ∷ item PLAIN 0 10 13 ∷ item CALL 0 14 22 ∷ [])

abbrev pub printed_uses : List ℕ
printed_uses = uses (use0 1 10 11 ∷ use0 0 20 21 ∷ [])

-- "n 4, end 22; first array 266, 523, 18, 17; spans 0-9, 6-7, 10-13, 14-22; uses 65,536 at 10-11 and 0 at 20-21"
abbrev pub from : ℕ → ℕ → ℕ
from s e = s + 2 ^ 32 * e

pub printed_sheet_words : printed_sheet ≡ 4 ∷ 22 ∷ 266 ∷ 523 ∷ 18 ∷ 17 ∷ from 0 9 ∷ from 6 7 ∷ from 10 13 ∷ from 14 22 ∷ []
printed_sheet_words = refl

pub printed_use_words : printed_uses ≡ 2 ∷ 65536 ∷ 0 ∷ from 10 11 ∷ from 20 21 ∷ []
printed_use_words = refl

-- the starred pieces, in 01's order
unfoldable pub starred : List Piece
starred =
    record { sheet_of = sheet 0 []; uses_of = uses []; facts = nodes 6 ∷ edges 5 (0 ∷ []) ∷ [] }
    ∷ record {
      sheet_of = printed_sheet;
      uses_of = printed_uses;
      facts = prints "graph 9 3 1\nexits 1 0 0 0 0\noverwritten 0 6 7\n" ∷ lists (record { word = 1; span = 6 + 2 ^ 32 * 7 } ∷ []) ∷ offset 8 (Some 6) true ∷ offset 9 (Some 7) true ∷ offset 22 None true ∷ [];
    }
    ∷ record {
      sheet_of = sheet 30 (item WHILE (with_scope 1 20) 0 11 ∷ item PLAIN 0 12 15 ∷ item END 0 0 0 ∷ []);
      uses_of = uses [];
      facts = edges 8 (6 ∷ []) ∷ edges 6 (7 ∷ []) ∷ reached 8 0 ∷ [];
    }
    ∷ record {
      sheet_of = sheet 30 (item WHILE (with_scope 2 20) 0 11 ∷ item END 0 0 0 ∷ []);
      uses_of = uses [];
      facts = edges 6 (6 ∷ []) ∷ reached 0 0 ∷ [];
    }
    ∷ record { sheet_of = sheet 30 (item REPEAT (with_scope 1 20) 0 0 ∷ item UNTIL 0 15 20 ∷ []); uses_of = uses []; facts = edges 7 (6 ∷ []) ∷ [] }
    ∷ record { sheet_of = sheet 30 (item IF (with_scope 0 20) 0 9 ∷ item END 0 0 0 ∷ []); uses_of = uses []; facts = edges 6 (7 ∷ 7 ∷ []) ∷ [] }
    ∷ record { sheet_of = sheet 30 (item LABEL 1 0 5 ∷ item LABEL 1 6 11 ∷ []); uses_of = uses []; facts = edges 7 (7 ∷ 0 ∷ []) ∷ [] }
    ∷ record {
      sheet_of = sheet 30 (item LABEL 1 0 5 ∷ item LABEL 1 6 11 ∷ item LABEL 1 12 17 ∷ []);
      uses_of = uses [];
      facts = edges 8 (8 ∷ 8 ∷ []) ∷ reached 0 0 ∷ [];
    }
    ∷ record { sheet_of = sheet 30 (item GOTO 1 0 6 ∷ []); uses_of = uses []; facts = reached 1 1 ∷ [] }
    ∷ record { sheet_of = printed_sheet; uses_of = uses (use0 2 10 11 ∷ use0 0 20 21 ∷ []); facts = lists [] ∷ [] }
    ∷ record {
      sheet_of = sheet 12 (item LOCAL 0 0 7 ∷ item NAME 2 6 7 ∷ item PLAIN 0 8 12 ∷ []);
      uses_of = uses (use0 2 8 9 ∷ []);
      facts = lists (record { word = 2 ^ 32; span = 8 + 2 ^ 32 * 9 } ∷ []) ∷ [];
    }
    ∷ []

-- "giving a label its span's start as code start": a live path goes through a label beyond the scope end, and does not go through other code there
abbrev pub loop_with : Item → List ℕ
loop_with i =
    sheet 60
    (item WHILE (with_scope 10 60) 0 2 ∷ item PLAIN 0 3 5 ∷ item DO (with_scope 0 20) 0 0 ∷ item LOCAL 0 6 12 ∷ item NAME 2 8 9 ∷ item PLAIN 0 14 18 ∷ item END 0 0 0
    ∷ i ∷ item END 0 0 0 ∷ [])

-- "sorting uses of a node by offset": the read that comes first in use order is listed, though another starts before it
unfoldable pub slips : List Piece
slips =
    record {
      sheet_of = loop_with (item LABEL 1 30 35);
      uses_of = uses (use0 1 14 15 ∷ use0 1 3 4 ∷ []);
      facts = lists (record { word = 1 + 2 ^ 32; span = 14 + 2 ^ 32 * 15 } ∷ []) ∷ [];
    }
    ∷ record { sheet_of = loop_with (item PLAIN 0 30 35); uses_of = uses (use0 1 14 15 ∷ use0 1 3 4 ∷ []); facts = lists [] ∷ [] }
    ∷ record {
      sheet_of = sheet 12 (item LOCAL 0 0 7 ∷ item NAME 2 6 7 ∷ item PLAIN 0 8 12 ∷ []);
      uses_of = uses (use0 0 10 11 ∷ use0 0 8 9 ∷ []);
      facts = lists (record { word = 2 ^ 32; span = 10 + 2 ^ 32 * 11 } ∷ []) ∷ [];
    }
    ∷ []

pub pieces_hold : all_hold (starred ++ slips) ≡ true
unfolding starred slips closure argument_fits item_fits is_code literal_truth miscount all bad_item outnumbered too_deep may_stand open_after pairs_up may_follow side_by_side bad_nesting in_order scopes_after inside_scopes off_the_line name_fits names_fit bad_name name_count use_fits uses_fit bad_use first_applying item_tests pair_tests pair_verdict scoped_tests scoped_verdict scopes_wrong crossed in_front opened read parse tree labels_of new_node connect set_current advance_to record_code set_start code close_into jump declare label_node simple_stmt new_nodes with_labels entered inside in_loop start_graph outside graph build_stmt build_block build_arms reachable node_among node_at can_run locals_from locals no_value writes_judged tracked is_in_closure uses_from all_found is_alive_at after_writes live_after_writes is_empty_read first_empty_read first_at meets_here predecessors meets ahead any_flag is_overwritten_unread is_overwritten overwritten_at overwritten_below first_unassigned_use initial_overwritten writes_overwritten uses_of unassigned_of overwritten_of of_each findings judge digits numbers finding_line finding_lines report printed_words
pieces_hold = refl
