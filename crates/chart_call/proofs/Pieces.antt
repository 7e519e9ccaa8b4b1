-- 01, "Bench pieces": the starred ones for the calls, by the counts that chart answers, the columns that it leaves over any others, and what run answers. One evaluation checks them (`pieces_called`).
-- Assumes nothing.
use mathlib.Core.Path.{◌≡◌, refl}
use mathlib.Core.Bool.{Bool, true, false, ◌&&◌}
use mathlib.Core.List.{List, [], ◌∷◌}
use Prim.Native.Nat.{ℕ}
use lib.ListN.{get_or}
use lib.Dec.{eqb, ltb}
use Rattle.search.specs.Search.{closure, filter}
use Rattle.flow.specs.Sheet.{all}
use Rattle.flow.specs.Kinds.{argument_fits, item_fits, is_code, literal_truth}
use Rattle.flow.specs.Refusals.{one, miscount, bad_item, outnumbered, too_deep, may_stand, open_after, pairs_up, may_follow, side_by_side, bad_nesting, in_order, scopes_after, inside_scopes, off_the_line, name_fits, names_fit, bad_name, first_applying, item_tests, sheet_tests, sheet_verdict}
use Rattle.flow.specs.Answers.{Told, told, found_values}
use Rattle.flow.specs.Tree.{in_front, opened, read, parse, tree, labels_of}
use Rattle.flow.specs.Graph.{graph, new_node, connect, set_current, advance_to, record_code, set_start, code, close_into, jump, declare, label_node, simple_stmt, new_nodes, with_labels, entered, inside, in_loop, start_graph, outside, build_stmt, build_block, build_arms}
use Rattle.flow.specs.Reachable.{reachable, node_among, node_at, can_run, run, chart}
use Rattle.flow.specs.Pieces.{Fact, nodes, edges, reached, offset, lists, prints, same_list, starred}
use Rattle.chart.specs.Lent.{Columns, chart_of}

abbrev same_told : Told → Told → Bool
same_told a b = eqb a.number b.number && same_list a.values b.values

-- how many nodes chart tells
abbrev pub nodes_told : List ℕ → ℕ
nodes_told S = get_or (chart false S).values 0 0

-- what a piece says of the graph, its edges, reachability and offsets, over columns that held x before
abbrev pub called : Columns → List ℕ → Fact → Bool
called x S (nodes n) = eqb (nodes_told S) n
called x S (edges v vs) = same_list (filter (λ u. ltb u (nodes_told S)) (get_or (chart_of S x).nodes.first v 0 ∷ get_or (chart_of S x).nodes.second v 0 ∷ [])) vs
called x S (reached v f) = eqb (chart false S).number 0 && eqb (get_or (chart_of S x).nodes.reachable v 0) f
called x S (offset o f b) = same_told (run S o) (told 0 (one b ∷ found_values f))
called x S (lists fs) = true
called x S (prints t) = true

pub pieces_called : (x : Columns) → all (λ p. all (called x p.sheet_of) p.facts) starred ≡ true
unfolding starred closure argument_fits item_fits is_code literal_truth miscount all bad_item outnumbered too_deep may_stand open_after pairs_up may_follow side_by_side bad_nesting in_order scopes_after inside_scopes off_the_line name_fits names_fit bad_name first_applying item_tests sheet_tests sheet_verdict in_front opened read parse tree labels_of new_node connect set_current advance_to record_code set_start code close_into jump declare label_node simple_stmt new_nodes with_labels entered inside in_loop start_graph outside graph build_stmt build_block build_arms reachable node_among node_at can_run run chart chart_of
pieces_called x = refl
