-- 01, "Bench pieces": what the starred ones say of findings, for judge: by the number that it answers and the cells that it leaves over any others. One evaluation checks them (`pieces_judged`), and one what 02 says of a scope sheet (`scopes_judged`, `scopes_refused`).
-- Assumes nothing.
use mathlib.Core.Path.{◌≡◌, refl}
use mathlib.Core.Bool.{Bool, true, false, ◌&&◌}
use mathlib.Core.List.{List, [], ◌∷◌, map}
use Prim.Native.Nat.{ℕ, ◌+◌, ◌*◌, ◌^◌}
use lib.ListN.{length, take}
use lib.Dec.{eqb}
use Rattle.search.specs.Search.{closure}
use Rattle.flow.specs.Sheet.{all}
use Rattle.flow.specs.Kinds.{kinds, argument_fits, item_fits, is_code, literal_truth}
use Rattle.flow.specs.Refusals.{miscount, bad_item, outnumbered, too_deep, may_stand, open_after, pairs_up, may_follow, side_by_side, bad_nesting, in_order, scopes_after, inside_scopes, off_the_line, name_fits, names_fit, bad_name, name_count, use_fits, uses_fit, bad_use, first_applying, item_tests, pair_tests}
use Rattle.flow.specs.Scopes.{crosses, crossed_from, crossed, parents_lower, scopes_fit, scopes_wrong, scoped_tests, scoped_verdict}
use Rattle.flow.specs.Answers.{findings_told}
use Rattle.flow.specs.Tree.{in_front, opened, read, parse, tree, labels_of}
use Rattle.flow.specs.Graph.{graph, new_node, connect, set_current, advance_to, record_code, set_start, code, close_into, jump, declare, label_node, simple_stmt, new_nodes, with_labels, entered, inside, in_loop, start_graph, outside, build_stmt, build_block, build_arms}
use Rattle.flow.specs.Reachable.{reachable, node_among, node_at, can_run}
use Rattle.flow.specs.Locals.{Finding, locals_from, locals, no_value, writes_judged, tracked, is_in_closure}
use Rattle.flow.specs.Findings.{findings, uses_from, all_found, is_alive_at, after_writes, live_after_writes, is_empty_read, first_empty_read, first_at, meets_here, predecessors, meets, ahead, any_flag, is_overwritten_unread, is_overwritten, overwritten_at, overwritten_below, first_unassigned_use, initial_overwritten, writes_overwritten, uses_of, unassigned_of, overwritten_of, of_each}
use Rattle.flow.specs.Judge.{words_of, spans_of, judge}
use Rattle.flow.specs.Pieces.{Fact, nodes, edges, reached, offset, lists, prints, same_list, starred, item, sheet, use0, uses}
use Rattle.judge.specs.Lent.{leaves}
open kinds use {LOCAL, NAME, PLAIN}

-- what is listed, in columns that held words and spans before
abbrev pub listed : List ℕ → List ℕ → List ℕ → List ℕ → List ℕ → List Finding → Bool
listed words spans S U C fs =
    let n : ℕ = findings_told (judge false S U C) in
    eqb (judge false S U C).number 0 && eqb n (length fs) && same_list (take n (leaves (scoped_verdict false S U C) (words_of (findings S (crossed S U C))) words)) (map (λ f. f.word) fs)
    && same_list (take n (leaves (scoped_verdict false S U C) (spans_of (findings S (crossed S U C))) spans)) (map (λ f. f.span) fs)

-- facts of the graph alone are chart's (`chart_call`); what is printed is the listing's, and the printed sheet's one finding is among the facts
abbrev pub judged_so : List ℕ → List ℕ → List ℕ → List ℕ → Fact → Bool
judged_so words spans S U f = elim f [ nodes n ↦ true | edges v vs ↦ true | reached v b ↦ true | offset o p b ↦ true | lists fs ↦ listed words spans S U [] fs | prints t ↦ true ]

pub pieces_judged : (words spans : List ℕ) → all (λ p. all (judged_so words spans p.sheet_of p.uses_of) p.facts) starred ≡ true
unfolding starred closure argument_fits item_fits is_code literal_truth miscount all bad_item outnumbered too_deep may_stand open_after pairs_up may_follow side_by_side bad_nesting in_order scopes_after inside_scopes off_the_line name_fits names_fit bad_name name_count use_fits uses_fit bad_use first_applying item_tests pair_tests scoped_tests scoped_verdict scopes_wrong crossed in_front opened read parse tree labels_of new_node connect set_current advance_to record_code set_start code close_into jump declare label_node simple_stmt new_nodes with_labels entered inside in_loop start_graph outside graph build_stmt build_block build_arms reachable node_among node_at can_run judge locals_from locals no_value writes_judged tracked is_in_closure uses_from all_found is_alive_at after_writes live_after_writes is_empty_read first_empty_read first_at meets_here predecessors meets ahead any_flag is_overwritten_unread is_overwritten overwritten_at overwritten_below first_unassigned_use initial_overwritten writes_overwritten uses_of unassigned_of overwritten_of of_each findings
pieces_judged words spans = refl

-- ---- 02, C-11: a local without a value, read in a Function inside the Module that it is declared in

abbrev gearbox : ℕ → List ℕ
gearbox f = sheet 13 (item LOCAL 0 0 9 ∷ item NAME f 6 7 ∷ item PLAIN 0 10 13 ∷ [])

abbrev reads : ℕ → List ℕ
reads kind = uses (use0 kind 10 11 ∷ [])

abbrev in_function : List ℕ
in_function = 2 ∷ 0 ∷ 1 ∷ 0 ∷ 1 ∷ 0 ∷ 1 ∷ []

-- one scope of a kind, the name's and the use's
abbrev in_one : ℕ → List ℕ
in_one kind = 1 ∷ kind ∷ 0 ∷ 0 ∷ 0 ∷ []

abbrev empty_read : List Finding
empty_read = record { word = 2 ^ 32; span = 10 + 2 ^ 32 * 11 } ∷ []

-- what judge tells is a refusal with this number
abbrev refused_with : ℕ → List ℕ → List ℕ → List ℕ → Bool
refused_with k S U C = eqb (judge false S U C).number k

-- it is listed where it is not captured, and not where it is; "a scope that is both counts as the name's"; "it replaces the bit", also a supplied 1; "running out means no", also where the name's scope is not around the use's; and without a scope sheet a supplied bit is taken
pub scopes_judged : (words spans : List ℕ)
    → (listed words spans (gearbox 0) (reads 0) in_function empty_read && listed words spans (gearbox 4) (reads 0) in_function [] && listed words spans (gearbox 4) (reads 0) (in_one 1) empty_read
    && listed words spans (gearbox 4) (reads 4) (in_one 0) empty_read && listed words spans (gearbox 4) (reads 4) (2 ∷ 1 ∷ 2 ∷ 0 ∷ 0 ∷ 0 ∷ 1 ∷ []) empty_read && listed words spans (gearbox 4) (reads 4) [] [])
    ≡ true
unfolding closure argument_fits item_fits is_code literal_truth miscount all bad_item outnumbered too_deep may_stand open_after pairs_up may_follow side_by_side bad_nesting in_order scopes_after inside_scopes off_the_line name_fits names_fit bad_name name_count use_fits uses_fit bad_use first_applying item_tests pair_tests scoped_tests scoped_verdict scopes_wrong crossed in_front opened read parse tree labels_of new_node connect set_current advance_to record_code set_start code close_into jump declare label_node simple_stmt new_nodes with_labels entered inside in_loop start_graph outside graph build_stmt build_block build_arms reachable node_among node_at can_run judge locals_from locals no_value writes_judged tracked is_in_closure uses_from all_found is_alive_at after_writes live_after_writes is_empty_read first_empty_read first_at meets_here predecessors meets ahead any_flag is_overwritten_unread is_overwritten overwritten_at overwritten_below first_unassigned_use initial_overwritten writes_overwritten uses_of unassigned_of overwritten_of of_each findings crosses crossed_from scopes_fit parents_lower
scopes_judged words spans = refl

-- 9, and "after 8": a count past 512, a length that is wrong, a kind 4, a scope that is its own parent, a scope that is not there; and a bad use beside a bad scope sheet
pub scopes_refused : (refused_with 9 (gearbox 0) (reads 0) (513 ∷ []) && refused_with 9 (gearbox 0) (reads 0) (0 ∷ []) && refused_with 9 (gearbox 0) (reads 0) (in_one 4)
    && refused_with 9 (gearbox 0) (reads 0) (1 ∷ 0 ∷ 1 ∷ 0 ∷ 0 ∷ []) && refused_with 9 (gearbox 0) (reads 0) (1 ∷ 0 ∷ 0 ∷ 0 ∷ 1 ∷ []) && refused_with 8 (gearbox 0) (reads 3) (513 ∷ []))
    ≡ true
unfolding closure argument_fits item_fits is_code literal_truth miscount all bad_item outnumbered too_deep may_stand open_after pairs_up may_follow side_by_side bad_nesting in_order scopes_after inside_scopes off_the_line name_fits names_fit bad_name name_count use_fits uses_fit bad_use first_applying item_tests pair_tests scoped_tests scoped_verdict scopes_wrong crossed in_front opened read parse tree labels_of new_node connect set_current advance_to record_code set_start code close_into jump declare label_node simple_stmt new_nodes with_labels entered inside in_loop start_graph outside graph build_stmt build_block build_arms reachable node_among node_at can_run judge locals_from locals no_value writes_judged tracked is_in_closure uses_from all_found is_alive_at after_writes live_after_writes is_empty_read first_empty_read first_at meets_here predecessors meets ahead any_flag is_overwritten_unread is_overwritten overwritten_at overwritten_below first_unassigned_use initial_overwritten writes_overwritten uses_of unassigned_of overwritten_of of_each findings crosses crossed_from scopes_fit parents_lower
scopes_refused = refl
