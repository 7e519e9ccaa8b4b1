-- What the table of 01, "Turned back", shows of a sheet that it admits: the facts of `specs/Admitted.antt`.
-- Assumes nothing.
use Prim.Native.Nat.{ℕ, zero, suc, ◌/◌, ◌%◌, ◌≤◌, ◌<◌}
use mathlib.Core.Path.{◌≡◌, refl, ◌∙◌, subst}
use mathlib.Core.Bool.{Bool, true, false, ◌&&◌}
use mathlib.Core.List.{List, [], ◌∷◌, tail}
use native.Mathlib.Omega.{arith}
use borrow.Author.Tests.{ltb-true, leb-true, not-false}
use lib.Dec.{leb, ltb}
use lib.ListN.{length, get_or, length-take, length-drop}
use Rattle.std.specs.Prelude.{Ok}
use Rattle.search.proofs.Bools.{neither, and_both}
use Rattle.flow.specs.Sheet.{count_word, kind_words, span_words, items, member, use_words, use_spans, local_of, use_kind_of}
use Rattle.flow.specs.Kinds.{is_code}
use Rattle.flow.specs.Refusals.{miscount, bad_item, too_deep, bad_nesting, off_the_line, bad_name, name_count, use_fits, uses_fit, bad_use, first_applying, item_tests, sheet_tests, pair_tests, sheet_verdict, pair_verdict}
use Rattle.flow.specs.Graph.{graph}
use Rattle.flow.specs.Admitted.{spans_where, is_name, AdmittedSheet, AdmittedUses, AdmittedPair}
use Rattle.flow.proofs.Members.{member_in}
use Rattle.flow.proofs.Tests.{every, applies, passed, counted, Passed, sheet_passed, fits_at}
use Rattle.flow.proofs.Nesting.{tidy, closed}
use Rattle.flow.proofs.Room.{length_zip, roomy}
use Rattle.flow.proofs.Written.{graph_columns}
use Rattle.flow.proofs.Spans.{tree_codes, tree_names, name_count_law, names_spans, few_spans, ends_rise}

module _ (S : List ℕ) (e : sheet_verdict false S ≡ Ok tt) where
  passes : Passed S
  passes = sheet_passed false S e

  kinds : length (kind_words S) ≡ count_word S
  kinds = simp (length-take, length-drop) (omega (arith, passes.words))

  spans : length (span_words S) ≡ count_word S
  spans = simp (length-take, length-drop) (omega (arith, passes.words))

  as_many : length (span_words S) ≡ length (kind_words S)
  as_many = omega (arith, kinds, spans)

  all_items : length (items S) ≡ count_word S
  all_items = length_zip (kind_words S) (span_words S) as_many ∙ kinds

  codes : (graph S).codes.span ≡ spans_where is_code (items S)
  codes = (graph_columns S).code_spans ∙ tree_codes (items S) passes.fits passes.pairs

  names : (graph S).names.span ≡ spans_where is_name (items S)
  names = (graph_columns S).name_spans ∙ tree_names (items S) passes.fits passes.pairs

  few_items : (n : ℕ) → n ≤ length (items S) → n ≤ 1024
  few_items n h = omega (arith, all_items, passes.few)

  pub admitted : AdmittedSheet S
  admitted =
      record {
        words = passes.words;
        few = passes.few;
        kinds = kinds;
        spans = spans;
        outer_end = passes.outer_end;
        fits = λ i h. fits_at (items S) passes.fits i (omega (arith, all_items));
        shallow = passes.shallow;
        pairs = passes.pairs;
        beside = passes.beside;
        in_order = passes.in_order;
        inside_scopes = passes.inside_scopes;
        names_inside = passes.named;
        tidy = tidy (kind_words S) (span_words S) as_many passes.pairs;
        closed = closed (kind_words S) (span_words S) as_many passes.pairs;
        room = roomy (kind_words S) (span_words S) as_many (omega (arith, kinds, passes.few)) passes.pairs;
        codes = codes;
        code_nodes = rw (graph_columns S).code_spans (graph_columns S).code_nodes;
        few_codes = rw codes (few_items _ (few_spans is_code (items S)));
        ends = rw codes (ends_rise (items S) passes.fits passes.in_order);
        names = names;
        name_nodes = rw (graph_columns S).name_spans (graph_columns S).name_nodes;
        name_ends = rw (graph_columns S).name_spans (graph_columns S).name_ends;
        few_names = rw names (few_items _ (few_spans is_name (items S)));
        all_names = rw names (names_spans (items S) ∙ name_count_law S);
      }

-- ---- the calls that lend columns, and those that take a pair

pub of_sheet : (short : Bool) (S : List ℕ) → sheet_verdict short S ≡ Ok tt → (short ≡ false) × (sheet_verdict false S ≡ Ok tt)
unfolding sheet_verdict sheet_tests
of_sheet short S e = let z : short ≡ false = passed (sheet_tests short S) e 1 in (z, subst (λ (b : Bool). sheet_verdict b S ≡ Ok tt) z e)

abbrev high_parts : List ℕ
high_parts = 0 ∷ 1 ∷ 2 ∷ 4 ∷ 5 ∷ 6 ∷ []

uses_at_law : (n : ℕ) (ws ss : List ℕ) → uses_fit n ws ss ≡ true → (u : ℕ) → u < length ws → (local_of (get_or ws u 0) < n) × (use_kind_of (get_or ws u 0) ≤ 2)
unfolding uses_fit use_fits
uses_at_law n [] ss e u h = absurd (omega arith)
uses_at_law n (w ∷ ws) ss e zero h =
    let f = (and_both (ltb (local_of w) n && member (w / 65536) high_parts) _ (and_both (use_fits n w (get_or ss 0 0)) _ e).0).0 in
    let g = and_both (ltb (local_of w) n) _ f in
    (ltb-true _ _ g.0, leb-true _ _ (every (λ x. leb (x % 4) 2) high_parts (w / 65536) refl (member_in _ high_parts g.1)))
uses_at_law n (w ∷ ws) ss e (suc u) h = uses_at_law n ws (tail ss) (and_both (use_fits n w (get_or ss 0 0)) _ e).1 u (omega arith)

module _ (short : Bool) (S U : List ℕ) (e : pair_verdict short S U ≡ Ok tt) where
  -- no test of the pair applies, by its number
  none : (k : ℕ) → applies k (pair_tests short S U) ≡ false
  unfolding pair_verdict
  none = passed (pair_tests short S U) e

  counts : (miscount 2 S ≡ false) × (miscount 1 U ≡ false)
  unfolding pair_tests
  counts = neither (miscount 2 S) (miscount 1 U) (none 2)

  pair_sheet : sheet_verdict false S ≡ Ok tt
  unfolding sheet_verdict sheet_tests pair_tests item_tests first_applying
  pair_sheet =
      let item : bad_item S ≡ false = none 3 in
      let deep : too_deep S ≡ false = none 4 in
      let nests : bad_nesting S ≡ false = none 5 in
      let line : off_the_line S ≡ false = none 6 in
      let name : bad_name S ≡ false = none 7 in
      rw (counts.0, item, deep, nests, line, name)

  pair_uses : AdmittedUses S U
  unfolding pair_tests item_tests bad_use
  pair_uses =
      let c = counted 1 U counts.1 in
      let f = uses_at_law (name_count (items S)) (use_words U) (use_spans U) (not-false _ (none 8)) in
      let w : length (use_words U) ≡ count_word U = simp (length-take, length-drop) (omega arith) in
      record {
        words = c.0;
        few = c.1;
        uses = w;
        spans = simp (length-take, length-drop) (omega arith);
        names = name_count_law S;
        known = λ u h. (f u (omega arith)).0;
        kinds = λ u h. (f u (omega arith)).1;
      }

  pub of_pair : AdmittedPair short S U
  unfolding pair_tests
  of_pair = record { enough = none 1; sheet = pair_sheet; uses = pair_uses }
