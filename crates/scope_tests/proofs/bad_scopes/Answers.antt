-- `scope_tests::bad_scopes` meets its contract: each clause of refusal 9 in turn.
-- Assumes nothing.
use Prim.Native.Nat.{ℕ, ◌≤◌}
use mathlib.Core.Path.{◌≡◌, sym, ap, ◌∙◌}
use mathlib.Core.Bool.{Bool, true, not}
use mathlib.Core.List.{List}
use lib.ListN.{length}
use Rattle.flow.specs.Sheet.{all, count_word}
use Rattle.flow.specs.Scopes.{scope_kinds, parent_words, is_below, parents_lower}
use Rattle.scope_tests.proofs.Wrong.{none_comes, count_wrong, length_wrong, kind_wrong, parent_wrong, number_wrong}
use Rattle.scope_tests.proofs.bad_scopes.Goals as goal
use Rattle.scope_tests.proofs.bad_scopes.Goals.{After-all_below, After-parents_lower, Else-sheet-count}

-- what a test of a part says of the sheet's own
tested : (f : List ℕ → Bool) {part own : List ℕ} {r b : Bool} → part ≡ own → r ≡ f part → r ≡ b → f own ≡ b
tested f p e q = ap f (sym p) ∙ sym e ∙ q

-- ---- where count and length are right
abbrev C : (c : Else-sheet-count) → List ℕ
C c = c.args.sheet.now

some : (c : Else-sheet-count) → length (C c) ≡ 0 → ⊥
some c = c.if-sheet-eq0.false

few : (c : Else-sheet-count) → count_word (C c) ≤ 512
few c = c.if-count.false

-- where the kinds are tested, and the parents behind them
kinds_told : (c : After-all_below) → {b : Bool} → c.all_below.result ≡ b → all (is_below 4) (scope_kinds (C (goal.at.After-all_below c).Else-sheet-count)) ≡ b
kinds_told c = tested (all (is_below 4)) c.of-scopes.ensures.kinds c.all_below.ensures

parents_told : (c : After-parents_lower) → {b : Bool} → c.parents_lower.result ≡ b → parents_lower 0 (parent_words (C (goal.at.After-parents_lower c).Else-sheet-count)) ≡ b
parents_told c = tested (parents_lower 0) c.of-scopes.ensures.parents c.parents_lower.ensures

kinds_are : (c : After-parents_lower) → all (is_below 4) (scope_kinds (C (goal.at.After-parents_lower c).Else-sheet-count)) ≡ true
kinds_are c = kinds_told (goal.at.After-parents_lower c).After-all_below c.if-not-all_below.false

pub returns-then-sheet-eq0 : goal.returns-then-sheet-eq0
returns-then-sheet-eq0 c = none_comes _ _ _ c.if-sheet-eq0.true

pub returns-then-count : goal.returns-then-count
returns-then-count c = count_wrong _ _ _ c.if-sheet-eq0.false c.if-count.true

pub returns-then-sheet-count : goal.returns-then-sheet-count
returns-then-sheet-count c = length_wrong _ _ _ c.if-sheet-eq0.false c.if-count.false c.if-sheet-count.true

pub returns-then-not-all_below : goal.returns-then-not-all_below
returns-then-not-all_below c =
    let d = (goal.at.returns-then-not-all_below c).Else-sheet-count in
    kind_wrong _ _ (C d) (some d) (few d) c.if-sheet-count.false (kinds_told (goal.at.returns-then-not-all_below c).After-all_below c.if-not-all_below.true)

pub returns-then-not-parents_lower : goal.returns-then-not-parents_lower
returns-then-not-parents_lower c =
    let d = (goal.at.returns-then-not-parents_lower c).Else-sheet-count in
    let b = (goal.at.returns-then-not-parents_lower c).After-parents_lower in
    parent_wrong _ _ (C d) (some d) (few d) c.if-sheet-count.false (kinds_are b) (parents_told b c.if-not-parents_lower.true)

pub returns : goal.returns
returns c =
    let d = (goal.at.returns c).Else-sheet-count in
    let b = (goal.at.returns c).After-parents_lower in
    ap not (c.all_below-2.ensures ∙ ap (all (is_below (count_word (C d)))) c.of-scopes.ensures.numbers) ∙ number_wrong _ _ (C d) (some d) (few d) c.if-sheet-count.false (kinds_are b) (parents_told b c.if-not-parents_lower.false)
