-- `scoped_findings::find_scoped` meets its contract: the uses that are judged are those of `crossed`.
-- Assumes nothing.
use Prim.Native.Nat.{ℕ}
use mathlib.Core.Path.{◌≡◌, refl, sym, subst}
use mathlib.Core.List.{List}
use native.Mathlib.Omega.{arith}
use lib.ListN.{length, take, length-replicate}
use Rattle.flow.specs.Sheet.{items, use_words, use_spans}
use Rattle.flow.specs.Refusals.{name_count}
use Rattle.flow.specs.Scopes.{use_sheet}
use Rattle.flow.specs.Admitted.{AdmittedUses}
use Rattle.flow.proofs.Scopes.{crossed_admitted, sheet_words, sheet_spans}
use Rattle.sheet_parts.specs.Sheets.{uses_of, judged_uses}
use Rattle.crossing.specs.Tables.{names_before}
use Rattle.scoped_findings.proofs.Uses.{as_supplied, as_replaced, scopes_fit_law, names_are, locals_known, written}
use Rattle.scoped_findings.proofs.find_scoped.Goals as goal
use Rattle.scoped_findings.proofs.find_scoped.Goals.{Start, After-replace_crossings}

-- ---- the sheets, and the uses by their two arrays
abbrev S : (c : Start) → List ℕ
S c = c.args.sheets.pair.sheet.words.now

abbrev U : (c : Start) → List ℕ
U c = uses_of c.args.sheets.pair

abbrev C : (c : Start) → List ℕ
C c = c.args.sheets.scopes.now

abbrev ws : (c : Start) → List ℕ
ws c = c.args.sheets.pair.uses.words.now

abbrev ss : (c : Start) → List ℕ
ss c = c.args.sheets.pair.uses.spans.now

words_are : (c : Start) → ws c ≡ use_words (U c)
words_are c = sym (sheet_words (ws c) (ss c))

spans_are : (c : Start) → ss c ≡ use_spans (U c)
spans_are c = sym (sheet_spans (ws c) (ss c) (sym c.args.sheets.pair.uses.paired))

-- no scope sheet has come
supplied : (c : Start) → length (C c) ≡ 0 → U c ≡ judged_uses c.args.sheets
supplied c none = as_supplied (S c) (U c) (C c) c.args.sheets.pair.admitted none (words_are c) (spans_are c)

-- one has
names : (c : Start) → (length (C c) ≡ 0 → ⊥) → names_before (ws c) (C c) ≡ name_count (items (S c))
names c some = names_are (S c) (U c) (C c) c.args.sheets.pair.admitted some (words_are c) c.args.sheets.fit

-- ---- where the words are replaced
abbrev column : (c : After-replace_crossings) → List ℕ
column c = c.replace_crossings.new.words

replaced : (c : After-replace_crossings) → use_sheet (take (length (ws (goal.at.After-replace_crossings c).Start)) (column c)) (ss (goal.at.After-replace_crossings c).Start) ≡ judged_uses c.args.sheets
replaced c =
    let d = (goal.at.After-replace_crossings c).Start in
    as_replaced (S d) (U d) (C d) c.args.sheets.pair.admitted c.if-bare.false _ (ws d) _ (names d c.if-bare.false) (words_are d) (spans_are d) c.replace_crossings.ensures refl

pub returns-then-bare-clause-written : goal.returns-then-bare-clause-written
returns-then-bare-clause-written c = written (supplied (goal.at.returns-then-bare-clause-written c).Start c.if-bare.true) c.find_all.ensures.written

pub replace_crossings-requires : goal.replace_crossings-requires
replace_crossings-requires c =
    let d = (goal.at.replace_crossings-requires c).Start in
    let u = c.args.sheets.pair.admitted in
    let n = names d c.if-bare.false in
    record { admitted_scopes = scopes_fit_law (S d) (U d) (C d) u c.if-bare.false _ n (words_are d) c.args.sheets.fit; use_words_in_bounds = (omega (arith, c.args.sheets.pair.uses.few, length-replicate {A = ℕ} 1024 0), locals_known (S d) (U d) (C d) u _ n (words_are d)) }

pub invariant_of-find_all : goal.invariant_of-find_all
invariant_of-find_all c =
    let d = (goal.at.invariant_of-find_all c).Start in
    record { admitted = subst (AdmittedUses (S d)) (sym (replaced (goal.at.invariant_of-find_all c).After-replace_crossings)) (crossed_admitted (S d) (U d) (C d) c.args.sheets.pair.admitted) }

pub returns-clause-written : goal.returns-clause-written
returns-clause-written c = written (replaced (goal.at.returns-clause-written c).After-replace_crossings) c.find_all-2.ensures.written
