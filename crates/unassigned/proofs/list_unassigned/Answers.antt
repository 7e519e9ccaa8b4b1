-- `unassigned::list_unassigned` meets its contract: at the loop's head the findings and mark figures of the locals below `local` are written.
-- Assumes nothing.
use mathlib.Core.Path.{◌≡◌, refl, sym, ap, ◌∙◌}
use mathlib.Core.Bool.{true, false}
use native.Mathlib.Omega.{arith}
use lib.ListN.{set, length}
use Rattle.search.proofs.Running.{same_none}
use Rattle.locals.proofs.Columns.{declared_at}
use Rattle.locals.proofs.Entries.{added_none}
use Rattle.flow.specs.Locals.{local_at}
use Rattle.flow.specs.Findings.{uses_of, all_found}
use Rattle.facts.proofs.Facts.{due_told}
use Rattle.unassigned.proofs.Locals.{local_words, local_figure}
use Rattle.unassigned.proofs.Passes.{Listing, going_on, going_still, listing_none, listing_few, listing_long, listing_more}
use Rattle.unassigned.proofs.list_unassigned.Goals as goal
use Rattle.unassigned.proofs.list_unassigned.Goals.{then-is_due, else-is_due, After-loop-local, At-loop-local}

pub loop-local-init : goal.loop-local-init
loop-local-init c = (record { same = same_none _; unmarked = c.requires.unmarked }, λ S U p. listing_none S U _ _)

-- what is listed of the sheets that the columns stand for
abbrev ours : (c : At-loop-local) → Listing c.requires.any_pass.0 c.requires.any_pass.1 c.loop-local.local c.args.findings.now c.loop-local.findings c.args.mark.now c.loop-local.mark
ours c = c.loop-local.invariant.1 c.requires.any_pass.0 c.requires.any_pass.1 c.requires.any_pass.2

pub list_local-visited-requires-clause-room : goal.list_local-visited-requires-clause-room
list_local-visited-requires-clause-room c =
    let p = c.requires.any_pass.2 in
    let l = ours (goal.at.list_local-visited-requires-clause-room c).At-loop-local in
    (omega (arith, p.named.few), omega (arith, listing_few _ _ l, listing_long _ _ l (omega arith)))

pub loop-local-preserved : goal.loop-local-preserved
loop-local-preserved c =
    let h = c.loop-local-test.true in
    let g = c.loop-local.invariant.0 in
    elim c.if-is_due.branch [
      | then-is_due w ↦ (
        rw w.search-is (going_on g w.list_local-visited.ensures.same w.list_local-visited.ensures.stamped),
        λ S U p.
            let due = sym w.if-is_due.true ∙ c.is_due.ensures ∙ due_told _ (local_at S c.loop-local.local) (all_found (uses_of S U c.loop-local.local)) (p.table.known.facts_are c.loop-local.local h) in
            let there = declared_at p.named c.loop-local.local h w.of-then-is_due.result w.of-then-is_due.ensures.0 w.of-then-is_due.ensures.1 in
            listing_more S U (c.loop-local.invariant.1 S U p) (omega arith) (omega arith) (rw (← w.findings-is, local_words p c.loop-local.local h true due _ there _ w.of.ensures) at w.list_local-visited.ensures.adds) (ap (set c.loop-local.mark c.loop-local.local) (w.visited-is ∙ w.list_local-visited.ensures.figure ∙ local_figure p c.loop-local.local h true due _ there _ w.of.ensures)),
      )
      | else-is_due w ↦ (
        rw w.search-is (going_still g),
        λ S U p.
            let due = sym w.if-is_due.false ∙ c.is_due.ensures ∙ due_told _ (local_at S c.loop-local.local) (all_found (uses_of S U c.loop-local.local)) (p.table.known.facts_are c.loop-local.local h) in
            listing_more S U (c.loop-local.invariant.1 S U p) (omega arith) (omega arith) (rw (w.findings-is, ← local_words p c.loop-local.local h false due _ refl _ refl) (added_none _ _, refl)) (ap (set c.loop-local.mark c.loop-local.local) (w.visited-is ∙ local_figure p c.loop-local.local h false due _ refl _ refl)),
      )
    ]

-- the pass is over when `local` is past the last
all_listed : (c : After-loop-local) → c.loop-local.local ≡ length c.args.pass.now.facts.now
all_listed c = omega arith

pub returns-clause-lists : goal.returns-clause-lists
returns-clause-lists c = λ S U p. let l = rw (all_listed c) at (c.loop-local.invariant.1 S U p) in (l.listed, l.figures)

pub returns-clause-few : goal.returns-clause-few
returns-clause-few c = omega (arith, all_listed c, listing_few _ _ (ours (goal.at.returns-clause-few c).At-loop-local))
