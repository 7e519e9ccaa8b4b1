-- `overwritten::list_overwritten` meets its contract. The loop's invariant: the values of the locals passed were added. Where no local is judged, nothing is listed.
-- Assumes nothing.
use Rattle.std.proofs.Common.{◌≡◌, ◌+◌, ◌-◌, ◌≤◌, ℕ, List, length, get_or, true, false, refl, sym, ap, ◌∙◌, subst, arith}
use Rattle.std.proofs.Math.Seq.{take-length}
use Rattle.flow.specs.Locals.{local_at}
use Rattle.flow.specs.Findings.{uses_of, all_found}
use Rattle.facts.specs.declared.NameFacts.{NameFacts}
use Rattle.facts.specs.Facts.{is_judged, judges, no_facts}
use Rattle.facts.proofs.Facts.{judged_told, none_asked}
use Rattle.live_steps.specs.Walk.{nodes_of, declared}
use Rattle.locals.specs.Columns.{PassOf, uses_by_node}
use Rattle.locals.specs.Entries.{Added}
use Rattle.locals.proofs.Entries.{added_none, added_long}
use Rattle.locals.proofs.Columns.{declared_at}
use Rattle.next_uses.specs.Backwards.{AllUnmarked}
use Rattle.overwritten.proofs.Judged.{none_listed, judged_as, part_rises, part_few, nothing_listed}
use Rattle.overwritten.proofs.Locals.{done_none, room_here, done_turn, done_still}
use Rattle.overwritten.proofs.list_overwritten.Goals as goal
use Rattle.overwritten.proofs.list_overwritten.Goals.{Start, In-loop-number, then-is_judged, else-is_judged}

-- what the tables stand for
abbrev stood : Start → List ℕ → List ℕ → Type 0
stood c S U = PassOf (uses_by_node S U (nodes_of c.args.pass.now.graph)) c.args.pass.now S U

within : (c : Start) (ℓ : ℕ) → ℓ ≤ length c.args.pass.now.facts.now → get_or c.args.pass.now.uses.starts.now ℓ 0 ≤ 1024
within c ℓ h = omega (arith, c.requires.any_pass.2.table.parts.within ℓ h)

pub loop-number-init : goal.loop-number-init
loop-number-init c =
    done_none (stood (goal.at.loop-number-init c).Start) c.args.pass.now.uses.starts.now (nodes_of c.args.pass.now.graph) (length c.args.pass.now.facts.now) c.args.marks.now c.args.findings.now c.requires.lent.unmarked

pub invariant_of-local : goal.invariant_of-local
invariant_of-local c =
    let p = c.requires.any_pass.2 in
    record { few = omega (arith, p.named.few); by_node = rw c.of-then-is_judged.ensures (part_rises p c.loop-number-test.true) }

pub loop-number-preserved : goal.loop-number-preserved
loop-number-preserved c =
    let d = (goal.at.loop-number-preserved c).Start in
    let h = c.loop-number-test.true in
    let ℓ = c.loop-number.number in
    let fact = get_or c.args.pass.now.facts.now ℓ no_facts in
    elim c.if-is_judged.branch [
      | then-is_judged w ↦
          let p = c.requires.any_pass.2 in
          let v = w.list_values.ensures in
          let few = part_few p h in
          let mine = ap length w.of-then-is_judged.ensures in
          let d₀ = c.loop-number.invariant in
          let room = room_here (stood d) c.args.pass.now.uses.starts.now (nodes_of c.args.pass.now.graph) (length c.args.pass.now.facts.now) c.args.marks.now c.args.findings.now 1024 c.requires.room p.table.parts.rising (within d) d₀ h in
          let more : w.list_values.new.findings.count ≤ c.loop-number.findings.count + (1 + (get_or c.args.pass.now.uses.starts.now (ℓ + 1) 0 - get_or c.args.pass.now.uses.starts.now ℓ 0)) = omega (arith, v.upper_bound, mine, few) in
          rw (w.used-is, w.marks-is, w.findings-is)
          (done_turn (stood d) c.args.pass.now.uses.starts.now (nodes_of c.args.pass.now.graph) (length c.args.pass.now.facts.now) c.args.marks.now c.args.findings.now 1024 c.requires.room p.table.parts.rising (within d) d₀ h more
          (subst (λ (k : ℕ). AllUnmarked k (nodes_of c.args.pass.now.graph) w.list_values.new.used w.list_values.new.marks.reads.now w.list_values.new.marks.writes.now w.list_values.new.marks.stack.now) (omega arith) v.unmarked_after)
          v.same (added_long v.adds.0 (omega (arith, v.adds.0.counted, more, room))) v.adds.1
          (λ S U p.
          let found = all_found (uses_of S U ℓ) in
          let known = p.table.known.facts_are ℓ h in
          let yes : is_judged (local_at S ℓ) found ≡ true = sym (judged_told fact (local_at S ℓ) found known) ∙ sym c.is_judged.ensures ∙ w.if-is_judged.true in
          let words = judged_as p h yes fact.has_value (ap (λ (f : NameFacts). f.has_value) known) (declared w.of.result) (declared_at p.named ℓ h w.of.result w.of.ensures.0 w.of.ensures.1) w.of-then-is_judged.result.now w.of-then-is_judged.ensures in
          subst (λ (ws : List ℕ). Added ws c.loop-number.findings.count c.loop-number.findings.words.now w.list_values.new.findings.count w.list_values.new.findings.words.now) (sym words) v.adds.0))
      | else-is_judged w ↦ rw (w.used-is, w.marks-is, w.findings-is)
          (done_still (stood d) c.args.pass.now.uses.starts.now (nodes_of c.args.pass.now.graph) (length c.args.pass.now.facts.now) c.args.marks.now c.args.findings.now 1024 c.requires.room c.requires.any_pass.2.table.parts.rising (within d) c.loop-number.invariant h
          (λ S U p.
          let found = all_found (uses_of S U ℓ) in
          let no : is_judged (local_at S ℓ) found ≡ false = sym (judged_told fact (local_at S ℓ) found (p.table.known.facts_are ℓ h)) ∙ sym c.is_judged.ensures ∙ w.if-is_judged.false in
          rw (none_listed S U ℓ no) (added_none _ _)))
    ]

pub returns-else-any_judged-clause-adds : goal.returns-else-any_judged-clause-adds
returns-else-any_judged-clause-adds c = λ S U p.
    let none = none_asked judges is_judged judged_told (length c.args.pass.now.facts.now) c.args.pass.now.facts.now (omega arith) (rw (take-length c.args.pass.now.facts.now) (sym c.any_judged.ensures ∙ c.if-any_judged.false)) in
    (rw (nothing_listed p none) (added_none _ _), refl)
