-- `local_values::JudgedLocal::list_values` meets its contract: the marks hold what is ahead, and the values are listed by them.
-- Assumes nothing.
use Rattle.std.proofs.Common.{ℕ, List, sym, ◌∙◌, subst, arith}
use Rattle.use_words.specs.Words.{uses_in}
use Rattle.flow.specs.Findings.{ahead}
use Rattle.live_steps.specs.Walk.{nodes_of, charted, declared}
use Rattle.next_uses.specs.Backwards.{AheadMarked}
use Rattle.locals.specs.Entries.{Added}
use Rattle.locals.proofs.Entries.{added_more}
use Rattle.local_values.proofs.Judged.{judged_by_marks}
use Rattle.local_values.proofs.JudgedLocal.list_values.Goals as goal

pub returns-clause-adds : goal.returns-clause-adds
returns-clause-adds c =
    let l = c.args.self.now in
    let g = c.args.graph in
    let us = uses_in l.uses.now in
    let e = c.requires.linked.0 in
    let m = rw e at (c.mark.ensures.marks_ahead g.edges.first.now g.edges.second.now (sym e) (omega (arith, e, g.edges.as_long)) (rw e c.requires.linked.1)) in
    let same = c.ahead-ahead.ensures.marks in
    let marks : AheadMarked c.ahead-ahead.result.stamp (nodes_of g) c.ahead-ahead.result.reads.now c.ahead-ahead.result.writes.now (ahead (charted g) (declared l.declaration) us) = rw (same.0, same.1, same.2) m in
    let words = judged_by_marks g c.ahead-ahead.result l.number l.has_value (declared l.declaration) us c.ahead-ahead.ensures.edges marks in
    let initial = c.list_initial.ensures in
    let all = added_more initial.adds.0 (omega (arith, initial.adds.0.counted, initial.upper_bound, c.requires.room)) c.list_writes.ensures.adds.0 in
    (subst (λ (ws : List ℕ). Added ws c.args.findings.now.count c.args.findings.now.words.now c.list_writes.new.findings.count c.list_writes.new.findings.words.now) words all, c.list_writes.ensures.adds.1 ∙ initial.adds.1)
