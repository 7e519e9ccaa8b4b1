-- `local_values::JudgedLocal::list_writes` meets its contract. The loop's invariant: what was found at the places passed was added.
-- Assumes nothing.
use Rattle.std.proofs.Common.{ℕ, ◌+◌, ap, ◌∙◌}
use Rattle.flow.specs.Locals.{finding_word}
use Rattle.use_words.specs.Words.{use_of}
use Rattle.uses_by_node.specs.Uses.{edges_of}
use Rattle.uses_by_node.specs.Marks.{ahead_of}
use Rattle.locals.proofs.Entries.{added_none}
use Rattle.local_values.proofs.Writes.{passed_turn}
use Rattle.local_values.proofs.JudgedLocal.list_writes.Goals as goal
use Rattle.local_values.proofs.JudgedLocal.list_writes.Goals.{then-is_overwritten, else-is_overwritten}

pub loop-i-preserved : goal.loop-i-preserved
unfolding use_of
loop-i-preserved c =
    let l = c.args.self.now in
    let was = c.loop-i.invariant in
    elim c.if-is_overwritten.branch [
      | then-is_overwritten w ↦
          let word = w.word.ensures ∙ ap (λ (x : ℕ). finding_word 1 l.number (x + 1)) w.from.ensures in
          let one = rw word at w.push.ensures.0 in
          rw w.findings-is (passed_turn (edges_of c.args.ahead.now.edges) (ahead_of c.args.ahead.now) l.number l.uses.now c.args.findings.now.count c.args.findings.now.words.now c.requires.room was.0 c.loop-i-test.true (rw (← c.is_overwritten.ensures, w.if-is_overwritten.true) one), w.push.ensures.1 ∙ was.1)
      | else-is_overwritten w ↦
          rw w.findings-is (passed_turn (edges_of c.args.ahead.now.edges) (ahead_of c.args.ahead.now) l.number l.uses.now c.args.findings.now.count c.args.findings.now.words.now c.requires.room was.0 c.loop-i-test.true (rw (← c.is_overwritten.ensures, w.if-is_overwritten.false) (added_none _ _)), was.1)
    ]
