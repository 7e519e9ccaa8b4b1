-- `name_facts::find_names` meets its contract: at the loop's head the names of the words before it are stored.
-- Assumes nothing.
use mathlib.Core.Path.{sym, ap, ◌∙◌}
use native.Mathlib.Omega.{arith}
use borrow.Author.Rules.{rules}
use Rattle.kinds.specs.Numbers.{kind_number}
use Rattle.name_facts.proofs.Names.{turn_name, turn_local, turn_other, reading_ends}
use Rattle.name_facts.proofs.find_names.Goals as goal
use Rattle.name_facts.proofs.find_names.Goals.{in-Some-Name, in-Some-Local, in_default, in_default-2}

pub loop-word-preserved : goal.loop-word-preserved
loop-word-preserved c =
    elim c.match-of.branch [
      | in-Some-Name w ↦ rw (w.facts-is, w.names-is, w.values-is, w.before-is)
          (turn_name c.args.kinds.now _ c.requires.1 c.loop-word.invariant c.loop-word-test.true (sym w.in-Some-Name.ensures ∙ ap kind_number w.in-Some-Name.field-0-is) (omega arith) w.facts_of.ensures)
      | in-Some-Local w ↦ rw (w.facts-is, w.names-is, w.values-is, w.before-is)
          (turn_local c.args.kinds.now _ c.requires.1 c.loop-word.invariant c.loop-word-test.true (sym w.in-Some-Local.ensures ∙ ap kind_number w.in-Some-Local.field-0-is))
      | in_default w ↦ rw (w.facts-is, w.names-is, w.values-is, w.before-is) (turn_other c.args.kinds.now _ c.requires.1 c.loop-word.invariant c.loop-word-test.true (search rules) (search rules))
      | in_default-2 w ↦ rw (w.facts-is, w.names-is, w.values-is, w.before-is) (turn_other c.args.kinds.now _ c.requires.1 c.loop-word.invariant c.loop-word-test.true (search rules) (search rules))
    ]

pub returns : goal.returns
returns c = reading_ends _ _ c.requires.1 c.loop-word.invariant (omega arith)
