-- `name_facts::find_names` meets its contract: at the loop's head the names of the words before it are stored.
-- Assumes nothing.
use Rattle.name_facts.proofs.Names.{Reading}
use Rattle.name_facts.proofs.find_names.Given as goal

abbrev pub invariant-loop-word : goal.invariant-loop-word
invariant-loop-word l = Reading l.kinds l.initial.facts l.facts l.names l.values l.before l.word-index
