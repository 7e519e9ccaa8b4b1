-- `crossing::ScopeChains::note_all` meets its contract: at the loop's head the first s scopes are noted.
-- Assumes nothing.
use Rattle.crossing.specs.Tables.{Noted}
use Rattle.crossing.proofs.ScopeChains.note_all.Given as goal

abbrev pub invariant-loop-s : goal.invariant-loop-s
invariant-loop-s l = Noted l.self.kinds.now l.self.parents.now l.s l.notes
