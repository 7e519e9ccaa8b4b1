-- `live_walk::LocalWalk::live_walk` meets its contract: the law of a search by a stamp that counts its turns, from after the writes.
-- Assumes nothing.
use Rattle.search.specs.Running.{state_of}
use Rattle.search.specs.Stamps.{flagged}
use Rattle.search.proofs.Worklist.{measure}
use Rattle.use_words.specs.Words.{uses_in}
use Rattle.live_steps.specs.Walk.{nodes_of, declared}
use Rattle.live_walk.proofs.Walk.{Walking}
use Rattle.live_walk.proofs.LocalWalk.live_walk.Given as goal

abbrev pub invariant-loop-u : goal.invariant-loop-u
invariant-loop-u l = Walking l.self.graph (declared l.self.declaration) (uses_in l.self.mine.now) l.stamp l.count l.fn.search l.search

abbrev pub decreases-loop-u : goal.decreases-loop-u
decreases-loop-u l = measure (nodes_of l.self.graph) (flagged l.search.stamp (nodes_of l.self.graph) (state_of l.search))
