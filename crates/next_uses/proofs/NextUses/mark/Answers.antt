-- `next_uses::NextUses::mark` meets its contract: what the two searches find is what is ahead.
-- Assumes nothing.
use Rattle.std.proofs.Common.{rules, ◌≡◌, ℕ, List, length, ◌∙◌, arith}
use Rattle.search.specs.Stamps.{flags_of}
use Rattle.flow.specs.Findings.{ahead, meets}
use Rattle.use_words.specs.Words.{uses_in}
use Rattle.live_steps.specs.Walk.{chart, declared}
use Rattle.predecessors.specs.Ways.{nodes_back}
use Rattle.next_uses.specs.declared.Sought.{Sought}
use Rattle.next_uses.specs.declared.Sought.TheVariants.{Read, PureWrite}
use Rattle.next_uses.specs.Backwards.{sort_of, back_flags}
use Rattle.next_uses.proofs.Meets.{meets_are}
use Rattle.next_uses.proofs.NextUses.mark.Goals as goal
use Rattle.next_uses.proofs.NextUses.mark.Goals.{Start}

-- what a search for a sort leaves are the flags of the specification
found : (c : Start) (sought : Sought) (f s : List ℕ) → length f ≡ nodes_back c.args.back.now.way → length s ≡ nodes_back c.args.back.now.way → back_flags c.args.back.now.way.start.now (declared c.args.back.now.way.declaration) c.args.back.now.uses.now sought c.args.back.now.way.stamp c.args.back.now.way.used.now f s (nodes_back c.args.back.now.way) ≡ meets (chart (nodes_back c.args.back.now.way) f s c.args.back.now.way.start.now) (declared c.args.back.now.way.declaration) (uses_in c.args.back.now.uses.now) (sort_of sought)
found c sought f s e j =
    let w = c.args.back.now.way in
    meets_are (nodes_back w) f s w.start.now (omega arith) (omega arith) (declared w.declaration) c.args.back.now.uses.now c.args.back.now.placed w.stamp w.used.now c.requires.chained.1 sought c.requires.rising

-- the column that a search was lent holds what it left
left : (stamp n : ℕ) (marks column fs : List ℕ) → flags_of stamp n marks ≡ fs → column ≡ marks → flags_of stamp n column ≡ fs
left stamp n marks column fs e q = rw q e

pub returns-clause-marks_ahead : goal.returns-clause-marks_ahead
unfolding ahead
returns-clause-marks_ahead c =
    let d = (goal.at.returns-clause-marks_ahead c).Start in
    let n = nodes_back c.args.back.now.way in
    λ f s e j l. record {
      reads_are = left c.args.back.now.way.stamp n _ _ _ (c.mark.ensures.finds f s l ∙ found d Read f s e j) (search rules);
      writes_are = left c.args.back.now.way.stamp n _ _ _ (c.mark-2.ensures.finds f s l ∙ found d PureWrite f s e j) (search rules);
    }
