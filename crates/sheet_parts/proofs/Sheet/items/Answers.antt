-- `sheet_parts::Sheet::items` meets its contract: an admitted sheet is counted right. Assumes nothing.
use Rattle.sheet_parts.proofs.Parts.{counted_sheet}
use Rattle.sheet_parts.proofs.Sheet.items.Goals as goal

pub invariant_of-counted-clause-counted : goal.invariant_of-counted-clause-counted
invariant_of-counted-clause-counted c = counted_sheet c.args.self.words.now c.args.self.admitted
