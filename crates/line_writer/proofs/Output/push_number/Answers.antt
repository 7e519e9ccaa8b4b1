-- `line_writer::Output::push_number` meets its contract.
-- Assumes nothing.
use mathlib.Core.Path.{◌≡◌, sym, ◌∙◌}
use mathlib.Core.List.{[], ◌∷◌}
use Rattle.flow.specs.Listing.{decimal}
use Rattle.line_writer.proofs.Appended.{first_room, then_room, both}
use Rattle.line_writer.proofs.Digits.{as_std}
use Rattle.line_writer.proofs.Output.push_number.Goals as goal
use Rattle.line_writer.proofs.Output.push_number.Goals.{After-as_bytes}

text : (c : After-as_bytes) → c.as_bytes.result.now ≡ decimal c.args.n
text c = c.as_bytes.ensures.value ∙ c.format.ensures.text ∙ sym (as_std c.args.n c.ranges.n.fits)

pub push-requires-2 : goal.push-requires-2
push-requires-2 c =
    rw (text (goal.at.push-requires-2 c).After-as_bytes)
    (then_room (first_room (32 ∷ []) (decimal c.args.n) c.requires) c.push.ensures.appended (decimal c.args.n) c.requires)

pub returns-clause-appended : goal.returns-clause-appended
returns-clause-appended c =
    both (first_room (32 ∷ []) (decimal c.args.n) c.requires) c.push.ensures.appended
    (rw (text (goal.at.returns-clause-appended c).After-as_bytes) at c.push-2.ensures.appended)
