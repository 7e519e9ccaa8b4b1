-- `line_tests::item_held` meets its contract. Assumes nothing.
use mathlib.Core.Path.{sym, ◌∙◌}
use Rattle.line_tests.proofs.Lows.{no_until}
use Rattle.line_tests.proofs.item_held.Goals as goal

pub returns-then-not-code : goal.returns-then-not-code
returns-then-not-code c =
    let e = sym c.requires.code_value ∙ c.if-not-code.true in
    rw (c.if-not-code.true, e, no_until (record { word = c.args.word; span = c.args.span }) e)
