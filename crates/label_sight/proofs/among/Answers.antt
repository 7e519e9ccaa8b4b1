-- `label_sight::among` meets its contract: no label that was looked at has the name.
-- Assumes nothing.
use mathlib.Core.Path.{◌≡◌, sym, ◌∙◌}
use Rattle.label_sight.proofs.Names.{found_behind, not_behind, latest_found}
use Rattle.label_sight.proofs.among.Goals as goal

pub returns-then-among_few : goal.returns-then-among_few
returns-then-among_few c =
    sym (c.loop-left.invariant ∙ found_behind c.args.name _ c.loop-left.left.now c.split_at.ensures.front c.split_at.ensures.back (sym c.among_few.ensures ∙ c.if-among_few.true))

pub loop-left-preserved : goal.loop-left-preserved
loop-left-preserved c =
    c.loop-left.invariant ∙ not_behind c.args.name _ c.loop-left.left.now c.split_at.ensures.front c.split_at.ensures.back (sym c.among_few.ensures ∙ c.if-among_few.false)

pub returns-then-latest-name : goal.returns-then-latest-name
returns-then-latest-name c = sym (latest_found c.args.name _ _ _ c.in-Some.ensures.cases.0 c.if-latest-name.true)
