-- `use_tests::bad_use` meets its contract: what `all` gives over words and spans is the definition. Assumes nothing.
use mathlib.Core.Bool.{not}
use mathlib.Core.Path.{ap, ◌∙◌}
use Rattle.std.proofs.Common.{rules, tests}
use Rattle.std.proofs.lemmas.Iterator.Search.{all_from_yields_List}
use Rattle.flow.specs.Refusals.{use_fits}
use Rattle.sweeps.proofs.Pairs.{side_by_side}
use Rattle.use_tests.proofs.Uses.{uses_here}
use Rattle.use_tests.proofs.bad_use.Goals as goal

pub returns : goal.returns
returns c =
    let ws = c.args.uses.words.now in
    let ss = c.args.uses.spans.now in
    ap not (all_from_yields_List (λ p. use_fits c.args.names p.0 p.1) c.all.new.self _ _ c.all.ensures.ran (side_by_side ws ss {s = c.zip.result} (search rules) (search rules)) (λ x b q k. search (rules, tests)) ∙ uses_here c.args.names ws ss c.args.uses.paired)
