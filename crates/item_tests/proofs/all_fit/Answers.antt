-- `item_tests::all_fit` meets its contract: what `all` gives over words and spans is the definition. Assumes nothing.
use mathlib.Core.Path.{◌∙◌}
use Rattle.std.proofs.Common.{rules, tests}
use Rattle.std.proofs.lemmas.Iterator.Search.{all_from_yields_List}
use Rattle.flow.specs.Kinds.{item_fits}
use Rattle.sweeps.proofs.Pairs.{here, side_by_side, all_here}
use Rattle.item_tests.proofs.all_fit.Goals as goal

pub returns : goal.returns
returns c =
    let ws = c.args.items.words.now in
    let ss = c.args.items.spans.now in
    all_from_yields_List (λ p. item_fits (here p)) c.all.new.self _ _ c.all.ensures.ran (side_by_side ws ss {s = c.zip.result} (search rules) (search rules)) (λ x b q k. search (rules, tests)) ∙ all_here item_fits ws ss
