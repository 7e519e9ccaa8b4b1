-- `scope_tests::all_below` meets its contract: what `all` gives is the definition. Assumes nothing.
use mathlib.Core.Path.{◌∙◌}
use Rattle.std.proofs.Common.{rules, tests}
use Rattle.std.proofs.lemmas.Iterator.{YieldsList-from_slice}
use Rattle.std.proofs.lemmas.Iterator.Search.{all_from_yields_List}
use Rattle.flow.specs.Scopes.{is_below}
use Rattle.scope_tests.proofs.Sweeps.{all_are_below}
use Rattle.scope_tests.proofs.all_below.Goals as goal

pub returns : goal.returns
returns c =
    all_from_yields_List (is_below c.args.limit) c.all.new.self _ _ c.all.ensures.ran (YieldsList-from_slice c.args.words.now (search rules)) (λ x b q k. search (rules, tests)) ∙ all_are_below c.args.limit c.args.words.now
