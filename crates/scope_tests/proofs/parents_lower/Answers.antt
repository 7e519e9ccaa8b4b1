-- `scope_tests::parents_lower` meets its contract: what `all` gives is the definition. Assumes nothing.
use Prim.Native.Nat.{ℕ}
use mathlib.Core.Path.{◌∙◌}
use lib.Dec.{leb}
use Rattle.std.proofs.Common.{rules, tests}
use Rattle.std.proofs.lemmas.Iterator.{YieldsList-from_slice}
use Rattle.std.proofs.lemmas.Iterator.Consumers.{YieldsList-from_enumerate}
use Rattle.std.proofs.lemmas.Iterator.Search.{all_from_yields_List}
use Rattle.scope_tests.proofs.Sweeps.{all_are_lower}
use Rattle.scope_tests.proofs.parents_lower.Goals as goal

pub returns : goal.returns
returns c =
    all_from_yields_List (λ (p : ℕ × ℕ). leb p.1 p.0) c.all.new.self _ _ c.all.ensures.ran (YieldsList-from_enumerate {s = c.enumerate.result} (YieldsList-from_slice c.args.parents.now (search rules)) (search rules)) (λ x b q k. search (rules, tests)) ∙ all_are_lower 0 c.args.parents.now
