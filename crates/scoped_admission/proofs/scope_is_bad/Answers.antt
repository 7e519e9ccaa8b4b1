-- `scoped_admission::scope_is_bad` meets its contract: without a scope sheet nothing is bad.
-- Assumes nothing.
use mathlib.Core.Path.{ap}
use native.Mathlib.Omega.{arith}
use Rattle.flow.specs.Refusals.{name_count}
use Rattle.flow.proofs.Admission.{admitted}
use Rattle.scope_tests.proofs.Wrong.{none_comes}
use Rattle.scoped_admission.proofs.scope_is_bad.Goals as goal

pub returns-then-scopes-eq0 : goal.returns-then-scopes-eq0
returns-then-scopes-eq0 c = none_comes _ _ _ c.if-scopes-eq0.true

pub bad_scopes-requires : goal.bad_scopes-requires
bad_scopes-requires c =
    let s = admitted c.args.pair.sheet.words.now c.args.pair.sheet.admitted in
    (omega (arith, c.name_count-names.ensures, ap name_count c.items.ensures.items, c.args.pair.admitted.names, s.all_names, s.few_names), c.args.pair.uses.few)
