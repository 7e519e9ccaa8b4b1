-- `local_flow::compute_in` meets its contract: the names' facts are what the search for findings asks, and where no local is tracked there is none.
-- Assumes nothing.
use mathlib.Core.Path.{refl, sym, ◌∙◌}
use native.Mathlib.Omega.{arith}
use Rattle.std.proofs.Common.{rules}
use lib.Seq.{length-take-le}
use Rattle.local_flow.proofs.Columns.{few_names_law, cut, known, all_counted, given, nothing_found, zero_figures}
use Rattle.local_flow.proofs.compute_in.Goals as goal

pub find-requires-clause-any_given : goal.find-requires-clause-any_given
find-requires-clause-any_given g c =
    let q = c.requires.any_sheets in
    (q.0, q.1, given q.2 c.find_names-count.ensures)

pub returns-then-not-any_tracked : goal.returns-then-not-any_tracked
returns-then-not-any_tracked g c =
    let none = sym c.any_tracked.ensures ∙ c.if-not-any_tracked.true in
    λ S U p.
    let s = c.find_names-count.ensures in
    let few = few_names_law p s in
    (nothing_found S U _ (all_counted p s) (known p s) none _, zero_figures S U _ (all_counted p s) (known p s) none (omega (arith, cut p s)) (rw (c.fill.ensures.after (λ y q. search rules), length-take-le c.find_names-count.result c.args.mark.now (omega arith), cut p s) refl))

pub returns : goal.returns
returns g c = λ S U p.
    let s = c.find_names-count.ensures in
    let f = c.find.ensures.finds S U (given p s) in
    (record { counted = f.0.0.counted; entered = search rules ∙ f.0.0.entered }, rw (all_counted p s) f.1)
