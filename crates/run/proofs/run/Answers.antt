-- `run::run` meets its contract: refused by the sheet's verdict, or the answer by a chart in columns of its own.
-- Assumes nothing.
use mathlib.Core.Path.{sym, ap, ◌∙◌}
use Rattle.std.proofs.lemmas.Result.{err_from_is_err_and}
use Rattle.sheet_parts.specs.Sheets.{verdict_of}
use Rattle.flow.specs.Graph.{graph}
use Rattle.flow.specs.Reachable.{node_at, can_run}
use Rattle.run.proofs.Running.{run_refused, run_accepted}
use Rattle.run.proofs.run.Goals as goal

pub returns-in_err-sheet : goal.returns-in_err-sheet
returns-in_err-sheet c =
    let p = err_from_is_err_and c.from_residual.result c.from_residual.ensures.1 in
    rw (p.1, p.2) (run_refused c.args.sheet.now c.args.offset (sym c.admit_sheet.ensures.verdict ∙ ap verdict_of c.in_err-sheet.was))

pub returns : goal.returns
returns c =
    let e = sym c.admit_sheet.ensures.verdict ∙ ap verdict_of c.in_ok-sheet.was in
    let same = ap (λ S. record { node = node_at (graph S) c.args.offset; can_run = can_run (graph S) (node_at (graph S) c.args.offset) }) c.in_ok-sheet.ensures.same in
    run_accepted c.args.sheet.now c.args.offset e (c.run_in.ensures.ran ∙ same)
