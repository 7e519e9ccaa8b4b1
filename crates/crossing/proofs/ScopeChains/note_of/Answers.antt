-- `crossing::ScopeChains::note_of` meets its contract: a root jumps to itself, and a scope past its parent's jump or to its parent.
-- Assumes nothing.
use mathlib.Core.Path.{sym}
use native.Mathlib.Omega.{arith}
use Rattle.crossing.proofs.Tables.{no_parent, some_parent}
use Rattle.crossing.proofs.Notes.{note_root, note_up, note_far}
use Rattle.crossing.proofs.ScopeChains.note_of.Goals as goal

pub returns-in_default : goal.returns-in_default
returns-in_default c = note_root _ _ _ (no_parent c.args.self.now.parents.now c.args.s (sym c.in_default.ensures)) c.function_at.ensures

pub returns-then-up-further : goal.returns-then-up-further
returns-then-up-further c =
    let e = some_parent c.args.self.now.parents.now c.args.s (sym c.in-Some.ensures) in
    let up = c.requires.noted c.in-Some.parent (omega (arith, c.args.self.now.lower c.args.s, e)) in
    note_far _ _ _ c.args.self.now.lower _ e up (c.requires.noted _ (omega (arith, c.args.self.now.lower c.args.s, e, up.passed))) c.if-up-further.true c.function_at-function.ensures

pub returns : goal.returns
returns c =
    let e = some_parent c.args.self.now.parents.now c.args.s (sym c.in-Some.ensures) in
    note_up _ _ _ c.args.self.now.lower _ e (c.requires.noted _ (omega (arith, c.args.self.now.lower c.args.s, e))) c.function_at-function.ensures
