-- `line_tests::end_held` meets its contract: the least scope end around decides. Assumes nothing.
use Prim.Native.Nat.{ℕ, ◌<◌}
use mathlib.Core.List.{[], ◌∷◌}
use mathlib.Core.Path.{◌≡◌, ap}
use native.Mathlib.Omega.{arith}
use lib.ListN.{length}
use borrow.Author.Tests.{le-leb, lt-leb}
use Rattle.std.proofs.Common.{rules}
use Rattle.flow.specs.Refusals.{one}
use Rattle.flow.specs.Sheet.{kind_of, member}
use Rattle.line_tests.specs.declared.Scope.{Scope}
use Rattle.line_tests.proofs.Lows.{arm_held, until_held, other_held}
use Rattle.line_tests.proofs.end_held.Goals as goal

abbrev blank : Scope
blank = record { end = 0; low = 0 }

pub returns-in-Some-ElseIf : goal.returns-in-Some-ElseIf
returns-in-Some-ElseIf c =
    let k : kind_of c.args.word ≡ 6 = search rules in
    let some : 1 < length c.args.scopes.now = omega (arith, c.requires.room.arm, ap (λ (n : ℕ). one (member n (6 ∷ 7 ∷ []))) k) in
    arm_held (kind_of c.args.word) c.args.end c.args.scopes.now blank c.requires.lowest k some

pub returns-then-within : goal.returns-then-within
returns-then-within c =
    let k : kind_of c.args.word ≡ 9 = search rules in
    let some : 0 < length c.args.scopes.now = omega (arith, c.requires.room.closer) in
    rw (le-leb _ _ c.if-within.true) at (until_held (kind_of c.args.word) c.args.end c.args.scopes.now blank c.requires.lowest k some)

pub returns-else-within : goal.returns-else-within
returns-else-within c =
    let k : kind_of c.args.word ≡ 9 = search rules in
    let some : 0 < length c.args.scopes.now = omega (arith, c.requires.room.closer) in
    rw (lt-leb _ _ c.if-within.false) (rw (lt-leb _ _ c.if-within.false) at (until_held (kind_of c.args.word) c.args.end c.args.scopes.now blank c.requires.lowest k some))

pub returns-in_default : goal.returns-in_default
returns-in_default c =
    let some : 0 < length c.args.scopes.now = omega (arith, c.requires.room.closer) in
    other_held (kind_of c.args.word) c.args.end c.args.scopes.now blank c.requires.lowest (search rules) (search rules) some

pub returns-in_default-2 : goal.returns-in_default-2
returns-in_default-2 c =
    let some : 0 < length c.args.scopes.now = omega (arith, c.requires.room.closer) in
    other_held (kind_of c.args.word) c.args.end c.args.scopes.now blank c.requires.lowest (search rules) (search rules) some
