-- `search::push_if_new` meets its contract: the two cases of `push`.
-- Assumes nothing.
use native.Mathlib.Omega.{arith}
use Rattle.search.specs.Worklist.{State, st}
use Rattle.search.proofs.Worklist.{push_fresh, push_known, room_new}
use Rattle.search.proofs.push_if_new.Goals as goal
use Rattle.search.proofs.push_if_new.Goals.{Start}

abbrev entered : Start → State
entered c = st c.args.marks.now c.args.stack.now c.args.top

pub bounds-stack-top : goal.bounds-stack-top
bounds-stack-top c = omega (arith, room_new c.args.n c.args.v (entered (goal.at.bounds-stack-top c).Start) c.requires.room c.requires.v_lt_n c.if-marks-v-eq0.true)

pub returns-then-marks-v-eq0 : goal.returns-then-marks-v-eq0
returns-then-marks-v-eq0 c = push_fresh c.args.v (entered (goal.at.returns-then-marks-v-eq0 c).Start) c.if-marks-v-eq0.true

pub returns-else-marks-v-eq0 : goal.returns-else-marks-v-eq0
returns-else-marks-v-eq0 c = push_known c.args.v (entered (goal.at.returns-else-marks-v-eq0 c).Start) c.if-marks-v-eq0.false
