-- `line_writer::Output::line` meets its contract: at the loop's head the numbers from n on are left to append.
-- Assumes nothing.
use Rattle.std.proofs.Common.{rules}
use mathlib.Core.Path.{◌≡◌}
use mathlib.Core.List.{List, [], ◌∷◌, ◌++◌}
use Prim.Native.Nat.{ℕ, ◌+◌, ◌≤◌, ◌<◌}
use native.Mathlib.Numerals.{add-one}
use lib.ListN.{length, get_or, drop, drop_of_length-le}
use lib.Seq.{drop-cons}
use Rattle.flow.specs.Listing.{decimal, numbers}
use Rattle.line_writer.proofs.Appended.{Left, first_room, begin, next}
use Rattle.line_writer.proofs.Output.line.Goals as goal
use Rattle.line_writer.proofs.Output.line.Goals.{In-loop-n, After-loop-n}

-- the numbers from the i-th on
numbers_from : (ns : List ℕ) (i : ℕ) → i < length ns → numbers (drop i ns) ≡ (32 ∷ decimal (get_or ns i 0)) ++ numbers (drop (i + 1) ns)
unfolding numbers
numbers_from ns i h = rw (add-one, drop-cons ns i 0 h)

no_numbers : (ns : List ℕ) (i : ℕ) → length ns ≤ i → numbers (drop i ns) ≡ 10 ∷ []
unfolding numbers
no_numbers ns i h = rw (drop_of_length-le ns h)

pub push-requires : goal.push-requires
push-requires c = first_room c.args.word.now (numbers c.args.values.now) c.requires

pub loop-n-init : goal.loop-n-init
loop-n-init c = record {
  same = search rules;
  left = next c.args.word.now (numbers c.args.values.now) (begin c.requires) c.push.ensures.appended;
}

-- ---- within a turn
one_left : (c : In-loop-n) → Left (c.args.word.now ++ numbers c.args.values.now) ((32 ∷ decimal (get_or c.args.values.now c.loop-n.n-index 0)) ++ numbers (drop (c.loop-n.n-index + 1) c.args.values.now)) c.args.self.now c.loop-n.self
one_left c = rw (numbers_from c.args.values.now c.loop-n.n-index c.loop-n-test.true) at c.loop-n.invariant.left

pub push_number-requires : goal.push_number-requires
push_number-requires c = first_room _ _ (one_left (goal.at.push_number-requires c).In-loop-n).room

pub loop-n-preserved : goal.loop-n-preserved
loop-n-preserved c = record {
  same = search rules;
  left = next _ _ (one_left (goal.at.loop-n-preserved c).In-loop-n) c.push_number.ensures.appended;
}

-- ---- behind the loop
end_left : (c : After-loop-n) → Left (c.args.word.now ++ numbers c.args.values.now) (10 ∷ []) c.args.self.now c.loop-n.self
end_left c = rw (no_numbers c.args.values.now c.loop-n.n-index c.loop-n-test.false) at c.loop-n.invariant.left

pub push-requires-2 : goal.push-requires-2
push-requires-2 c = (end_left (goal.at.push-requires-2 c).After-loop-n).room

pub returns-clause-appended : goal.returns-clause-appended
returns-clause-appended c = (end_left (goal.at.returns-clause-appended c).After-loop-n).whole c.push-2.new.self c.push-2.ensures.appended
