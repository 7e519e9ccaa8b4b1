-- A search as code has it: the worklist that it stands for, and that its columns stay the same lent ones.
-- Assumes nothing: these are definitions.
use Rattle.std.specs.Prelude.{ℕ, ◌<◌, ◌≡◌, List, length, Option, MatchOption}
use Rattle.search.specs.Worklist.{State, st, pop, topmost}
use Rattle.search.specs.declared.Search.{Search}

-- a search whose cells are numbers: of any width, as promises see them
abbrev pub NumberSearch : Type 0
NumberSearch = Search ℕ

abbrev pub state_of : NumberSearch → State
state_of s = st s.marks.now s.stack.now s.top

-- the same of cells of any type, by the numbers that a column of them holds
abbrev pub state_by : {T : Type 0} → (List T → List ℕ) → Search T → State
state_by numbers s = st (numbers s.marks.now) (numbers s.stack.now) s.top

-- marks and stack are the columns that they were, as long as they were
pub record SameColumns {T : Type 0} (old new : Search T) : Type 0 where
  pub marks_name : new.marks.ghost_name ≡ old.marks.ghost_name
  pub stack_name : new.stack.ghost_name ≡ old.stack.ghost_name
  pub marks_len : length new.marks.now ≡ length old.marks.now
  pub stack_len : length new.stack.now ≡ length old.stack.now

-- the node on top was taken off the stack, or there was none
abbrev pub Popped : Option ℕ → State → State → Type 0
Popped node old new = MatchOption node ((old.top ≡ 0) × (new ≡ old)) (λ u. (0 < old.top) × (u ≡ topmost old) × (new ≡ pop old))
