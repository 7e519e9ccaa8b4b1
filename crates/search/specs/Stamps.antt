-- Marks by a stamp that is new for each search, so that no column is cleared between two searches (the Rust's NodeSet): a node is marked where its cell holds the stamp. Seen as flags, such a search is one of `Worklist`.
-- Assumes nothing: these are definitions.
use Rattle.std.specs.Prelude.{ℕ, zero, suc, ◌+◌, ◌≤◌, ◌<◌, Bool, true, false, length, get_or, set, eqb}
use mathlib.Core.List.{List, [], ◌∷◌, tail}
use Rattle.search.specs.Worklist.{State, st, Room}

abbrev pub flag_of : Bool → ℕ
flag_of true = 1
flag_of false = 0

-- the flags of n nodes: 1 where the mark is the stamp, else 0
unfoldable pub flags_of : ℕ → ℕ → List ℕ → List ℕ
flags_of stamp zero marks = []
flags_of stamp (suc n) marks = flag_of (eqb (get_or marks 0 0) stamp) ∷ flags_of stamp n (tail marks)

-- no node is marked yet: every mark is below the stamp
abbrev pub Fresh : ℕ → List ℕ → Type 0
Fresh stamp marks = (v : ℕ) → get_or marks v 0 < stamp

-- after a search: a greater stamp is fresh
abbrev pub Stamped : ℕ → List ℕ → Type 0
Stamped stamp marks = (v : ℕ) → get_or marks v 0 ≤ stamp

-- a search by the stamp may begin: no node is marked, and marks and stack hold n nodes
pub record Unmarked (stamp n : ℕ) (marks stack : List ℕ) : Type 0 where
  pub fresh : Fresh stamp marks
  pub marks_hold : n ≤ length marks
  pub stack_holds : n ≤ length stack

-- v marked and pushed, unless it is marked, as b says
abbrev pub stamped : ℕ → Bool → ℕ → State → State
stamped stamp true v s = s
stamped stamp false v s = st (set s.marks v stamp) (set s.stack s.top v) (s.top + 1)

unfoldable pub stamp_push : ℕ → ℕ → State → State
stamp_push stamp v s = stamped stamp (eqb (get_or s.marks v 0) stamp) v s

-- each of a list, in order
abbrev pub stamp_all : ℕ → List ℕ → State → State
stamp_all stamp [] s = s
stamp_all stamp (v ∷ vs) s = stamp_all stamp vs (stamp_push stamp v s)

-- v, if it passes a test
abbrev pub stamp_when : ℕ → Bool → ℕ → State → State
stamp_when stamp true v s = stamp_push stamp v s
stamp_when stamp false v s = s

-- the state of a worklist: flags for the first n marks
abbrev pub flagged : ℕ → ℕ → State → State
flagged stamp n s = st (flags_of stamp n s.marks) s.stack s.top

-- a search of n nodes may push: the marks hold the nodes, and the stack has room for each that is not marked
pub record Ready (stamp n : ℕ) (s : State) : Type 0 where
  pub long : n ≤ length s.marks
  pub fits : Room n (flagged stamp n s)
