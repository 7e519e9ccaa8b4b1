-- A worklist: marks of the nodes that were pushed, and a stack of those that are still to be expanded. A node is marked as it is pushed, so that it is pushed once.
-- Assumes nothing: these are definitions.
use Rattle.std.specs.Prelude.{ℕ, zero, suc, ◌+◌, ◌-◌, ◌≤◌, Bool, true, false, List, [], ◌∷◌, length, get_or, set}
use Rattle.search.specs.Search.{zeros}

-- the stack's cells from `top` on may hold anything
pub record State : Type 0 where
  pub marks : List ℕ
  pub stack : List ℕ
  pub top : ℕ

abbrev pub st : List ℕ → List ℕ → ℕ → State
st m k t = record { marks = m; stack = k; top = t }

-- v marked and pushed, unless its mark f is set
abbrev pub pushed : ℕ → ℕ → State → State
pushed zero v s = st (set s.marks v 1) (set s.stack s.top v) (s.top + 1)
pushed (suc f) v s = s

unfoldable pub push : ℕ → State → State
push v s = pushed (get_or s.marks v 0) v s

-- each of a list, in order
abbrev pub push_all : List ℕ → State → State
push_all [] s = s
push_all (v ∷ vs) s = push_all vs (push v s)

-- v, if it passes a test
abbrev pub push_when : Bool → ℕ → State → State
push_when true v s = push v s
push_when false v s = s

abbrev pub push_if : (ℕ → Bool) → ℕ → State → State
push_if p v s = push_when (p v) v s

abbrev pub pop : State → State
pop s = st s.marks s.stack (s.top - 1)

-- the node that a pop takes off
abbrev pub topmost : State → ℕ
topmost s = get_or s.stack (s.top - 1) 0

-- the columns hold n nodes, and the stack has room for each node without a mark
pub record Room (n : ℕ) (s : State) : Type 0 where
  pub marks_long_law : n ≤ length s.marks
  pub stack_long : n ≤ length s.stack
  pub room : s.top + zeros n s.marks ≤ n
