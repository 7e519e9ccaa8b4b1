-- What is noted of each scope before its uses are looked at: the nearest Function over it, and a scope further up.
-- Assumes nothing: these are definitions.
use Rattle.std.specs.Prelude.{◌≡◌, Bool, true, false, cond, Option, Some, None, List, ℕ, zero, suc, ◌+◌, ◌-◌, ◌≤◌, ◌<◌, length, get_or, eqb}
use Rattle.flow.specs.Scopes.{scope_numbers, FUNCTION}
use Rattle.crossing.specs.declared.Note.{Note}

-- the parent of a scope
abbrev pub parent_in : List ℕ → ℕ → Option ℕ
parent_in parents s = elim (get_or parents s 0) [ zero ↦ None | suc p ↦ Some p ]

-- along at most k scopes from s on, the nearest Function
unfoldable pub function_over : ℕ → List ℕ → List ℕ → ℕ → Option ℕ
function_over zero kinds parents s = None
function_over (suc k) kinds parents s = cond (eqb (get_or kinds s 0) FUNCTION) (Some s) (elim (get_or parents s 0) [ zero ↦ None | suc p ↦ function_over k kinds parents p ])

-- along at most k scopes from s on, whether the scope `name` is among them
unfoldable pub is_over : ℕ → List ℕ → ℕ → ℕ → Bool
is_over zero parents name s = false
is_over (suc k) parents name s = cond (eqb s name) true (elim (get_or parents s 0) [ zero ↦ false | suc p ↦ is_over k parents name p ])

-- t is s, or over it
pub data Over (parents : List ℕ) : ℕ → ℕ → Type 0 where
  here : {s : ℕ} → Over parents s s
  up : {s p t : ℕ} → get_or parents s 0 ≡ p + 1 → Over parents p t → Over parents s t

-- what a note says of scope s: no more scopes are passed on the way of the jump than there are numbers between
pub record NoteOf (kinds parents : List ℕ) (s : ℕ) (note : Note) : Type 0 where
  pub function : (k : ℕ) → s < k → note.function ≡ function_over k kinds parents s
  pub jump : Over parents s note.jump
  pub passed : note.jump + note.passed ≤ s

-- what a contract means at a place where no note stands
abbrev pub no_note : Note
no_note = record { function = None; jump = 0; passed = 0 }

-- the first n scopes are noted
abbrev pub Noted : List ℕ → List ℕ → ℕ → List Note → Type 0
Noted kinds parents n notes = (s : ℕ) → s < n → NoteOf kinds parents s (get_or notes s no_note)

-- how many names a scope sheet has the scopes of, before those of uses with so many words
abbrev pub names_before : List ℕ → List ℕ → ℕ
names_before ws C = length (scope_numbers C) - length ws
