-- The span beside a finding, by its word: "beside it the span, the name's span for an initial value".
-- Assumes nothing: these are definitions.
use Rattle.std.specs.Prelude.{ℕ, ◌-◌, ◌/◌, ◌%◌, ◌<◌, ◌≤◌, cond, List, eqb, length, get_or}

-- by the spans of the uses and of the names
abbrev pub span_of : List ℕ → List ℕ → ℕ → ℕ
span_of use_spans name_spans w =
    cond (eqb (w / 4294967296) 0) (get_or name_spans (w % 4294967296 / 2) 0) (get_or use_spans (w / 4294967296 - 1) 0)

-- the word is of one of so many uses and names
pub record Names (uses names w : ℕ) : Type 0 where
  pub use_known : w / 4294967296 ≤ uses
  pub local_known : w % 4294967296 / 2 < names

-- each of the words is
abbrev pub Known : ℕ → ℕ → List ℕ → Type 0
Known uses names words = (i : ℕ) → i < length words → Names uses names (get_or words i 0)
