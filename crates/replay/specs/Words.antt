-- What the words of a stored case tell, as `Told` of `flow`: a number, and the values that stand behind it where it is 0.
-- Assumes nothing: these are definitions.
use Rattle.std.specs.Prelude.{ℕ, cond, List, [], ◌∷◌, eqb}
use Rattle.flow.specs.Answers.{Told, told}

-- a refusal has no values
abbrev pub stored_told : ℕ → List ℕ → Told
stored_told k values = told k (cond (eqb k 0) values [])

-- "that node or none": 4,294,967,295 is stored where there is none
abbrev pub stored_node : ℕ → List ℕ
stored_node v = cond (eqb v 4294967295) [] (v ∷ [])
