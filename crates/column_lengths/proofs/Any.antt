-- What is too short, as one test after the other.
-- Assumes nothing.
use Rattle.std.specs.Prelude.{◌≡◌, Bool, true, false, ◌||◌, List, [], ◌∷◌, ℕ, ltb, refl}
use Rattle.std.specs.List.{list_any}
use mathlib.Core.Path.{ap, ◌∙◌}
use Rattle.column_lengths.specs.Lengths.{any_below, chart_too_short, judge_too_short}

or_assoc : (a b c : Bool) → (a || (b || c)) ≡ (a || b || c)
or_assoc true b c = refl
or_assoc false b c = refl

or_false : (a : Bool) → (a || false) ≡ a
or_false true = refl
or_false false = refl

abbrev short : ℕ → List ℕ → Bool
short n ls = list_any (λ l. ltb l n) ls

below_any : (n : ℕ) (ls : List ℕ) (others : Bool) → any_below n ls others ≡ (short n ls || others)
below_any n [] others = refl
below_any n (l ∷ ls) others = ap (λ (b : Bool). ltb l n || b) (below_any n ls others) ∙ or_assoc (ltb l n) (short n ls) others

pub chart_any : (nodes codes names : List ℕ) → chart_too_short nodes codes names ≡ (short 1600 nodes || short 1024 codes || short 1024 names)
unfolding chart_too_short
chart_any nodes codes names =
    below_any 1600 nodes _
    ∙ ap (λ (b : Bool). short 1600 nodes || b) (below_any 1024 codes _ ∙ ap (λ (b : Bool). short 1024 codes || b) (below_any 1024 names false ∙ or_false _))
    ∙ or_assoc (short 1600 nodes) (short 1024 codes) (short 1024 names)

pub judge_any : (findings marks : List ℕ) (chart : Bool) → judge_too_short findings marks chart ≡ (short 3072 findings || short 1024 marks || chart)
unfolding judge_too_short
judge_any findings marks chart =
    below_any 3072 findings _ ∙ ap (λ (b : Bool). short 3072 findings || b) (below_any 1024 marks chart) ∙ or_assoc (short 3072 findings) (short 1024 marks) chart
