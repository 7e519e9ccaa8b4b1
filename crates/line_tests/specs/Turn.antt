-- What each item is asked in its turn, where the definitions of refusal 6 ask it inside a recursion, and the room that an item needs on the stack of scope ends.
-- Assumes nothing: these are definitions.
use Rattle.std.specs.Prelude.{Bool, cond, ◌&&◌, ◌||◌, not, ℕ, ◌+◌, ◌≤◌, ◌<◌, get_or, eqb, leb}
use mathlib.Core.List.{List, [], ◌∷◌, tail}
use Rattle.flow.specs.Sheet.{Item, all, kind, member, start_of, end_of}
use Rattle.flow.specs.Kinds.{kinds, opens, closes, is_code}
use Rattle.flow.specs.Refusals.{one}
open kinds use {ELSEIF, ELSE, UNTIL}

-- its code starts at or past what the code before it reached
abbrev pub starts_in_order : ℕ → Item → Bool
starts_in_order p i = not (is_code i) || leb p (start_of i.span)

-- its code ends within the scopes around, and a REPEAT's scope end is its UNTIL's end
abbrev pub held_here : List ℕ → Item → Bool
held_here ss i =
    (not (is_code i) || all (leb (end_of i.span)) (cond (eqb (kind i) ELSEIF) (tail ss) ss))
    && (not (eqb (kind i) UNTIL) || eqb (end_of i.span) (get_or ss 0 0))

-- the same of code of kind k that ends at e
abbrev pub end_held_here : List ℕ → ℕ → ℕ → Bool
end_held_here ss k e = all (leb e) (cond (eqb k ELSEIF) (tail ss) ss) && (not (eqb k UNTIL) || eqb e (get_or ss 0 0))

-- of count scopes around an item of kind k: one more has room, a closer and an arm have one to take away, and one is left
pub record Room (count k : ℕ) : Type 0 where
  pub most : count + one (opens k) ≤ 65
  pub closer : one (closes k) < count
  pub arm : one (member k (ELSEIF ∷ ELSE ∷ [])) < count
