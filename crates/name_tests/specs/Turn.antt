-- What each item is asked in its turn, and what it leaves, where the definition of refusal 7 says both inside a recursion.
-- Assumes nothing: these are definitions.
use Rattle.std.specs.Prelude.{◌≡◌, Bool, true, false, cond, ◌||◌, not, ℕ, eqb, Option, MatchOption}
use Rattle.flow.specs.Sheet.{Span, Item, kind, end_of}
use Rattle.flow.specs.Kinds.{kinds}
use Rattle.flow.specs.Refusals.{name_fits}
use Rattle.name_tests.specs.declared.Names.{Names}
open kinds use {LOCAL, NAME}

-- a NAME fits in its LOCAL's span, past where the NAME before it ends
abbrev pub fits_here : Span → ℕ → Item → Bool
fits_here local p i = not (eqb (kind i) NAME) || name_fits local p i.span

abbrev pub local_after : Span → Item → Span
local_after local i = cond (eqb (kind i) LOCAL) i.span local

abbrev pub reached_after : ℕ → Item → ℕ
reached_after p i = cond (eqb (kind i) LOCAL) 0 (cond (eqb (kind i) NAME) (end_of i.span) p)

-- the span of the last LOCAL and where its last NAME ends, past an item; none where the item does not fit
abbrev pub Past : Names → Item → Option Names → Type 0
Past n i r =
    MatchOption r (fits_here n.local n.reached i ≡ false)
    (λ m. (fits_here n.local n.reached i ≡ true) × (m.local ≡ local_after n.local i) × (m.reached ≡ reached_after n.reached i))
