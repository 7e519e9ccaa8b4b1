-- 01, "From uses to findings (local_flow.rs)", its first sentences: the names of a sheet, which of them are tracked and which have no value, a local's declaration, a use in a closure, and the word of a finding.
-- Assumes nothing: these are definitions.
use Rattle.std.specs.Prelude.{Bool, cond, ◌&&◌, ◌||◌, not, List, [], ◌∷◌, ◌++◌, ℕ, ◌+◌, ◌*◌, ◌/◌, ◌%◌, ◌^◌, get_or, eqb, leb}
use Rattle.flow.specs.Sheet.{Word, Span, Node, LocalNumber, Item, kind, items, argument_of, crossing_of}
use Rattle.flow.specs.Kinds.{kinds}
use Rattle.flow.specs.Graph.{Graph}
open kinds use {LOCAL, NAME}

-- a list, or nothing of it
abbrev pub only_if : {A : Type 0} → Bool → List A → List A
only_if b xs = cond b xs []

-- a NAME: its argument, the values of its LOCAL, and how many names of its LOCAL stand before it
abbrev pub Local : Type 0
Local = record { flags : ℕ; values : ℕ; before : ℕ }

-- the names of a sheet, in order; `values` and `before` are of the LOCAL that was met last
unfoldable pub locals_from : ℕ → ℕ → List Item → List Local
locals_from values before [] = []
locals_from values before (i ∷ is) =
    only_if (eqb (kind i) NAME) (record { flags = argument_of i.word; values = values; before = before } ∷ [])
    ++ locals_from (cond (eqb (kind i) LOCAL) (argument_of i.word) values) (cond (eqb (kind i) NAME) (before + 1) 0) is

unfoldable pub locals : List Word → List Local
locals S = locals_from 0 0 (items S)

-- what stands for a number that is no local's: it begins with underscore, so it is not tracked
abbrev pub no_local : Local
no_local = record { flags = 1; values = 0; before = 0 }

-- "NAME, argument 0 to 7: 1 begins with underscore, 2 modified, 4 captured"
abbrev pub underscore : Local → Bool
underscore l = eqb (l.flags % 2) 1

abbrev pub modified : Local → Bool
modified l = eqb (l.flags / 2 % 2) 1

abbrev pub captured : Local → Bool
captured l = eqb (l.flags / 4 % 2) 1

-- "A NAME has no value when at least as many names of its LOCAL stand before it as there are values, 65,535 meaning none lacks one; else it has an initial value."
unfoldable pub no_value : Local → Bool
no_value l = leb l.values l.before && not (eqb l.values 65535)

-- "If it is modified and not captured": its writes are judged
unfoldable pub writes_judged : Local → Bool
writes_judged l = modified l && not (captured l)

-- "It is tracked when it lacks the underscore and either has no value or is modified and not captured."
unfoldable pub tracked : Local → Bool
tracked l = not (underscore l) && (no_value l || writes_judged l)

abbrev pub local_at : List Word → LocalNumber → Local
local_at S ℓ = get_or (locals S) ℓ no_local

-- "A use is in a closure when the local is captured and crossing is 1."
unfoldable pub is_in_closure : Local → Word → Bool
is_in_closure l w = captured l && eqb (crossing_of w) 1

-- a local's declaration: "A local's declaration is its LOCAL", at its node; and its scope end
abbrev pub Declaration : Type 0
Declaration = record { node : Node; scope_end : ℕ }

abbrev pub declaration : Graph → LocalNumber → Declaration
declaration g ℓ = record { node = get_or g.names.node ℓ 0; scope_end = get_or g.names.scope_end ℓ 0 }

-- a finding: its word, "and beside it the span, the name's span for an initial value"
abbrev pub Finding : Type 0
Finding = record { word : Word; span : Span }

-- "A finding is list (0 unassigned, 1 overwritten) + 2 × local + 2^32 × (use number + 1, or 0 for an initial value)"
abbrev pub finding_word : ℕ → LocalNumber → ℕ → Word
finding_word list ℓ k = list + 2 * ℓ + 2 ^ 32 * k
