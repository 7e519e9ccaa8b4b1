-- What is open, as the definition has it.
-- Assumes nothing: these are definitions.
use Rattle.std.specs.Prelude.{List, ℕ, map, reverse}
use Rattle.kinds.specs.declared.Kind.{Kind}
use Rattle.kinds.specs.Numbers.{kind_number}

-- the numbers of the kinds that are open, the innermost first
abbrev pub open_kinds : List Kind → List ℕ
open_kinds ks = map kind_number (reverse ks)
