-- A use as the walks over one local take it.
-- Assumes nothing: these are definitions.
use Rattle.std.specs.Prelude.{ℕ, ◌<◌, false, List, map, All, Some}
use Rattle.flow.specs.Findings.{Use, node}
use Rattle.use_words.specs.declared.UseKind.{UseKind}
use Rattle.use_words.specs.declared.UseKind.TheVariants.{Read, Write, ReadWrite, Other}
use Rattle.use_words.specs.declared.PlacedUse.{PlacedUse}

-- "kind 0 Read, 1 Write, 2 ReadWrite"
abbrev pub kind_number : UseKind → ℕ
kind_number Read = 0
kind_number Write = 1
kind_number ReadWrite = 2
kind_number Other = 3

abbrev pub node_in : PlacedUse → ℕ
node_in u = u.node

abbrev pub local_in : PlacedUse → ℕ
local_in u = u.local

-- the use of 01's. Its span is left out: nothing goes by it.
unfoldable pub use_of : PlacedUse → Use
use_of u = record { number = u.number; span = 0; kind = kind_number u.kind; in_closure = u.in_closure; found = Some u.node }

abbrev pub uses_in : List PlacedUse → List Use
uses_in us = map use_of us

-- a use of 01's without its span, at node 0 where it finds none
abbrev pub spanless : Use → Use
spanless u = record { number = u.number; span = 0; kind = u.kind; in_closure = u.in_closure; found = Some (node u) }

-- the use that a contract means at a place where no list has one
abbrev pub no_use : PlacedUse
no_use = record { number = 0; node = 0; local = 0; kind = Read; in_closure = false }

-- each use's node is below n
abbrev pub AllPlaced : ℕ → List PlacedUse → Type 0
AllPlaced n us = All (λ u. node_in u < n) us
