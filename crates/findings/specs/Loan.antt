-- The columns of findings and mark figures as they are lent together, and what they hold before and after.
-- Assumes nothing: these are definitions.
use Rattle.std.specs.Prelude.{◌≡◌}
use Rattle.findings.specs.declared.FoundColumns.{FoundColumns}
use Rattle.findings.specs.Accepted.{FindingColumns, FindingsLent}

-- the lists that stand in them
abbrev pub found_cells : FoundColumns → FindingColumns
found_cells f = record { word = f.word.now; span = f.span.now; mark = f.mark.now }

-- at a call's entry and at its exit
abbrev pub found_lent : FoundColumns → FoundColumns → FindingsLent
found_lent x y = record { before = found_cells x; after = found_cells y }

-- each is the same column still, so that who lent it finds there what was written
pub record SameFound (x y : FoundColumns) : Type 0 where
  pub word : y.word.ghost_name ≡ x.word.ghost_name
  pub span : y.span.ghost_name ≡ x.span.ghost_name
  pub mark : y.mark.ghost_name ≡ x.mark.ghost_name
