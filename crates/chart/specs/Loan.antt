-- A chart's columns as they are lent together, and what they hold before and after.
-- Assumes nothing: these are definitions.
use Rattle.std.specs.Prelude.{◌≡◌}
use Rattle.chart.specs.declared.ChartColumns.{ChartColumns}
use Rattle.chart.specs.declared.ChartMemory.{ChartMemory}
use Rattle.chart.specs.Lent.{Columns, columns, Lent}

-- the lists that stand in them
abbrev pub cells : ChartColumns → Columns
cells c = columns c.first.now c.second.now c.start.now c.reachable.now c.code_span.now c.code_node.now c.name_span.now c.name_node.now c.name_end.now

-- those of memory that can be lent
abbrev pub memory_cells : ChartMemory → Columns
memory_cells m = columns m.first m.second m.start m.reachable m.code_span m.code_node m.name_span m.name_node m.name_end

-- at a call's entry and at its exit
abbrev pub chart_lent : ChartColumns → ChartColumns → Lent
chart_lent x y = record { before = cells x; after = cells y }

-- each is the same column still, so that who lent it finds there what was written
pub record SameColumns (x y : ChartColumns) : Type 0 where
  pub first : y.first.ghost_name ≡ x.first.ghost_name
  pub second : y.second.ghost_name ≡ x.second.ghost_name
  pub start : y.start.ghost_name ≡ x.start.ghost_name
  pub reachable : y.reachable.ghost_name ≡ x.reachable.ghost_name
  pub code_span : y.code_span.ghost_name ≡ x.code_span.ghost_name
  pub code_node : y.code_node.ghost_name ≡ x.code_node.ghost_name
  pub name_span : y.name_span.ghost_name ≡ x.name_span.ghost_name
  pub name_node : y.name_node.ghost_name ≡ x.name_node.ghost_name
  pub name_end : y.name_end.ghost_name ≡ x.name_end.ghost_name
