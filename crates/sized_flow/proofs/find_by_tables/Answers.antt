-- `sized_flow::find_by_tables` meets its contract: arrays of zeros are memory for the walks.
-- Assumes nothing.
use mathlib.Core.Path.{refl}
use Rattle.sized_flow.proofs.Columns.{walking_room}
use Rattle.sized_flow.proofs.find_by_tables.Goals as goal

pub list_findings-requires-clause-walks : goal.list_findings-requires-clause-walks
list_findings-requires-clause-walks g c = walking_room g.row.NODES c.requires.size.0 refl refl refl refl refl refl
