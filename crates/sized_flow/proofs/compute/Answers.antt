-- `sized_flow::compute` meets its contract: arrays of zeros are memory for the tables, and these are those of the pair.
-- Assumes nothing.
use mathlib.Core.Path.{refl}
use Rattle.sized_flow.proofs.Columns.{pair, tables_room}
use Rattle.sized_flow.proofs.compute.Goals as goal

pub make_tables-requires-clause-room : goal.make_tables-requires-clause-room
make_tables-requires-clause-room g c =
    let q = c.requires.sizes in
    tables_room _ g.row.NODES g.row.USES q.1 q.2 q.0 q.3 refl refl refl

pub find_by_tables-requires-clause-any_pair : goal.find_by_tables-requires-clause-any_pair
find_by_tables-requires-clause-any_pair g c =
    let q = c.requires.any_given in
    (q.0, q.1, pair q.2 _ _ refl refl c.make_tables.auto.facts (c.make_tables.ensures.makes q.0 q.1 q.2.columns.sources q.2.facts_are))

pub returns : goal.returns
returns g c = λ S U q.
    let f = c.find_by_tables.ensures S U (pair q _ _ refl refl c.make_tables.auto.facts (c.make_tables.ensures.makes S U q.columns.sources q.facts_are)) in
    (f.0, rw c.make_tables.auto.facts at f.1)
