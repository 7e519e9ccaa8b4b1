-- `cfg::of_block` meets its contract: the outermost block from the entry, whose end goes to End.
-- Assumes nothing.
use Rattle.std.proofs.Common.{rules}
use Rattle.cfg.proofs.Sheets.{whole, whole_as}
use Rattle.cfg.proofs.of_block.Goals as goal

pub returns : goal.returns
returns c = λ ss e. let sc = c.scoped_block.ensures.built ss e in whole_as (search rules) (whole _ _ _ _ _ c.start_nodes.ensures _ ss _ sc (c.close_into.ensures.built c.args.kinds.now sc.moved.good))
