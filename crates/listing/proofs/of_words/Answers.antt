-- `listing::of_words` meets its contract.
-- Assumes nothing.
use mathlib.Core.Path.{◌≡◌}
use mathlib.Core.List.{List}
use Prim.Native.Nat.{ℕ, ◌-◌}
use native.Mathlib.Omega.{arith}
use lib.ListN.{length, take, drop, length-drop}
use lib.Seq.{take_all}
use Rattle.file_words.proofs.Split.{parts}
use Rattle.listing.proofs.of_words.Goals as goal

-- the words from the sheet's end on are all that follow it
rest : (ws : List ℕ) (end : ℕ) → take (length ws - end) (drop end ws) ≡ drop end ws
rest ws end = take_all (length ws - end) (drop end ws) (omega (arith, length-drop end ws))

pub returns : goal.returns
returns c = rw (parts c.args.words.now c.sheet_end-end.ensures, ← rest c.args.words.now c.sheet_end-end.result) c.of_sheets.ensures
