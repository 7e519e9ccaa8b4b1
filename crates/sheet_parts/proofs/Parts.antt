-- A sheet that is counted right. A sheet has h words before its arrays: 2, a use sheet 1. Assumes nothing.
use Prim.Native.Nat.{ℕ, ◌≤◌}
use mathlib.Core.Bool.{false}
use mathlib.Core.List.{List}
use mathlib.Core.Path.{◌≡◌}
use native.Mathlib.Omega.{arith}
use lib.ListN.{length}
use Rattle.std.specs.Prelude.{Ok}
use Rattle.flow.specs.Refusals.{miscount, sheet_verdict}
use Rattle.flow.proofs.Tests.{counted as counted-right, sheet_passed}
use Rattle.sheet_parts.specs.Parts.{Counted}

pub counted : (h : ℕ) (ws : List ℕ) → miscount h ws ≡ false → Counted h ws
counted h ws e = let c = counted-right h ws e in record { few = c.1; long = c.0 }

pub counted_sheet : (ws : List ℕ) → sheet_verdict false ws ≡ Ok tt → Counted 2 ws
counted_sheet ws e = let p = sheet_passed false ws e in record { few = p.few; long = p.words }

pub two_words : (ws : List ℕ) → sheet_verdict false ws ≡ Ok tt → 2 ≤ length ws
two_words ws e = omega (arith, (counted_sheet ws e).long)
