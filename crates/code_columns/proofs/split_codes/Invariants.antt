-- `code_columns::split_codes` meets its contract: at the loop's head the first k words are taken apart, and their starts are set.
-- Assumes nothing.
use Prim.Native.Nat.{ℕ}
use mathlib.Core.Path.{◌≡◌}
use mathlib.Core.List.{List}
use lib.ListN.{get_or, take}
use Rattle.cfg_edges.specs.Halves.{lo, hi}
use Rattle.cfg_steps.specs.Columns.{painted}
use Rattle.node_columns.proofs.Written.{Written}
use Rattle.code_columns.proofs.split_codes.Given as goal

abbrev pub span : List ℕ → ℕ → ℕ
span ss c = get_or ss (hi c) 0

abbrev pub invariant-loop-k : goal.invariant-loop-k
invariant-loop-k l = record {
  nodes : Written lo l.k l.initial.code_node l.initial.code_node l.code_node;
  code_spans : Written (span l.spans) l.k l.initial.code_node l.initial.code_span l.code_span;
  starts : l.start ≡ painted l.kinds l.spans (take l.k l.initial.code_node) l.initial.start;
}
