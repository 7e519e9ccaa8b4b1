-- What a code's word must name, so that it can be taken apart.
-- Assumes nothing: these are definitions.
use Rattle.std.specs.Prelude.{List, ℕ, ◌<◌, length}
use Rattle.cfg_edges.specs.Halves.{lo, hi}

-- its node is one of n, and its item has a kind and a span
pub record CodeWithin (n : ℕ) (ks ss : List ℕ) (c : ℕ) : Type 0 where
  pub node : lo c < n
  pub kind : hi c < length ks
  pub span : hi c < length ss
