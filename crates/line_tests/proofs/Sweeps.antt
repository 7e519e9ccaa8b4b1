-- The definition of refusal 6 as a sweep. Assumes nothing.
use Prim.Native.Nat.{ℕ}
use mathlib.Core.Bool.{cond, ◌&&◌}
use mathlib.Core.List.{List, ◌∷◌}
use mathlib.Core.Path.{◌≡◌}
use Rattle.flow.specs.Kinds.{is_code}
use Rattle.flow.specs.Refusals.{in_order, scopes_after, inside_scopes}
use Rattle.flow.specs.Sheet.{Item, kind, end_of, scope_end_of}
use Rattle.sweeps.proofs.Bools.{and_pairs}
use Rattle.sweeps.proofs.Sweep.{Sweep}
use Rattle.line_tests.specs.Turn.{starts_in_order, held_here}

-- 6, with where the last code ends and the scope ends around
pub lining_law : (p : ℕ) (ss : List ℕ) (i : Item) (is : List Item) → (in_order p (i ∷ is) && inside_scopes ss (i ∷ is)) ≡ (starts_in_order p i && held_here ss i && (in_order (cond (is_code i) (end_of i.span) p) is && inside_scopes (scopes_after (kind i) (scope_end_of i.word) ss) is))
unfolding in_order inside_scopes
lining_law p ss i is = and_pairs (starts_in_order p i) (in_order (cond (is_code i) (end_of i.span) p) is) (held_here ss i) (inside_scopes (scopes_after (kind i) (scope_end_of i.word) ss) is)

abbrev pub lining : Sweep
lining =
    record {
      State = ℕ × List ℕ;
      all = λ s is. in_order s.0 is && inside_scopes s.1 is;
      fits = λ s i. starts_in_order s.0 i && held_here s.1 i;
      after = λ s i. (cond (is_code i) (end_of i.span) s.0, scopes_after (kind i) (scope_end_of i.word) s.1);
      law = λ s i is. lining_law s.0 s.1 i is;
    }
