-- An admitted sheet's kinds are as `labels_fine` asks, and its answer is `labels_fine` of the sheet.
-- Assumes nothing.
use mathlib.Core.Path.{◌≡◌, refl, sym, ◌∙◌}
use mathlib.Core.Bool.{Bool, false}
use mathlib.Core.List.{List, [], ◌∷◌}
use Prim.Native.Nat.{ℕ, ◌-◌}
use native.Mathlib.Omega.{arith}
use lib.ListN.{length}
use Rattle.std.specs.Prelude.{Ok}
use Rattle.flow.specs.Sheet.{Item, kind_words, span_words, zip}
use Rattle.flow.specs.Refusals.{sheet_verdict}
use Rattle.flow.specs.Tree.{Frame, Open, outer, in_front, opened, parse, tree}
use Rattle.flow.specs.Labels.{labels_fine}
use Rattle.flow.specs.Admitted.{AdmittedSheet}
use Rattle.flow.proofs.Tests.{sheet_passed}
use Rattle.flow.proofs.Nesting.{Parsed, nothing, opening, ending, until, an_elseif, an_else, plain, parsed, pairs_kinds}
use Rattle.flow.proofs.Admission.{admitted}
use Rattle.label_check.specs.Walk.{whole_fine, Checkable}

outer_less : (o : Open) → length (outer o).below ≡ length o.below - 1
outer_less o = go o.below
  where
    go : (fs : List Frame) → length (outer (record { top = o.top; below = fs })).below ≡ length fs - 1
    go [] = omega arith
    go (f ∷ fs) = omega arith

-- with the kinds os open, as many blocks are open
open_blocks : {os : List ℕ} {is : List Item} {o : Open} → Parsed os is o → length o.below ≡ length os
unfolding in_front opened
open_blocks nothing = refl
open_blocks (opening {o = o} m p) = omega (arith, outer_less o, open_blocks p)
open_blocks (ending e n p) = omega (arith, open_blocks p)
open_blocks (until e p) = omega (arith, open_blocks p)
open_blocks (an_elseif {o = o} e p) = omega (arith, outer_less o, open_blocks p)
open_blocks (an_else {o = o} e p) = omega (arith, outer_less o, open_blocks p)
open_blocks (plain h p) = open_blocks p

-- no frame is left (`none_open`)
none_open : (fs : List Frame) → length fs ≡ 0 → fs ≡ []
none_open [] q = refl
none_open (f ∷ fs) q = absurd (omega arith)

module _ (S : List ℕ) (e : sheet_verdict false S ≡ Ok tt) where
  sheet : AdmittedSheet S
  sheet = admitted S e

  as_many : length (span_words S) ≡ length (kind_words S)
  as_many = sheet.spans ∙ sym sheet.kinds

  closed : (ts : List ℕ) → length ts ≡ length (kind_words S) → (parse (zip (kind_words S) ts)).below ≡ []
  closed ts f =
      none_open _ (open_blocks (parsed [] (zip (kind_words S) ts) tt (pairs_kinds (kind_words S) ts (span_words S) [] f as_many ∙ (sheet_passed false S e).pairs)))

  module _ (ks : List ℕ) (k : ks ≡ kind_words S) where
    pub checkable : Checkable ks
    checkable = rw k (record { few = omega (arith, sheet.kinds, sheet.few); tidy = sheet.tidy; closed = closed })

    -- what `labels_fine` ensures of its answer r
    pub labels_fine_law : (r : Bool) → ((ss : List ℕ) → length ss ≡ length ks → r ≡ whole_fine (tree (zip ks ss))) → r ≡ labels_fine S
    unfolding labels_fine
    labels_fine_law r h = (rw k at h) (span_words S) as_many
