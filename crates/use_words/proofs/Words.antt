-- A column of placed uses is a list of uses.
-- Assumes nothing.
use Prim.Native.Nat.{ℕ, ◌+◌, ◌<◌}
use mathlib.Core.Path.{◌≡◌, refl, ap}
use mathlib.Core.Bool.{Bool, true, false, ◌&&◌}
use mathlib.Core.List.{List, ◌∷◌}
use native.Mathlib.Omega.{arith}
use native.Mathlib.Numerals.{add-one}
use borrow.Author.Tests.{eq-eqb, ne_eqb}
use lib.Dec.{eqb}
use lib.ListN.{length, get_or, drop, length-drop}
use lib.Seq.{drop-cons, get_or-drop}
use Rattle.std.specs.Prelude.{Some}
use Rattle.flow.specs.Sheet.{local_of, use_kind_of, crossing_of}
use Rattle.flow.specs.Findings.{Use, node}
use Rattle.flow.proofs.OwnUses.{Renumbers}
use Rattle.use_words.specs.declared.PlacedUse.{PlacedUse}
use Rattle.use_words.specs.declared.UseKind.{UseKind}
use Rattle.use_words.specs.Words.{kind_number, node_in, use_of, uses_in, spanless, no_use, AllPlaced}

-- ---- what a use is made of

-- at a node, of a word of the use sheet
module _ (number place word : ℕ) (captured : Bool) (kind : UseKind) (k : kind_number kind ≡ use_kind_of word) where
  abbrev placed : Bool → PlacedUse
  placed closure = record { number = number; node = place; local = local_of word; kind = kind; in_closure = closure }

  abbrev meant : Use
  meant = record { number = number; span = 0; kind = use_kind_of word; in_closure = captured && eqb (crossing_of word) 1; found = Some place }

  pub use_packed : {closure : Bool} → closure ≡ (captured && eqb (crossing_of word) 1) → use_of (placed closure) ≡ meant
  unfolding use_of
  use_packed e = λ i. record { number = number; span = 0; kind = k i; in_closure = e i; found = Some place }

  pub use_inside : captured ≡ true → crossing_of word ≡ 1 → use_of (placed true) ≡ meant
  use_inside t q = use_packed (rw (t, eq-eqb (crossing_of word) 1 q) refl)

  pub use_uncrossed : captured ≡ true → (crossing_of word ≡ 1 → ⊥) → use_of (placed false) ≡ meant
  use_uncrossed t q = use_packed (rw (t, ne_eqb (crossing_of word) 1 q) refl)

  pub use_uncaptured : captured ≡ false → use_of (placed false) ≡ meant
  use_uncaptured t = use_packed (rw t refl)

-- ---- what a use tells

pub node_is : (u : PlacedUse) → node (use_of u) ≡ node_in u
unfolding use_of
node_is u = refl

-- spans are of no account
pub spanless_renumbers : Renumbers spanless
spanless_renumbers = record { kinds = λ u. refl; closures = λ u. refl; nodes = λ u. refl }

-- ---- a column of words

-- those from place i on begin with the one at i
pub uses_next : (us : List PlacedUse) (i : ℕ) → i < length us → uses_in (drop i us) ≡ use_of (get_or us i no_use) ∷ uses_in (drop (i + 1) us)
uses_next us i h = rw (add-one i) (ap uses_in (drop-cons us i no_use h))

pub placed_drop : (n k : ℕ) (us : List PlacedUse) → AllPlaced n us → AllPlaced n (drop k us)
placed_drop n k us p i d h = rw (get_or-drop k us i d) (p (k + i) d (omega (arith, length-drop k us)))
