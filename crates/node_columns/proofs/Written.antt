-- A loop that writes f of each word at its place: after i turns the column is f of the first i words, and past them as it was.
--     none      before the first turn
--     still     in the words' own column, the next word is still there
--     turn      f of the next word, stored at i
-- Assumes nothing.
use mathlib.Core.Path.{◌≡◌, refl, ap, ◌∙◌}
use mathlib.Core.List.{List, [], ◌∷◌, ◌++◌, map}
use Prim.Native.Nat.{ℕ, zero, suc, ◌+◌, ◌<◌}
use native.Mathlib.Nat.{not-suc-le-zero, le_of_suc-le-suc}
use native.Mathlib.Numerals.{add-one}
use lib.ListN.{length, get_or, set, take, drop, length-set}

-- the column `col`, which was `old`, when i of the words ws are passed
pub record Written (f : ℕ → ℕ) (i : ℕ) (ws old col : List ℕ) : Type 0 where
  pub long : length col ≡ length old
  pub cells : col ≡ map f (take i ws) ++ drop i old

pub none : {f : ℕ → ℕ} {ws old : List ℕ} → Written f 0 ws old old
none = record { long = refl; cells = refl }

module _ (f : ℕ → ℕ) where
  unread : (i : ℕ) (ws : List ℕ) → get_or (map f (take i ws) ++ drop i ws) i 0 ≡ get_or ws i 0
  unread zero ws = refl
  unread (suc i) [] = refl
  unread (suc i) (w ∷ ws) = unread i ws

  one_more : (i : ℕ) (ws old : List ℕ) → i < length ws → i < length old → set (map f (take i ws) ++ drop i old) i (f (get_or ws i 0)) ≡ map f (take (suc i) ws) ++ drop (suc i) old
  one_more i [] old h q = absurd (not-suc-le-zero h)
  one_more i (w ∷ ws) [] h q = absurd (not-suc-le-zero q)
  one_more zero (w ∷ ws) (x ∷ old) h q = refl
  one_more (suc i) (w ∷ ws) (x ∷ old) h q = ap (λ (t : List ℕ). f w ∷ t) (one_more i ws old (le_of_suc-le-suc h) (le_of_suc-le-suc q))

pub still : {g : ℕ → ℕ} {i : ℕ} {ws cur : List ℕ} → Written g i ws ws cur → get_or cur i 0 ≡ get_or ws i 0
still {g} {i} {ws} w = ap (λ (l : List ℕ). get_or l i 0) w.cells ∙ unread g i ws

pub turn : {f g : ℕ → ℕ} {i : ℕ} {ws old cur col new : List ℕ} → Written g i ws ws cur → Written f i ws old col → i < length ws → i < length old
    → new ≡ set col i (f (get_or cur i 0)) → Written f (i + 1) ws old new
turn {f} {g} {i} {ws} {old} {cur} {col} w v h q e = record {
  long = ap length e ∙ length-set col i (f (get_or cur i 0)) ∙ v.long;
  cells = rw (e, v.cells, still w, add-one) (one_more f i ws old h q);
}
