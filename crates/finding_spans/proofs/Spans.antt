-- One more span written.
-- Assumes nothing.
use Prim.Native.Nat.{ℕ, suc, ◌+◌, ◌<◌}
use mathlib.Core.Path.{◌≡◌, sym, ap, ◌∙◌}
use mathlib.Core.List.{List, [], ◌∷◌, ◌++◌, map, map-append, append_assoc}
use native.Mathlib.Omega.{arith}
use native.Mathlib.Numerals.{add-one}
use lib.ListN.{length, get_or, set, take, drop, length-map}
use lib.Seq.{take-suc, drop-cons, set_at, length-take-le}

pub written_next : (f : ℕ → ℕ) (ws old : List ℕ) (i : ℕ) → i < length ws → i < length old → set (map f (take i ws) ++ drop i old) i (f (get_or ws i 0)) ≡ map f (take (i + 1) ws) ++ drop (i + 1) old
written_next f ws old i h l =
    let done : List ℕ = map f (take i ws) in
    let here : ℕ = f (get_or ws i 0) in
    let count : length done ≡ i = length-map (take i ws) f ∙ length-take-le i ws (omega arith) in
    rw (add-one i)
    (ap (λ (rest : List ℕ). set (done ++ rest) i here) (drop-cons old i 0 l) ∙ set_at done (get_or old i 0) (drop (suc i) old) here i count
    ∙ sym (append_assoc done (here ∷ []) (drop (suc i) old))
    ∙ ap (λ (front : List ℕ). front ++ drop (suc i) old) (sym (ap (map f) (take-suc ws i 0 h) ∙ map-append f (take i ws) (get_or ws i 0 ∷ []))))
