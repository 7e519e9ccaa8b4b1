-- Bytes appended to an output.
--     nothing     before the first byte
--     one         a byte
--     both        one text after another
--     same-long   the output keeps its length
--     then-room   the room that is left
--     printed     into an output where nothing was printed
--     Left        a text of which a rest is still to be appended: `begin`, `next`, `done`
-- Assumes nothing.
use mathlib.Core.Path.{◌≡◌, refl, sym, ap, ◌∙◌}
use mathlib.Core.List.{List, [], ◌∷◌, ◌++◌, append_assoc, append-nil}
use Prim.Native.Nat.{ℕ, ◌+◌, ◌≤◌}
use native.Mathlib.Nat.{add-zero, zero-add, add_assoc}
use native.Mathlib.Numerals.{add-one}
use native.Mathlib.Omega.{arith}
use lib.ListN.{length, take, drop, set, length-append, length-drop, take-append-drop}
use lib.Seq.{length-take-le, take_at, drop-append-add, drop-drop, set_split}
use Rattle.line_writer.specs.declared.Output.{Output}
use Rattle.line_writer.specs.Output.{Room, Appended, HasRoom, Appends, Printed}

pub nothing : {at : ℕ} {old : List ℕ} → Appended [] at old old at
nothing {at} {old} = record { ends = sym (add-zero at); cells = rw (add-zero, append-nil) (sym (take-append-drop at old)) }

pub one : {at b : ℕ} {old : List ℕ} → Room (b ∷ []) at old → Appended (b ∷ []) at old (set old at b) (at + 1)
one {at} {b} {old} h = record { ends = refl; cells = rw (add-one, append_assoc) (set_split old at b (omega (arith, h.fits))) }

-- the room for two texts is room for the first
pub first_room : (xs ys : List ℕ) {at : ℕ} {old : List ℕ} → Room (xs ++ ys) at old → Room xs at old
first_room xs ys h = record { fits = omega (arith, simp length-append at h.fits) }

module _ {xs : List ℕ} {at : ℕ} {old mid : List ℕ} {m : ℕ} (h : Room xs at old) (p : Appended xs at old mid m) where
  head_long : length (take at old ++ xs) ≡ at + length xs
  head_long = rw (length-append, length-take-le at old (omega arith))

  pub same_long : length mid ≡ length old
  same_long = rw (p.cells, length-append, head_long, length-drop) (omega arith)

  pub then_room : (ys : List ℕ) → Room (xs ++ ys) at old → Room ys m mid
  then_room ys r = record { fits = rw (same_long, p.ends) (omega (arith, simp length-append at r.fits)) }

  front : take (at + length xs) (take at old ++ xs ++ drop (at + length xs) old) ≡ take at old ++ xs
  front = take_at (take at old ++ xs) (drop (at + length xs) old) (at + length xs) head_long

  behind : (n : ℕ) → drop (at + length xs + n) (take at old ++ xs ++ drop (at + length xs) old) ≡ drop (at + length xs + n) old
  behind n =
      ap (λ (k : ℕ). drop (k + n) (take at old ++ xs ++ drop (at + length xs) old)) (sym head_long)
      ∙ drop-append-add (take at old ++ xs) (drop (at + length xs) old) n
      ∙ drop-drop n (at + length xs) old

  pub both : {ys new : List ℕ} {next : ℕ} → Appended ys m mid new next → Appended (xs ++ ys) at old new next
  both {ys} q = record {
    ends = rw (q.ends, p.ends, length-append, add_assoc);
    cells = q.cells ∙ rw (p.ends, p.cells, length-append, front, behind (length ys)) (simp (append_assoc, add_assoc));
  }

-- in bytes that were `old` and are left as `new`
pub printed : {xs old new : List ℕ} (start end : Output) → Appends xs start end → start.len ≡ 0 → start.bytes.now ≡ old → new ≡ end.bytes.now → Printed xs old new end.len
printed start end p z o n = record { count = rw (z, zero-add) at p.ends; cells = n ∙ rw (z, o, zero-add) at p.cells }

-- the output holds all of it
pub within : {xs old new : List ℕ} {r : ℕ} → Printed xs old new r → r ≤ length new
within p = rw (p.count, p.cells, length-append) (omega arith)

-- of `all`, begun at `start`, `rest` is left to append
pub record Left (all rest : List ℕ) (start mid : Output) : Type 0 where
  pub room : HasRoom rest mid
  pub whole : (end : Output) → Appends rest mid end → Appends all start end

pub begin : {all : List ℕ} {start : Output} → HasRoom all start → Left all all start start
begin r = record { room = r; whole = λ end a. a }

module _ {all : List ℕ} {start mid : Output} where
  pub next : (xs ys : List ℕ) {after : Output} → Left all (xs ++ ys) start mid → Appends xs mid after → Left all ys start after
  next xs ys p q =
      let r = first_room xs ys p.room in
      record { room = then_room r q ys p.room; whole = λ end a. p.whole end (both r q a) }

  pub done : Left all [] start mid → Appends all start mid
  done p = p.whole mid nothing
