-- A scope's note, by that of its parent.
-- Assumes nothing.
use Rattle.std.specs.Prelude.{Option, Some, None}
use mathlib.Core.Path.{◌≡◌, sym, ap, ◌∙◌}
use mathlib.Core.Bool.{cond}
use mathlib.Core.List.{List}
use Prim.Native.Nat.{ℕ, zero, suc, ◌+◌, ◌*◌, ◌<◌}
use native.Mathlib.Omega.{arith}
use lib.ListN.{get_or}
use lib.Dec.{eqb}
use Rattle.flow.specs.Scopes.{FUNCTION, Lower}
use Rattle.crossing.specs.declared.Note.{Note}
use Rattle.crossing.specs.Tables.{function_over, here, up, NoteOf}
use Rattle.crossing.proofs.Tables.{over_trans}

module _ (kinds parents : List ℕ) (s : ℕ) where
  -- the nearest Function, where f is it above
  abbrev pub nearest : Option ℕ → Option ℕ
  nearest f = cond (eqb (get_or kinds s 0) FUNCTION) (Some s) f

  root_function : {f : Option ℕ} → get_or parents s 0 ≡ 0 → f ≡ nearest None → (k : ℕ) → s < k → f ≡ function_over k kinds parents s
  unfolding function_over
  root_function e g zero h = absurd (omega arith)
  root_function e g (suc k) h = g ∙ sym (rw e)

  pub note_root : {f : Option ℕ} → get_or parents s 0 ≡ 0 → f ≡ nearest None → NoteOf kinds parents s (record { function = f; jump = s; passed = 0 })
  note_root e g = record { function = root_function e g; jump = here; passed = omega arith }

  module _ (low : Lower parents) (p : ℕ) (e : get_or parents s 0 ≡ p + 1) where
    one_up : (k : ℕ) → function_over (suc k) kinds parents s ≡ nearest (function_over k kinds parents p)
    unfolding function_over
    one_up k = let z : get_or parents s 0 ≡ suc p = e ∙ omega arith in rw z

    up_function : {f : Option ℕ} {w : Note} → NoteOf kinds parents p w → f ≡ nearest w.function → (k : ℕ) → s < k → f ≡ function_over k kinds parents s
    up_function m g zero l = absurd (omega arith)
    up_function m g (suc k) l = g ∙ ap nearest (m.function k (omega (arith, low s))) ∙ sym (one_up k)

    -- to the parent
    pub note_up : {f : Option ℕ} {w : Note} → NoteOf kinds parents p w → f ≡ nearest w.function → NoteOf kinds parents s (record { function = f; jump = p; passed = 1 })
    note_up m g = record { function = up_function m g; jump = up e here; passed = omega (arith, low s) }

    -- past the parent's jump and the one behind it
    pub note_far : {f : Option ℕ} {w v : Note} → NoteOf kinds parents p w → NoteOf kinds parents w.jump v → w.passed ≡ v.passed → f ≡ nearest w.function → NoteOf kinds parents s (record { function = f; jump = v.jump; passed = 2 * w.passed + 1 })
    note_far m r q g = record { function = up_function m g; jump = up e (over_trans parents low m.jump r.jump); passed = omega (arith, low s, m.passed, r.passed) }
