-- A refusal's word is its number, and no other bit is set: the laws of docs/DECISIONS.md 52. The check itself finds every goal of the crate.
-- Assumes nothing.
use mathlib.Core.Path.{◌≡◌}
use mathlib.Core.List.{[]}
use Prim.Native.Nat.{ℕ, ◌≤◌}
use native.Mathlib.Omega.{arith}
use Rattle.flow.specs.Answers.{told}
use Rattle.answer_words.specs.Words.{counts_word, run_word, label_word, CountFields, RunFields, LabelFields}

module _ (k r : ℕ) (e : r ≡ k) (h : r ≤ 15) where
  pub refused_counts : (r ≡ counts_word (told k [])) × CountFields r (told k [])
  refused_counts = (omega arith, record { number = omega arith; nodes = omega arith; codes = omega arith; names = omega arith; findings = omega arith })

  pub refused_run : (r ≡ run_word (told k [])) × RunFields r (told k [])
  refused_run = (omega arith, record { number = omega arith; yes = omega arith; unused = omega arith; node = omega arith })

  pub refused_label : (r ≡ label_word (told k [])) × LabelFields r (told k [])
  refused_label = (omega arith, record { number = omega arith; yes = omega arith; unused = omega arith })
