-- `waldimu::waldimu_run` meets its contract: the word is that of the call's answer, and the cuts are those of the word. Assumes nothing.
use mathlib.Core.Path.{sym, subst}
use Prim.Native.Nat.{◌<◌, ◌^◌}
use Rattle.flow.specs.Answers.{Told}
use Rattle.answer_words.specs.Words.{run_node}
use Rattle.waldimu.proofs.Fits.{run_fits}
use Rattle.waldimu.proofs.waldimu_run.Goals as goal

pub run_word-requires : goal.run_word-requires
run_word-requires c = subst (λ (t : Told). run_node t < 2 ^ 32) (sym c.run.ensures.told) (run_fits _ _)
