-- `waldimu::waldimu_chart` meets its contract: the word is that of the call's answer, the cuts are those of the word, and the columns are as the call leaves them. Assumes nothing.
use mathlib.Core.Path.{sym, subst}
use Rattle.answer_words.specs.Words.{CountsFit}
use Rattle.waldimu.proofs.Fits.{chart_fits}
use Rattle.waldimu.proofs.waldimu_chart.Goals as goal

-- from where the columns came back, the place where the call has answered
pub chart_word-requires : goal.chart_word-requires
chart_word-requires c = subst CountsFit (sym c.chart.ensures.promise.told) (chart_fits _ _)
