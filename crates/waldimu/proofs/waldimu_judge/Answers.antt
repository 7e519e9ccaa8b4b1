-- `waldimu::waldimu_judge` meets its contract: the word is that of the call's answer, the cuts are those of the word, and the columns are as the call leaves them. Assumes nothing.
use mathlib.Core.Path.{sym, ap, ◌∙◌, subst}
use Rattle.answer_words.specs.Words.{CountsFit, CountFields, counts_word}
use Rattle.judge.proofs.Promises.{told}
use Rattle.std.proofs.Common.{rules}
use Rattle.waldimu.proofs.Fits.{judge_fits, judge_for_c}
use Rattle.waldimu.proofs.waldimu_judge.Goals as goal

-- from where the columns came back, the place where the call has answered
pub judge_word-requires : goal.judge_word-requires
judge_word-requires c = subst CountsFit (sym (told c.judge.ensures.promise)) (judge_fits _ _ _ _)

pub returns : goal.returns
returns c = judge_for_c c.judge.ensures.promise c.judge_word.ensures (search rules)
