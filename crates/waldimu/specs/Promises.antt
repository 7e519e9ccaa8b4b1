-- What the calls for C promise: the word of what a call tells, what C code cuts out of that word, and what the call promises beside it.
-- Assumes nothing: these are definitions.
use Rattle.std.specs.Prelude.{ℕ, ◌≡◌, List}
use Rattle.flow.specs.Reachable.{run, chart}
use Rattle.flow.specs.Judge.{judge}
use Rattle.flow.specs.Labels.{label_check}
use Rattle.chart.specs.Lent.{Lent, chart_short}
use Rattle.chart_call.specs.Promises.{ChartPromise}
use Rattle.run.specs.Promises.{RunPromise}
use Rattle.judge.specs.Lent.{JudgePromise, JudgeLent, short}
use Rattle.answer_words.specs.Words.{counts_word, run_word, label_word, CountFields, RunFields, LabelFields}
use Rattle.flow.specs.Answers.{ChartAnswer, JudgeAnswer, RunAnswer}

pub record ChartForC (S : List ℕ) (r : ℕ) (l : Lent) : Type 0 where
  pub word : r ≡ counts_word (chart (chart_short l.before) S)
  pub fields : CountFields r (chart (chart_short l.before) S)
  pub answer : ChartAnswer
  pub promise : ChartPromise S answer l

pub record JudgeForC (S U C : List ℕ) (r : ℕ) (l : JudgeLent) : Type 0 where
  pub word : r ≡ counts_word (judge (short l) S U C)
  pub fields : CountFields r (judge (short l) S U C)
  pub answer : JudgeAnswer
  pub promise : JudgePromise S U C answer l

pub record RunForC (S : List ℕ) (o r : ℕ) : Type 0 where
  pub word : r ≡ run_word (run S o)
  pub fields : RunFields r (run S o)
  pub answer : RunAnswer
  pub promise : RunPromise S o answer

pub record LabelForC (S : List ℕ) (r : ℕ) : Type 0 where
  pub word : r ≡ label_word (label_check S)
  pub fields : LabelFields r (label_check S)
