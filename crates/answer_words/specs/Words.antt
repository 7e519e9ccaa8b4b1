-- How an answer crosses to C: as one word, made of what the answer tells; and the cuts of `include/waldimu.h`, which give back from the word what was told.
-- Assumes nothing: these are definitions.
use Rattle.std.specs.Prelude.{◌≡◌, ℕ, ◌+◌, ◌*◌, ◌/◌, ◌%◌, ◌^◌, ◌<◌, get_or}
use mathlib.Core.List.{List, [], ◌∷◌, tail}
use Rattle.flow.specs.Answers.{Told}

-- a value by its place; one that is not there counts 0
abbrev pub value : Told → ℕ → ℕ
value t i = get_or t.values i 0

-- a node that may be there: the node + 1, or 0 for none
abbrev pub or_none : List ℕ → ℕ
or_none [] = 0
or_none (v ∷ vs) = v + 1

-- run's node, which follows its yes
abbrev pub run_node : Told → ℕ
run_node t = or_none (tail t.values)

-- ---- the words: in each the number from bit 0 on, which a refusal alone has

-- chart and judge: nodes from bit 4 on, codes from bit 16, names from bit 32, findings from bit 48
abbrev pub counts_word : Told → ℕ
counts_word t = t.number + 2 ^ 4 * value t 0 + 2 ^ 16 * value t 1 + 2 ^ 32 * value t 2 + 2 ^ 48 * value t 3

-- run: yes at bit 4, from bit 32 on the node
abbrev pub run_word : Told → ℕ
run_word t = t.number + 2 ^ 4 * value t 0 + 2 ^ 32 * run_node t

-- the label check: yes at bit 4
abbrev pub label_word : Told → ℕ
label_word t = t.number + 2 ^ 4 * value t 0

-- values that leave each other their bits
pub record CountsFit (t : Told) : Type 0 where
  pub nodes : value t 0 < 2 ^ 12
  pub codes : value t 1 < 2 ^ 16
  pub names : value t 2 < 2 ^ 16
  pub findings : value t 3 < 2 ^ 16

-- ---- what C code cuts out of a word: a shift by k bits is `/ 2 ^ k`, a mask of k bits `% 2 ^ k`. Together the cuts of a word hold all its bits.

pub record CountFields (r : ℕ) (t : Told) : Type 0 where
  pub number : r % 2 ^ 4 ≡ t.number
  pub nodes : r / 2 ^ 4 % 2 ^ 12 ≡ value t 0
  pub codes : r / 2 ^ 16 % 2 ^ 16 ≡ value t 1
  pub names : r / 2 ^ 32 % 2 ^ 16 ≡ value t 2
  pub findings : r / 2 ^ 48 ≡ value t 3

pub record RunFields (r : ℕ) (t : Told) : Type 0 where
  pub number : r % 2 ^ 4 ≡ t.number
  pub yes : r / 2 ^ 4 % 2 ≡ value t 0
  pub unused : r / 2 ^ 5 % 2 ^ 27 ≡ 0
  pub node : r / 2 ^ 32 ≡ run_node t

pub record LabelFields (r : ℕ) (t : Told) : Type 0 where
  pub number : r % 2 ^ 4 ≡ t.number
  pub yes : r / 2 ^ 4 % 2 ≡ value t 0
  pub unused : r / 2 ^ 5 ≡ 0
