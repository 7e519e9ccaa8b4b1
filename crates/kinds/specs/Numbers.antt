-- The numbers of the kinds, as a word has them.
-- Assumes nothing: these are definitions.
use Rattle.std.specs.Prelude.{◌≡◌, ◌<◌, ◌⊎◌, ℕ, Option, Some, None, MatchOption}
use Rattle.kinds.specs.declared.Kind.{Kind}
use Rattle.kinds.specs.declared.Kind.TheVariants.{Do, While, Repeat, For, If, ElseIf, Else, End, Until, Local, Name, Label, Goto, Break, Continue, Return, Call, Plain, Empty}

-- "A first-array word is kind + 256 × argument": 01's table, its column of kinds
abbrev pub kind_number : Kind → ℕ
kind_number Do = 1
kind_number While = 2
kind_number Repeat = 3
kind_number For = 4
kind_number If = 5
kind_number ElseIf = 6
kind_number Else = 7
kind_number End = 8
kind_number Until = 9
kind_number Local = 10
kind_number Name = 11
kind_number Label = 12
kind_number Goto = 13
kind_number Break = 14
kind_number Continue = 15
kind_number Return = 16
kind_number Call = 17
kind_number Plain = 18
kind_number Empty = 19

-- 0, which is no kind's, where there is none
abbrev pub number_or_none : Option Kind → ℕ
number_or_none None = 0
number_or_none (Some k) = kind_number k

-- the kind that a number stands for, or none where the table lacks it
abbrev pub Decoded : ℕ → Option Kind → Type 0
Decoded n r = MatchOption r ((n ≡ 0) ⊎ (19 < n)) (λ k. kind_number k ≡ n)
