-- 01, "The printed sheet": what flowlist prints, as bytes.
-- Assumes nothing: these are definitions.
use Rattle.std.specs.Prelude.{false, cond, List, [], ◌∷◌, ◌++◌, ℕ, zero, suc, ◌+◌, ◌*◌, ◌-◌, ◌/◌, ◌%◌, ◌^◌, length, take, drop, get_or, eqb, ltb}
use Prim.Native.String.{String, len, char_at}
use Prim.Native.Char.{code}
use Rattle.flow.specs.declared.Refusal.TheVariants.{Miscount}
use Rattle.flow.specs.Sheet.{Word, count_word, start_of, end_of}
use Rattle.flow.specs.Refusals.{number}
use Rattle.flow.specs.Answers.{Told}
use Rattle.flow.specs.Graph.{graph}
use Rattle.flow.specs.Reachable.{reachable}
use Rattle.flow.specs.Locals.{Finding}
use Rattle.flow.specs.Findings.{findings}
use Rattle.flow.specs.Judge.{judge}

-- the bytes of a text, of which the first k
abbrev pub first_bytes : ℕ → String → List ℕ
first_bytes zero text = []
first_bytes (suc k) text = first_bytes k text ++ (code (char_at text k) ∷ [])

abbrev pub bytes : String → List ℕ
bytes text = first_bytes (len text) text

-- a number in decimal, of at most k digits
unfoldable pub digits : ℕ → ℕ → List ℕ
digits zero n = []
digits (suc k) n = cond (ltb n 10) [] (digits k (n / 10)) ++ ((48 + n % 10) ∷ [])

-- 20 digits hold every 64-bit number
abbrev pub decimal : ℕ → List ℕ
decimal n = digits 20 n

-- a line: its word and its numbers
unfoldable pub numbers : List ℕ → List ℕ
numbers [] = 10 ∷ []
numbers (n ∷ ns) = 32 ∷ decimal n ++ numbers ns

abbrev pub line : String → List ℕ → List ℕ
line word ns = bytes word ++ numbers ns

-- "`unassigned LOCAL USE START END` and `overwritten LOCAL START END`", by the finding's list
unfoldable pub finding_line : Finding → List ℕ
finding_line f =
    cond (eqb (f.word % 2) 0)
    (line "unassigned" (f.word / 2 % 2 ^ 31 ∷ (f.word / 2 ^ 32 - 1) ∷ start_of f.span ∷ end_of f.span ∷ []))
    (line "overwritten" (f.word / 2 % 2 ^ 31 ∷ start_of f.span ∷ end_of f.span ∷ []))

unfoldable pub finding_lines : List Finding → List ℕ
finding_lines [] = []
finding_lines (f ∷ fs) = finding_line f ++ finding_lines fs

-- "`graph NODES CODES LOCALS`, `exits` with five 0/1 flags", then the findings: by judge's values, the reachable flags and the findings
unfoldable pub report : List ℕ → List ℕ → List Finding → List ℕ
report values flags fs = line "graph" (take 3 values) ++ line "exits" (take 5 flags) ++ finding_lines fs

-- "It prints `refused K` alone"
abbrev pub refused : ℕ → List ℕ
refused k = line "refused" (k ∷ [])

-- what judge tells, printed
abbrev pub printed_for : Told → List ℕ → List Finding → List ℕ
printed_for t flags fs = cond (eqb t.number 0) (report t.values flags fs) (refused t.number)

-- "In a file words are little-endian."
unfoldable pub little_endian : ℕ → List ℕ → ℕ
little_endian zero bs = 0
little_endian (suc k) bs = get_or bs 0 0 + 256 * little_endian k (drop 1 bs)

-- the first k words of a file
unfoldable pub file_words : ℕ → List ℕ → List Word
file_words zero bs = []
file_words (suc k) bs = little_endian 8 bs ∷ file_words k (drop 8 bs)

-- what a sheet and a use sheet print; the program takes no scope sheet, and its own columns are long enough, so that 1 is never printed
abbrev pub sheets_print : List Word → List Word → List ℕ
sheets_print S U = printed_for (judge false S U []) (reachable (graph S)) (findings S U)

-- a sheet of 2n + 2 words, and a use sheet of all others
unfoldable pub printed_words : List Word → List ℕ
printed_words ws = sheets_print (take (2 * count_word ws + 2) ws) (drop (2 * count_word ws + 2) ws)

-- "K is 2 for lost or spare bytes"
unfoldable pub printed : List ℕ → List ℕ
printed bs = cond (eqb (length bs % 8) 0) (printed_words (file_words (length bs / 8) bs)) (refused (number Miscount))
