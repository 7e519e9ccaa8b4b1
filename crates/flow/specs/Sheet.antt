-- 01, "The sheet": its words, items, kinds, arguments and spans, and the use sheet.
-- Assumes nothing: these are definitions.
use Rattle.std.specs.Prelude.{Bool, true, false, ◌&&◌, ◌||◌, List, [], ◌∷◌, ℕ, ◌+◌, ◌/◌, ◌%◌, ◌^◌, take, drop, get_or, eqb}

-- All numbers are ℕ. These names say what a number is, where two could be swapped; kinds, arguments, offsets, scope ends, flags and counts are plain ℕ.
-- Letters, in these files, a list with an s behind: S a sheet, U a use sheet, w a word, i an item, s a span; k a kind or how many, a an argument or a name number, c a condition, e a scope end, p where a span ends or code starts, o an offset or what is open; b a block or a test, stmt a statement, st settings, t a condition's truth; g and h graphs, n a graph's nodes or names, v, x and y nodes, f what was found or a finding, l a label or a local, d a declaration, ℓ a local number, u a use number; r a refusal.
-- Otherwise: in Refusals.antt `outnumbered` counts openers o and closers c, and t is a test with its refusal; in Tree.antt f is a frame; in Answers.antt and Listing.antt a is an answer, c counts, t what is told and n any number; in Demand.antt w is a use number, and i and j are places in a list.
abbrev pub Word : Type 0
Word = ℕ

abbrev pub Span : Type 0
Span = ℕ

abbrev pub Node : Type 0
Node = ℕ

abbrev pub LocalNumber : Type 0
LocalNumber = ℕ

abbrev pub UseNumber : Type 0
UseNumber = ℕ

-- k is one of a list
abbrev pub member : ℕ → List ℕ → Bool
member k [] = false
member k (x ∷ xs) = eqb k x || member k xs

-- a test holds of each of a list
unfoldable pub all : {A : Type 0} → (A → Bool) → List A → Bool
all p [] = true
all p (x ∷ xs) = p x && all p xs

-- "Word 0 is n, the item count, 0 to 1,024. Word 1 is the outer block's scope end, below 2^32."
abbrev pub count_word : List Word → ℕ
count_word ws = get_or ws 0 0

abbrev pub outer_end : List Word → ℕ
outer_end S = get_or S 1 0

-- "Then two parallel arrays of n words; the two arrays are parts of one lent sheet."
abbrev pub kind_words : List Word → List Word
kind_words S = take (count_word S) (drop 2 S)

abbrev pub span_words : List Word → List Span
span_words S = take (count_word S) (drop (2 + count_word S) S)

-- "A first-array word is kind + 256 × argument."
abbrev pub kind_of : Word → ℕ
kind_of w = w % 256

abbrev pub argument_of : Word → ℕ
argument_of w = w / 256

-- "A second-array word is start + 2^32 × end, byte offsets"
abbrev pub start_of : Span → ℕ
start_of s = s % 2 ^ 32

abbrev pub end_of : Span → ℕ
end_of s = s / 2 ^ 32

-- The mark S: "argument = condition + 32 × scope end".
abbrev pub condition_of : Word → ℕ
condition_of w = argument_of w % 32

abbrev pub scope_end_of : Word → ℕ
scope_end_of w = argument_of w / 32

-- an item: its words of the two arrays
abbrev pub Item : Type 0
Item = record { word : Word; span : Span }

abbrev pub kind : Item → ℕ
kind i = kind_of i.word

abbrev pub zip : List Word → List Span → List Item
zip [] ss = []
zip (w ∷ ws) [] = []
zip (w ∷ ws) (s ∷ ss) = record { word = w; span = s } ∷ zip ws ss

abbrev pub items : List Word → List Item
items S = zip (kind_words S) (span_words S)

-- "A use sheet has word 0 = m, 0 to 1,024, then two parallel arrays"
abbrev pub use_words : List Word → List Word
use_words U = take (count_word U) (drop 1 U)

abbrev pub use_spans : List Word → List Span
use_spans U = take (count_word U) (drop (1 + count_word U) U)

-- "local number (order of NAME items) + 65,536 × (kind + 4 × crossing)"
abbrev pub local_of : Word → LocalNumber
local_of w = w % 65536

abbrev pub use_kind_of : Word → ℕ
use_kind_of w = w / 65536 % 4

abbrev pub crossing_of : Word → ℕ
crossing_of w = w / 65536 / 4
