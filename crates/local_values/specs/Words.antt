-- What is listed of one local's values: the words of its overwritten initial value and writes.
-- Assumes nothing: these are definitions.
use Rattle.std.specs.Prelude.{ℕ, ◌+◌, Bool, ◌&&◌, List, [], ◌∷◌, ◌++◌, map, get_or, drop}
use Rattle.flow.specs.Graph.{Graph}
use Rattle.flow.specs.Locals.{Declaration, only_if, finding_word}
use Rattle.flow.specs.Findings.{Use, Ahead, ahead, is_overwritten, is_overwritten_unread}
use Rattle.use_words.specs.declared.PlacedUse.{PlacedUse}
use Rattle.use_words.specs.Words.{use_of, uses_in, no_use}
use Rattle.uses_by_node.specs.Uses.{overwritten_in}

-- the word of an overwritten write
abbrev pub write_word : ℕ → Use → ℕ
write_word ℓ u = finding_word 1 ℓ (u.number + 1)

-- the local ℓ's initial value, set at the node v, if it has one
abbrev pub initial_words : ℕ → Bool → Graph → Ahead → ℕ → List ℕ
initial_words ℓ has g a v = only_if (has && is_overwritten_unread g a v) (finding_word 1 ℓ 0 ∷ [])

-- its writes, with the uses by node
abbrev pub write_words : ℕ → Graph → Ahead → List Use → List ℕ
write_words ℓ g a us = map (write_word ℓ) (overwritten_in g a us)

abbrev pub value_words : ℕ → Bool → Graph → Ahead → ℕ → List Use → List ℕ
value_words ℓ has g a v us = initial_words ℓ has g a v ++ write_words ℓ g a us

-- by what is ahead of its uses
abbrev pub judged_words : ℕ → Bool → Graph → Declaration → List Use → List ℕ
judged_words ℓ has g d us = value_words ℓ has g (ahead g d us) d.node us

-- of the use at place i of a column of uses by node, if it is a write that is overwritten
abbrev pub write_words_at : ℕ → Graph → Ahead → List PlacedUse → ℕ → List ℕ
write_words_at ℓ g a ws i =
    let u = use_of (get_or ws i no_use) in
    map (write_word ℓ) (only_if (is_overwritten g a u (uses_in (drop (i + 1) ws))) (u ∷ []))
