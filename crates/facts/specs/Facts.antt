-- What the passes over locals need of a NAME: its flags, whether it has a value, and whether its uses are found.
-- Assumes nothing: these are definitions.
use Rattle.std.specs.Prelude.{ℕ, ◌<◌, ◌≡◌, Bool, true, false, ◌&&◌, ◌||◌, not, List, get_or}
use Rattle.flow.specs.Locals.{Local, underscore, modified, captured, no_value, writes_judged, tracked}
use Rattle.facts.specs.declared.NameFacts.{NameFacts}

-- "argument 0 to 7: 1 begins with underscore, 2 modified, 4 captured", whether it has a value, and whether each use of it finds a node
abbrev pub facts_with : Local → Bool → NameFacts
facts_with l found = record { underscore = underscore l; modified = modified l; captured = captured l; has_value = not (no_value l); all_found = found }

abbrev pub facts_of : Local → NameFacts
facts_of l = facts_with l true

-- a local's walk is due: it is tracked, its uses are found, and it has no value
abbrev pub is_due : Local → Bool → Bool
is_due l found = tracked l && found && no_value l

-- a local's values are judged: it is tracked, its uses are found, and it is modified and not captured
abbrev pub is_judged : Local → Bool → Bool
is_judged l found = tracked l && found && writes_judged l

-- the same of the facts
abbrev pub judges_writes : NameFacts → Bool
judges_writes f = f.modified && not f.captured

abbrev pub tracks : NameFacts → Bool
tracks f = not f.underscore && (not f.has_value || judges_writes f)

abbrev pub dues : NameFacts → Bool
dues f = tracks f && f.all_found && not f.has_value

abbrev pub judges : NameFacts → Bool
judges f = tracks f && f.all_found && judges_writes f

-- the facts that a contract means at a place where no list has some
abbrev pub no_facts : NameFacts
no_facts = record { underscore = false; modified = false; captured = false; has_value = false; all_found = false }

-- the first cells are the facts of the locals that l gives
abbrev pub FactsOf : (ℕ → Local) → ℕ → List NameFacts → Type 0
FactsOf l names facts = (ℓ : ℕ) → ℓ < names → get_or facts ℓ no_facts ≡ facts_of (l ℓ)

-- none of the first k locals passes a test
abbrev pub None : (Local → Bool → Bool) → ℕ → List NameFacts → Type 0
None test k facts = (ℓ : ℕ) → ℓ < k → (l : Local) (found : Bool) → get_or facts ℓ no_facts ≡ facts_with l found → test l found ≡ false
