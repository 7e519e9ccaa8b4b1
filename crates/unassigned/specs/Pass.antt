-- The pass over all locals: what its columns stand for, and what it leaves in the mark column.
-- Assumes nothing: these are definitions.
use Rattle.std.specs.Prelude.{ℕ, ◌<◌, ◌≡◌, List, length, get_or, drop}
use Rattle.flow.specs.Findings.{uses_of, unassigned_of, of_each}
use Rattle.flow.specs.Judge.{words_of}
use Rattle.locals.specs.declared.PassTables.{PassTables}
use Rattle.locals.specs.declared.FindingList.{FindingList}
use Rattle.locals.specs.Columns.{PassOf}
use Rattle.locals.specs.Entries.{AddsTo}
use Rattle.unassigned.specs.Words.{mark_figure}

-- the tables are those of some pair of sheets, with the uses in use order
abbrev pub AnyPass : PassTables → Type 0
AnyPass p = (S : List ℕ) × (U : List ℕ) × PassOf (uses_of S U) p S U

-- each of the first cells is the mark figure of a local, and the rest is as it was
pub record Figures (S U : List ℕ) (names : ℕ) (old new : List ℕ) : Type 0 where
  pub figure : (ℓ : ℕ) → ℓ < names → get_or new ℓ 0 ≡ mark_figure S U ℓ
  pub rest : drop names new ≡ drop names old
  pub long : length new ≡ length old

-- the unassigned findings of all locals were added to a list, and their mark figures written
abbrev pub ListsUnassigned : PassTables → (old new : FindingList) (mark mark' : List ℕ) → Type 0
ListsUnassigned p old new mark mark' =
    (S U : List ℕ) → PassOf (uses_of S U) p S U → AddsTo (words_of (of_each (unassigned_of S U) (length p.facts.now))) old new × Figures S U (length p.facts.now) mark mark'
