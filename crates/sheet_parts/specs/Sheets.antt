-- What the verdict of a call's sheets is, and the sheets that it has admitted.
-- Assumes nothing: these are definitions.
use Rattle.std.specs.Prelude.{◌≡◌, List, ℕ, Result, Ok, Err}
use Rattle.flow.specs.declared.Refusal.{Refusal}
use Rattle.flow.specs.Refusals.{Verdict}
use Rattle.flow.specs.Scopes.{use_sheet, crossed}
use Rattle.sheet_parts.specs.declared.SheetPair.{SheetPair}
use Rattle.sheet_parts.specs.declared.ScopedPair.{ScopedPair}

-- the verdict behind an answer, whatever is given where it is admitted
abbrev pub verdict_of : {A : Type 0} → Result A Refusal → Verdict
verdict_of (Ok x) = Ok tt
verdict_of (Err r) = Err r

-- the use sheet of a pair, by its two arrays
abbrev pub uses_of : SheetPair → List ℕ
uses_of p = use_sheet p.uses.words.now p.uses.spans.now

-- the uses that are judged: as the scope sheet has their crossings, where one comes
abbrev pub judged_uses : ScopedPair → List ℕ
judged_uses p = crossed p.pair.sheet.words.now (uses_of p.pair) p.scopes.now

-- these are the sheets of a pair, and of a pair with its scope sheet
pub record IsPair (S U : List ℕ) (p : SheetPair) : Type 0 where
  pub sheet : p.sheet.words.now ≡ S
  pub uses : uses_of p ≡ U

pub record IsScoped (S U C : List ℕ) (p : ScopedPair) : Type 0 where
  pub pair : IsPair S U p.pair
  pub scopes : p.scopes.now ≡ C
