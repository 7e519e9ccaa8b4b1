-- A search back over the code's columns: where it begins, what it finds, and that the marks of a local's next uses stay the same lent columns.
-- Assumes nothing: these are definitions.
use Rattle.std.specs.Prelude.{ℕ, ◌≡◌, Bool, List, length}
use Rattle.use_words.specs.declared.PlacedUse.{PlacedUse}
use Rattle.live_steps.specs.Walk.{declared}
use Rattle.predecessors.specs.declared.WayBack.{WayBack}
use Rattle.predecessors.specs.Ways.{nodes_back}
use Rattle.next_uses.specs.declared.Sought.{Sought}
use Rattle.next_uses.specs.declared.NextUses.{NextUses}
use Rattle.next_uses.specs.Backwards.{starts_here, all_starts, Searched, MarksAhead}

abbrev pub begins_here : WayBack → List PlacedUse → Sought → ℕ → Bool
begins_here w us sought i = starts_here w.start.now (declared w.declaration) us sought i

abbrev pub all_begins : WayBack → List PlacedUse → Sought → List ℕ
all_begins w us sought = all_starts w.start.now (declared w.declaration) us sought

-- the marks that a search leaves have its flags
abbrev pub Finds : WayBack → List PlacedUse → Sought → List ℕ → Type 0
Finds w us sought marks =
    Searched w.stamp (nodes_back w) w.start.now (declared w.declaration) us sought w.chain.now w.used.now marks

-- the marks that both searches leave are those of what is ahead
abbrev pub FindsAhead : WayBack → List PlacedUse → NextUses → Type 0
FindsAhead w us m =
    MarksAhead w.stamp (nodes_back w) (declared w.declaration) w.start.now w.chain.now us m.reads.now m.writes.now

-- marks and stack are the columns that they were, as long as they were
pub record SameMarks (old new : NextUses) : Type 0 where
  pub reads_name : new.reads.ghost_name ≡ old.reads.ghost_name
  pub writes_name : new.writes.ghost_name ≡ old.writes.ghost_name
  pub stack_name : new.stack.ghost_name ≡ old.stack.ghost_name
  pub reads_len : length new.reads.now ≡ length old.reads.now
  pub writes_len : length new.writes.now ≡ length old.writes.now
  pub stack_len : length new.stack.now ≡ length old.stack.now
