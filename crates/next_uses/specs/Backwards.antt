-- The search backwards from a local's uses, as the code goes: where it starts, and which predecessors it goes through.
-- Assumes nothing: these are definitions.
use Rattle.std.specs.Prelude.{ℕ, zero, suc, ◌<◌, ◌≡◌, Bool, ◌&&◌, List, [], ◌++◌, length, get_or}
use Rattle.search.specs.Search.{cons_if, filter, closure}
use Rattle.search.specs.Stamps.{flags_of, Unmarked}
use Rattle.flow.specs.Locals.{Declaration}
use Rattle.flow.specs.Findings.{Meeting, meeting, is_a_read, is_a_pure_write, Ahead, ahead}
use Rattle.use_words.specs.declared.PlacedUse.{PlacedUse}
use Rattle.use_words.specs.Words.{node_in, use_of, uses_in, no_use}
use Rattle.live_steps.specs.Walk.{chart, alive_in}
use Rattle.predecessors.specs.declared.Links.{Links}
use Rattle.next_uses.specs.declared.Sought.{Sought}
use Rattle.next_uses.specs.declared.Sought.TheVariants.{Read, PureWrite}
use Rattle.predecessors.specs.Predecessors.{preds_of, Linked, passes}
use Rattle.uses_by_node.specs.Uses.{opens_node}

-- the two sorts of a next use: a pure write, or a read
abbrev pub sort_of : Sought → Meeting → Bool
sort_of PureWrite = is_a_pure_write
sort_of Read = is_a_read

-- the search starts at the node of place i: its first use is of the sort, and it is alive
unfoldable pub starts_here : List ℕ → Declaration → List PlacedUse → Sought → ℕ → Bool
starts_here start d ws sought i = opens_node ws i && sort_of sought (meeting (use_of (get_or ws i no_use))) && alive_in start d (node_in (get_or ws i no_use))

abbrev pub starts_to : List ℕ → Declaration → List PlacedUse → Sought → ℕ → List ℕ
starts_to start d ws sought zero = []
starts_to start d ws sought (suc i) = starts_to start d ws sought i ++ cons_if (starts_here start d ws sought i) (node_in (get_or ws i no_use)) []

abbrev pub all_starts : List ℕ → Declaration → List PlacedUse → Sought → List ℕ
all_starts start d ws sought = starts_to start d ws sought (length ws)

-- the cells that hold the stamp are the nodes of the first i uses
pub record Used (stamp : ℕ) (ws : List PlacedUse) (i : ℕ) (cells : List ℕ) : Type 0 where
  pub sound : (v : ℕ) → get_or cells v 0 ≡ stamp → (j : ℕ) × (j < i) × (node_in (get_or ws j no_use) ≡ v)
  pub complete : (j : ℕ) → j < i → get_or cells (node_in (get_or ws j no_use)) 0 ≡ stamp

-- the flags of the search, over chains that hold the edges of two columns
abbrev pub back_flags : List ℕ → Declaration → List PlacedUse → Sought → ℕ → List ℕ → List ℕ → List ℕ → ℕ → List ℕ
back_flags start d ws sought stamp used first second n =
    closure (all_starts start d ws sought) (λ v. filter (passes start d stamp used) (preds_of first second v n)) n

-- these flags are left in `marks`, by the edges that the chains hold
abbrev pub Searched : ℕ → ℕ → List ℕ → Declaration → List PlacedUse → Sought → List Links → List ℕ → List ℕ → Type 0
Searched stamp n start d sorted sought chain used marks =
    (first second : List ℕ) → Linked first second n n chain → flags_of stamp n marks ≡ back_flags start d sorted sought stamp used first second n

-- a search may begin in each of the three columns of marks
pub record AllUnmarked (stamp n : ℕ) (used reads writes stack : List ℕ) : Type 0 where
  pub used_new : Unmarked stamp n used stack
  pub reads_new : Unmarked stamp n reads stack
  pub writes_new : Unmarked stamp n writes stack

-- and in the two of them that the searches mark
pub record BothUnmarked (stamp n : ℕ) (reads writes stack : List ℕ) : Type 0 where
  pub reads_new : Unmarked stamp n reads stack
  pub writes_new : Unmarked stamp n writes stack

-- the marks hold the flags of what is ahead
pub record AheadMarked (stamp n : ℕ) (reads writes : List ℕ) (a : Ahead) : Type 0 where
  pub reads_are : flags_of stamp n reads ≡ a.reads
  pub writes_are : flags_of stamp n writes ≡ a.writes

-- the marks left are those of what is ahead of a local's uses, in the graph that the chains are of
abbrev pub MarksAhead : ℕ → ℕ → Declaration → List ℕ → List Links → List PlacedUse → List ℕ → List ℕ → Type 0
MarksAhead stamp n d start chain sorted reads writes =
    (first second : List ℕ) → length first ≡ n → length second ≡ n → Linked first second n n chain → AheadMarked stamp n reads writes (ahead (chart n first second start) d (uses_in sorted))
