-- The findings, computed. Nobody has to believe this file: judge's promise fixes the same list over paths (`Demand.antt`), and `proofs/Demand3.antt` shows that they agree.
-- Assumes nothing: these are definitions.
use Rattle.std.specs.Prelude.{Bool, true, false, cond, ◌&&◌, ◌||◌, not, ℕ, zero, suc, ◌+◌, length, get_or, eqb, ltb, Option, Some, None}
use mathlib.Core.List.{List, [], ◌∷◌, ◌++◌, tail, map}
use Rattle.search.specs.Search.{closure, filter}
use Rattle.flow.specs.Sheet.{Word, Span, Node, LocalNumber, UseNumber, member, all, start_of, use_words, use_spans, local_of, use_kind_of}
use Rattle.flow.specs.Graph.{Graph, node_count, graph}
use Rattle.flow.specs.Reachable.{successors, node_at}
use Rattle.flow.specs.Locals.{only_if, Local, locals, no_value, writes_judged, tracked, is_in_closure, Declaration, declaration, local_at, Finding, finding_word}

-- a use of a local, with its number and the node of its span's start; below, u is a use and us are uses in use order
abbrev pub Use : Type 0
Use = record { number : UseNumber; span : Span; kind : ℕ; in_closure : Bool; found : Option ℕ }

abbrev pub is_found : Option ℕ → Bool
is_found f = elim f [ Some v ↦ true | None ↦ false ]

-- the node that was found, 0 where none was; a local with such a use yields nothing
abbrev pub node_of : Option ℕ → Node
node_of f = elim f [ Some v ↦ v | None ↦ 0 ]

abbrev pub node : Use → Node
node u = node_of u.found

-- "kind 0 Read, 1 Write, 2 ReadWrite"; "ReadWrite is a read and a write; a pure write is Write."
abbrev pub is_read : Use → Bool
is_read u = not (eqb u.kind 1)

abbrev pub is_write : Use → Bool
is_write u = not (eqb u.kind 0)

-- the uses of the local ℓ in use order, from use number k on
unfoldable pub uses_from : Graph → Local → LocalNumber → UseNumber → List Word → List Span → List Use
uses_from g l ℓ k [] ss = []
uses_from g l ℓ k (w ∷ ws) ss =
    only_if (eqb (local_of w) ℓ)
    (record { number = k; span = get_or ss 0 0; kind = use_kind_of w; in_closure = is_in_closure l w; found = node_at g (start_of (get_or ss 0 0)) } ∷ [])
    ++ uses_from g l ℓ (k + 1) ws (tail ss)

-- "A local with a use that finds no node yields nothing."
unfoldable pub all_found : List Use → Bool
all_found us = all (λ u. is_found u.found) us

-- "none the LOCAL's node, none with code start at or past the scope end"
unfoldable pub is_alive_at : Graph → Declaration → Node → Bool
is_alive_at g d v = not (eqb v d.node) && ltb (get_or g.nodes.start v 0) d.scope_end

-- where a live path goes on from x
abbrev pub live_successors : Graph → Declaration → Node → List Node
live_successors g d x = filter (is_alive_at g d) (successors g x)

-- where the live paths from after the writes begin
unfoldable pub after_writes : Graph → Declaration → List Use → List Node
after_writes g d [] = []
after_writes g d (u ∷ us) = only_if (is_write u) (live_successors g d (node u)) ++ after_writes g d us

-- the nodes that some live path from after a write ends at, as flags
unfoldable pub live_after_writes : Graph → Declaration → List Use → List ℕ
live_after_writes g d us = closure (after_writes g d us) (live_successors g d) (node_count g)

-- "the reads outside closures that no live path from after a write reaches and no earlier write shares a node with", where `live` are those flags and `written` the nodes of the earlier writes
unfoldable pub is_empty_read : List ℕ → List Node → Use → Bool
is_empty_read live written u = is_read u && not u.in_closure && not (eqb (get_or live (node u) 0) 1) && not (member (node u) written)

-- "the first of" these among us, as a list of at most one
unfoldable pub first_empty_read : List ℕ → List Node → List Use → List Use
first_empty_read live written [] = []
first_empty_read live written (u ∷ us) =
    cond (is_empty_read live written u) (u ∷ []) (first_empty_read live (only_if (is_write u) (node u ∷ []) ++ written) us)

-- what a path can meet at a node
pub data Meeting : Type 0 where
  no_use a_read a_pure_write : Meeting

abbrev pub meeting : Use → Meeting
meeting u = cond (is_read u) a_read a_pure_write

-- "the local's first use there decides whether it meets a read or a pure write": what the first of us at the node v is
unfoldable pub first_at : Node → List Use → Meeting
first_at v [] = no_use
first_at v (u ∷ us) = cond (eqb (node u) v) (meeting u) (first_at v us)

abbrev pub is_no_use : Meeting → Bool
is_no_use m = elim m [ no_use ↦ true | a_read ↦ false | a_pure_write ↦ false ]

abbrev pub is_a_read : Meeting → Bool
is_a_read m = elim m [ no_use ↦ false | a_read ↦ true | a_pure_write ↦ false ]

abbrev pub is_a_pure_write : Meeting → Bool
is_a_pure_write m = elim m [ no_use ↦ false | a_read ↦ false | a_pure_write ↦ true ]

-- the numbers below k
abbrev pub range : ℕ → List ℕ
range zero = []
range (suc k) = range k ++ (k ∷ [])

-- v is alive, and m holds of what a path meets there
unfoldable pub meets_here : Graph → Declaration → List Use → (Meeting → Bool) → Node → Bool
meets_here g d us m v = is_alive_at g d v && m (first_at v us)

-- the nodes that a path can have come through to v: alive, and without a use
unfoldable pub predecessors : Graph → Declaration → List Use → Node → List Node
predecessors g d us v = filter (λ x. member v (successors g x) && meets_here g d us is_no_use x) (range (node_count g))

-- "A path meets its last node when only that node holds a use of the local": the nodes from which some path meets m, as flags.
-- Such a path is found from its last node back.
unfoldable pub meets : Graph → Declaration → List Use → (Meeting → Bool) → List ℕ
meets g d us m = closure (filter (meets_here g d us m) (range (node_count g))) (predecessors g d us) (node_count g)

-- the two ways a value's path can end
abbrev pub Ahead : Type 0
Ahead = record { reads : List ℕ; writes : List ℕ }

unfoldable pub ahead : Graph → Declaration → List Use → Ahead
ahead g d us = record { reads = meets g d us is_a_read; writes = meets g d us is_a_pure_write }

unfoldable pub any_flag : List ℕ → List Node → Bool
any_flag flags [] = false
any_flag flags (v ∷ vs) = eqb (get_or flags v 0) 1 || any_flag flags vs

-- "some live path from after it meets a pure write and none meets a read"
unfoldable pub is_overwritten_unread : Graph → Ahead → Node → Bool
is_overwritten_unread g a v = any_flag a.writes (successors g v) && not (any_flag a.reads (successors g v))

-- by the next use: yes at a pure write, no at a read, and b "where none follows there"
abbrev pub or_else : Meeting → Bool → Bool
or_else m b = elim m [ no_use ↦ b | a_read ↦ false | a_pure_write ↦ true ]

-- "the next use in its node is a pure write or, where none follows there," that; us are the uses after u
unfoldable pub is_overwritten : Graph → Ahead → Use → List Use → Bool
is_overwritten g a u us = is_write u && or_else (first_at (node u) us) (is_overwritten_unread g a (node u))

unfoldable pub overwritten_at : Graph → Ahead → Node → List Use → List Use
overwritten_at g a v [] = []
overwritten_at g a v (u ∷ us) = only_if (eqb (node u) v && is_overwritten g a u us) (u ∷ []) ++ overwritten_at g a v us

-- "writes by node, use order within a node": those at the nodes below k
unfoldable pub overwritten_below : Graph → Ahead → ℕ → List Use → List Use
overwritten_below g a zero us = []
overwritten_below g a (suc k) us = overwritten_below g a k us ++ overwritten_at g a k us

-- The findings of one local, from the graph, its declaration and its own uses in order.
unfoldable pub first_unassigned_use : Graph → Local → Declaration → List Use → List Use
first_unassigned_use g l d us = only_if (tracked l && all_found us && no_value l) (first_empty_read (live_after_writes g d us) [] us)

unfoldable pub initial_overwritten : Graph → Local → Declaration → List Use → Bool
initial_overwritten g l d us = tracked l && all_found us && not (no_value l) && is_overwritten_unread g (ahead g d us) d.node

unfoldable pub writes_overwritten : Graph → Local → Declaration → List Use → List Use
writes_overwritten g l d us = only_if (tracked l && all_found us && writes_judged l) (overwritten_below g (ahead g d us) (node_count g) us)

abbrev pub of_use : ℕ → LocalNumber → Use → Finding
of_use list ℓ u = record { word = finding_word list ℓ (u.number + 1); span = u.span }

abbrev pub of_initial : LocalNumber → Span → Finding
of_initial ℓ s = record { word = finding_word 1 ℓ 0; span = s }

-- the uses of the local ℓ in a sheet and a use sheet
unfoldable pub uses_of : List Word → List Word → LocalNumber → List Use
uses_of S U ℓ = uses_from (graph S) (local_at S ℓ) ℓ 0 (use_words U) (use_spans U)

unfoldable pub unassigned_of : List Word → List Word → LocalNumber → List Finding
unassigned_of S U ℓ = map (of_use 0 ℓ) (first_unassigned_use (graph S) (local_at S ℓ) (declaration (graph S) ℓ) (uses_of S U ℓ))

unfoldable pub overwritten_of : List Word → List Word → LocalNumber → List Finding
overwritten_of S U ℓ =
    only_if (initial_overwritten (graph S) (local_at S ℓ) (declaration (graph S) ℓ) (uses_of S U ℓ)) (of_initial ℓ (get_or (graph S).names.span ℓ 0) ∷ [])
    ++ map (of_use 1 ℓ) (writes_overwritten (graph S) (local_at S ℓ) (declaration (graph S) ℓ) (uses_of S U ℓ))

-- what f gives of the locals below k, in local order
unfoldable pub of_each : (LocalNumber → List Finding) → ℕ → List Finding
of_each f zero = []
of_each f (suc k) = of_each f k ++ f k

-- "Unassigned come first, in local order; overwritten follow per local"
unfoldable pub findings : List Word → List Word → List Finding
findings S U = of_each (unassigned_of S U) (length (locals S)) ++ of_each (overwritten_of S U) (length (locals S))
