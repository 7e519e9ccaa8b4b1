-- Demand 3, over what judge writes. Here w is a use number, as u is.
-- Assumes nothing: these are definitions.
use Rattle.std.specs.Prelude.{◌≡◌, ◌⊎◌, ◌↔◌, true, List, [], ◌∷◌, ◌++◌, ℕ, ◌+◌, ◌-◌, ◌/◌, ◌%◌, ◌^◌, ◌<◌, min, length, get_or, Some}
use Rattle.flow.specs.Sheet.{Word, Span, Node, LocalNumber, UseNumber, use_words, use_spans, local_of, use_kind_of, start_of}
use Rattle.flow.specs.Answers.{found_values}
use Rattle.flow.specs.Graph.{graph}
use Rattle.flow.specs.Reachable.{node_at}
use Rattle.flow.specs.Locals.{declaration, locals, local_at, tracked, no_value, writes_judged, is_in_closure, finding_word}
use Rattle.flow.specs.Paths.{Edge, After, Meets}

-- "a use number is the place there, from 0"
abbrev pub use_word : List Word → UseNumber → Word
use_word U u = get_or (use_words U) u 0

abbrev pub use_span : List Word → UseNumber → Span
use_span U u = get_or (use_spans U) u 0

-- "Uses, reads and writes, here and in demand 3, are the local's own."
pub record Own (U : List Word) (ℓ : LocalNumber) (u : UseNumber) : Type 0 where
  pub below : u < length (use_words U)
  pub names : local_of (use_word U u) ≡ ℓ

-- "kind 0 Read, 1 Write, 2 ReadWrite"; "a pure write is Write"
abbrev pub PureWrite : List Word → UseNumber → Type 0
PureWrite U u = use_kind_of (use_word U u) ≡ 1

-- "ReadWrite is a read and a write"
abbrev pub IsRead : List Word → UseNumber → Type 0
IsRead U u = (use_kind_of (use_word U u) ≡ 0) ⊎ (use_kind_of (use_word U u) ≡ 2)

abbrev pub IsWrite : List Word → UseNumber → Type 0
IsWrite U u = (use_kind_of (use_word U u) ≡ 1) ⊎ (use_kind_of (use_word U u) ≡ 2)

-- "the reads outside closures"
abbrev pub InClosure : List Word → List Word → LocalNumber → UseNumber → Type 0
InClosure S U ℓ u = is_in_closure (local_at S ℓ) (use_word U u) ≡ true

-- "A use's node is that of its span's start."
abbrev pub AtNode : List Word → List Word → UseNumber → Node → Type 0
AtNode S U u v = node_at (graph S) (start_of (use_span U u)) ≡ Some v

-- "whose uses all find a node"
abbrev pub AllFound : List Word → List Word → LocalNumber → Type 0
AllFound S U ℓ = (u : UseNumber) → Own U ℓ u → (v : Node) × AtNode S U u v

-- an own use at the node v
pub record OwnAt (S U : List Word) (ℓ : LocalNumber) (u : UseNumber) (v : Node) : Type 0 where
  pub own : Own U ℓ u
  pub at_node : AtNode S U u v

-- "that node holds a use of the local"
abbrev pub Holds : List Word → List Word → LocalNumber → Node → Type 0
Holds S U ℓ v = (u : UseNumber) × OwnAt S U ℓ u v

-- "First, next and earlier, said of uses, mean use order": the first own use at v
pub record FirstAt (S U : List Word) (ℓ : LocalNumber) (u : UseNumber) (v : Node) : Type 0 where
  pub here : OwnAt S U ℓ u v
  pub first : (w : UseNumber) → w < u → OwnAt S U ℓ w v → ⊥

-- some live path from after x meets a use that is P: "the local's first use there decides whether it meets a read or a pure write"
pub record MeetsFrom (S U : List Word) (ℓ : LocalNumber) (x : Node) (P : List Word → UseNumber → Type 0) : Type 0 where
  pub begin : Node
  pub end : Node
  pub which : UseNumber
  pub edge : Edge (graph S) x begin
  pub path : Meets (graph S) (declaration (graph S) ℓ) (Holds S U ℓ) begin end
  pub first : FirstAt S U ℓ which end
  pub kind : P U which

-- "some live path from after it meets a pure write and none meets a read"
pub record OverwrittenUnread (S U : List Word) (ℓ : LocalNumber) (x : Node) : Type 0 where
  pub written : MeetsFrom S U ℓ x PureWrite
  pub unread : MeetsFrom S U ℓ x IsRead → ⊥

-- "the reads outside closures that no live path from after a write reaches and no earlier write shares a node with"; "A path reaches a use when it ends at the use's node."
pub record EmptyRead (S U : List Word) (ℓ : LocalNumber) (u : UseNumber) : Type 0 where
  pub own : Own U ℓ u
  pub read : IsRead U u
  pub outside : InClosure S U ℓ u → ⊥
  pub unreached : (w : UseNumber) (x v : Node) → OwnAt S U ℓ w x → IsWrite U w → AtNode S U u v → After (graph S) (declaration (graph S) ℓ) x v → ⊥
  pub unshared : (w : UseNumber) (v : Node) → w < u → OwnAt S U ℓ w v → IsWrite U w → AtNode S U u v → ⊥

-- "for every tracked local whose uses all find a node"
pub record Judgeable (S U : List Word) (ℓ : LocalNumber) : Type 0 where
  pub is_tracked : tracked (local_at S ℓ) ≡ true
  pub all_found : AllFound S U ℓ

-- "The local is listed unassigned, with a use, exactly when it has no value and that use is the first of the reads .."
pub record Unassigned (S U : List Word) (ℓ : LocalNumber) (u : UseNumber) : Type 0 where
  pub judgeable : Judgeable S U ℓ
  pub valueless : no_value (local_at S ℓ) ≡ true
  pub empty : EmptyRead S U ℓ u
  pub first : (w : UseNumber) → w < u → EmptyRead S U ℓ w → ⊥

-- "the next use in its node": u, after w in its node v
pub record NextAt (S U : List Word) (ℓ : LocalNumber) (w u : UseNumber) (v : Node) : Type 0 where
  pub later : w < u
  pub here : OwnAt S U ℓ u v
  pub next : (between : UseNumber) → w < between → between < u → OwnAt S U ℓ between v → ⊥

-- "If it is modified and not captured, a write is listed overwritten exactly when the next use in its node is a pure write or, where none follows there, some live path .."
pub record Overwritten (S U : List Word) (ℓ : LocalNumber) (w : UseNumber) : Type 0 where
  pub judgeable : Judgeable S U ℓ
  pub judged : writes_judged (local_at S ℓ) ≡ true
  pub node : Node
  pub here : OwnAt S U ℓ w node
  pub write : IsWrite U w
  pub lost : ((u : UseNumber) × NextAt S U ℓ w u node × PureWrite U u) ⊎ (((u : UseNumber) → NextAt S U ℓ w u node → ⊥) × OverwrittenUnread S U ℓ node)

-- "Its initial value, if any, is listed so exactly when some live path from after its declaration meets a pure write and none meets a read."
pub record OverwrittenInitial (S U : List Word) (ℓ : LocalNumber) : Type 0 where
  pub judgeable : Judgeable S U ℓ
  pub valued : no_value (local_at S ℓ) ≡ true → ⊥
  pub lost : OverwrittenUnread S U ℓ (declaration (graph S) ℓ).node

-- a finding stands at a place of the written words and spans
pub record Listed (words : List Word) (spans : List Span) (word : Word) (span : Span) : Type 0 where
  pub place : ℕ
  pub inside : place < length words
  pub is_word : get_or words place 0 ≡ word
  pub is_span : get_or spans place 0 ≡ span

-- "Unassigned come first, in local order; overwritten follow per local: initial value, then writes by node, use order within a node": what a word is ordered by, the node being that of its use
abbrev pub order : List Word → List Word → Word → List ℕ
order S U word =
    word % 2 ∷ word / 2 % 2 ^ 31 ∷ min 1 (word / 2 ^ 32) ∷ found_values (node_at (graph S) (start_of (use_span U (word / 2 ^ 32 - 1)))) ++ (word / 2 ^ 32 ∷ [])

-- by the first number that differs
abbrev pub Before : List ℕ → List ℕ → Type 0
Before [] ys = ⊥
Before (x ∷ xs) [] = ⊥
Before (x ∷ xs) (y ∷ ys) = (x < y) ⊎ ((x ≡ y) × Before xs ys)

-- "Nothing else is listed for any local": an entry is one of the three, and is rightly there
abbrev pub Entry : List Word → List Word → Word → Span → Type 0
Entry S U word span =
    ((ℓ : LocalNumber) × (u : UseNumber) × (ℓ < length (locals S)) × (word ≡ finding_word 0 ℓ (u + 1)) × (span ≡ use_span U u) × Unassigned S U ℓ u)
    ⊎ (((ℓ : LocalNumber) × (w : UseNumber) × (ℓ < length (locals S)) × (word ≡ finding_word 1 ℓ (w + 1)) × (span ≡ use_span U w) × Overwritten S U ℓ w)
    ⊎ ((ℓ : LocalNumber) × (ℓ < length (locals S)) × (word ≡ finding_word 1 ℓ 0) × (span ≡ get_or (graph S).names.span ℓ 0) × OverwrittenInitial S U ℓ))

-- Demand 3: what stands among the written findings, nothing else, and "each finding stands once, in 01's order"
pub record Demand3 (S U words : List Word) (spans : List Span) : Type 0 where
  pub unassigned : (ℓ : LocalNumber) (u : UseNumber) → ℓ < length (locals S) → Listed words spans (finding_word 0 ℓ (u + 1)) (use_span U u) ↔ Unassigned S U ℓ u
  pub overwritten : (ℓ : LocalNumber) (w : UseNumber) → ℓ < length (locals S) → Listed words spans (finding_word 1 ℓ (w + 1)) (use_span U w) ↔ Overwritten S U ℓ w
  pub initial : (ℓ : LocalNumber) → ℓ < length (locals S) → Listed words spans (finding_word 1 ℓ 0) (get_or (graph S).names.span ℓ 0) ↔ OverwrittenInitial S U ℓ
  pub as_many : length spans ≡ length words
  pub nothing_else : (i : ℕ) → i < length words → Entry S U (get_or words i 0) (get_or spans i 0)
  pub rising : (i j : ℕ) → i < j → j < length words → Before (order S U (get_or words i 0)) (order S U (get_or words j 0))
