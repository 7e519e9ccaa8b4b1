-- 02, C-11: the scope sheet, which uses cross a function boundary, the use sheet with its crossing bits replaced, and refusal 9.
-- Letters: C a scope sheet, N a use sheet with its bits replaced, s a scope number, p that of a parent; others as in Sheet.antt.
-- Assumes nothing: these are definitions.
use Rattle.std.specs.Prelude.{◌≡◌, ◌↔◌, Bool, true, false, cond, ◌&&◌, not, List, [], ◌∷◌, ◌++◌, ℕ, zero, suc, ◌+◌, ◌*◌, ◌≤◌, ◌<◌, length, take, drop, get_or, eqb, leb, ltb}
use Rattle.flow.specs.declared.Refusal.TheVariants.{BadScope}
use Rattle.flow.specs.Sheet.{Word, Span, LocalNumber, UseNumber, all, count_word, items, use_words, use_spans, local_of, use_kind_of, crossing_of}
use Rattle.flow.specs.Refusals.{Verdict, one, name_count, Test, first_applying, pair_tests}

-- ---- what must be believed

abbrev pub ScopeNumber : Type 0
ScopeNumber = ℕ

-- "A scope sheet gives a count up to 512, then two parallel arrays: kind (0 Module, 1 Function, 2 Block, 3 Loop) and parent plus 1, or 0 for none."
abbrev pub scope_kinds : List Word → List ℕ
scope_kinds C = take (count_word C) (drop 1 C)

abbrev pub FUNCTION : ℕ
FUNCTION = 1

abbrev pub parent_words : List Word → List Word
parent_words C = take (count_word C) (drop (1 + count_word C) C)

-- "After them stands one scope number a word, first for each name, then for each use."
abbrev pub scope_numbers : List Word → List ScopeNumber
scope_numbers C = drop (1 + 2 * count_word C) C

abbrev pub name_scope : List Word → LocalNumber → ScopeNumber
name_scope C ℓ = get_or (scope_numbers C) ℓ 0

-- of use u, behind those of so many names
abbrev pub use_scope : ℕ → List Word → UseNumber → ScopeNumber
use_scope names C u = get_or (scope_numbers C) (names + u) 0

-- "The chain of parents is followed as `crosses_function_boundary` does, from the use's own scope on: reaching the name's scope first means no, meeting a Function first means yes, running out means no; a scope that is both counts as the name's." From a scope on, a Function is met before the scope `name`:
pub data Crosses (C : List Word) (name : ScopeNumber) : ScopeNumber → Type 0 where
  met : {s : ScopeNumber} → (s ≡ name → ⊥) → get_or (scope_kinds C) s 0 ≡ FUNCTION → Crosses C name s
  further : {s p : ScopeNumber} → (s ≡ name → ⊥) → get_or (parent_words C) s 0 ≡ p + 1 → Crosses C name p → Crosses C name s

-- "When one comes it replaces the bit": N is U with the crossing of each use as the scope sheet has it
pub record Replaced (S U C N : List Word) : Type 0 where
  pub as_many : count_word N ≡ count_word U
  pub spans : use_spans N ≡ use_spans U
  pub local : (u : UseNumber) → u < count_word U → local_of (get_or (use_words N) u 0) ≡ local_of (get_or (use_words U) u 0)
  pub kind : (u : UseNumber) → u < count_word U → use_kind_of (get_or (use_words N) u 0) ≡ use_kind_of (get_or (use_words U) u 0)
  pub bit : (u : UseNumber) → u < count_word U → crossing_of (get_or (use_words N) u 0) ≤ 1
  pub crossing : (u : UseNumber) → u < count_word U → (crossing_of (get_or (use_words N) u 0) ≡ 1) ↔ Crosses C (name_scope C (local_of (get_or (use_words U) u 0))) (use_scope (name_count (items S)) C u)

-- 9: "when the scope sheet's count, length or a kind is wrong, a parent isn't a lower number, or a use or name gives a scope not in it"
abbrev pub is_below : ℕ → ℕ → Bool
is_below n k = ltb k n

-- of the words from scope s on: "parent plus 1" is at most s where the parent is a lower number or none
unfoldable pub parents_lower : ScopeNumber → List Word → Bool
parents_lower s [] = true
parents_lower s (w ∷ ws) = leb w s && parents_lower (s + 1) ws

unfoldable pub scopes_fit : ℕ → ℕ → List Word → Bool
scopes_fit names uses C =
    leb (count_word C) 512 && eqb (length C) (1 + 2 * count_word C + names + uses)
    && all (is_below 4) (scope_kinds C) && parents_lower 0 (parent_words C) && all (is_below (count_word C)) (scope_numbers C)

-- "no scope sheet (0 words)"
unfoldable pub scopes_wrong : ℕ → ℕ → List Word → Bool
scopes_wrong names uses [] = false
scopes_wrong names uses (c ∷ C) = not (scopes_fit names uses (c ∷ C))

abbrev pub bad_scopes : List Word → List Word → List Word → Bool
bad_scopes S U C = scopes_wrong (name_count (items S)) (count_word U) C

-- of a call that takes a scope sheet besides: 9 comes "after 8"
unfoldable pub scoped_tests : Bool → List Word → List Word → List Word → List Test
scoped_tests short S U C = pair_tests short S U ++ ((BadScope, bad_scopes S U C) ∷ [])

unfoldable pub scoped_verdict : Bool → List Word → List Word → List Word → Verdict
scoped_verdict short S U C = first_applying (scoped_tests short S U C)

-- ---- what computes it, and need not be believed: `proofs/Scopes.antt` shows that the sheet `crossed` is Replaced

-- each parent is a lower number: the word of scope s, its parent plus 1, is at most s
abbrev pub Lower : List Word → Type 0
Lower parents = (s : ScopeNumber) → get_or parents s 0 ≤ s

-- along at most k scopes, by the two arrays
unfoldable pub crosses : ℕ → List ℕ → List Word → ScopeNumber → ScopeNumber → Bool
crosses zero kinds parents name s = false
crosses (suc k) kinds parents name s = cond (eqb s name) false (cond (eqb (get_or kinds s 0) FUNCTION) true (elim (get_or parents s 0) [ zero ↦ false | suc p ↦ crosses k kinds parents name p ]))

-- by a scope sheet
abbrev pub crosses_by : List Word → ScopeNumber → ScopeNumber → Bool
crosses_by C name s = crosses (count_word C) (scope_kinds C) (parent_words C) name s

-- whether use u, whose word is w, crosses
abbrev pub crosses_at : ℕ → List Word → UseNumber → Word → Bool
crosses_at names C u w = crosses_by C (name_scope C (local_of w)) (use_scope names C u)

-- a use's word with the bit as it is told
abbrev pub with_crossing : Bool → Word → Word
with_crossing b w = local_of w + 65536 * (use_kind_of w + 4 * one b)

-- the words from use u on, each with its crossing
unfoldable pub crossed_from : ℕ → List Word → UseNumber → List Word → List Word
crossed_from names C u [] = []
crossed_from names C u (w ∷ ws) = with_crossing (crosses_at names C u w) w ∷ crossed_from names C (u + 1) ws

-- a use sheet by its two arrays
abbrev pub use_sheet : List Word → List Span → List Word
use_sheet ws ss = length ws ∷ (ws ++ ss)

-- "Uses with a supplied bit are still taken when no scope sheet (0 words) comes."
unfoldable pub crossed : List Word → List Word → List Word → List Word
crossed S U [] = U
crossed S U (c ∷ C) = use_sheet (crossed_from (name_count (items S)) (c ∷ C) 0 (use_words U)) (use_spans U)
