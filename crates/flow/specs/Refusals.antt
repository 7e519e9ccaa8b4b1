-- 01, "Turned back": each refusal as one test of the input, and the first that applies in the order of precedence: one verdict for the calls that take a sheet, one for those that take a pair.
-- Assumes nothing: these are definitions.
use Rattle.std.specs.Prelude.{Bool, true, cond, ◌&&◌, ◌||◌, not, ℕ, ◌+◌, ◌*◌, ◌/◌, ◌^◌, length, get_or, eqb, leb, ltb, Result, Ok, Err}
use mathlib.Core.List.{List, [], ◌∷◌, ◌++◌, tail}
use Rattle.flow.specs.declared.Refusal.{Refusal}
use Rattle.flow.specs.declared.Refusal.TheVariants.{BenchTooSmall, Miscount, BadItem, TooDeep, BadNesting, OffTheLine, BadName, BadUse, BadScope}
use Rattle.flow.specs.Sheet.{Word, Span, Item, kind, member, all, count_word, outer_end, items, start_of, end_of, scope_end_of, use_words, use_spans, local_of}
use Rattle.flow.specs.Kinds.{kinds, item_fits, opens, closes, is_code}
open kinds use {REPEAT, IF, ELSEIF, ELSE, END, UNTIL, LOCAL, NAME, CONTINUE, RETURN}

-- the tables' numbers: 01's, and 9 of 02
abbrev pub number : Refusal → ℕ
number r = elim r [ BenchTooSmall ↦ 1 | Miscount ↦ 2 | BadItem ↦ 3 | TooDeep ↦ 4 | BadNesting ↦ 5 | OffTheLine ↦ 6 | BadName ↦ 7 | BadUse ↦ 8 | BadScope ↦ 9 ]

-- 2: "fewer than 2 words (use sheet: 1), n or m above 1,024, or length not 2n + 2 (2m + 1)", where k words stand before the two arrays
unfoldable pub miscount : ℕ → List Word → Bool
miscount k ws = ltb (length ws) k || ltb 1024 (count_word ws) || not (eqb (length ws) (2 * count_word ws + k))

-- 3: "kind, argument, word 1 or span not as above, or start past end"
unfoldable pub bad_item : List Word → Bool
bad_item S = not (ltb (outer_end S) (2 ^ 32) && all item_fits (items S))

-- a test as a number
abbrev pub one : Bool → ℕ
one b = cond b 1 0

-- 4: "among some first items, kinds 1 to 5 outnumber 8 and 9 by more than 64": after o openers and c closers, with the rest to come
unfoldable pub outnumbered : ℕ → ℕ → List Item → Bool
outnumbered o c [] = ltb (c + 64) o
outnumbered o c (i ∷ is) = ltb (c + 64) o || outnumbered (o + one (opens (kind i))) (c + one (closes (kind i))) is

unfoldable pub too_deep : List Word → Bool
too_deep S = outnumbered 0 0 (items S)

-- What is open, for 5, is a list of kinds, the innermost first, in which an IF becomes an ELSE once its ELSE has come.
abbrev pub innermost : List ℕ → ℕ
innermost os = get_or os 0 0

-- 5: "openers and closers do not pair; ELSEIF or ELSE where the innermost open item is not an IF, or after that IF's ELSE"
unfoldable pub may_stand : ℕ → List ℕ → Bool
may_stand k os =
    cond (eqb k END) (not (member (innermost os) (0 ∷ REPEAT ∷ [])))
    (cond (eqb k UNTIL) (eqb (innermost os) REPEAT)
    (cond (member k (ELSEIF ∷ ELSE ∷ [])) (eqb (innermost os) IF) true))

-- what is open after an item of kind k
unfoldable pub open_after : ℕ → List ℕ → List ℕ
open_after k os = cond (opens k) (k ∷ os) (cond (closes k) (tail os) (cond (eqb k ELSE) (ELSE ∷ tail os) os))

-- each item may stand where it does, and nothing is open at the end
unfoldable pub pairs_up : List ℕ → List Item → Bool
pairs_up os [] = eqb (innermost os) 0
pairs_up os (i ∷ is) = may_stand (kind i) os && pairs_up (open_after (kind i) os) is

-- "a LOCAL without a NAME next; a NAME not after LOCAL or NAME; RETURN or CONTINUE not last in its block": of two kinds side by side, 0 at the sheet's ends
unfoldable pub may_follow : ℕ → ℕ → Bool
may_follow k next =
    (not (eqb k LOCAL) || eqb next NAME) && (not (eqb next NAME) || member k (LOCAL ∷ NAME ∷ []))
    && (not (member k (RETURN ∷ CONTINUE ∷ [])) || member next (0 ∷ END ∷ UNTIL ∷ ELSEIF ∷ ELSE ∷ []))

unfoldable pub side_by_side : ℕ → List Item → Bool
side_by_side k [] = may_follow k 0
side_by_side k (i ∷ is) = may_follow k (kind i) && side_by_side (kind i) is

unfoldable pub bad_nesting : List Word → Bool
bad_nesting S = not (pairs_up [] (items S) && side_by_side 0 (items S))

-- 6: "a code span starts before the previous one ends"
unfoldable pub in_order : ℕ → List Item → Bool
in_order p [] = true
in_order p (i ∷ is) = (not (is_code i) || leb p (start_of i.span)) && in_order (cond (is_code i) (end_of i.span) p) is

-- the scope ends of the blocks around, the innermost first, after an item of kind k with scope end e
unfoldable pub scopes_after : ℕ → ℕ → List ℕ → List ℕ
scopes_after k e es = cond (opens k) (e ∷ es) (cond (closes k) (tail es) (cond (member k (ELSEIF ∷ ELSE ∷ [])) (e ∷ tail es) es))

-- "or ends past the scope end of a block that holds it (for an ELSEIF, the blocks around its IF); REPEAT's scope end is not its UNTIL's end"
unfoldable pub inside_scopes : List ℕ → List Item → Bool
inside_scopes es [] = true
inside_scopes es (i ∷ is) =
    (not (is_code i) || all (leb (end_of i.span)) (cond (eqb (kind i) ELSEIF) (tail es) es))
    && (not (eqb (kind i) UNTIL) || eqb (end_of i.span) (get_or es 0 0)) && inside_scopes (scopes_after (kind i) (scope_end_of i.word) es) is

unfoldable pub off_the_line : List Word → Bool
off_the_line S = not (in_order 0 (items S) && inside_scopes (outer_end S ∷ []) (items S))

-- 7: "a NAME span empty, outside its LOCAL, or starting before the previous NAME of that LOCAL ends": in the LOCAL's span, after a NAME that ends at p
unfoldable pub name_fits : Span → ℕ → Span → Bool
name_fits local p s = ltb (start_of s) (end_of s) && leb (start_of local) (start_of s) && leb (end_of s) (end_of local) && leb p (start_of s)

unfoldable pub names_fit : Span → ℕ → List Item → Bool
names_fit local p [] = true
names_fit local p (i ∷ is) =
    (not (eqb (kind i) NAME) || name_fits local p i.span)
    && names_fit (cond (eqb (kind i) LOCAL) i.span local) (cond (eqb (kind i) LOCAL) 0 (cond (eqb (kind i) NAME) (end_of i.span) p)) is

unfoldable pub bad_name : List Word → Bool
bad_name S = not (names_fit 0 0 (items S))

-- how many NAMEs there are
unfoldable pub name_count : List Item → ℕ
name_count [] = 0
name_count (i ∷ is) = one (eqb (kind i) NAME) + name_count is

-- 8: "local number not below the names, high part not 0 to 2 or 4 to 6, or start past end"
unfoldable pub use_fits : ℕ → Word → Span → Bool
use_fits names w s = ltb (local_of w) names && member (w / 65536) (0 ∷ 1 ∷ 2 ∷ 4 ∷ 5 ∷ 6 ∷ []) && leb (start_of s) (end_of s)

unfoldable pub uses_fit : ℕ → List Word → List Span → Bool
uses_fit names [] ss = true
uses_fit names (w ∷ ws) ss = use_fits names w (get_or ss 0 0) && uses_fit names ws (tail ss)

unfoldable pub bad_use : List Word → List Word → Bool
bad_use S U = not (uses_fit (name_count (items S)) (use_words U) (use_spans U))

-- whether a call's input is taken
abbrev pub Verdict : Type 0
Verdict = Result (Unit {0}) Refusal

-- a refusal, and whether it applies
abbrev pub Test : Type 0
Test = Refusal × Bool

-- "The lowest number that applies is returned, and no other case refuses": the tests stand in the order of precedence, which is that of their numbers (`proofs/Precedence.antt`)
unfoldable pub first_applying : List Test → Verdict
first_applying [] = Ok tt
first_applying (t ∷ ts) = cond t.1 (Err t.0) (first_applying ts)

-- 3 to 7, which ask of the sheet alone
unfoldable pub item_tests : List Word → List Test
item_tests S = (BadItem, bad_item S) ∷ (TooDeep, too_deep S) ∷ (BadNesting, bad_nesting S) ∷ (OffTheLine, off_the_line S) ∷ (BadName, bad_name S) ∷ []

-- 1 to 7, with which every call begins: `miscounted` is 2, over its sheet and its use sheet
abbrev pub leading_tests : Bool → Bool → List Word → List Test
leading_tests short miscounted S = (BenchTooSmall, short) ∷ (Miscount, miscounted) ∷ item_tests S

-- of a call that takes a sheet. `short` says whether a column that it is lent is too short: each call's own measure (`specs/Lent.antt` of `chart` and `judge`). "Run and the label check lend nothing and never give 1": for these it is false.
unfoldable pub sheet_tests : Bool → List Word → List Test
sheet_tests short S = leading_tests short (miscount 2 S) S

-- of a call that takes a sheet and a use sheet: "only judge gives 8". With a scope sheet besides, a test more comes behind them (`Scopes.antt`).
unfoldable pub pair_tests : Bool → List Word → List Word → List Test
pair_tests short S U = leading_tests short (miscount 2 S || miscount 1 U) S ++ ((BadUse, bad_use S U) ∷ [])

-- "Sheets are admitted when none applies to the call that takes them."
unfoldable pub sheet_verdict : Bool → List Word → Verdict
sheet_verdict short S = first_applying (sheet_tests short S)

unfoldable pub pair_verdict : Bool → List Word → List Word → Verdict
pair_verdict short S U = first_applying (pair_tests short S U)
