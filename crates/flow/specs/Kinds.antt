-- 01, "The sheet", the table of kinds: what each kind's argument and span may be, which kinds are code, what a condition is known to be, and which call raises.
-- Assumes nothing: these are definitions.
use Rattle.std.specs.Prelude.{Bool, true, false, cond, ◌&&◌, ◌||◌, not, [], ◌∷◌, ℕ, ◌/◌, ◌%◌, ◌^◌, eqb, leb, ltb, Option, Some, None}
use Rattle.flow.specs.Sheet.{Item, kind, member, argument_of, start_of, end_of}

-- The table's column of kinds
abbrev pub kinds : record { DO : ℕ; WHILE : ℕ; REPEAT : ℕ; FOR : ℕ; IF : ℕ; ELSEIF : ℕ; ELSE : ℕ; END : ℕ; UNTIL : ℕ; LOCAL : ℕ; NAME : ℕ; LABEL : ℕ; GOTO : ℕ; BREAK : ℕ; CONTINUE : ℕ; RETURN : ℕ; CALL : ℕ; PLAIN : ℕ; EMPTY : ℕ }
kinds = record { DO = 1; WHILE = 2; REPEAT = 3; FOR = 4; IF = 5; ELSEIF = 6; ELSE = 7; END = 8; UNTIL = 9; LOCAL = 10; NAME = 11; LABEL = 12; GOTO = 13; BREAK = 14; CONTINUE = 15; RETURN = 16; CALL = 17; PLAIN = 18; EMPTY = 19 }

open kinds use {DO, WHILE, REPEAT, FOR, IF, ELSEIF, ELSE, END, UNTIL, LOCAL, NAME, LABEL, GOTO, RETURN, CALL, PLAIN, EMPTY}

-- The mark S: "argument = condition + 32 × scope end, condition 0 unless stated, scope end below 2^32". c says whether a condition is stated.
abbrev pub scoped : Bool → ℕ → Bool
scoped c a = ltb (a % 32) (cond c 19 1) && ltb (a / 32) (2 ^ 32)

-- The table's column of arguments. "Kinds 8, 9, 14, 15 have argument 0", and so have 18 and 19.
unfoldable pub argument_fits : ℕ → ℕ → Bool
argument_fits k a =
    cond (member k (WHILE ∷ REPEAT ∷ [])) (scoped true a)
    (cond (member k (DO ∷ FOR ∷ IF ∷ ELSEIF ∷ ELSE ∷ [])) (scoped false a)
    (cond (member k (LOCAL ∷ LABEL ∷ GOTO ∷ [])) (leb a 65535)
    (cond (eqb k NAME) (leb a 7)
    (cond (eqb k RETURN) (leb a 1)
    (cond (eqb k CALL) (leb a 127)
    (eqb a 0))))))

-- "kinds without a stated span (1, 3, 7, 8, 19) have span word 0"
abbrev pub spanless : ℕ → Bool
spanless k = member k (DO ∷ REPEAT ∷ ELSE ∷ END ∷ EMPTY ∷ [])

-- "kind, argument, word 1 or span not as above, or start past end", of an item: word 1 is tested with the sheet
unfoldable pub item_fits : Item → Bool
item_fits i =
    leb 1 (kind i) && leb (kind i) 19 && argument_fits (kind i) (argument_of i.word)
    && leb (start_of i.span) (end_of i.span) && (not (spanless (kind i)) || eqb i.span 0)

-- "kinds 1 to 5", which open, and "8 and 9", which close
abbrev pub opens : ℕ → Bool
opens k = leb 1 k && leb k 5

abbrev pub closes : ℕ → Bool
closes k = eqb k END || eqb k UNTIL

-- "Code spans are those of kinds 2, 4, 5, 6, 9, 10, 12 (named), 13 to 18."
unfoldable pub is_code : Item → Bool
is_code i =
    member (kind i) (WHILE ∷ FOR ∷ IF ∷ ELSEIF ∷ UNTIL ∷ LOCAL ∷ []) || (leb GOTO (kind i) && leb (kind i) PLAIN)
    || (eqb (kind i) LABEL && not (eqb (argument_of i.word) 0))

-- "Nil 0, False 1 are false; True 2 .. FunctionDef 8 are true; 9 to 18 are unknown."
unfoldable pub literal_truth : ℕ → Option Bool
literal_truth c = cond (leb c 1) (Some false) (cond (leb c 8) (Some true) None)

-- "It raises exactly when the argument is 6": no method call (1), of bare `error` (2), whose span holds a reference of that name (4), which is not resolved (8), under no local `_ENV` (16), with neither `_ENV` (32) nor `error` (64) assigned
abbrev pub raises : ℕ → Bool
raises a = eqb a 6
