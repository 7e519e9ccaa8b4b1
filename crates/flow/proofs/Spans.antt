-- Along the items of a sheet that nests: the spans that its tree holds are those of its items, in order; and its code's ends rise.
-- Assumes nothing.
use Prim.Native.Nat.{ℕ, zero, suc, ◌≤◌, ◌<◌}
use mathlib.Core.Path.{◌≡◌, refl, sym, ◌∙◌}
use mathlib.Core.Bool.{Bool, true, false, cond, ◌&&◌, ◌||◌, not, beq, false≢true}
use mathlib.Core.List.{List, [], ◌∷◌, ◌++◌, append_assoc, append-nil}
use native.Mathlib.Omega.{arith}
use native.Mathlib.Nat.{le_trans}
use borrow.Author.Tests.{ne_eqb, leb-true}
use lib.Dec.{eqb, leb}
use lib.ListN.{length, get_or, length-append}
use Rattle.search.proofs.Bools.{and_both}
use Rattle.search.specs.Search.{filter}
use Rattle.flow.specs.Sheet.{Item, items, kind, argument_of, member, all, start_of, end_of}
use Rattle.flow.specs.Kinds.{kinds, item_fits, is_code}
use Rattle.flow.specs.Refusals.{one, pairs_up, in_order, name_count}
use Rattle.flow.specs.Tree.{Stmt, Frame, Open, outer, in_front, opened, simple, tree}
use Rattle.flow.specs.Locals.{only_if, locals_from, locals}
use Rattle.flow.specs.Findings.{range}
use Rattle.flow.specs.Admitted.{spans_where, is_name}
use Rattle.flow.proofs.Members.{range_in}
use Rattle.flow.proofs.Tests.{same, every, Fitting, fitting}
use Rattle.flow.proofs.Nesting.{Made, a_do, a_while, a_repeat, a_for, an_if, Parsed, nothing, opening, ending, until, an_elseif, an_else, plain, nests, parsed}
use Rattle.flow.proofs.Sources.{put, of_stmt, of_block, of_arms, makes_code, code_word, name_word}
open kinds use {WHILE, REPEAT, FOR, IF, ELSEIF, ELSE, UNTIL, LOCAL, NAME, LABEL, GOTO, PLAIN}

-- ---- along the parse

put_append : (b : Bool) (s : ℕ) (cs xs : List ℕ) → put b s cs ++ xs ≡ cs ++ (only_if b (s ∷ []) ++ xs)
put_append true s cs xs = append_assoc cs (s ∷ []) xs
put_append false s cs xs = refl

-- whether an item's span is held, by its kind: of a statement of one item, if b
abbrev held_by : Bool → ℕ → Bool → Bool
held_by h k b = cond (nests k) (member k (WHILE ∷ FOR ∷ IF ∷ ELSEIF ∷ UNTIL ∷ []) && h) b

module _ (h : Bool) (p : ℕ → Bool) where
  abbrev is_held : Item → Bool
  is_held i = held_by h (kind i) (p i.word)

  -- the spans of an open block that an item of kind k opened, and of all the open blocks, behind those that came before
  of_frame : ℕ → Frame → List ℕ → List ℕ
  of_frame k f cs =
      cond (member k (IF ∷ ELSE ∷ [])) (of_arms h p f.arms (of_block h p f.body cs))
      (cond (eqb k REPEAT) (put h f.close (of_block h p f.body cs)) (of_block h p f.body cs))

  of_open : List ℕ → Open → List ℕ → List ℕ
  of_open [] o cs = of_block h p o.top.body cs
  of_open (k ∷ os) o cs = of_open os (outer o) (of_frame k o.top cs)

  of_front : (os : List ℕ) (st : Stmt) (o : Open) (cs : List ℕ) → of_open os (in_front st o) cs ≡ of_open os o (of_stmt h p st cs)
  unfolding of_open of_frame in_front
  of_front [] st o cs = refl
  of_front (k ∷ os) st o cs = refl

  of_made : {i : Item} {f : Frame} {k : ℕ} {st : Stmt} → Made i f k st → (cs : List ℕ) → of_stmt h p st cs ≡ of_frame k f (put (is_held i) i.span cs)
  unfolding of_frame
  of_made (a_do e) cs = rw e
  of_made (a_while e) cs = rw e
  of_made (a_repeat e) cs = rw e
  of_made (a_for e) cs = rw e
  of_made (an_if e) cs = rw e

  behind : (i : Item) (is : List Item) (cs : List ℕ) {ds : List ℕ} → ds ≡ put (is_held i) i.span cs ++ spans_where is_held is → ds ≡ cs ++ spans_where is_held (i ∷ is)
  unfolding spans_where
  behind i is cs e = e ∙ put_append (is_held i) i.span cs (spans_where is_held is)

  of_parsed : {os : List ℕ} {is : List Item} {o : Open} → Parsed os is o → (cs : List ℕ) → of_open os o cs ≡ cs ++ spans_where is_held is
  unfolding of_open of_frame opened
  of_parsed nothing cs = unfold spans_where in sym (append-nil cs)
  of_parsed (opening {os = os} {is = is} {o = o} {i = i} {st = st} m r) cs = behind i is cs (rw (of_front os st (outer o), of_made m) (of_parsed r (put (is_held i) i.span cs)))
  of_parsed (ending {is = is} {i = i} e n r) cs = behind i is cs (rw (e, n, same) (of_parsed r cs))
  of_parsed (until {is = is} {i = i} e r) cs = behind i is cs (rw e (of_parsed r (put h i.span cs)))
  of_parsed (an_elseif {is = is} {i = i} e r) cs = behind i is cs (rw e (of_parsed r (put h i.span cs)))
  of_parsed (an_else {is = is} {i = i} e r) cs = behind i is cs (rw e (of_parsed r cs))
  of_parsed (plain {os = os} {is = is} {o = o} {i = i} l r) cs =
      behind i is cs (rw (of_front os (simple i.word i.span) o, l) (of_parsed r (put (p i.word) i.span cs)))

-- ---- which spans are held

-- two tests that `Bool.beq` finds equal are (`beq_eq`)
beq_eq : (a b : Bool) → beq a b ≡ true → a ≡ b
beq_eq true true e = refl
beq_eq true false e = absurd (false≢true e)
beq_eq false true e = absurd (false≢true e)
beq_eq false false e = refl

-- two tests of a kind agree if they agree at each of the 19
agree : (f g : ℕ → Bool) → filter (λ k. eqb k 0 || beq (f k) (g k)) (range 20) ≡ range 20 → (i : Item) → item_fits i ≡ true → f (kind i) ≡ g (kind i)
agree f g e i a =
    let t = fitting i a in
    let b = every (λ k. eqb k 0 || beq (f k) (g k)) (range 20) (kind i) e (range_in 20 (kind i) (omega arith)) in
    beq_eq (f (kind i)) (g (kind i)) (rw (ne_eqb (kind i) 0 (λ q. omega arith)) at b)

-- `is_code`, by an item's kind and whether its argument is 0
abbrev code_by : ℕ → Bool → Bool
code_by k nameless = member k (WHILE ∷ FOR ∷ IF ∷ ELSEIF ∷ UNTIL ∷ LOCAL ∷ []) || (leb GOTO k && leb k PLAIN) || (eqb k LABEL && not nameless)

code_held : (z : Bool) (i : Item) → item_fits i ≡ true → code_by (kind i) z ≡ held_by true (kind i) (makes_code (kind i) z)
code_held true = agree (λ k. code_by k true) (λ k. held_by true k (makes_code k true)) refl
code_held false = agree (λ k. code_by k false) (λ k. held_by true k (makes_code k false)) refl

spans_agree : (p q : Item → Bool) → ((i : Item) → item_fits i ≡ true → p i ≡ q i) → (is : List Item) → all item_fits is ≡ true → spans_where p is ≡ spans_where q is
unfolding spans_where all
spans_agree p q f [] a = refl
spans_agree p q f (i ∷ is) a = let b = and_both (item_fits i) (all item_fits is) a in rw (f i b.0, spans_agree p q f is b.1)

module _ (is : List Item) (fits : all item_fits is ≡ true) (pairs : pairs_up [] is ≡ true) where
  pub tree_codes : of_block true code_word (tree is) [] ≡ spans_where is_code is
  unfolding is_code tree of_open
  tree_codes =
      of_parsed true code_word (parsed [] is tt pairs) []
      ∙ sym (spans_agree is_code (is_held true code_word) (λ i. code_held (eqb (argument_of i.word) 0) i) is fits)

  pub tree_names : of_block false name_word (tree is) [] ≡ spans_where is_name is
  unfolding tree of_open
  tree_names =
      of_parsed false name_word (parsed [] is tt pairs) []
      ∙ sym (spans_agree is_name (is_held false name_word) (agree (λ k. eqb k NAME) (λ k. held_by false k (eqb k NAME)) refl) is fits)

-- ---- how many there are

one_or_none : {A : Type 0} (b : Bool) (x : A) → length (only_if b (x ∷ [])) ≡ one b
one_or_none true x = refl
one_or_none false x = refl

at_most_one : (b : Bool) → one b ≤ 1
at_most_one true = omega arith
at_most_one false = omega arith

names_locals : (is : List Item) (v b : ℕ) → name_count is ≡ length (locals_from v b is)
unfolding name_count locals_from
names_locals [] v b = refl
names_locals (i ∷ is) v b = simp (length-append, one_or_none, ← names_locals is)

pub name_count_law : (ws : List ℕ) → name_count (items ws) ≡ length (locals ws)
unfolding locals
name_count_law ws = names_locals (items ws) 0 0

pub names_spans : (is : List Item) → length (spans_where is_name is) ≡ name_count is
unfolding name_count spans_where
names_spans [] = refl
names_spans (i ∷ is) = simp (length-append, one_or_none, names_spans is)

pub few_spans : (p : Item → Bool) (is : List Item) → length (spans_where p is) ≤ length is
unfolding spans_where
few_spans p [] = omega arith
few_spans p (i ∷ is) = simp (length-append, one_or_none) (omega (arith, at_most_one (p i), few_spans p is))

-- ---- the ends rise

-- each ends where the one before it ends or later, the first at p or later
abbrev Rising : ℕ → List ℕ → Type 0
Rising p [] = Unit {0}
Rising p (s ∷ ss) = (p ≤ end_of s) × Rising (end_of s) ss

-- one more item, if it is code (`rise_on`)
rise_on : (b : Bool) (p : ℕ) (i : Item) (ss : List ℕ) → Fitting i → (not b || leb p (start_of i.span)) ≡ true → Rising (cond b (end_of i.span) p) ss → Rising p (only_if b (i.span ∷ []) ++ ss)
rise_on true p i ss f e r = (le_trans (leb-true p _ e) f.order, r)
rise_on false p i ss f e r = r

in_order_law : (p : ℕ) (is : List Item) → all item_fits is ≡ true → in_order p is ≡ true → Rising p (spans_where is_code is)
unfolding all in_order spans_where
in_order_law p [] a e = tt
in_order_law p (i ∷ is) a e =
    let f = and_both (item_fits i) (all item_fits is) a in
    let l = and_both (not (is_code i) || leb p (start_of i.span)) (in_order (cond (is_code i) (end_of i.span) p) is) e in
    rise_on (is_code i) p i (spans_where is_code is) (fitting i f.0) l.0 (in_order_law (cond (is_code i) (end_of i.span) p) is f.1 l.1)

risen : (p : ℕ) (ss : List ℕ) → Rising p ss → (j : ℕ) → j < length ss → p ≤ end_of (get_or ss j 0)
risen p [] r j h = absurd (omega arith)
risen p (s ∷ ss) r zero h = r.0
risen p (s ∷ ss) r (suc j) h = le_trans r.0 (risen (end_of s) ss r.1 j (omega arith))

rises : (p : ℕ) (ss : List ℕ) → Rising p ss → (i j : ℕ) → i < j → j < length ss → end_of (get_or ss i 0) ≤ end_of (get_or ss j 0)
rises p [] r i j h l = absurd (omega arith)
rises p (s ∷ ss) r i zero h l = absurd (omega arith)
rises p (s ∷ ss) r zero (suc j) h l = risen (end_of s) ss r.1 j (omega arith)
rises p (s ∷ ss) r (suc i) (suc j) h l = rises (end_of s) ss r.1 i j (omega arith) (omega arith)

pub ends_rise : (is : List Item) → all item_fits is ≡ true → in_order 0 is ≡ true
    → (i j : ℕ) → i < j → j < length (spans_where is_code is) → end_of (get_or (spans_where is_code is) i 0) ≤ end_of (get_or (spans_where is_code is) j 0)
ends_rise is a e = rises 0 (spans_where is_code is) (in_order_law 0 is a e)
