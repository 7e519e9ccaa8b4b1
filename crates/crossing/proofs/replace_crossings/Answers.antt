-- `crossing::replace_crossings` meets its contract: the scopes are noted, and at the loop's head the words that are passed are replaced.
-- Assumes nothing.
use Rattle.std.proofs.Common.{rules}
use Prim.Native.Nat.{ℕ, ◌+◌, ◌-◌, ◌<◌, ◌≤◌}
use mathlib.Core.Path.{◌≡◌, refl, sym, ap, ◌∙◌}
use mathlib.Core.List.{List}
use mathlib.Core.Logic.{⊎_elim}
use native.Mathlib.Omega.{arith}
use lib.ListN.{length, get_or, take, drop, length-replicate, length-drop}
use Rattle.crossing.specs.declared.Note.{Note}
use Rattle.crossing.specs.Tables.{no_note}
use Rattle.crossing.proofs.Word.{Parted, next_at, chains_hold, name_inside, names_long, uses_long, use_inside, crosses_is, none_yet, replaced_one, all_replaced}
use Rattle.crossing.proofs.replace_crossings.Goals as goal
use Rattle.crossing.proofs.replace_crossings.Goals.{At-loop-u, In-Some}

parts : (c : At-loop-u) → Parted c.args.use_words.now c.args.scopes.now c.of-parts.result.kinds.now c.of-parts.result.parents.now c.split_at.result.0.now c.into_iter-u-iterator.result.iter.b.rest.now
parts c =
    let uses : c.into_iter-u-iterator.result.iter.b.rest.now ≡ c.split_at.result.1.now = search rules in
    let p = c.of-parts.ensures in
    record {
      admitted = c.requires.admitted_scopes;
      kinds_are = p.kinds;
      parents_are = p.parents;
      front_is = c.split_at.ensures.front ∙ ap (λ (n : List ℕ). take (length n - length c.args.use_words.now) n) p.numbers;
      back_is = uses ∙ c.split_at.ensures.back ∙ ap (λ (n : List ℕ). drop (length n - length c.args.use_words.now) n) p.numbers;
    }

-- the use that the loop is at
word_next : (c : In-Some) → (c.loop-u.u-iterator.count < length c.args.use_words.now) × (c.in-Some.field-0-1-0.now ≡ get_or c.args.use_words.now c.loop-u.u-iterator.count 0) × (c.next.new.self.iter.a.rest.now ≡ drop (c.loop-u.u-iterator.count + 1) c.args.use_words.now)
word_next c = next_at _ _ (sym c.loop-u.invariant.words ∙ c.in-Some.ensures.steps.0.0)

scope_next : (c : In-Some) → (c.in-Some.field-0-1-1.now ≡ get_or c.into_iter-u-iterator.result.iter.b.rest.now c.loop-u.u-iterator.count 0) × (c.next.new.self.iter.b.rest.now ≡ drop (c.loop-u.u-iterator.count + 1) c.into_iter-u-iterator.result.iter.b.rest.now)
scope_next c = let n = next_at c.loop-u.u-iterator.count c.into_iter-u-iterator.result.iter.b.rest.now (sym c.loop-u.invariant.uses ∙ c.in-Some.ensures.steps.0.1) in (n.1, n.2)

pub loop-u-init : goal.loop-u-init
loop-u-init c =
    let z : c.into_iter-u-iterator.result.count ≡ 0 = search rules in
    rw z (record { replacing = none_yet _ _; passed = omega arith; words = search rules; uses = refl })

pub invariant_of-noted : goal.invariant_of-noted
invariant_of-noted c =
    let p = parts (goal.at.invariant_of-noted c).At-loop-u in
    record {
      as_long = omega (arith, (chains_hold p).1, c.note_all.auto.notes, length-replicate {A = Note} 512 no_note);
      noted = ∣ c.note_all.ensures ∣₁;
      inside = name_inside p;
    }

pub crossed_word-requires : goal.crossed_word-requires
crossed_word-requires c =
    let d = (goal.at.crossed_word-requires c).In-Some in
    let p = parts (goal.at.crossed_word-requires c).At-loop-u in
    let w = word_next d in
    (rw w.1 (omega (arith, names_long p, c.requires.use_words_in_bounds.1 _ w.0)), omega (arith, (scope_next d).0, w.0, use_inside p))

pub loop-u-preserved : goal.loop-u-preserved
loop-u-preserved c =
    let d = (goal.at.loop-u-preserved c).In-Some in
    let k = c.loop-u.u-iterator.count in
    let w = word_next d in
    let s = scope_next d in
    let step = c.in-Some.ensures.steps in
    let it = crosses_is (parts (goal.at.loop-u-preserved c).At-loop-u) k (get_or c.args.use_words.now k 0) (c.requires.use_words_in_bounds.1 k w.0) in
    rw step.2
    (record {
      replacing = replaced_one _ _ c.loop-u.invariant.replacing w.0 (omega (arith, w.0)) (rw (step.1, c.crossed_word.ensures, w.1, s.0, it));
      passed = omega (arith, w.0);
      words = w.2;
      uses = s.1;
    })

pub returns : goal.returns
returns c =
    let k = c.loop-u.u-iterator.count in
    let ws = c.args.use_words.now in
    let ss = c.into_iter-u-iterator.result.iter.b.rest.now in
    let whole : length ws ≤ k =
    ⊎_elim
    (λ x. omega (arith, x.1.0, ap length c.loop-u.invariant.words, length-drop k ws))
    (λ x. omega (arith, x.1.0, ap length c.loop-u.invariant.uses, length-drop k ss, uses_long (parts (goal.at.returns c).At-loop-u))) c.in-None.ensures.steps.0 in
    all_replaced _ _ _ _ (omega (arith, whole, c.loop-u.invariant.passed)) c.loop-u.invariant.replacing
