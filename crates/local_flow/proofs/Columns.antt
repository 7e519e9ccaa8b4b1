-- The facts of the names, and what is found where no local is tracked.
-- Assumes nothing.
use Prim.Native.Nat.{ℕ, ◌≤◌, ◌<◌}
use mathlib.Core.Path.{◌≡◌, sym, ap, subst, ◌∙◌}
use mathlib.Core.Bool.{false, true}
use mathlib.Core.List.{List, [], ◌++◌}
use native.Mathlib.Omega.{arith}
use lib.ListN.{length, get_or, take, drop, replicate, length-append, length-drop, length-map, length-replicate, length-take, get_or-append}
use lib.Seq.{drop-append_seam, get_or-take, length-take-le}
use Rattle.search.proofs.Count.{zero_at}
use Rattle.flow.specs.Sheet.{kind_words}
use Rattle.flow.specs.Locals.{locals, tracked, local_at}
use Rattle.flow.specs.Findings.{first_unassigned_use, initial_overwritten, writes_overwritten, unassigned_of, overwritten_of, findings}
use Rattle.flow.specs.Judge.{words_of}
use Rattle.std.specs.List.{list_any}
use Rattle.std.proofs.lemmas.List.{take_all}
use Rattle.facts.specs.declared.NameFacts.{NameFacts}
use Rattle.facts.specs.Facts.{FactsOf, None, facts_of, no_facts, tracks}
use Rattle.facts.proofs.Facts.{tracked_told, none_asked}
use Rattle.live_steps.specs.declared.FlowGraph.{FlowGraph}
use Rattle.locals.specs.declared.DeclarationTable.{DeclarationTable}
use Rattle.tables.specs.declared.CodeColumns.{CodeColumns}
use Rattle.sheet_parts.specs.declared.Items.{Items}
use Rattle.name_facts.specs.Names.{locals_in, Stored}
use Rattle.name_facts.proofs.Names.{names_counted, names_known}
use Rattle.locals.specs.Entries.{Added}
use Rattle.locals.proofs.Entries.{added_none}
use Rattle.unassigned.specs.Words.{mark_figure}
use Rattle.unassigned.specs.Pass.{Figures}
use Rattle.overwritten.proofs.Judged.{each_none}
use Rattle.sized_flow.specs.Given.{Given}
use Rattle.local_flow.specs.Sheets.{Sheets}

-- ---- the facts of the names

module _ {S U kinds : List ℕ} {g : FlowGraph} {codes : CodeColumns} {names : DeclarationTable} {uses : Items} (p : Sheets S U kinds g codes names uses)
    {facts₀ facts : List NameFacts} {count : ℕ} (s : Stored (locals_in 0 0 kinds) 0 facts₀ facts count) where
  stored : Stored (locals_in 0 0 (kind_words S)) 0 facts₀ facts count
  stored = rw p.kinds_are at s

  pub counted : length (locals S) ≡ count
  counted = names_counted S p.beside stored

  pub few_names_law : count ≤ 1024
  few_names_law = omega (arith, counted, p.columns.named.few)

  -- the facts stand in the column
  pub long : count ≤ length facts
  long = omega (arith, s.count, length-take count facts, ap length s.cells, length-map (locals_in 0 0 kinds) facts_of)

  pub cut : length (take count facts) ≡ count
  cut = length-take-le count facts long

  -- of the names alone
  pub known : FactsOf (local_at S) (length (take count facts)) (take count facts)
  known ℓ h = get_or-take count facts ℓ no_facts (omega (arith, cut)) ∙ names_known S p.beside stored ℓ (omega (arith, cut))

  pub all_counted : length (locals S) ≡ length (take count facts)
  all_counted = counted ∙ sym cut

  pub given : Given S U g names codes uses (take count facts)
  given = record { columns = rw all_counted at p.columns; facts_are = known }

-- ---- no local tracked

module _ (S U : List ℕ) (ℓ : ℕ) (e : tracked (local_at S ℓ) ≡ false) where
  no_unassigned : unassigned_of S U ℓ ≡ []
  unfolding unassigned_of first_unassigned_use
  no_unassigned = rw e

  no_overwritten : overwritten_of S U ℓ ≡ []
  unfolding overwritten_of initial_overwritten writes_overwritten
  no_overwritten = rw e

  no_figure : mark_figure S U ℓ ≡ 0
  unfolding mark_figure
  no_figure = rw e

module _ (S U : List ℕ) (facts : List NameFacts) (e : length (locals S) ≡ length facts) (k : FactsOf (local_at S) (length facts) facts) (d : list_any tracks facts ≡ false) where
  none : None (λ l found. tracked l) (length facts) facts
  none = none_asked tracks (λ l found. tracked l) tracked_told (length facts) facts (omega arith) (rw (take_all (length facts) facts (omega arith)) d)

  untracked : (ℓ : ℕ) → ℓ < length facts → tracked (local_at S ℓ) ≡ false
  untracked ℓ h = none ℓ h (local_at S ℓ) true (k ℓ h)

  -- then nothing is listed
  pub nothing_found : (column : List ℕ) → Added (words_of (findings S U)) 0 column 0 column
  unfolding findings
  nothing_found column =
      rw (e, each_none (unassigned_of S U) (length facts) (λ ℓ h. no_unassigned S U ℓ (untracked ℓ h)), each_none (overwritten_of S U) (length facts) (λ ℓ h. no_overwritten S U ℓ (untracked ℓ h))) (added_none 0 column)

  -- and every mark figure is 0
  pub zero_figures : {old new : List ℕ} → length facts ≤ length old → new ≡ replicate (length facts) 0 ++ drop (length facts) old → Figures S U (length (locals S)) old new
  zero_figures {old} {new} h q =
      let n : ℕ = length facts in
      let long : length (replicate {A = ℕ} n 0) ≡ n = length-replicate {A = ℕ} n 0 in
      rw e (record {
        figure = λ ℓ l. ap (λ (x : List ℕ). get_or x ℓ 0) q ∙ get_or-append (replicate {A = ℕ} n 0) (drop n old) 0 ℓ (omega (arith, long)) ∙ zero_at n ℓ ∙ sym (no_figure S U ℓ (untracked ℓ l));
        rest = rw q (subst (λ (j : ℕ). drop j (replicate {A = ℕ} n 0 ++ drop n old) ≡ drop n old) long (drop-append_seam (replicate {A = ℕ} n 0) (drop n old)));
        long = ap length q ∙ length-append (replicate {A = ℕ} n 0) (drop n old) ∙ omega (arith, long, length-drop n old);
      })
