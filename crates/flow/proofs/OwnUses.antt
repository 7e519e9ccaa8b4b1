-- The findings of one local are a function of the graph's nodes, its declaration and its own uses: they go by kind, closure and node of a use alone.
-- Assumes `few` at the end, that the local's number is below 1024, so that its word can be taken apart.
use Prim.Native.Nat.{ℕ, zero, suc, ◌+◌, ◌*◌, ◌/◌, ◌%◌, ◌^◌, ◌≤◌, ◌<◌}
use mathlib.Core.Path.{◌≡◌, refl, sym, ap, ap₂, ◌∙◌}
use mathlib.Core.Bool.{Bool, true, false, cond, ◌&&◌, not}
use mathlib.Core.List.{List, [], ◌∷◌, ◌++◌, tail, map, map-append}
use lib.ListN.{length, get_or}
use native.Mathlib.Omega.{arith}
use native.Mathlib.Numerals.{add-one}
use lib.Dec.{eqb}
use Rattle.search.specs.Search.{closure, filter}
use Rattle.flow.specs.Sheet.{member, all, use_words, use_spans, local_of}
use Rattle.flow.specs.Refusals.{one}
use Rattle.flow.specs.Graph.{Graph, Nodes, node_count, graph}
use Rattle.flow.specs.Reachable.{successors}
use Rattle.flow.specs.Locals.{only_if, Local, no_value, writes_judged, tracked, Declaration, declaration, local_at, Finding, finding_word}
use Rattle.flow.specs.Findings.{Use, is_found, node, is_write, uses_from, uses_of, all_found, is_alive_at, live_successors, after_writes, live_after_writes, is_empty_read, first_empty_read, Meeting, a_read, a_pure_write, first_at, is_a_read, is_a_pure_write, is_no_use, range, meets_here, predecessors, meets, Ahead, ahead, is_overwritten_unread, or_else, is_overwritten, overwritten_at, overwritten_below, first_unassigned_use, initial_overwritten, writes_overwritten, of_use, of_initial, unassigned_of, overwritten_of}
use Rattle.flow.specs.Demand.{use_word}

-- ---- by the nodes of the graph alone

-- a graph with nodes alone
abbrev bare : Nodes → Graph
bare ns = record { nodes = ns; codes = record { span = []; node = [] }; names = record { span = []; node = []; scope_end = [] }; current = 0 }

module _ (g h : Graph) (e : g.nodes ≡ h.nodes) where
  nodes_after : (d : Declaration) (us : List Use) → after_writes g d us ≡ after_writes h d us
  unfolding after_writes is_alive_at
  nodes_after d [] = refl
  nodes_after d (u ∷ us) = λ i. only_if (is_write u) (live_successors (bare (e i)) d (node u)) ++ nodes_after d us i

  pub nodes_live : (d : Declaration) (us : List Use) → live_after_writes g d us ≡ live_after_writes h d us
  unfolding live_after_writes is_alive_at
  nodes_live d us = λ i. closure (nodes_after d us i) (live_successors (bare (e i)) d) (node_count (bare (e i)))

  pub nodes_ahead : (d : Declaration) (us : List Use) → ahead g d us ≡ ahead h d us
  unfolding ahead meets predecessors meets_here is_alive_at
  nodes_ahead d us = λ i. ahead (bare (e i)) d us

  pub nodes_unread : (a : Ahead) (v : ℕ) → is_overwritten_unread g a v ≡ is_overwritten_unread h a v
  unfolding is_overwritten_unread
  nodes_unread a v = λ i. is_overwritten_unread (bare (e i)) a v

  pub nodes_overwritten : (a : Ahead) (u : Use) (us : List Use) → is_overwritten g a u us ≡ is_overwritten h a u us
  unfolding is_overwritten
  nodes_overwritten a u us = λ i. is_write u && or_else (first_at (node u) us) (nodes_unread a (node u) i)

  nodes_at : (a : Ahead) (v : ℕ) (us : List Use) → overwritten_at g a v us ≡ overwritten_at h a v us
  unfolding overwritten_at
  nodes_at a v [] = refl
  nodes_at a v (u ∷ us) = λ i. only_if (eqb (node u) v && nodes_overwritten a u us i) (u ∷ []) ++ nodes_at a v us i

  pub nodes_below : (a : Ahead) (n : ℕ) (us : List Use) → overwritten_below g a n us ≡ overwritten_below h a n us
  unfolding overwritten_below
  nodes_below a zero us = refl
  nodes_below a (suc n) us = λ i. nodes_below a n us i ++ nodes_at a n us i

-- ---- by kind, closure and node of each use alone

-- f gives uses other numbers and spans, and keeps the rest
pub record Renumbers (f : Use → Use) : Type 0 where
  pub kinds : (u : Use) → (f u).kind ≡ u.kind
  pub closures : (u : Use) → (f u).in_closure ≡ u.in_closure
  pub nodes : (u : Use) → node (f u) ≡ node u

map_only : {A B : Type 0} (f : A → B) (b : Bool) (l : List A) → map f (only_if b l) ≡ only_if b (map f l)
map_only f true l = refl
map_only f false l = refl

map_cond : {A B : Type 0} (f : A → B) (b : Bool) (l r : List A) → map f (cond b l r) ≡ cond b (map f l) (map f r)
map_cond f true l r = refl
map_cond f false l r = refl

module _ {f : Use → Use} (k : Renumbers f) where
  renumbered_after : (g : Graph) (d : Declaration) (us : List Use) → after_writes g d (map f us) ≡ after_writes g d us
  unfolding after_writes
  renumbered_after g d [] = refl
  renumbered_after g d (u ∷ us) = λ i. only_if (not (eqb (k.kinds u i) 0)) (live_successors g d (k.nodes u i)) ++ renumbered_after g d us i

  pub renumbered_live : (g : Graph) (d : Declaration) (us : List Use) → live_after_writes g d (map f us) ≡ live_after_writes g d us
  unfolding live_after_writes
  renumbered_live g d us = ap (λ (vs : List ℕ). closure vs (live_successors g d) (node_count g)) (renumbered_after g d us)

  renumbered_empty : (live written : List ℕ) (u : Use) → is_empty_read live written (f u) ≡ is_empty_read live written u
  unfolding is_empty_read
  renumbered_empty live written u = λ i. not (eqb (k.kinds u i) 1) && not (k.closures u i) && not (eqb (get_or live (k.nodes u i) 0) 1) && not (member (k.nodes u i) written)

  pub renumbered_first : (live written : List ℕ) (us : List Use) → first_empty_read live written (map f us) ≡ map f (first_empty_read live written us)
  unfolding first_empty_read
  renumbered_first live written [] = refl
  renumbered_first live written (u ∷ us) =
      let more : List ℕ = only_if (is_write u) (node u ∷ []) ++ written in
      (λ i. cond (renumbered_empty live written u i) (f u ∷ []) (first_empty_read live (only_if (not (eqb (k.kinds u i) 0)) (k.nodes u i ∷ []) ++ written) (map f us)))
      ∙ ap (λ (l : List Use). cond (is_empty_read live written u) (f u ∷ []) l) (renumbered_first live more us)
      ∙ sym (map_cond f (is_empty_read live written u) (u ∷ []) (first_empty_read live more us))

  pub renumbered_at : (v : ℕ) (us : List Use) → first_at v (map f us) ≡ first_at v us
  unfolding first_at
  renumbered_at v [] = refl
  renumbered_at v (u ∷ us) = λ i. cond (eqb (k.nodes u i) v) (cond (not (eqb (k.kinds u i) 1)) a_read a_pure_write) (renumbered_at v us i)

  renumbered_meets : (g : Graph) (d : Declaration) (us : List Use) (m : Meeting → Bool) (v : ℕ) → meets_here g d (map f us) m v ≡ meets_here g d us m v
  unfolding meets_here
  renumbered_meets g d us m v = ap (λ (x : Meeting). is_alive_at g d v && m x) (renumbered_at v us)

  pub renumbered_ahead : (g : Graph) (d : Declaration) (us : List Use) → ahead g d (map f us) ≡ ahead g d us
  unfolding ahead meets predecessors
  renumbered_ahead g d us = λ i. record { reads = onward is_a_read i; writes = onward is_a_pure_write i }
    where
      onward : (m : Meeting → Bool) → meets g d (map f us) m ≡ meets g d us m
      onward m = λ i. closure (filter (λ v. renumbered_meets g d us m v i) (range (node_count g))) (λ v. filter (λ u. member v (successors g u) && renumbered_meets g d us is_no_use u i) (range (node_count g))) (node_count g)

  pub renumbered_overwritten : (g : Graph) (a : Ahead) (u : Use) (us : List Use) → is_overwritten g a (f u) (map f us) ≡ is_overwritten g a u us
  unfolding is_overwritten
  renumbered_overwritten g a u us = λ i. not (eqb (k.kinds u i) 0) && or_else (renumbered_at (k.nodes u i) us i) (is_overwritten_unread g a (k.nodes u i))

  renumbered_here : (g : Graph) (a : Ahead) (v : ℕ) (us : List Use) → overwritten_at g a v (map f us) ≡ map f (overwritten_at g a v us)
  unfolding overwritten_at
  renumbered_here g a v [] = refl
  renumbered_here g a v (u ∷ us) =
      let b : Bool = eqb (node u) v && is_overwritten g a u us in
      (λ i. only_if (eqb (k.nodes u i) v && renumbered_overwritten g a u us i) (f u ∷ []) ++ renumbered_here g a v us i)
      ∙ ap (λ (l : List Use). l ++ map f (overwritten_at g a v us)) (sym (map_only f b (u ∷ [])))
      ∙ sym (map-append f (only_if b (u ∷ [])) (overwritten_at g a v us))

  pub renumbered_below : (g : Graph) (a : Ahead) (n : ℕ) (us : List Use) → overwritten_below g a n (map f us) ≡ map f (overwritten_below g a n us)
  unfolding overwritten_below
  renumbered_below g a zero us = refl
  renumbered_below g a (suc n) us =
      (λ i. renumbered_below g a n us i ++ renumbered_here g a n us i) ∙ sym (map-append f (overwritten_below g a n us) (overwritten_at g a n us))

  -- ---- the findings of one local

  pub renumbered_found : ((u : Use) → is_found (f u).found ≡ is_found u.found) → (us : List Use) → all_found (map f us) ≡ all_found us
  unfolding all_found all
  renumbered_found h [] = refl
  renumbered_found h (u ∷ us) = λ i. h u i && renumbered_found h us i

  module _ (h : (u : Use) → is_found (f u).found ≡ is_found u.found) (g : Graph) (l : Local) (d : Declaration) (us : List Use) where
    pub renumbered_unassigned : first_unassigned_use g l d (map f us) ≡ map f (first_unassigned_use g l d us)
    unfolding first_unassigned_use
    renumbered_unassigned =
        let live : List ℕ = live_after_writes g d us in
        (λ i. only_if (tracked l && renumbered_found h us i && no_value l) (first_empty_read (renumbered_live g d us i) [] (map f us)))
        ∙ ap (λ (x : List Use). only_if (tracked l && all_found us && no_value l) x) (renumbered_first live [] us)
        ∙ sym (map_only f (tracked l && all_found us && no_value l) (first_empty_read live [] us))

    pub renumbered_initial : initial_overwritten g l d (map f us) ≡ initial_overwritten g l d us
    unfolding initial_overwritten
    renumbered_initial = λ i. tracked l && renumbered_found h us i && not (no_value l) && is_overwritten_unread g (renumbered_ahead g d us i) d.node

    pub renumbered_writes : writes_overwritten g l d (map f us) ≡ map f (writes_overwritten g l d us)
    unfolding writes_overwritten
    renumbered_writes =
        let a : Ahead = ahead g d us in
        let b : Bool = tracked l && all_found us && writes_judged l in
        (λ i. only_if (tracked l && renumbered_found h us i && writes_judged l) (overwritten_below g (renumbered_ahead g d us i) (node_count g) (map f us)))
        ∙ ap (λ (x : List Use). only_if b x) (renumbered_below g a (node_count g) us)
        ∙ sym (map_only f b (overwritten_below g a (node_count g) us))

-- ---- by the local's own uses alone, wherever they stand in the use sheet

-- a use with another number
abbrev numbered : ℕ → Use → Use
numbered k u = record { number = k; span = u.span; kind = u.kind; in_closure = u.in_closure; found = u.found }

-- uses numbered by their place among each other, from k on
abbrev pub in_places : ℕ → List Use → List Use
in_places k [] = []
in_places k (u ∷ us) = numbered k u ∷ in_places (k + 1) us

-- the place of the use u among the own uses of ℓ: how many of these stand before it
abbrev pub own_before : List ℕ → ℕ → ℕ → ℕ
own_before U ℓ zero = 0
own_before U ℓ (suc u) = own_before U ℓ u + one (eqb (local_of (use_word U u)) ℓ)

-- "use number + 1, or 0 for an initial value", with the place for the number
abbrev code_by_place : List ℕ → ℕ → ℕ → ℕ
code_by_place U ℓ zero = 0
code_by_place U ℓ (suc u) = suc (own_before U ℓ u)

-- a finding of ℓ, its use number read as the place among the own uses
abbrev pub by_place : List ℕ → ℕ → Finding → Finding
by_place U ℓ f = record { word = f.word % 2 ^ 32 + 2 ^ 32 * code_by_place U ℓ (f.word / 2 ^ 32); span = f.span }

-- what is listed of ℓ, by its uses
module _ (S : List ℕ) (ℓ : ℕ) where
  abbrev unassigned : List Use → List Use
  unassigned us = first_unassigned_use (graph S) (local_at S ℓ) (declaration (graph S) ℓ) us

  abbrev initial : List Use → Bool
  initial us = initial_overwritten (graph S) (local_at S ℓ) (declaration (graph S) ℓ) us

  abbrev writes : List Use → List Use
  writes us = writes_overwritten (graph S) (local_at S ℓ) (declaration (graph S) ℓ) us

  abbrev value : Bool → List Finding
  value b = only_if b (of_initial ℓ (get_or (graph S).names.span ℓ 0) ∷ [])

module _ (U : List ℕ) (ℓ : ℕ) where
  abbrev placed : Use → Use
  placed u = numbered (own_before U ℓ u.number) u

  placed_one : (b : Bool) (k : ℕ) (u : Use) (us : List Use) → placed u ≡ numbered k u → map placed us ≡ in_places (k + one b) us → map placed (only_if b (u ∷ []) ++ us) ≡ in_places k (only_if b (u ∷ []) ++ us)
  placed_one true k u us e r = ap₂ ◌∷◌ e r
  placed_one false k u us e r = r ∙ ap (λ (n : ℕ). in_places n us) (omega arith)

  placed_from : (g : Graph) (l : Local) (k : ℕ) (ws ss : List ℕ) → ((i : ℕ) → i < length ws → get_or ws i 0 ≡ use_word U (k + i)) → map placed (uses_from g l ℓ k ws ss) ≡ in_places (own_before U ℓ k) (uses_from g l ℓ k ws ss)
  unfolding uses_from
  placed_from g l k [] ss h = refl
  placed_from g l k (w ∷ ws) ss h =
      let rest : List Use = uses_from g l ℓ (k + 1) ws (tail ss) in
      let here : w ≡ use_word U k = h 0 (omega arith) ∙ ap (use_word U) (omega arith) in
      let next : own_before U ℓ (k + 1) ≡ own_before U ℓ k + one (eqb (local_of w) ℓ) = ap (own_before U ℓ) (add-one k) ∙ ap (λ (x : ℕ). own_before U ℓ k + one (eqb (local_of x) ℓ)) (sym here) in
      placed_one (eqb (local_of w) ℓ) (own_before U ℓ k) _ rest refl
      (placed_from g l (k + 1) ws (tail ss) (λ i b. h (suc i) (omega arith) ∙ ap (use_word U) (omega arith)) ∙ ap (λ (n : ℕ). in_places n rest) next)

  -- read so, the own uses are numbered from 0 on
  placed_own : (S : List ℕ) → map placed (uses_of S U ℓ) ≡ in_places 0 (uses_of S U ℓ)
  unfolding uses_of
  placed_own S = placed_from (graph S) (local_at S ℓ) 0 (use_words U) (use_spans U) (λ i h. ap (use_word U) (omega arith))

  -- a renumbering like any other
  renumbers : Renumbers placed
  renumbers = record { kinds = λ u. refl; closures = λ u. refl; nodes = λ u. refl }

  module _ (few : ℓ < 1024) where
    word_by_place : (list c s : ℕ) → list ≤ 1 → by_place U ℓ (record { word = finding_word list ℓ c; span = s }) ≡ record { word = finding_word list ℓ (code_by_place U ℓ c); span = s }
    word_by_place list c s small =
        let low : finding_word list ℓ c % 2 ^ 32 ≡ list + 2 * ℓ = omega arith in
        let high : finding_word list ℓ c / 2 ^ 32 ≡ c = omega arith in
        λ i. record { word = low i + 2 ^ 32 * code_by_place U ℓ (high i); span = s }

    use_by_place : (list : ℕ) → list ≤ 1 → (u : Use) → by_place U ℓ (of_use list ℓ u) ≡ of_use list ℓ (placed u)
    use_by_place list small u =
        let next : code_by_place U ℓ (u.number + 1) ≡ own_before U ℓ u.number + 1 = ap (code_by_place U ℓ) (add-one u.number) ∙ sym (add-one (own_before U ℓ u.number)) in
        word_by_place list (u.number + 1) u.span small ∙ ap (λ (c : ℕ). record { word = finding_word list ℓ c; span = u.span }) next

    uses_by_place : (list : ℕ) → list ≤ 1 → (us : List Use) → map (by_place U ℓ) (map (of_use list ℓ) us) ≡ map (of_use list ℓ) (map placed us)
    uses_by_place list small [] = refl
    uses_by_place list small (u ∷ us) = ap₂ ◌∷◌ (use_by_place list small u) (uses_by_place list small us)

    -- the findings of ℓ so read are those of its own uses so numbered
    module _ (S : List ℕ) where
      value_by_place : (b : Bool) → map (by_place U ℓ) (value S ℓ b) ≡ value S ℓ b
      value_by_place true = ap (λ (f : Finding). f ∷ []) (word_by_place 1 0 (get_or (graph S).names.span ℓ 0) (omega arith))
      value_by_place false = refl

      unassigned_by_place : map (by_place U ℓ) (unassigned_of S U ℓ) ≡ map (of_use 0 ℓ) (unassigned S ℓ (in_places 0 (uses_of S U ℓ)))
      unfolding unassigned_of
      unassigned_by_place =
          uses_by_place 0 (omega arith) (unassigned S ℓ (uses_of S U ℓ))
          ∙ ap (map (of_use 0 ℓ)) (sym (renumbered_unassigned renumbers (λ u. refl) (graph S) (local_at S ℓ) (declaration (graph S) ℓ) (uses_of S U ℓ)) ∙ ap (unassigned S ℓ) (placed_own S))

      overwritten_by_place : map (by_place U ℓ) (overwritten_of S U ℓ) ≡ value S ℓ (initial S ℓ (in_places 0 (uses_of S U ℓ))) ++ map (of_use 1 ℓ) (writes S ℓ (in_places 0 (uses_of S U ℓ)))
      unfolding overwritten_of
      overwritten_by_place =
          let us : List Use = uses_of S U ℓ in
          map-append (by_place U ℓ) (value S ℓ (initial S ℓ us)) (map (of_use 1 ℓ) (writes S ℓ us))
          ∙ ap₂ ◌++◌
          (value_by_place (initial S ℓ us) ∙ ap (value S ℓ) (sym (renumbered_initial renumbers (λ u. refl) (graph S) (local_at S ℓ) (declaration (graph S) ℓ) us) ∙ ap (initial S ℓ) (placed_own S)))
          (uses_by_place 1 (omega arith) (writes S ℓ us) ∙ ap (map (of_use 1 ℓ)) (sym (renumbered_writes renumbers (λ u. refl) (graph S) (local_at S ℓ) (declaration (graph S) ℓ) us) ∙ ap (writes S ℓ) (placed_own S)))

-- two use sheets that agree on a local's own uses in order (kind, closure, span and node of each) give it the same findings, use numbers read as places among them
module _ (S U U' : List ℕ) (ℓ : ℕ) (few : ℓ < 1024) (same : in_places 0 (uses_of S U ℓ) ≡ in_places 0 (uses_of S U' ℓ)) where
  pub own_unassigned : map (by_place U ℓ) (unassigned_of S U ℓ) ≡ map (by_place U' ℓ) (unassigned_of S U' ℓ)
  own_unassigned = unassigned_by_place U ℓ few S ∙ ap (λ (us : List Use). map (of_use 0 ℓ) (unassigned S ℓ us)) same ∙ sym (unassigned_by_place U' ℓ few S)

  pub own_overwritten : map (by_place U ℓ) (overwritten_of S U ℓ) ≡ map (by_place U' ℓ) (overwritten_of S U' ℓ)
  own_overwritten = overwritten_by_place U ℓ few S ∙ ap (λ (us : List Use). value S ℓ (initial S ℓ us) ++ map (of_use 1 ℓ) (writes S ℓ us)) same ∙ sym (overwritten_by_place U' ℓ few S)
