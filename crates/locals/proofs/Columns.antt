-- What the columns of a pass hold for one local: its part, its declaration, and the nodes of the graph.
-- Assumes nothing.
use Prim.Native.Nat.{ℕ, ◌<◌}
use mathlib.Core.Path.{◌≡◌, sym, ap, ◌∙◌}
use mathlib.Core.List.{List}
use lib.ListN.{get_or, take}
use lib.Seq.{get_or-take}
use Rattle.flow.specs.Graph.{Graph, graph}
use Rattle.flow.specs.Locals.{declaration}
use Rattle.live_steps.specs.declared.LocalDeclaration.{LocalDeclaration}
use Rattle.live_steps.specs.Walk.{Charts, chart, declared}
use Rattle.locals.specs.Columns.{Named}

-- a declaration that was read from the columns of names is 01's
pub declared_at : {S : List ℕ} {n names : ℕ} {node_of_name name_end : List ℕ} → Named S n names node_of_name name_end → (ℓ : ℕ) → ℓ < names → (d : LocalDeclaration) → d.node ≡ get_or node_of_name ℓ 0 → d.scope_end ≡ get_or name_end ℓ 0 → declared d ≡ declaration (graph S) ℓ
declared_at {names = names} {node_of_name} {name_end} c ℓ h d v e =
    λ i. record { node = (v ∙ told node_of_name c.nodes) i; scope_end = (e ∙ told name_end c.ends) i }
  where
    told : (column : List ℕ) {values : List ℕ} → values ≡ take names column → get_or column ℓ 0 ≡ get_or values ℓ 0
    told column q = sym (get_or-take names column ℓ 0 h) ∙ ap (λ (x : List ℕ). get_or x ℓ 0) (sym q)

-- the graph of the columns has the nodes of the sheet's
pub charted_nodes : {g : Graph} {n : ℕ} {first second start : List ℕ} → Charts g n first second start → (chart n first second start).nodes ≡ g.nodes
charted_nodes c = λ i. record { first = sym c.firsts i; second = sym c.seconds i; start = sym c.starts i }
