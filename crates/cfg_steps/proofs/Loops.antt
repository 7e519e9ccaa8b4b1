-- Where loops begin and end.
-- Assumes nothing.
use mathlib.Core.Path.{◌≡◌, refl, ap, ◌∙◌, subst}
use mathlib.Core.Logic.{inl}
use Rattle.std.specs.Prelude.{Option, Some, IfSome, None}
use Rattle.std.specs.Bool.{then_some}
use mathlib.Core.List.{List}
use mathlib.Core.Bool.{Bool, true, false, cond}
use Prim.Native.Nat.{ℕ, ◌+◌, ◌<◌}
use native.Mathlib.Omega.{arith}
use Rattle.flow.specs.Graph.{Graph, absent, connect, set_current, record_code, enter_when, unless_true, unless_false}
use Rattle.cfg_edges.specs.Halves.{joined_from}
use Rattle.kinds.specs.Truths.{may_fail, may_hold}
use Rattle.cfg_steps.specs.Columns.{Place, Cols, cols, cursor_node, graph_of, settings_of, Good, Did, repeat_end}
use Rattle.cfg_steps.proofs.Fits.{good_as}
use Rattle.cfg_steps.proofs.Ops.{edge_did, with_cursor, current_of, from_joined}

-- another node is current
pub move_did : (ks : List ℕ) (b : Place) (e c n l : List ℕ) (ok : Good b (cols e c n l)) (v : Option ℕ) → IfSome v (λ u. u < b.nodes) → Did ks (λ ss. set_current (cursor_node v)) 0 b (cols e c n l) (with_cursor ks b e c n l ok v) (cols e c n l)
unfolding graph_of settings_of set_current
move_did ks b e c n l ok v hv = record {
  good = good_as ok (omega (arith, ok)) hv;
  grown = record {
    nodes = omega arith;
    codes = omega arith;
    names = omega arith;
    edges_past = refl;
    codes_past = refl;
    names_past = refl;
    labels_past = refl;
    labels_kept = refl;
    edges_length = refl;
    codes_length = refl;
    names_length = refl;
    labels_length = refl;
  };
  item = refl;
  nodes = omega arith;
  labels = refl;
  settings = refl;
  built = λ ss. refl;
}

-- an edge where it is wanted, after which v is current
pub if_did : (ks : List ℕ) (b : Place) (e c n l : List ℕ) (ok : Good b (cols e c n l)) (a t : ℕ) (v : Option ℕ) (wanted : Bool) (e' : List ℕ) → e' ≡ joined_from (then_some wanted a) t e → a < b.nodes → t < b.nodes → IfSome v (λ u. u < b.nodes)
    → Did ks (λ ss g. set_current (cursor_node v) (cond wanted (connect a t g) g)) 0 b (cols e c n l) (with_cursor ks b e c n l ok v) (cols e' c n l)
if_did ks b e c n l ok a t v true e' q ha ht hv = edge_did ks b e c n l ok a t v e' (q ∙ from_joined (Some a) t b.nodes e ha ok.nodes) (inl ha) ht hv
if_did ks b e c n l ok a t v false e' q ha ht hv = rw q (move_did ks b e c n l ok v hv)

-- what is built from the node v is built from the node that is found to be v
pub did_at : (f : ℕ → List ℕ → Graph → Graph) {ks : List ℕ} {k h v : ℕ} {b r : Place} {x y : Cols} → h ≡ v → Did ks (f h) k b x r y → Did ks (f v) k b x r y
did_at f {ks} {k} {b = b} {r} {x} {y} e d = subst (λ (z : ℕ). Did ks (f z) k b x r y) e d

pub fails_edge : (t : Option Bool) (a b : ℕ) (g : Graph) → cond (may_fail t) (connect a b g) g ≡ unless_true t (connect a b) g
fails_edge (Some false) a b g = refl
fails_edge (Some true) a b g = refl
fails_edge None a b g = refl

pub holds_edge : (t : Option Bool) (a b : ℕ) (g : Graph) → cond (may_hold t) (connect a b g) g ≡ unless_false t (connect a b) g
holds_edge (Some false) a b g = refl
holds_edge (Some true) a b g = refl
holds_edge None a b g = refl

pub enter_never : (t : Option Bool) (g : Graph) → may_hold t ≡ false → set_current absent g ≡ enter_when t g
enter_never (Some false) g e = refl
enter_never (Some true) g e = absurd (let z : ◌≡◌ {A = ℕ} 1 0 = ap (λ (b : Bool). cond b 1 0) e in omega arith)
enter_never None g e = absurd (let z : ◌≡◌ {A = ℕ} 1 0 = ap (λ (b : Bool). cond b 1 0) e in omega arith)

-- the current node is overwritten
pub moved_twice : (u v : ℕ) (w : Bool) (a b : ℕ) (g : Graph) → set_current v (cond w (connect a b (set_current u g)) (set_current u g)) ≡ set_current v (cond w (connect a b g) g)
unfolding set_current connect
moved_twice u v true a b g = refl
moved_twice u v false a b g = refl

-- a span and edges leave each other alone
span_last : (t : Option Bool) (body s : ℕ) (g : Graph)
    → set_current (body + 2) (unless_false t (connect (body + 1) (body + 2)) (unless_true t (connect (body + 1) body) (record_code s (body + 1) g))) ≡ repeat_end t body s g
unfolding set_current connect record_code
span_last (Some false) body s g = refl
span_last (Some true) body s g = refl
span_last None body s g = refl

-- UNTIL's span, and its condition's edges where they are wanted
pub repeat_ends : (t : Option Bool) {p q : Bool} (body s : ℕ) (g : Graph) → p ≡ may_fail t → q ≡ may_hold t
    → set_current (body + 2) (cond q (connect (body + 1) (body + 2) (cond p (connect (body + 1) body (record_code s (body + 1) g)) (record_code s (body + 1) g))) (cond p (connect (body + 1) body (record_code s (body + 1) g)) (record_code s (body + 1) g)))
    ≡ repeat_end t body s g
repeat_ends t {p} {q} body s g ep eq = ap (set_current (body + 2)) (same_edges (record_code s (body + 1) g)) ∙ span_last t body s g
  where
    same_edges : (h : Graph) → cond q (connect (body + 1) (body + 2) (cond p (connect (body + 1) body h) h)) (cond p (connect (body + 1) body h) h)
        ≡ unless_false t (connect (body + 1) (body + 2)) (unless_true t (connect (body + 1) body) h)
    same_edges h = rw (ep, eq, fails_edge t (body + 1) body h) (holds_edge t (body + 1) (body + 2) _)

-- where the node is current already
stay : (v : ℕ) (g : Graph) → g.current ≡ v → set_current v g ≡ g
unfolding set_current
stay v g e = rw (← e)

connect_current : (w : Bool) (a b : ℕ) (g : Graph) → (cond w (connect a b g) g).current ≡ g.current
unfolding connect
connect_current true a b g = refl
connect_current false a b g = refl

pub connected_did : (ks : List ℕ) (b : Place) (e c n l : List ℕ) (ok : Good b (cols e c n l)) (a t : ℕ) (wanted : Bool) (e' : List ℕ) → e' ≡ joined_from (then_some wanted a) t e → a < b.nodes → t < b.nodes
    → Did ks (λ ss g. cond wanted (connect a t g) g) 0 b (cols e c n l) b (cols e' c n l)
connected_did ks b e c n l ok a t wanted e' q ha ht =
    let d = if_did ks b e c n l ok a t b.cursor wanted e' q ha ht ok.cursor in
    record {
      good = d.good;
      grown = d.grown;
      item = d.item;
      nodes = d.nodes;
      labels = d.labels;
      settings = d.settings;
      built = λ ss. d.built ss ∙ stay (cursor_node b.cursor) _ (connect_current wanted a t (graph_of ks ss b (cols e c n l)) ∙ current_of ks ss b (cols e c n l));
    }
