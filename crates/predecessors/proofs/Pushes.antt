-- A node of a chain pushed or passed over: to push those that are left is what is left to do.
-- Assumes nothing.
use Rattle.std.proofs.Common.{◌≡◌, ℕ, ◌<◌, Bool, List, [], ◌∷◌, refl, sym, ap, ◌∙◌, subst, inl, inr}
use Rattle.search.specs.Search.{cons_if, filter}
use Rattle.search.specs.Worklist.{State}
use Rattle.search.specs.Stamps.{Ready, stamp_all, stamp_when}
use Rattle.search.proofs.Closure.{Nodes}
use Rattle.search.proofs.Stamps.{all_ready, when_all, when_one, when_nodes}

module _ (n u : ℕ) (l vs : List ℕ) (e : l ≡ u ∷ vs) (h : Nodes n l) where
  pub next_below : u < n
  next_below = subst (Nodes n) e h u (inl refl)

  pub rest_nodes : Nodes n vs
  rest_nodes v i = subst (Nodes n) e h v (inr i)

  module _ (stamp : ℕ) (test : ℕ → Bool) (b : Bool) (r : b ≡ test u) (s t : State) (p : t ≡ stamp_when stamp b u s) where
    pub rest_pushed : stamp_all stamp (filter test l) s ≡ stamp_all stamp (filter test vs) t
    rest_pushed =
        ap (λ (x : List ℕ). stamp_all stamp (filter test x) s) e
        ∙ ap (λ (x : Bool). stamp_all stamp (cons_if x u (filter test vs)) s) (sym r)
        ∙ sym (when_all stamp b u (filter test vs) s)
        ∙ ap (stamp_all stamp (filter test vs)) (sym p)

    pub still_ready : Ready stamp n s → Ready stamp n t
    still_ready d = all_ready stamp n (cons_if b u []) (when_nodes n b u next_below) d (p ∙ when_one stamp b u s)
