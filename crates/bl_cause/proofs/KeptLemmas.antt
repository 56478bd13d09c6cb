-- The edges of a graph as they are kept.
use Rattle.std.proofs.Common.{◌≡◌, Bool, true, false, not, List, [], ◌∷◌, ◌++◌, cond, refl, sym, ap, ◌∙◌, append-nil}
use Rattle.std.specs.Prelude.{Contains, MatchOption, Option, None, Some, is_some, ⊤}
use Rattle.bl_tree.proofs.Basics.{contains_first, contains_further}
use Rattle.bl_tree.specs.declared.graph.Edge.{Edge}
use Rattle.bl_graph.specs.declared.accesses.Access.{Access}
use Rattle.bl_graph.specs.declared.tick_graph.Graph.{Graph}
use Rattle.bl_graph.specs.Accesses.{flows}
use Rattle.bl_graph.proofs.AccessLemmas.{flows_by_data}
use Rattle.bl_cause.specs.declared.first.Found.{Found}
use Rattle.bl_cause.specs.Fails.{FailsCycle, FailsTwice, IsFirst}
use Rattle.bl_cause.specs.Walks.{ClosedWalk, controls}
use Rattle.bl_cause.proofs.WalkLemmas.{controls_closed}

controls-append : (xs ys : List Edge) → controls (xs ++ ys) ≡ controls xs ++ controls ys
controls-append [] ys = refl
controls-append (x ∷ xs) ys = step x.by_data (controls-append xs ys)
  where
    step : (t : Bool) → controls (xs ++ ys) ≡ controls xs ++ controls ys →
        cond (not t) (x ∷ controls (xs ++ ys)) (controls (xs ++ ys)) ≡ cond (not t) (x ∷ controls xs) (controls xs) ++ controls ys
    step true is = is
    step false is = ap (λ rest. x ∷ rest) is

no_controls : (ys : List Edge) → ((edge : Edge) → Contains ys edge → edge.by_data ≡ true) → controls ys ≡ []
no_controls [] all = refl
no_controls (y ∷ ys) all =
    ap (λ t. cond (not t) (y ∷ controls ys) (controls ys)) (all y (contains_first y ys))
    ∙ no_controls ys (λ edge there. all edge (contains_further y ys edge there))

-- the control edges are those that are kept as such
pub controls_kept : (control edges : List Edge) (accesses : List Access) → control ++ flows accesses ≡ edges → controls control ≡ controls edges
controls_kept control edges accesses is =
    sym (append-nil (controls control)) ∙ ap (λ rest. controls control ++ rest) (sym (no_controls (flows accesses) (flows_by_data accesses)))
    ∙ sym (controls-append control (flows accesses)) ∙ ap controls is

-- where a rule fails, there is a closed walk
pub twice_walks : (graph : Graph) (found : Option Found) → is_some found ≡ true →
    MatchOption found ⊤ (λ walk. IsFirst (FailsTwice graph) walk.at walk.also) → ((walk : List Edge) → ClosedWalk graph.edges walk → ⊥) → ⊥
twice_walks graph None some is none = absurd (no_true some)
  where
    no_true : false ≡ true → ⊥
    no_true is = cc
twice_walks graph (Some found) some is none =
    none (is.0.edge ∷ is.0.rest)
    (controls_closed graph.edges (is.0.edge ∷ is.0.rest) is.0.closed).0

pub cycle_walks : (graph : Graph) (found : Option Found) → is_some found ≡ true →
    MatchOption found ⊤ (λ walk. IsFirst (FailsCycle graph) walk.at walk.also) → ((walk : List Edge) → ClosedWalk graph.edges walk → ⊥) → ⊥
cycle_walks graph None some is none = absurd (no_true some)
  where
    no_true : false ≡ true → ⊥
    no_true is = cc
cycle_walks graph (Some found) some is none = none (is.0.edge ∷ is.0.rest) is.0.closed
