-- The rules for one tick graph, and for an activity by its peeled unit.
use Rattle.std.proofs.Common.{◌≡◌, true, cond, List, [], ◌∷◌, ⊎_elim, sym, ap, subst, ◌∙◌}
use Rattle.std.specs.Prelude.{◌<◌, ◌≤◌, Contains, Some}
use Rattle.bl_tree.proofs.Basics.{contains_first, contains_none, first_or_further}
use Rattle.bl_graph.specs.declared.tick_graph.Graph.{Graph}
use Rattle.bl_tree.specs.declared.place.Place.{Place}
use Rattle.bl_tree.specs.declared.rule.Refusal.{Refusal}
use Rattle.bl_tree.specs.declared.rule.Refusal.TheVariants as refusal
use Rattle.bl_tree.specs.declared.rule.Rule.{Rule}
use Rattle.bl_tree.specs.declared.rule.Rule.TheVariants as rule
use Rattle.bl_tree.specs.declared.tree.Stmt.{Stmt}
use Rattle.bl_tree.specs.declared.tree.Unit.{Unit as UnitDef}
use Rattle.bl_tree.specs.Rules.{FailsFirst as FirstOf, IsCause}
use Rattle.bl_tree.specs.Typing.{is_activity}
use Rattle.bl_tree.proofs.FirstLemmas.{alike_first}
use Rattle.bl_graph.specs.Graph.{IsTickGraph}
use Rattle.bl_graph_nodes.specs.Plain.{plain_body}
use Rattle.bl_cause.specs.Activities.{AreGraphs, EachTwo, IsGraphOf, IsOrderOf}
use Rattle.bl_cause.specs.declared.order.Order.{Order}
use Rattle.bl_cause.specs.Fails.{FailsCycle, FailsTwice, IsFirst, Never, TellsFirst}
use Rattle.bl_cause.specs.inner.Graphs.{AnyFails, GraphsFail}
use Rattle.bl_cause.specs.Rules.{Fails as OwnGraphsFail}
use Rattle.bl_cause.proofs.AlikeLemmas.{program_cause}
use Rattle.bl_cause.proofs.GraphLemmas.{cycle_first, twice_first}
use Rattle.bl_cause.proofs.WalkLemmas.{controls_closed, ranks_leave_no_walk}
use Rattle.bl_peel.specs.Count.{statement_count}
use Rattle.bl_peel.specs.Peeled.{peeled}
use Rattle.bl_cause_trees.specs.inner.Judging.{FailsFirstInBody, IsCauseInBody, IsPeeledBy}
use Rattle.bl_cause_trees.specs.Rules.{Fails}
use Rattle.bl_cause_trees.specs.Peeled.{HasWalk, IsPeeledUnit, clean, too_large, with_turns}
use Rattle.bl_cause_trees.proofs.Peeled.{peeled_units_are_judged, same_kind, walkless}

-- ---- one graph

module _ (FailsIn : Graph → Place → List Place → Type 0) (graph : Graph) where
  of_alone : (at : Place) (also : List Place) → AnyFails FailsIn (graph ∷ []) at also → FailsIn graph at also
  of_alone at also any =
      ⊎_elim (λ (is : graph ≡ any.graph). subst (λ it. FailsIn it at also) (sym is) any.fails)
      (λ (later : Contains [] any.graph). absurd (contains_none any.graph later))
      (first_or_further graph [] any.graph any.is_there)

  first_alone : (at : Place) (also : List Place) → IsFirst (FailsIn graph) at also → IsFirst (AnyFails FailsIn (graph ∷ [])) at also
  first_alone at also first = (
    record { graph = graph; is_there = contains_first graph []; fails = first.0 },
    λ elsewhere further any. first.1 elsewhere further (of_alone elsewhere further any),
  )

  never_alone : Never (FailsIn graph) → Never (AnyFails FailsIn (graph ∷ []))
  never_alone never at also any = never at also (of_alone at also any)

module _ (body : List Stmt) (graph : Graph) (own : IsTickGraph (plain_body body) graph.nodes graph.edges) where
  pub twice_in_body : (told : Refusal) → TellsFirst rule.Twice (FailsTwice graph) told → IsCauseInBody body told
  twice_in_body (refusal.Rule r at also) tells = record {
    graph = graph;
    of_body = own;
    first = subst (λ it. FirstOf (GraphsFail (graph ∷ [])) it at also) (sym tells.0)
        (twice_first (graph ∷ []) at also (first_alone FailsTwice graph at also tells.1));
  }
  twice_in_body refusal.NoMemory tells = tt

  pub cycle_in_body : Never (FailsTwice graph) → (told : Refusal) → TellsFirst rule.Cycle (FailsCycle graph) told → IsCauseInBody body told
  cycle_in_body never (refusal.Rule r at also) tells = record {
    graph = graph;
    of_body = own;
    first = subst (λ it. FirstOf (GraphsFail (graph ∷ [])) it at also) (sym tells.0)
        (cycle_first (graph ∷ []) (never_alone FailsTwice graph never) at also (first_alone FailsCycle graph at also tells.1));
  }
  cycle_in_body never refusal.NoMemory tells = tt

-- ---- a graph with an order

module _ (graph : Graph) (order : Order) (rises : IsOrderOf graph order) where
  pub ordered_never_twice : Never (FailsTwice graph)
  ordered_never_twice at also fails =
      ranks_leave_no_walk graph.edges order.ranks rises (fails.edge ∷ fails.rest) (controls_closed graph.edges (fails.edge ∷ fails.rest) fails.closed).0

  pub ordered_never_cycle : Never (FailsCycle graph)
  ordered_never_cycle at also fails = ranks_leave_no_walk graph.edges order.ranks rises (fails.edge ∷ fails.rest) fails.closed

-- an activity whose own tick graph has an order stays as it is
pub own_is_peeled : (unit : UnitDef) (graph : Graph) (order : Order) → IsGraphOf unit graph → IsOrderOf graph order → IsPeeledUnit unit unit
own_is_peeled unit graph order own rises =
    clean (walkless unit graph own (ordered_never_twice graph order rises) (ordered_never_cycle graph order rises))

-- ---- a graph that fails

walk_of_first : (unit : UnitDef) (graph : Graph) → IsGraphOf unit graph → (r : Rule) (at : Place) (also : List Place) →
    GraphsFail (graph ∷ []) r at also → HasWalk unit
walk_of_first unit graph own rule.Twice at also any =
    let fails = of_alone FailsTwice graph at also any in
    record {
      graph = graph;
      of_unit = own;
      walk = fails.edge ∷ fails.rest;
      closed = (controls_closed graph.edges (fails.edge ∷ fails.rest) fails.closed).0;
    }
walk_of_first unit graph own rule.Cycle at also any =
    let fails = of_alone FailsCycle graph at also any in
    record { graph = graph; of_unit = own; walk = fails.edge ∷ fails.rest; closed = fails.closed }
walk_of_first unit graph own _ at also any = absurd any

-- a unit that is refused has a closed walk
pub has_walk : (unit : UnitDef) (r : Rule) (at : Place) (also : List Place) → FailsFirstInBody unit.body r at also → HasWalk unit
has_walk unit r at also first = walk_of_first unit first.graph first.of_body r at also first.first.fails

-- ---- an activity by its peeled unit

pub graph_alone : (peeled_unit : UnitDef) (graph : Graph) → is_activity peeled_unit.kind ≡ true → IsGraphOf peeled_unit graph →
    AreGraphs (peeled_unit ∷ []) (graph ∷ [])
graph_alone peeled_unit graph activity own = subst (λ b. EachTwo IsGraphOf (cond b (peeled_unit ∷ []) []) (graph ∷ [])) (sym activity) (own, tt)

module _ (unit peeled_unit : UnitDef) (activity : is_activity unit.kind ≡ true) (is : IsPeeledUnit unit peeled_unit) where
  pub first_by_peeled : (r : Rule) (at : Place) (also : List Place) → FailsFirstInBody peeled_unit.body r at also →
      FirstOf (Fails (unit ∷ [])) r at also
  first_by_peeled r at also first =
      alike_first (OwnGraphsFail (peeled_unit ∷ [])) (Fails (unit ∷ []))
      (λ s elsewhere further. (peeled_units_are_judged (unit ∷ []) (peeled_unit ∷ []) (is, tt) s elsewhere further).1)
      (λ s elsewhere further. (peeled_units_are_judged (unit ∷ []) (peeled_unit ∷ []) (is, tt) s elsewhere further).0) r at also
      (program_cause (peeled_unit ∷ []) (first.graph ∷ [])
      (graph_alone peeled_unit first.graph (ap is_activity (same_kind is) ∙ activity) first.of_body) (refusal.Rule r at also) first.first)

  pub cause_by_peeled : (told : Refusal) → IsCauseInBody peeled_unit.body told → IsCause (Fails (unit ∷ [])) told
  cause_by_peeled (refusal.Rule r at also) first = first_by_peeled r at also first
  cause_by_peeled refusal.NoMemory first = tt

-- ---- an activity by its body with first turns

-- the activity with the body that was made for it is its peeled unit
pub turned_is_peeled : (unit : UnitDef) (body inner : List Stmt) → inner ≡ unit.body → body ≡ peeled inner → is_activity unit.kind ≡ true →
    HasWalk unit → statement_count (peeled inner) ≤ 10_000 → IsPeeledBy unit (Some body)
turned_is_peeled unit body inner own made activity walk fits =
    subst (λ it. IsPeeledUnit unit (record unit { body = it })) (sym (made ∙ ap peeled own))
    (with_turns activity walk (subst (λ it. statement_count (peeled it) ≤ 10_000) own fits))

-- an activity whose body with first turns is too large stays as it is
pub large_is_peeled : (unit : UnitDef) (inner : List Stmt) → inner ≡ unit.body → 10_000 < statement_count (peeled inner) → IsPeeledUnit unit unit
large_is_peeled unit inner own more = too_large (subst (λ it. 10_000 < statement_count (peeled it)) own more)
