-- Whether a unit has a closed walk is decided, so each unit has a peeled unit.
use Rattle.std.proofs.Common.{◌≡◌, ℕ, ◌<◌, ◌≤◌, true, false, List, [], ◌∷◌, ◌++◌, ◌⊎◌, inl, inr, ⊎_elim, refl, sym, subst, ◌∙◌, arith, eq-eqb, eqb-true}
use Rattle.std.specs.Prelude.{Contains, nat_eq, nat_lt}
use Rattle.std.proofs.lemmas.Bool.Decides.{nat_tests}
use Rattle.bl_tree.proofs.Basics.{contains_first, contains_further, contains_none, first_or_further, true_and_false}
use Rattle.bl_tree.specs.declared.graph.Edge.{Edge}
use Rattle.bl_graph.specs.declared.tick_graph.Graph.{Graph}
use Rattle.bl_tree.specs.declared.tree.Unit.{Unit as UnitDef}
use Rattle.bl_tree.specs.Typing.{is_activity}
use Rattle.bl_cause.specs.Activities.{IsGraphOf}
use Rattle.bl_cause.specs.Walks.{ClosedWalk, EdgeWalk}
use Rattle.bl_cause.proofs.WalkLemmas.{controls_closed, walk_append}
use Rattle.bl_cause_laws.specs.Orders.{BodiesHaveGraphs}
use Rattle.bl_peel.specs.Count.{statement_count}
use Rattle.bl_peel.specs.Peeled.{peeled}
use Rattle.bl_cause_trees.specs.Laws.{PeeledAreThere}
use Rattle.bl_cause_trees.specs.Peeled.{HasWalk, IsPeeledUnit, clean, of_function, too_large, with_turns}
use Rattle.bl_cause_trees.proofs.Peeled.{walkless}

abbrev Decided : Type 0 → Type 0
Decided A = A ⊎ (A → ⊥)

-- ---- walks between nodes

abbrev Leads : List Edge → ℕ → ℕ → Type 0
Leads edges first last = (walk : List Edge) × EdgeWalk edges first walk last

module _ (edge : Edge) (edges : List Edge) where
  among_more : (first last : ℕ) (walk : List Edge) → EdgeWalk edges first walk last → EdgeWalk (edge ∷ edges) first walk last
  among_more first last [] w = w
  among_more first last (next ∷ walk) w = (contains_further edge edges next w.0, w.1, among_more next.to last walk w.2)

  -- a walk does without the first edge, or leads to it, and on from it
  split : (first last : ℕ) (walk : List Edge) → EdgeWalk (edge ∷ edges) first walk last →
      Leads edges first last ⊎ (Leads edges first edge.from × Leads edges edge.to last)
  split first last [] w = inl ([], w)
  split first last (next ∷ walk) w = along (first_or_further edge edges next w.0) (split next.to last walk w.2)
    where
      along : (edge ≡ next) ⊎ Contains edges next → Leads edges next.to last ⊎ (Leads edges next.to edge.from × Leads edges edge.to last) →
          Leads edges first last ⊎ (Leads edges first edge.from × Leads edges edge.to last)
      along (inl is) rest =
          inr (
            ([], sym w.1 ∙ sym (λ i. (is i).from)),
            ⊎_elim (λ (on : Leads edges next.to last). subst (λ (it : Edge). Leads edges it.to last) (sym is) on)
                (λ (on : Leads edges next.to edge.from × Leads edges edge.to last). on.1) rest,
          )
      along (inr there) rest =
          ⊎_elim (λ (on : Leads edges next.to last). inl (next ∷ on.0, (there, w.1, on.1)))
          (λ (on : Leads edges next.to edge.from × Leads edges edge.to last). inr ((next ∷ on.0.0, (there, w.1, on.0.1)), on.1)) rest

  -- a walk to the first edge and one on from it are one walk
  joined : (first last : ℕ) → Leads edges first edge.from → Leads edges edge.to last → Leads (edge ∷ edges) first last
  joined first last front back = (
    front.0 ++ edge ∷ back.0,
    walk_append (edge ∷ edges) first edge.from last front.0 (edge ∷ back.0) (among_more first edge.from front.0 front.1)
        (contains_first edge edges, refl, among_more edge.to last back.0 back.1),
  )

same_node : (first last : ℕ) → Decided (first ≡ last)
same_node first last =
    elim (nat_eq first last) as (λ test. nat_eq first last ≡ test → Decided (first ≡ last)) [
      | true ↦ λ is. inl (eqb-true first last is)
      | false ↦ λ is. inr (λ same. true_and_false (nat_eq first last) (eq-eqb first last same) is)
    ] refl

leads_or_not : (edges : List Edge) (first last : ℕ) → Decided (Leads edges first last)
leads_or_not [] first last =
    ⊎_elim (λ (same : first ≡ last). inl ([], same)) (λ (apart : first ≡ last → ⊥). inr (none apart)) (same_node first last)
  where
    none : (first ≡ last → ⊥) → Leads [] first last → ⊥
    none apart ([], w) = apart w
    none apart (next ∷ walk, w) = contains_none next w.0
leads_or_not (edge ∷ edges) first last =
    ⊎_elim (λ (without : Leads edges first last). inl (without.0, among_more edge edges first last without.0 without.1))
    (λ (never : Leads edges first last → ⊥).
    ⊎_elim
    (λ (front : Leads edges first edge.from).
    ⊎_elim (λ (back : Leads edges edge.to last). inl (joined edge edges first last front back))
    (λ (stops : Leads edges edge.to last → ⊥).
    inr (λ leads.
    ⊎_elim never (λ (both : Leads edges first edge.from × Leads edges edge.to last). stops both.1) (split edge edges first last leads.0 leads.1)))
    (leads_or_not edges edge.to last))
    (λ (stops : Leads edges first edge.from → ⊥).
    inr (λ leads.
    ⊎_elim never (λ (both : Leads edges first edge.from × Leads edges edge.to last). stops both.0) (split edge edges first last leads.0 leads.1)))
    (leads_or_not edges first edge.from))
    (leads_or_not edges first last)

-- ---- closed walks

-- a closed walk begins with one of some edges
abbrev Begins : List Edge → List Edge → Type 0
Begins edges some = (edge : Edge) × Contains some edge × Leads edges edge.to edge.from

begins_or_not : (edges some : List Edge) → Decided (Begins edges some)
begins_or_not edges [] = inr (λ begins. contains_none begins.0 begins.1)
begins_or_not edges (edge ∷ some) =
    ⊎_elim (λ (back : Leads edges edge.to edge.from). inl (edge, contains_first edge some, back))
    (λ (stops : Leads edges edge.to edge.from → ⊥).
    ⊎_elim (λ (later : Begins edges some). inl (later.0, contains_further edge some later.0 later.1, later.2))
    (λ (never : Begins edges some → ⊥).
    inr (λ begins.
    ⊎_elim (λ (is : edge ≡ begins.0). stops (subst (λ (it : Edge). Leads edges it.to it.from) (sym is) begins.2))
    (λ (there : Contains some begins.0). never (begins.0, there, begins.2)) (first_or_further edge some begins.0 begins.1)))
    (begins_or_not edges some))
    (leads_or_not edges edge.to edge.from)

begins_of : (edges walk : List Edge) → ClosedWalk edges walk → Begins edges edges
begins_of edges [] w = absurd w
begins_of edges (edge ∷ walk) w = (edge, w.0, (walk, w.1))

-- ---- units

module _ (unit : UnitDef) (graph : Graph) (own : IsGraphOf unit graph) where
  no_walk : (Begins graph.edges graph.edges → ⊥) → HasWalk unit → ⊥
  no_walk never =
      walkless unit graph own
      (λ at also fails.
      never (begins_of graph.edges (fails.edge ∷ fails.rest) (controls_closed graph.edges (fails.edge ∷ fails.rest) fails.closed).0))
      (λ at also fails. never (begins_of graph.edges (fails.edge ∷ fails.rest) fails.closed))

  walk_or_not : Decided (HasWalk unit)
  walk_or_not =
      ⊎_elim
      (λ (begins : Begins graph.edges graph.edges).
      inl (record { graph = graph; of_unit = own; walk = begins.0 ∷ begins.2.0; closed = (begins.1, begins.2.1) }))
      (λ (never : Begins graph.edges graph.edges → ⊥). inr (no_walk never)) (begins_or_not graph.edges graph.edges)

more_or_not : (n : ℕ) → (10_000 < n) ⊎ (n ≤ 10_000)
more_or_not n =
    elim (nat_lt 10_000 n) as (λ test. nat_lt 10_000 n ≡ test → (10_000 < n) ⊎ (n ≤ 10_000)) [
      | true ↦ λ is. inl (grind (arith, nat_tests))
      | false ↦ λ is. inr (grind (arith, nat_tests))
    ] refl

peeled_of : BodiesHaveGraphs → (unit : UnitDef) → (peeled_unit : UnitDef) × IsPeeledUnit unit peeled_unit
peeled_of graphs unit =
    elim (is_activity unit.kind) as (λ b. is_activity unit.kind ≡ b → (peeled_unit : UnitDef) × IsPeeledUnit unit peeled_unit) [
      | false ↦ λ is. (unit, of_function is)
      | true ↦ λ is.
          let own = graphs unit.body in
          ⊎_elim
          (λ (walk : HasWalk unit).
          ⊎_elim (λ (more : 10_000 < statement_count (peeled unit.body)). (unit, too_large more))
          (λ (fits : statement_count (peeled unit.body) ≤ 10_000). (record unit { body = peeled unit.body }, with_turns is walk fits))
          (more_or_not (statement_count (peeled unit.body))))
          (λ (none : HasWalk unit → ⊥). (unit, clean none))
          (walk_or_not unit own.graph own.is_graph)
    ] refl

pub peeled_are_there : BodiesHaveGraphs → PeeledAreThere
peeled_are_there graphs [] = record { peeled_units = []; are = tt }
peeled_are_there graphs (unit ∷ units) =
    let first = peeled_of graphs unit in
    let rest = peeled_are_there graphs units in record { peeled_units = first.0 ∷ rest.peeled_units; are = (first.1, rest.are) }
