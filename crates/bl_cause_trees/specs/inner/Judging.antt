-- What the judge has of the units so far.
use Rattle.std.specs.Prelude.{◌≡◌, false, nat_eq, nat_lt, Bool, ◌&&◌, ◌||◌, List, [], ◌∷◌, ◌++◌, Option, Some, None, is_some, if◌then◌else◌, ⊤}
use Rattle.bl_graph.specs.declared.tick_graph.Graph.{Graph}
use Rattle.bl_tree.specs.declared.place.Place.{Place}
use Rattle.bl_tree.specs.declared.rule.Refusal.{Refusal}
use Rattle.bl_tree.specs.declared.rule.Refusal.TheVariants as refusal
use Rattle.bl_tree.specs.declared.rule.Rule.{Rule}
use Rattle.bl_tree.specs.declared.tree.Stmt.{Stmt}
use Rattle.bl_tree.specs.declared.tree.Unit.{Unit as UnitDef}
use Rattle.bl_tree.specs.Rules.{FailsFirst as FirstOf, is_before, number_of}
use Rattle.bl_graph.specs.Graph.{IsTickGraph}
use Rattle.bl_graph_nodes.specs.Plain.{plain_body}
use Rattle.bl_cause.specs.Activities.{AreGraphs, AreOrders, EachTwo}
use Rattle.bl_cause.specs.inner.Graphs.{GraphsFail}
use Rattle.bl_cause_trees.specs.declared.activity.Judged.{Judged}
use Rattle.bl_cause_trees.specs.declared.units.Kept.{Kept}
use Rattle.bl_cause_trees.specs.Peeled.{IsPeeledUnit}

-- ---- units with other bodies

-- a unit with another body, or as it is
abbrev pub with_body : UnitDef → Option (List Stmt) → UnitDef
with_body unit None = unit
with_body unit (Some body) = record unit { body = body }

-- units, each with another body or as it is
abbrev pub with_bodies : List UnitDef → List (Option (List Stmt)) → List UnitDef
with_bodies [] bodies = []
with_bodies (unit ∷ rest) [] = []
with_bodies (unit ∷ rest) (body ∷ bodies) = with_body unit body ∷ with_bodies rest bodies

-- the unit with this body, or as it is, is its peeled unit
abbrev pub IsPeeledBy : UnitDef → Option (List Stmt) → Type 0
IsPeeledBy unit body = IsPeeledUnit unit (with_body unit body)

-- ---- one body

-- a tick graph of the body fails this rule first, at these places
pub record FailsFirstInBody (body : List Stmt) (rule : Rule) (at : Place) (also : List Place) : Type 0 where
  pub graph : Graph
  pub of_body : IsTickGraph (plain_body body) graph.nodes graph.edges
  pub first : FirstOf (GraphsFail (graph ∷ [])) rule at also

-- the refusal tells the rule that a tick graph of the body fails first, or memory was refused
abbrev pub IsCauseInBody : List Stmt → Refusal → Type 0
IsCauseInBody body (refusal.Rule rule at also) = FailsFirstInBody body rule at also
IsCauseInBody body refusal.NoMemory = ⊤

-- ---- several units

-- what is kept of units for which neither rule fails: their peeled bodies, with a tick graph and an order for each activity
pub record AreKept (units : List UnitDef) (kept : Kept) : Type 0 where
  pub each_peeled : EachTwo IsPeeledBy units kept.bodies
  pub each_graph : AreGraphs (with_bodies units kept.bodies) kept.graphs
  pub each_order : AreOrders kept.graphs kept.orders
  -- without a peeled body the units stay as they are
  pub own : kept.peels ≡ false → with_bodies units kept.bodies ≡ units

-- what is kept with a function more
abbrev pub after_function : Kept → Kept
after_function kept = record kept { bodies = kept.bodies ++ None ∷ [] }

-- what is kept with one activity more
abbrev pub after_activity : Kept → Judged → Kept
after_activity kept judged =
    record {
      bodies = kept.bodies ++ judged.peeled ∷ [];
      graphs = kept.graphs ++ judged.ordered.graph ∷ [];
      orders = kept.orders ++ judged.ordered.order ∷ [];
      peels = kept.peels || is_some judged.peeled;
    }

-- whether the one rule comes before the other, and of one rule the one place
abbrev pub comes_first : Rule → Place → Rule → Place → Bool
comes_first one at other elsewhere =
    nat_lt (number_of one) (number_of other) || (nat_eq (number_of one) (number_of other) && is_before at elsewhere)

-- of two refusals the one that comes first; want of memory comes before both
abbrev pub earlier_refusal : Refusal → Refusal → Refusal
earlier_refusal refusal.NoMemory other = refusal.NoMemory
earlier_refusal (refusal.Rule rule at also) refusal.NoMemory = refusal.NoMemory
earlier_refusal (refusal.Rule rule at also) (refusal.Rule other elsewhere further) =
    if comes_first other elsewhere rule at then refusal.Rule other elsewhere further else refusal.Rule rule at also
