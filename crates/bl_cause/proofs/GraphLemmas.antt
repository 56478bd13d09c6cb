-- The first failure over several graphs.
use Rattle.std.proofs.Common.{◌≤◌, arith, List}
use Rattle.bl_graph.specs.declared.tick_graph.Graph.{Graph}
use Rattle.bl_tree.specs.declared.place.Place.{Place}
use Rattle.bl_tree.specs.declared.rule.Rule.{Rule}
use Rattle.bl_tree.specs.declared.rule.Rule.TheVariants as rule
use Rattle.bl_tree.specs.Rules.{FailsFirst, number_of}
use Rattle.bl_cause.specs.Fails.{FailsCycle, FailsTwice, IsFirst, Never}
use Rattle.bl_cause.specs.inner.Graphs.{AnyFails, GraphsFail}

-- ---- the rules over several graphs

module _ (graphs : List Graph) where
  pub twice_first : (at : Place) (also : List Place) → IsFirst (AnyFails FailsTwice graphs) at also → FailsFirst (GraphsFail graphs) rule.Twice at also
  twice_first at also first = record { fails = first.0; least_rule = least; least_places = first.1 }
    where
      least : (other : Rule) (elsewhere : Place) (further : List Place) → GraphsFail graphs other elsewhere further →
          number_of rule.Twice ≤ number_of other
      least rule.Twice elsewhere further fails = omega arith
      least rule.Cycle elsewhere further fails = omega arith
      least _ elsewhere further fails = absurd fails

  pub cycle_first : Never (AnyFails FailsTwice graphs) → (at : Place) (also : List Place) → IsFirst (AnyFails FailsCycle graphs) at also →
      FailsFirst (GraphsFail graphs) rule.Cycle at also
  cycle_first never at also first = record { fails = first.0; least_rule = least; least_places = first.1 }
    where
      least : (other : Rule) (elsewhere : Place) (further : List Place) → GraphsFail graphs other elsewhere further →
          number_of rule.Cycle ≤ number_of other
      least rule.Twice elsewhere further fails = absurd (never elsewhere further fails)
      least rule.Cycle elsewhere further fails = omega arith
      least _ elsewhere further fails = absurd fails
