-- The rules Twice and Cycle over several tick graphs.
use Rattle.std.specs.Prelude.{List, Contains}
use Rattle.bl_graph.specs.declared.tick_graph.Graph.{Graph}
use Rattle.bl_tree.specs.declared.place.Place.{Place}
use Rattle.bl_tree.specs.declared.rule.Rule.{Rule}
use Rattle.bl_tree.specs.declared.rule.Rule.TheVariants as rule
use Rattle.bl_cause.specs.Fails.{FailsCycle, FailsTwice}

-- a rule fails in one of the graphs at the place, with the further places
pub record AnyFails (FailsIn : Graph → Place → List Place → Type 0) (graphs : List Graph) (at : Place) (also : List Place) : Type 0 where
  pub graph : Graph
  pub is_there : Contains graphs graph
  pub fails : FailsIn graph at also

-- the rule fails for one of the graphs
abbrev pub GraphsFail : List Graph → Rule → Place → List Place → Type 0
GraphsFail graphs rule.Twice at also = AnyFails FailsTwice graphs at also
GraphsFail graphs rule.Cycle at also = AnyFails FailsCycle graphs at also
GraphsFail graphs _ at also = ⊥
