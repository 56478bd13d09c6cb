-- How a program fails the rules Twice and Cycle (docs/LANGUAGE.md, "Rules").
use Rattle.std.specs.Prelude.{List, Contains, IsTrue}
use Rattle.bl_graph.specs.declared.tick_graph.Graph.{Graph}
use Rattle.bl_tree.specs.declared.place.Place.{Place}
use Rattle.bl_tree.specs.declared.rule.Rule.{Rule}
use Rattle.bl_tree.specs.declared.rule.Rule.TheVariants as rule
use Rattle.bl_tree.specs.declared.tree.Unit.{Unit as UnitDef}
use Rattle.bl_tree.specs.Rules.{Passes as NoneOf}
use Rattle.bl_tree.specs.Typing.{is_activity}
use Rattle.bl_cause.specs.Activities.{IsGraphOf}
use Rattle.bl_cause.specs.Fails.{FailsCycle, FailsTwice}

-- a graph that is a tick graph of an activity fails so
pub record FailsInActivity (FailsIn : Graph → Place → List Place → Type 0) (units : List UnitDef) (at : Place) (also : List Place) : Type 0 where
  pub unit : UnitDef
  pub is_there : Contains units unit
  pub activity : IsTrue (is_activity unit.kind)
  pub graph : Graph
  pub of_unit : IsGraphOf unit graph
  pub fails : FailsIn graph at also

-- the rule fails at this place, and its line also names the places of the rest of the walk; the others aren't judged here
abbrev pub Fails : List UnitDef → Rule → Place → List Place → Type 0
Fails units rule.Twice at also = FailsInActivity FailsTwice units at also
Fails units rule.Cycle at also = FailsInActivity FailsCycle units at also
Fails units _ at also = ⊥

-- neither Twice nor Cycle fails
abbrev pub Passes : List UnitDef → Type 0
Passes units = NoneOf (Fails units)
