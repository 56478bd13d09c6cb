-- The peeled units of a program: their bodies are those by whose tick graphs the rules Twice and Cycle are judged.
use Rattle.std.specs.Prelude.{◌≡◌, ◌<◌, ◌≤◌, ℕ, true, false, List}
use Rattle.bl_tree.specs.declared.graph.Edge.{Edge}
use Rattle.bl_graph.specs.declared.tick_graph.Graph.{Graph}
use Rattle.bl_tree.specs.declared.program.Program.{Program}
use Rattle.bl_tree.specs.declared.tree.StructDef.{StructDef}
use Rattle.bl_tree.specs.declared.tree.Unit.{Unit as UnitDef}
use Rattle.bl_tree.specs.Program.{IsWellTyped}
use Rattle.bl_tree.specs.Typing.{is_activity}
use Rattle.bl_cause.specs.Activities.{EachTwo, IsGraphOf}
use Rattle.bl_cause.specs.Walks.{ClosedWalk}
use Rattle.bl_peel.specs.Count.{statement_count}
use Rattle.bl_peel.specs.Peeled.{peeled}

-- a tick graph of the unit's own body has a closed walk, by control edges, data edges or both
pub record HasWalk (unit : UnitDef) : Type 0 where
  pub graph : Graph
  pub of_unit : IsGraphOf unit graph
  pub walk : List Edge
  pub closed : ClosedWalk graph.edges walk

-- the peeled unit of a unit: the unit itself, unless it is an activity that needs first turns and isn't too large with them
pub data IsPeeledUnit (unit : UnitDef) : UnitDef → Type 0 where
  -- a function stays as it is
  of_function : is_activity unit.kind ≡ false → IsPeeledUnit unit unit
  -- a unit whose own tick graph has no closed walk stays as it is
  clean : ¬ HasWalk unit → IsPeeledUnit unit unit
  -- a unit whose peeled body has more than 10,000 statements stays as it is
  too_large : 10_000 < statement_count (peeled unit.body) → IsPeeledUnit unit unit
  -- any other activity has its body peeled
  with_turns : is_activity unit.kind ≡ true → HasWalk unit → statement_count (peeled unit.body) ≤ 10_000 →
      IsPeeledUnit unit (record unit { body = peeled unit.body })

-- the peeled units of units, one for each, in their order
abbrev pub ArePeeled : List UnitDef → List UnitDef → Type 0
ArePeeled units peeled_units = EachTwo IsPeeledUnit units peeled_units

-- the peeled program of a program: its peeled units, with its structs and its entry
pub record IsPeeled (program made : Program) : Type 0 where
  pub structs : made.structs ≡ program.structs
  pub units : ArePeeled program.units made.units
  pub entry : made.entry ≡ program.entry

-- peeled units of the units are the units of a typed program with these structs and this entry
abbrev pub PeeledAreTyped : List StructDef → List UnitDef → ℕ → Type 0
PeeledAreTyped structs units entry = (peeled_units : List UnitDef) → ArePeeled units peeled_units → IsWellTyped structs peeled_units entry
