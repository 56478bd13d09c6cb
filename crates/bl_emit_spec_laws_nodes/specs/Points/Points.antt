-- All nodes but those of a `run`.
use Rattle.std.specs.Prelude.{ℕ, List}
use Rattle.bl_tree.specs.declared.tree.StructDef.{StructDef}
use Rattle.bl_tree.specs.declared.tree.Unit.{Unit as UnitDef}
use Rattle.bl_tree.specs.Program.{IsWellTyped}
use Rattle.bl_ctree.specs.Instances.{setting_of}
use Rattle.bl_machine.specs.declared.machine.Activity.{Activity as InMachine}
use Rattle.bl_machine_pass_laws_execution.specs.Executes.{IsPoint}
use Rattle.bl_emit_spec_laws.specs.Calls.Built.{Activities}
use Rattle.bl_emit_spec_laws.specs.Calls.Laws.{BlocksSimulate, CompilationContext, GuardsChoose}
use Rattle.bl_emit_spec_laws_nodes.specs.Points.Acts.{ActsSeen, NodesApart}
use Rattle.bl_emit_spec_laws_nodes.specs.Points.Laws.{Remembering, ReturnsEnd, RulesOwn}
use Rattle.bl_emit_spec_laws_nodes.specs.Points.Nodes.{NodesStand, PrevsAgree, ViewsFit}

-- only a `return` ends the body of an activity with a result, in a typed program
abbrev pub BodiesEnd : List StructDef → List UnitDef → ℕ → Type 0
BodiesEnd structs units entry = (activities : Activities) → IsWellTyped structs units entry → ReturnsEnd units activities

-- what is asked of a program, beside what its C is made of
pub record PointsStand (structs : List StructDef) (units : List UnitDef) (entry : ℕ) (activities : Activities) : Type 0 where
  pub own : RulesOwn (setting_of structs units entry) activities
  pub remembering : Remembering (setting_of structs units entry) activities
  pub nodes : NodesStand structs units
  pub apart : NodesApart units
  pub views : ViewsFit structs units entry
  pub agree : PrevsAgree
  pub seen : ActsSeen (setting_of structs units entry) activities

-- the blocks of all points simulate their nodes, and the guard of a rule holds iff the rule is due
abbrev pub PointsSimulate : List StructDef → List UnitDef → ℕ → Type 0
PointsSimulate structs units entry =
    (machine : List InMachine) (activities : Activities) →
    (CompilationContext structs units entry machine activities → PointsStand structs units entry activities) →
    BlocksSimulate structs units entry machine activities IsPoint × GuardsChoose structs units entry machine activities
