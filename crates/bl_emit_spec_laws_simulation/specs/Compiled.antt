-- What the laws of passes ask of a compiled program.
use Rattle.std.specs.Prelude.{◌≡◌, ℕ, ◌≤◌, ◌^◌, List, length, Some, slice_get}
use Rattle.bl_tree.specs.declared.tree.StructDef.{StructDef}
use Rattle.bl_tree.specs.declared.tree.Unit.{Unit as UnitDef}
use Rattle.bl_tree.specs.Program.{IsWellTyped}
use Rattle.bl_effects.specs.Rules.{Passes}
use Rattle.bl_limits.specs.Rules.{Passes as KeepsLimits}
use Rattle.bl_limits_measures.specs.Statements.{cell_statements_of}
use Rattle.bl_machine_prevs.specs.Declared.{FromText}
use Rattle.bl_ctree.specs.Instances.{setting_of}
use Rattle.bl_machine.specs.declared.machine.Activity.{Activity as InMachine}
use Rattle.bl_machine.specs.Machines.{AreActivitiesOf}
use Rattle.bl_emit_spec_laws.specs.Calls.Built.{Activities, AreBuilt}
use Rattle.bl_emit_spec_laws.specs.Calls.Laws.{CompilationContext}
use Rattle.bl_emit_spec_laws_nodes.specs.Points.Laws.{RulesOwn}

-- 64 bits count the variables of a unit, and what stands at its statements
pub record IsCountable (unit : UnitDef) : Type 0 where
  pub variables : length unit.vars ≤ 2 ^ 64
  pub statements : cell_statements_of unit ≤ 2 ^ 62

-- 64 bits count the variables and statements of each unit
abbrev pub AreCountable : List UnitDef → Type 0
AreCountable units = (k : ℕ) (unit : UnitDef) → slice_get units k ≡ Some unit → IsCountable unit

-- a program that is made of a text and passes the rules has, with any machine of it, all that the laws of passes ask
abbrev pub ProgramsCompile : List StructDef → List UnitDef → ℕ → Type 0
ProgramsCompile structs units entry =
    (machine : List InMachine) (activities : Activities) → IsWellTyped structs units entry → Passes units → FromText units →
    AreActivitiesOf units machine → AreBuilt structs units machine activities → AreCountable units →
    CompilationContext structs units entry machine activities

-- all that the rules of its instances ask and change are registers of their functions, where neither rule Frames nor Cells fails
abbrev pub RulesAreOwn : List StructDef → List UnitDef → ℕ → Type 0
RulesAreOwn structs units entry =
    (machine : List InMachine) (activities : Activities) → KeepsLimits structs units entry →
    CompilationContext structs units entry machine activities → RulesOwn (setting_of structs units entry) activities
