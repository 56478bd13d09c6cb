-- All turns of the instances of an accepted program can be performed by rules.
use Rattle.std.specs.Prelude.{◌≡◌, ℕ, Bool, List, Some}
use Rattle.bl_tree.specs.declared.tree.StructDef.{StructDef}
use Rattle.bl_tree.specs.declared.tree.Unit.{Unit as UnitDef}
use Rattle.bl_tree.specs.Program.{IsWellTyped}
use Rattle.bl_effects.specs.Rules.{Passes}
use Rattle.bl_graph_nodes.specs.Nodes.{Node}
use Rattle.bl_machine_prevs.specs.Declared.{FromText}
use Rattle.bl_ctree.specs.Instances.{Setting, setting_of, unit_at}
use Rattle.bl_machine.specs.Uses.{Slots}
use Rattle.bl_machine_pass_laws_turns.specs.Turns.{TurnContext}
use Rattle.bl_machine_pass_laws_execution.specs.Frames.{Frames}
use Rattle.bl_machine_pass_laws_execution.specs.Executes.{ClearsInside}
use Rattle.bl_machine_pass_laws_execution.specs.Passes.Laws.{TurnsPerform}

-- each instance has what the laws of a pass require, with numbers of its own
abbrev pub AllInContext : Setting → (ℕ → Node → ℕ) → (ℕ → Slots) → Type 0
AllInContext w rank slots = (i : ℕ) (unit : UnitDef) → unit_at w i ≡ Some unit → TurnContext w rank i (slots i) unit

-- rules perform all turns of all instances, in a program that is made of a source text
abbrev pub AllTurnsPerform : Type 0
AllTurnsPerform =
    (structs : List StructDef) (units : List UnitDef) (entry : ℕ) (rank : ℕ → Node → ℕ) (slots : ℕ → Slots)
    (clear : ℕ → Frames → Frames) (i : ℕ)
    (unit : UnitDef) (stood : Bool) →
    let w = setting_of structs units entry in
    IsWellTyped structs units entry → Passes units → FromText units → AllInContext w rank slots → ClearsInside w clear → unit_at w i ≡ Some unit →
    TurnsPerform w rank slots clear i unit stood
