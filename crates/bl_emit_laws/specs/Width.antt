-- The frames in the C file of an accepted program are as wide as its activities.
use Rattle.std.specs.Prelude.{◌≡◌, ℕ, Bool, List, Contains, Some, filter, length, slice_get}
use Rattle.bl_tree.specs.declared.c.CMember.{CMember}
use Rattle.bl_tree.specs.declared.c.CStruct.{CStruct}
use Rattle.bl_tree.specs.declared.program.Program.{Program}
use Rattle.bl_tree.specs.declared.tree.StructDef.{StructDef}
use Rattle.bl_tree.specs.declared.tree.Unit.{Unit as UnitDef}
use Rattle.bl_effects.specs.Surface.{width}
use Rattle.bl_ctree.specs.Instances.{setting_of, unit_at}
use Rattle.bl_ctext_semantics.specs.Parts.{Parts}
use Rattle.bl_machine.specs.declared.machine.Activity.{Activity as InMachine}
use Rattle.bl_emit_spec.specs.Lent.{lent_unit}
use Rattle.bl_emit_spec.specs.Names.{frame_name}
use Rattle.bl_emit_spec_laws.specs.Calls.Laws.{CompilationContext}
use Rattle.bl_emit_laws.specs.Kept.{activities_in, shown_file}
use Rattle.bl_ctext_places.specs.Counters.{is_counter_name}

-- whether the member is a counter, by its name
abbrev pub is_counter : CMember → Bool
is_counter member = is_counter_name member.name

-- the file has the struct of where the unit rests, with as many counters as the unit's width: the most places that can rest at once
pub record FrameHasWidth (file : Parts) (unit : UnitDef) : Type 0 where
  pub frame : CStruct
  pub there : Contains file.structs frame
  pub named : frame.name ≡ frame_name unit.name
  pub counters : length (filter is_counter frame.members) ≡ width unit.body

-- the file has a struct of counters for the unit of each instance, with as many members as the unit's width
abbrev pub EachFrameHasWidth : List StructDef → List UnitDef → ℕ → Parts → Type 0
EachFrameHasWidth structs units entry file =
    (i : ℕ) (unit : UnitDef) → unit_at (setting_of structs units entry) i ≡ Some unit → FrameHasWidth file unit

-- the file of a compiled program has as many counters as the unit's width, for each instance's unit
abbrev pub FramesHaveWidth : Program → Type 0
FramesHaveWidth program =
    (machine : List InMachine) (unit : UnitDef) →
    CompilationContext program.structs program.units program.entry machine (activities_in program machine) →
    slice_get program.units program.entry ≡ Some (lent_unit unit) →
    EachFrameHasWidth program.structs program.units program.entry (shown_file program unit machine)
