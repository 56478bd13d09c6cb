-- What a program keeps from tick to tick in its C file.
use Rattle.std.specs.Prelude.{◌≡◌, ◌<◌, ℕ, true, List, [], ◌∷◌, ◌++◌, map, Contains, Some, codes, slice_get}
use Rattle.bl_tree.specs.declared.c.CStruct.{CStruct}
use Rattle.bl_tree.specs.declared.place.Place.{Place}
use Rattle.bl_tree.specs.declared.tree.StructDef.{StructDef}
use Rattle.bl_tree.specs.declared.tree.Ty.{Ty, out-Ty}
use Rattle.bl_tree.specs.declared.tree.Ty.TheOpen.{Ty-F}
use Rattle.bl_tree.specs.declared.tree.Unit.{Unit as UnitDef}
use Rattle.bl_tree.specs.declared.tree.Var.{Var}
use Rattle.bl_tree.specs.declared.value.Value.{Value}
use Rattle.bl_tree.specs.Typing.{outputs_of}
use Rattle.bl_graph_nodes.specs.Nodes.{Arguments, EnterAt, nodes_in}
use Rattle.bl_graph_nodes.specs.Plain.{Label, plain_body}
use Rattle.bl_ctext_semantics.specs.Faults.{WellFormed}
use Rattle.bl_ctext_semantics.specs.Memory.{Location, Memory, member, output_object, state_object}
use Rattle.bl_ctext_semantics.specs.Parts.{Parts}
use Rattle.bl_ctree.specs.Instances.{Setting, callee_of, setting_of, unit_at}
use Rattle.bl_ctree.specs.Store.{Store}
use Rattle.bl_ctree_laws_typing.specs.Fits.{StoreFits}
use Rattle.bl_emit_acts.specs.Structs.{c_array, c_definition}
use Rattle.bl_emit_acts.specs.Trees.{nowhere}
use Rattle.bl_emit_acts_laws_simulation.specs.Acts.{OutputsEncoded}
use Rattle.bl_emit_acts_laws_simulation.specs.Encodes.{type_after}
use Rattle.bl_emit_functions.specs.Functions.{memory_name}
use Rattle.bl_emit_spec.specs.Activities.{Activity, frame_struct, remembered, remembers_any}
use Rattle.bl_emit_spec.specs.Lent.{lent_unit}
use Rattle.bl_emit_spec.specs.Programs.{port_struct, state_struct}
use Rattle.bl_machine.specs.declared.machine.Activity.{Activity as InMachine}
use Rattle.bl_machine_pass_laws_execution.specs.Frames.{Frames}
use Rattle.bl_emit_spec_laws.specs.Calls.Built.{Activities, activity_at, unit_number}
use Rattle.bl_emit_spec_laws.specs.Calls.Laws.{CalledAt, CompilationContext}
use Rattle.bl_emit_spec_laws.specs.Calls.Memories.{MemoryEncodes}
use Rattle.bl_ctext_semantics_laws_cells.specs.Cells.{regained}

-- ---- places

-- the locations of where the entry rests, and of what it remembers
abbrev pub frame_place : Location
frame_place = record { root = state_object; parts = member (codes "f") ∷ [] }

abbrev pub memory_place : Location
memory_place = record { root = state_object; parts = member (codes "m") ∷ [] }

-- the location of one of the entry's outputs
abbrev pub output_place : Var → Location
output_place var = record { root = output_object; parts = member (codes "o_" ++ var.name) ∷ [] }

-- ---- what is kept

-- a memory in which only the cells' numbers were kept has what the entry's call needs: all frames, all that is remembered, and the outputs
pub record StateKept (w : Setting) (activities : Activities) (unit : UnitDef) (file : Parts) : Type 0 where
  pub memory : (frames : Frames) (store : Store) (here : Memory) → StoreFits w store →
      MemoryEncodes w activities 0 frame_place memory_place frames store here →
      MemoryEncodes w activities 0 frame_place memory_place frames store (regained file here)
  pub outputs : (values : List Value) (here : Memory) → OutputsEncoded w.structs here (outputs_of unit) values (map output_place (outputs_of unit)) →
      OutputsEncoded w.structs (regained file here) (outputs_of unit) values (map output_place (outputs_of unit))

-- ---- what the file must declare

-- the struct of what an activity remembers
abbrev pub memory_of_activity : Activity → CStruct
memory_of_activity a = record { place = nowhere; name = memory_name a.unit.name; members = remembered a }

-- the struct of a type, by its level; a scalar has none
abbrev pub TypeDeclared : List StructDef → List CStruct → Ty-F Ty → Type 0
TypeDeclared structs there (Ty-F.Scalar s) = Unit {0}
TypeDeclared structs there (Ty-F.Struct k) = (def : StructDef) → slice_get structs k ≡ Some def → Contains there (c_definition structs def)
TypeDeclared structs there (Ty-F.Array n inner) = Contains there (c_array structs n inner)

-- a file declares the structs of its state and outputs, of each instance's frame and memory, and of the types of variables in them
pub record FramesDeclared (structs : List StructDef) (units : List UnitDef) (entry : ℕ) (activities : Activities) (unit : UnitDef) (file : Parts) :
    Type 0 where
  pub state : Contains file.structs (state_struct unit.name (remembers_any (activities entry)))
  pub outputs : Contains file.structs (port_struct structs (codes "bl_out") (codes "o_") (outputs_of unit))
  pub frames : (i : ℕ) (other : UnitDef) → let w = setting_of structs units entry in
      unit_at w i ≡ Some other → Contains file.structs (frame_struct (activity_at w activities i))
  pub memories : (i : ℕ) (other : UnitDef) → let w = setting_of structs units entry in
      unit_at w i ≡ Some other → remembers_any (activity_at w activities i) ≡ true →
      Contains file.structs (memory_of_activity (activity_at w activities i))
  pub types : (other : UnitDef) (var : Var) (ks : List ℕ) (ty : Ty) → Contains units other → Contains other.vars var →
      type_after structs ks (Some var.ty) ≡ Some ty → TypeDeclared structs file.structs (out-Ty ty)

-- ---- what is called

-- the `run` at the place of the instance i calls the instance j: it is of the unit at the position that the node names, which stands before the caller's
pub record RunFound (w : Setting) (unit : UnitDef) (l : Label) (at : Place) (arguments : Arguments) (i j : ℕ) : Type 0 where
  pub other : UnitDef
  pub is_there : unit_at w j ≡ Some other
  pub earlier : unit_number w j < unit_number w i
  pub called : CalledAt (plain_body unit.body) (EnterAt l at arguments) (unit_number w j)

-- each `run` calls an instance of the unit that its node names, which stands before the caller's unit
abbrev pub RunsFound : List StructDef → List UnitDef → ℕ → Type 0
RunsFound structs units entry =
    let w = setting_of structs units entry in
    (i j : ℕ) (unit : UnitDef) (l : Label) (at : Place) (arguments : Arguments) → unit_at w i ≡ Some unit →
    Contains (nodes_in (plain_body unit.body)) (EnterAt l at arguments) → callee_of w i at ≡ Some j → RunFound w unit l at arguments i j

-- ---- the law

-- a well-formed file that declares these structs keeps what its program needs
abbrev pub StatesAreKept : Type 0
StatesAreKept =
    (structs : List StructDef) (units : List UnitDef) (entry : ℕ) (machine : List InMachine) (activities : Activities) (unit : UnitDef)
    (file : Parts) → CompilationContext structs units entry machine activities → RunsFound structs units entry → slice_get units entry ≡ Some (lent_unit unit) →
    WellFormed file → FramesDeclared structs units entry activities unit file → StateKept (setting_of structs units entry) activities unit file
