-- How the C function of an activity stands in the middle of its pass.
use Rattle.std.specs.Prelude.{◌≡◌, ℕ, ◌<◌, Bool, true, List, Contains, is_some, Some, slice_get, codes}
use Rattle.bl_tree.specs.declared.place.Place.{Place}
use Rattle.bl_tree.specs.declared.tree.StructDef.{StructDef}
use Rattle.bl_tree.specs.declared.tree.Unit.{Unit as UnitDef}
use Rattle.bl_tree.specs.declared.tree.Var.{Var}
use Rattle.bl_tree.specs.declared.value.Value.{Value}
use Rattle.bl_tree.specs.Typing.{TypingContext, is_activity, var_at}
use Rattle.bl_graph_nodes.specs.Nodes.{Arguments, EnterAt, nodes_in}
use Rattle.bl_graph_nodes.specs.Plain.{Label, plain_body}
use Rattle.bl_ctext_semantics.specs.Meaning.{Scope, named_location}
use Rattle.bl_ctext_semantics.specs.Memory.{Location, Memory, scalar_number, value_at}
use Rattle.bl_ctree.specs.Actions.{result_at}
use Rattle.bl_ctree.specs.Instances.{Setting, callee_of}
use Rattle.bl_ctree.specs.Store.{Store, number_or_zero, view_at}
use Rattle.bl_emit_acts.specs.Acts.{is_copied}
use Rattle.bl_emit_acts.specs.declared.home.Home.TheVariants.{Lent}
use Rattle.bl_emit_acts_laws_simulation.specs.Frames.{PointersAreValid, is_older, lent_at, remembered_at}
use Rattle.bl_emit_acts_laws_simulation.specs.Encodes.{CopiesEncoded, VariablesEncoded, are_apart, home_at}
use Rattle.bl_emit_functions_laws_simulation.specs.Units.{AllAgree}
use Rattle.bl_emit_spec.specs.Activities.{copies_of, remembers_any}
use Rattle.bl_emit_spec.specs.Blocks.{unit_may_end}
use Rattle.bl_emit_spec_laws.specs.Registers.Registers.{ApartFromPointers, FramePointersAreValid, RegistersEncoded, frame_at, over_at}
use Rattle.bl_machine_pass.specs.Registers.{Registers}
use Rattle.bl_machine_pass_laws_execution.specs.Frames.{Frames}
use Rattle.bl_emit_spec_laws.specs.Calls.Built.{Activities, activity_at, registered, run_by, site_at, unit_number}
use Rattle.bl_emit_spec_laws.specs.Calls.Calls.{ActivitySimulates}
use Rattle.bl_emit_spec_laws.specs.Calls.Memories.{MemoryEncodes, inner}

-- ---- where pointers lead

-- the location to which the pointer for the result leads
abbrev pub result_at_c : Scope → Location
result_at_c scope = named_location scope true (codes "r")

-- A place is older than the function's call. It is apart from the counters, from what the pointers for variables lead to, and, if the body may end, from the
-- end flag
pub record PlaceIsSeparate (site : TypingContext) (may_end : Bool) (scope : Scope) (place : Location) : Type 0 where
  pub older : is_older scope.depth place.root ≡ true
  pub frame : are_apart place (frame_at scope) ≡ true
  pub over : may_end ≡ true → are_apart place (over_at scope) ≡ true
  pub lent : (k : ℕ) (var : Var) → var_at site k ≡ Some var → home_at site k ≡ Lent → are_apart place (lent_at scope site.vars k) ≡ true

-- all pointers of the function lead to what was there before, and those through which is written apart from all others
pub record PlacesAreSeparate (site : TypingContext) (unit : UnitDef) (remembers : Bool) (scope : Scope) : Type 0 where
  pub pointers : PointersAreValid site scope
  pub frame : FramePointersAreValid (unit_may_end unit) scope
  pub frame_apart : ApartFromPointers site scope (frame_at scope)
  pub over_apart : unit_may_end unit ≡ true → ApartFromPointers site scope (over_at scope)
  -- the place of what the activity remembers, itself or in what it calls, is separate
  pub memory : remembers ≡ true → PlaceIsSeparate site (unit_may_end unit) scope (remembered_at scope)
  pub result : is_some unit.result ≡ true → PlaceIsSeparate site (unit_may_end unit) scope (result_at_c scope)
  pub result_apart : is_some unit.result ≡ true → remembers ≡ true → are_apart (result_at_c scope) (remembered_at scope) ≡ true

-- ---- what the function knows

-- the premises for the function of an instance: its unit is at the position, its pointers are valid, and the functions before it agree
pub record FunctionContext (structs : List StructDef) (units : List UnitDef) (w : Setting) (activities : Activities) (i : ℕ) (unit : UnitDef)
    (scope : Scope) : Type 0 where
  pub is_there : slice_get units (unit_number w i) ≡ Some unit
  pub active : is_activity unit.kind ≡ true
  pub places : PlacesAreSeparate (site_at w activities i) unit (remembers_any (activity_at w activities i)) scope
  pub functions : AllAgree structs units (unit_number w i) scope
  pub others : (u : ℕ) (other : UnitDef) → u < unit_number w i → slice_get units u ≡ Some other → is_activity other.kind ≡ true →
      ActivitySimulates w activities u scope.known scope.depth

-- ---- in the middle of a pass

-- memory represents a pass: it encodes the registers, the variables and their copies, the frames of callees, and the result once the body has ended
pub record PassRepresents (w : Setting) (activities : Activities) (i : ℕ) (unit : UnitDef) (scope : Scope) (frames : Frames) (store : Store)
    (copies : List Value) (r : Registers) (here : Memory) : Type 0 where
  pub registers : RegistersEncoded (registered (activity_at w activities i)) scope r here
  pub variables : VariablesEncoded (site_at w activities i) (view_at w store i).now scope here
  pub copied : CopiesEncoded (site_at w activities i) copies (is_copied (copies_of unit)) scope here
  pub callees : (l : Label) (at : Place) (arguments : Arguments) (j : ℕ) → Contains (nodes_in (plain_body unit.body)) (EnterAt l at arguments) →
      callee_of w i at ≡ Some j →
      let n = run_by w activities i at in
      MemoryEncodes w activities j (inner (frame_at scope) n) (inner (remembered_at scope) n) frames store here
  pub result : (value : Value) → r.over ≡ true → is_some unit.result ≡ true → result_at store i ≡ Some value →
      scalar_number (value_at here (result_at_c scope)) ≡ number_or_zero value
