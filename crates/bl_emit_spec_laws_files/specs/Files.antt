-- What the C file of a program does over rows of inputs.
use Rattle.std.specs.Prelude.{◌≡◌, ℕ, ℤ, Bool, false, List, [], ◌∷◌, ◌++◌, drop, map, Contains, Some, bytes_eq, codes, slice_get}
use Rattle.bl_tree.specs.declared.c.CFunc.{CFunc}
use Rattle.bl_tree.specs.declared.c.CStruct.{CStruct}
use Rattle.bl_tree.specs.declared.row.Trace.{Trace}
use Rattle.bl_tree.specs.declared.text.Text.{Text}
use Rattle.bl_tree.specs.declared.tree.StructDef.{StructDef}
use Rattle.bl_tree.specs.declared.tree.Unit.{Unit as UnitDef}
use Rattle.bl_tree.specs.Ports.{RowsFit, input_columns, output_columns}
use Rattle.bl_tree.specs.Program.{IsWellTyped}
use Rattle.bl_tree.specs.Typing.{inputs_of, outputs_of}
use Rattle.bl_ctext_semantics.specs.Cells as cells
use Rattle.bl_ctext_semantics.specs.Cells.{ports_of}
use Rattle.bl_ctext_semantics.specs.Meaning.{Meaning, function_c, meanings}
use Rattle.bl_ctext_semantics.specs.Parts.{Parts, parts_from}
use Rattle.bl_ctext_semantics.specs.Tables.{Table, found, no_entries, with_entry}
use Rattle.bl_ctext_semantics.specs.Trace.{c_trace}
use Rattle.bl_ctree.specs.Instances.{Setting, setting_of}
use Rattle.bl_ctree.specs.Store.{first_store}
use Rattle.bl_emit_acts.specs.Types.{unit_name}
pub use Rattle.bl_emit_functions_laws_simulation.specs.Units.{known_after}
use Rattle.bl_emit_spec.specs.Activities.{remembers_any}
use Rattle.bl_emit_spec.specs.Lent.{lent_unit}
use Rattle.bl_emit_spec.specs.Programs.{init_function, interface_structs, port_member, tick_function}
use Rattle.bl_machine.specs.declared.machine.Activity.{Activity as InMachine}
use Rattle.bl_machine_pass_laws_execution.specs.Frames.{Frames}
use Rattle.bl_machine_pass_laws_execution.specs.Runs as runs
use Rattle.bl_machine_pass_laws_execution.specs.Runs.{RuleRun}
use Rattle.bl_emit_spec_laws.specs.Calls.Built.{Activities, cleared, rank_by, slots_by}
use Rattle.bl_emit_spec_laws.specs.Calls.Calls.{ActivitySimulates}
use Rattle.bl_emit_spec_laws.specs.Calls.Laws.{CompilationContext}
use Rattle.bl_emit_spec_laws_files.specs.States.States.{StateKept}

-- ---- files

-- a file has the members for the inputs and outputs of its entry, and the functions of a start and of a tick, which sees these functions
pub record FileStands (structs : List StructDef) (unit : UnitDef) (remembers : Bool) (known : Table Meaning) (file : Parts) : Type 0 where
  pub inputs : ports_of (codes "bl_in") file ≡ map (port_member structs (codes "i_")) (inputs_of unit)
  pub outputs : ports_of (codes "bl_out") file ≡ map (port_member structs (codes "o_")) (outputs_of unit)
  -- any table over which the start runs, as it calls nothing
  pub before : Table Meaning
  pub starts : found (codes "bl_init") (meanings file.funcs) ≡ Some (function_c before init_function)
  pub ticks : found (codes "bl_tick") (meanings file.funcs) ≡ Some (function_c known (tick_function unit remembers))

-- ---- traces

-- a trace whose rows have only what is behind the first n columns
abbrev pub behind_columns : ℕ → Trace → Trace
behind_columns n trace = record { rows = map (drop n) trace.rows; last = trace.last }

-- The file of a program whose entry has the inputs of the unit lent. Over rows that fit the unit's inputs, it shows the outputs of each run of passes by rules
-- from frames and a store that are 0; and its columns are the unit's
pub record FileShows (w : Setting) (activities : Activities) (unit : UnitDef) (file : Parts) : Type 0 where
  pub trace : (rows : List (List ℤ)) (frames : Frames) (trace : Trace) → RowsFit (input_columns unit) rows → ((i c : ℕ) → frames i c ≡ 0) →
      RuleRun w (rank_by w activities) (slots_by w activities) (cleared w) (lent_unit unit) rows frames (first_store w) trace →
      c_trace file rows ≡ behind_columns unit.inputs trace
  pub inputs : cells.inputs_of file ≡ input_columns unit
  pub outputs : cells.outputs_of file ≡ output_columns unit

-- a file shows the outputs of passes by rules, if the entry's function simulates them and the file keeps what it needs
abbrev pub FilesShow : Type 0
FilesShow =
    (structs : List StructDef) (units : List UnitDef) (entry : ℕ) (machine : List InMachine) (activities : Activities) (unit : UnitDef)
    (known : Table Meaning) (file : Parts) → let w = setting_of structs units entry in
    CompilationContext structs units entry machine activities → slice_get units entry ≡ Some (lent_unit unit) → ActivitySimulates w activities entry known 0 →
    FileStands structs unit (remembers_any (activities entry)) known file → StateKept w activities unit file → FileShows w activities unit file

-- rows that fit the entry's columns fit before the variables that its body declares
abbrev pub RowsSuffice : Type 0
RowsSuffice =
    (structs : List StructDef) (units : List UnitDef) (entry : ℕ) (unit : UnitDef) (rows : List (List ℤ)) → IsWellTyped structs units entry →
    slice_get units entry ≡ Some unit → RowsFit (input_columns unit) rows → runs.RowsFit unit rows

-- ---- files of structs and functions with those of the interface behind them

-- a file of these structs and functions, followed by those of the interface
abbrev pub file_with : List StructDef → UnitDef → Bool → List CStruct → List CFunc → Parts
file_with structs unit remembers before functions =
    parts_from (before ++ interface_structs structs unit remembers) (functions ++ (init_function ∷ tick_function unit remembers ∷ []))

-- what is known where the function of a tick stands
abbrev pub known_at_tick : UnitDef → List CFunc → Table Meaning
known_at_tick unit functions =
    with_entry (known_after no_entries functions) (codes "bl_init") (function_c (known_after no_entries functions) init_function)

-- no struct has a name of the interface, and each function has the name of a unit
pub record NoneOfInterface (before : List CStruct) (functions : List CFunc) : Type 0 where
  pub inputs : (s : CStruct) → Contains before s → bytes_eq s.name (codes "bl_in") ≡ false
  pub outputs : (s : CStruct) → Contains before s → bytes_eq s.name (codes "bl_out") ≡ false
  pub named : (f : CFunc) → Contains functions f → (name : Text) × (f.name ≡ unit_name name)

-- the file that is made of structs and functions stands, and the entry's function simulates the same passes in it
pub record FilesStand : Type 0 where
  pub stands : (structs : List StructDef) (unit : UnitDef) (remembers : Bool) (before : List CStruct) (functions : List CFunc) →
      NoneOfInterface before functions →
      FileStands structs unit remembers (known_at_tick unit functions) (file_with structs unit remembers before functions)
  pub comes : (w : Setting) (activities : Activities) (u : ℕ) (unit : UnitDef) (functions : List CFunc) →
      ActivitySimulates w activities u (known_after no_entries functions) 0 → ActivitySimulates w activities u (known_at_tick unit functions) 0
