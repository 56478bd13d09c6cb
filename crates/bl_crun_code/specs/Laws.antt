-- What the machine does with the code of a file.
use Rattle.std.specs.Prelude.{◌≤◌, ℕ, ℤ, List, [], length, Option, Some, None}
use Rattle.bl_tree.specs.declared.text.Text.{Text}
use Rattle.bl_tree.specs.declared.c.CFunc.{CFunc}
use Rattle.bl_tree.specs.declared.c.CStruct.{CStruct}
use Rattle.bl_ctext_semantics.specs.Tables.{Table, no_entries, table_of}
use Rattle.bl_ctext_semantics_laws.specs.Flat.{Cells, Routine, frame_begun, routines_after}
use Rattle.bl_ctext_semantics_laws.specs.Layout.{capped_sizes, layouts}
use Rattle.bl_crun_code.specs.declared.instruction.Caller.{Caller}
use Rattle.bl_crun_code.specs.Code.{Code, FunctionEntry, entries_from, functions_code}
use Rattle.bl_crun_code.specs.Vm.{StepResult, RunsTo, VmState, done, trapped}

-- the machine comes from the state to the result in some number of steps
pub record Arrives (code : Code) (s : VmState) (end : StepResult) : Type 0 where
  pub steps : ℕ
  pub runs : RunsTo code steps s end

-- a function begins
abbrev pub entry_state : FunctionEntry → ℕ → List ℤ → Cells → List ℤ → List Caller → ℕ → ℕ → VmState
entry_state entry base args cells temps callers room count =
    record {
      at = entry.entry;
      base = base;
      cells = frame_begun entry.frame base args cells;
      temps = temps;
      callers = callers;
      room = room;
      count = count;
    }

-- the first function ends with its result, or traps
abbrev pub vm_ended : Cells → ℕ → Option ℤ → StepResult
vm_ended cells count None = trapped cells count
vm_ended cells count (Some result) = done cells count result

-- the machine does what a routine does, from an entry on, given so many temporaries and room for so many waiting functions
pub record ImplementsRoutine (code : Code) (numbers calls : ℕ) (entry : FunctionEntry) (routine : Routine) : Type 0 where
  pub does : (base : ℕ) (args : List ℤ) (cells : Cells) (temps : List ℤ) (room : ℕ) → numbers ≤ length temps → calls ≤ room →
      Arrives code (entry_state entry base args cells temps [] room 0)
      (vm_ended (routine base args cells).cells (routine base args cells).count (routine base args cells).answer)

-- a function is known to neither table, or to both, and the entry implements the routine
abbrev pub BothDo : Code → ℕ → ℕ → Option FunctionEntry → Option Routine → Type 0
BothDo code numbers calls None None = Unit {0}
BothDo code numbers calls (Some entry) (Some routine) = ImplementsRoutine code numbers calls entry routine
BothDo code numbers calls None (Some routine) = ⊥
BothDo code numbers calls (Some entry) None = ⊥

-- the code of a file
abbrev pub code_of_file : List CStruct → List CFunc → Code
code_of_file structs functions = functions_code (capped_sizes structs) (layouts structs) 0 no_entries functions

-- the entry of a file's function of a name
abbrev pub entry_in_file : List CStruct → List CFunc → Table FunctionEntry
entry_in_file structs functions = entries_from (capped_sizes structs) (layouts structs) 0 no_entries functions

-- the routine of a file's function of a name
abbrev pub routine_in_file : List CStruct → List CFunc → Table Routine
routine_in_file structs functions = table_of (routines_after (capped_sizes structs) (layouts structs) no_entries functions)

-- each function of a file implements its routine, by name, given as many temporaries as instructions, and room for as many waiting functions as functions
abbrev pub NamedFunctionsRun : List CStruct → List CFunc → Type 0
NamedFunctionsRun structs functions =
    let code : Code = code_of_file structs functions in
    (name : Text) → BothDo code (length code) (length functions) (entry_in_file structs functions name) (routine_in_file structs functions name)
