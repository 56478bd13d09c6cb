-- The C file of a program, from the machine that its activities make, by the lists of their rules.
use Rattle.std.specs.Prelude.{Bool, List, [], ◌∷◌, ◌++◌, drop, Option, Some, None, slice_get, if◌then◌else◌}
use Rattle.bl_tree.specs.declared.program.Program.{Program}
use Rattle.bl_tree.specs.declared.tree.StructDef.{StructDef}
use Rattle.bl_tree.specs.declared.tree.Unit.{Unit as UnitDef}
use Rattle.bl_tree.specs.Reduce.{joined}
use Rattle.bl_tree.specs.Typing.{is_activity}
use Rattle.bl_graph_nodes.specs.Plain.{plain_body}
use Rattle.bl_machine.specs.declared.machine.Activity.{Activity as InMachine}
use Rattle.bl_machine_pass.specs.Numbered.{sizes_of}
use Rattle.bl_machine_transitions.specs.Listed.{layout_of, listed}
use Rattle.bl_emit_spec.specs.Lent.{shown_units}
use Rattle.bl_emit_spec.specs.Programs.{ProgramParts, Written, file_of, needed_units, no_parts, parts_of_function, parts_then, where_needed}
use Rattle.bl_emit.specs.Activities.{ActivityInput, frame_told, function_told, remembered_struct_told, remembers_told}

-- the parts of an activity: where it rests, what it remembers, and its function
abbrev pub parts_told : ActivityInput → ProgramParts
parts_told a =
    record { structs = frame_told a ∷ remembered_struct_told a; funcs = function_told a ∷ []; remember = remembers_told a ∷ [] }

-- an activity of a machine
abbrev pub told_of : List StructDef → List UnitDef → List Bool → UnitDef → InMachine → ActivityInput
told_of structs earlier remember unit one = record {
  structs = structs;
  earlier = earlier;
  unit = unit;
  blocks = one.blocks;
  rules = listed (layout_of (joined one.blocks) one.slots) (plain_body unit.body);
  sizes = sizes_of one.slots;
  remember = remember;
}

-- the parts of an activity, where the machine has one more
abbrev pub next_told : List StructDef → List UnitDef → List Bool → UnitDef → List InMachine → ProgramParts
next_told structs earlier remember unit [] = no_parts
next_told structs earlier remember unit (one ∷ machine) = parts_told (told_of structs earlier remember unit one)

-- the parts of a unit, where the machine has these activities from this unit on
abbrev pub unit_told : List StructDef → List UnitDef → List Bool → UnitDef → List InMachine → ProgramParts
unit_told structs earlier remember unit machine =
    if is_activity unit.kind then next_told structs earlier remember unit machine else parts_of_function structs earlier unit

-- the parts of units, which stand behind those before them; the tests tell which of the units are needed
abbrev pub units_told : List StructDef → List UnitDef → List Bool → List UnitDef → List Bool → List InMachine → ProgramParts
units_told structs earlier remember [] needed machine = no_parts
units_told structs earlier remember (unit ∷ units) [] machine = no_parts
units_told structs earlier remember (unit ∷ units) (test ∷ needed) machine =
    let here = unit_told structs earlier remember unit machine in
    parts_then (where_needed test here)
    (units_told structs (earlier ++ unit ∷ []) (remember ++ here.remember) units needed (if is_activity unit.kind then drop 1 machine else machine))

-- the file of units with these parts, where the entry may be absent: it has the ports of this unit
abbrev pub file_told : Program → List UnitDef → ProgramParts → Option UnitDef → Written
file_told program units parts (Some unit) = file_of program.structs units program.entry parts unit
file_told program units parts None = record { structs = []; funcs = [] }

-- what is written of a program with a machine, where the entry may be absent
abbrev pub written_told_at : Program → List InMachine → Option UnitDef → Written
written_told_at program machine o =
    let units = shown_units program.units program.entry in
    file_told program units (units_told program.structs [] [] units (needed_units units program.entry) machine) o

-- what is written of a program with a machine
abbrev pub written_told : Program → List InMachine → Written
written_told program machine = written_told_at program machine (slice_get program.units program.entry)
