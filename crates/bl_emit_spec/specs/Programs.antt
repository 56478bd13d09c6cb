-- The C file of a program, from the machine that its activities make.
use Rattle.std.specs.Prelude.{ℕ, zero, suc, pos, Bool, true, false, ◌||◌, List, [], ◌∷◌, ◌++◌}
use Rattle.std.specs.Prelude.{map, drop, Option, Some, None, if◌then◌else◌}
use Rattle.std.specs.Prelude.{codes, length, nat_eq, slice_get, unwrap_or}
use Rattle.std.specs.List.{list_any}
use Rattle.bl_tree.specs.declared.text.Text.{Text}
use Rattle.bl_tree.specs.declared.c.CArg.{CArg}
use Rattle.bl_tree.specs.declared.c.CArg.TheVariants.{Address}
use Rattle.bl_tree.specs.declared.c.CFunc.{CFunc}
use Rattle.bl_tree.specs.declared.c.CLocal.{CLocal}
use Rattle.bl_tree.specs.declared.c.CMember.{CMember}
use Rattle.bl_tree.specs.declared.c.CStmt.{CStmt}
use Rattle.bl_tree.specs.declared.c.CStruct.{CStruct}
use Rattle.bl_tree.specs.declared.c.CType.TheVariants.{Scalar as OfScalar}
use Rattle.bl_tree.specs.declared.program.Program.{Program}
use Rattle.bl_tree.specs.declared.scalar.Scalar.TheVariants.{Bool as OfBool, Nat}
use Rattle.bl_tree.specs.declared.scalar.Width.TheVariants.{W8, W32}
use Rattle.bl_tree.specs.declared.tree.StructDef.{StructDef}
use Rattle.bl_tree.specs.declared.tree.Unit.{Unit as UnitDef}
use Rattle.bl_tree.specs.declared.tree.Var.{Var}
use Rattle.bl_tree.specs.Reduce.{joined}
use Rattle.bl_tree.specs.Typing.{inputs_of, is_activity, outputs_of}
use Rattle.bl_limits_measures.specs.Calls.{calls_of}
use Rattle.bl_limits_measures.specs.Runs.{activities_run}
use Rattle.bl_emit_acts.specs.Acts.{c_calling, c_clear}
use Rattle.bl_emit_acts.specs.Trees.{c_call, c_literal, c_place, c_read, c_step, nowhere}
use Rattle.bl_emit_acts.specs.Types.{c_type, unit_name}
use Rattle.bl_emit_functions.specs.Functions.{function_code, memory_name, memory_struct}
use Rattle.bl_emit_functions.specs.Trees.{c_if, c_return}
use Rattle.bl_emit_structs.specs.Structs.{structs_of}
use Rattle.bl_graph_nodes.specs.Plain.{plain_body}
use Rattle.bl_machine.specs.declared.machine.Activity.{Activity as InMachine}
use Rattle.bl_machine.specs.Blocks.{up_to}
use Rattle.bl_machine_pass.specs.Numbered.{sizes_of, slots_of}
use Rattle.bl_emit_spec.specs.Activities.{Activity, activity_function, frame_struct, pointer_param, remembered_struct, remembers_any, scalar_local}
use Rattle.bl_emit_spec.specs.Activities.{struct_member}
use Rattle.bl_emit_spec.specs.Blocks.{arg_where, stmt_where, unit_may_end}
use Rattle.bl_emit_spec.specs.Lent.{shown_units}
use Rattle.bl_emit_spec.specs.Names.{frame_name}

-- ---- which units are needed

-- the units that a unit calls and runs
abbrev pub needs_of : UnitDef → List ℕ
needs_of unit = calls_of unit ++ activities_run unit

-- tests from the one with this number on, set at the given positions
abbrev pub set_from : List ℕ → ℕ → List Bool → List Bool
set_from positions k [] = []
set_from positions k (test ∷ rest) = (test || list_any (nat_eq k) positions) ∷ set_from positions (suc k) rest

-- the units that an optional unit needs
abbrev pub needs_at : Option UnitDef → List ℕ
needs_at (Some unit) = needs_of unit
needs_at None = []

-- what is needed of the first k units, and of what those need in turn, where that much of them is needed already
abbrev pub needed_below : ℕ → List UnitDef → List Bool → List Bool
needed_below zero units needed = needed
needed_below (suc k) units needed =
    needed_below k units (if unwrap_or (slice_get needed k) false then set_from (needs_at (slice_get units k)) 0 needed else needed)

-- which units the entry needs: itself, and transitively what needed units call and run
abbrev pub needed_units : List UnitDef → ℕ → List Bool
needed_units units entry = needed_below (length units) units (map (λ k. nat_eq k entry) (up_to (length units)))

-- ---- the units

-- C structs and functions of units, and which of these units remember variables
pub record ProgramParts : Type 0 where
  pub structs : List CStruct
  pub funcs : List CFunc
  pub remember : List Bool

-- the parts of no unit
abbrev pub no_parts : ProgramParts
no_parts = record { structs = []; funcs = []; remember = [] }

-- some, and then others
abbrev pub parts_then : ProgramParts → ProgramParts → ProgramParts
parts_then first rest = record {
  structs = first.structs ++ rest.structs;
  funcs = first.funcs ++ rest.funcs;
  remember = first.remember ++ rest.remember;
}

-- the parts of a function
abbrev pub parts_of_function : List StructDef → List UnitDef → UnitDef → ProgramParts
parts_of_function structs earlier unit =
    record { structs = memory_struct structs earlier unit; funcs = function_code structs earlier unit ∷ []; remember = false ∷ [] }

-- the parts of an activity: the structs of where it rests and of what it remembers, and its function
abbrev pub parts_of_activity : Activity → ProgramParts
parts_of_activity a =
    record { structs = frame_struct a ∷ remembered_struct a; funcs = activity_function a ∷ []; remember = remembers_any a ∷ [] }

-- an activity of a machine
abbrev pub activity_of : List StructDef → List UnitDef → List Bool → UnitDef → InMachine → Activity
activity_of structs earlier remember unit one = record {
  structs = structs;
  earlier = earlier;
  unit = unit;
  order = joined one.blocks;
  blocks = one.blocks;
  slots = slots_of (plain_body unit.body) one.slots;
  sizes = sizes_of one.slots;
  remember = remember;
}

-- parts of a unit that is needed; of one that isn't it is only told what it remembers
abbrev pub where_needed : Bool → ProgramParts → ProgramParts
where_needed true parts = parts
where_needed false parts = record { structs = []; funcs = []; remember = parts.remember }

-- the parts of an activity, where the machine has one more
abbrev pub parts_of_next : List StructDef → List UnitDef → List Bool → UnitDef → List InMachine → ProgramParts
parts_of_next structs earlier remember unit [] = no_parts
parts_of_next structs earlier remember unit (one ∷ machine) = parts_of_activity (activity_of structs earlier remember unit one)

-- the parts of units, which stand behind those before them. A machine has its activities in the order of units; the tests tell which of the units
-- are needed
abbrev pub parts_from : List StructDef → List UnitDef → List Bool → List UnitDef → List Bool → List InMachine → ProgramParts
parts_from structs earlier remember [] needed machine = no_parts
parts_from structs earlier remember (unit ∷ units) [] machine = no_parts
parts_from structs earlier remember (unit ∷ units) (test ∷ needed) machine =
    let here = if is_activity unit.kind then parts_of_next structs earlier remember unit machine else parts_of_function structs earlier unit in
    parts_then (where_needed test here)
    (parts_from structs (earlier ++ unit ∷ []) (remember ++ here.remember) units needed (if is_activity unit.kind then drop 1 machine else machine))

-- ---- the interface

-- the member for an input or an output of the entry
abbrev pub port_member : List StructDef → Text → Var → CMember
port_member structs prefix var = record { ty = c_type structs var.ty; name = prefix ++ var.name; length = None }

-- the struct of the inputs or outputs
abbrev pub port_struct : List StructDef → Text → Text → List Var → CStruct
port_struct structs name prefix vars = record {
  place = nowhere;
  name = name;
  members = record { ty = OfScalar (Nat W8); name = codes "pad"; length = None } ∷ map (port_member structs prefix) vars;
}

-- the struct of what a program keeps from tick to tick: where the entry rests, and what it remembers
abbrev pub state_struct : Text → Bool → CStruct
state_struct name remembers = record {
  place = nowhere;
  name = codes "bl_state";
  members = struct_member (codes "f") (frame_name name)
      ∷ (if remembers then struct_member (codes "m") (memory_name name) ∷ [] else []);
}

-- the function with which a program begins: it sets the whole state to 0
abbrev pub init_function : CFunc
init_function = record {
  place = nowhere;
  fixed = false;
  result = None;
  name = codes "bl_init";
  params = pointer_param (codes "s") (codes "bl_state") ∷ [];
  locals = [];
  body = c_clear (c_place true (codes "s") []) (codes "bl_state") ∷ [];
}

-- the place of an input, at which the entry reads it
abbrev pub input_arg : Var → CArg
input_arg var = Address (c_place true (codes "i") (c_step (codes "i_" ++ var.name) ∷ []))

-- the place of an output
abbrev pub output_arg : Var → CArg
output_arg var = Address (c_place true (codes "o") (c_step (codes "o_" ++ var.name) ∷ []))

-- the arguments with which a tick calls the entry: where it has ended is told in a local, if it may end
abbrev pub tick_args : UnitDef → Bool → List CArg
tick_args unit remembers =
    Address (c_place true (codes "s") (c_step (codes "f") ∷ []))
    ∷ ((if remembers then Address (c_place true (codes "s") (c_step (codes "m") ∷ [])) ∷ [] else [])
    ++ (map input_arg (inputs_of unit)
    ++ (map output_arg (outputs_of unit) ++ arg_where (unit_may_end unit) (Address (c_place false (codes "e") [])))))

-- a number that a tick returns
abbrev pub c_returned : ℕ → CStmt
c_returned n = c_return (Some (c_literal (Nat W32) (pos n)))

-- the local that tells whether the entry has ended, where it may end
abbrev pub tick_locals : Bool → List CLocal
tick_locals true = scalar_local OfBool (codes "e") ∷ []
tick_locals false = []

-- one tick: 1 where the entry has ended, else 0. Of an entry that never ends this isn't asked
abbrev pub tick_function : UnitDef → Bool → CFunc
tick_function unit remembers = record {
  place = nowhere;
  fixed = false;
  result = Some (Nat W32);
  name = codes "bl_tick";
  params = pointer_param (codes "s") (codes "bl_state") ∷ pointer_param (codes "i") (codes "bl_in") ∷ pointer_param (codes "o") (codes "bl_out") ∷ [];
  locals = tick_locals (unit_may_end unit);
  body = c_calling (c_call (unit_name unit.name) (tick_args unit remembers))
      ∷ (stmt_where (unit_may_end unit) (c_if (c_read (c_place false (codes "e") [])) (c_returned 1 ∷ []) None) ++ c_returned 0 ∷ []);
}

-- the structs of the interface
abbrev pub interface_structs : List StructDef → UnitDef → Bool → List CStruct
interface_structs structs unit remembers =
    state_struct unit.name remembers
    ∷ port_struct structs (codes "bl_in") (codes "i_") (inputs_of unit)
    ∷ port_struct structs (codes "bl_out") (codes "o_") (outputs_of unit)
    ∷ []

-- ---- the file

-- what is written of a program: structs, and then functions
pub record Written : Type 0 where
  pub structs : List CStruct
  pub funcs : List CFunc

-- what is written of structs and of units with these parts, whose entry at this position has the ports of a unit
abbrev pub file_of : List StructDef → List UnitDef → ℕ → ProgramParts → UnitDef → Written
file_of structs units entry parts ports =
    let remembers = unwrap_or (slice_get parts.remember entry) false in record {
      structs = structs_of structs units ++ (parts.structs ++ interface_structs structs ports remembers);
      funcs = parts.funcs ++ (init_function ∷ tick_function ports remembers ∷ []);
    }

-- the parts of the units that the entry at the position needs, with a machine
abbrev pub parts_needed : List StructDef → List UnitDef → ℕ → List InMachine → ProgramParts
parts_needed structs units entry machine = parts_from structs [] [] units (needed_units units entry) machine

-- what is written of units with a machine, whose entry at this position has the ports of a unit
abbrev pub written_as : List StructDef → List UnitDef → ℕ → UnitDef → List InMachine → Written
written_as structs units entry ports machine = file_of structs units entry (parts_needed structs units entry machine) ports

-- what is written of a program's units with a machine, whose entry has the ports of a unit
abbrev pub written_of : Program → UnitDef → List InMachine → Written
written_of program ports machine = written_as program.structs program.units program.entry ports machine

-- what is written of a program with a machine, where the entry may be absent
abbrev pub written_at : Program → List InMachine → Option UnitDef → Written
written_at program machine (Some unit) = written_as program.structs (shown_units program.units program.entry) program.entry unit machine
written_at program machine None = record { structs = []; funcs = [] }

-- the structs and functions written of a program with a machine
abbrev pub written : Program → List InMachine → Written
written program machine = written_at program machine (slice_get program.units program.entry)
