-- The C functions of all units of a program, one behind the other, and the table that they make.
use Rattle.std.specs.Prelude.{ℕ, zero, suc, Bool, true, false, ◌&&◌, List, [], ◌∷◌, ◌++◌, None, take, if◌then◌else◌}
use Rattle.std.specs.Prelude.{slice_get, unwrap_or}
use Rattle.bl_tree.specs.declared.c.CFunc.{CFunc}
use Rattle.bl_tree.specs.declared.tree.StructDef.{StructDef}
use Rattle.bl_tree.specs.declared.tree.Unit.{Unit as UnitDef}
use Rattle.bl_tree.specs.declared.tree.UnitKind.TheVariants.{Function}
use Rattle.bl_tree.specs.Typing.{is_activity}
use Rattle.bl_cause.specs.Activities.{graph_position}
use Rattle.bl_machine.specs.declared.machine.Activity.{Activity as InMachine}
use Rattle.bl_ctext_semantics.specs.Meaning.{Meaning}
use Rattle.bl_ctext_semantics.specs.Tables.{Table, no_entries}
use Rattle.bl_emit_acts.specs.Trees.{nowhere}
use Rattle.bl_emit_functions.specs.Functions.{function_code}
use Rattle.bl_emit_functions_laws_simulation.specs.Units.{known_after}
use Rattle.bl_emit_spec.specs.Activities.{Activity, activity_function, remembers_any}
use Rattle.bl_emit_spec.specs.Programs.{activity_of}
use Rattle.bl_emit_spec_laws.specs.Calls.Built.{Activities}

-- ---- what the C of activities is made of

-- stands for a unit that isn't there
abbrev pub no_unit : UnitDef
no_unit = record { name = []; place = nowhere; kind = Function; vars = []; inputs = 0; outputs = 0; result = None; body = [] }

-- stands for a part of a machine that isn't there, as for that of a function
abbrev pub no_part : InMachine
no_part = record { blocks = []; slots = [] }

-- the activity of the unit at a position, as its C is made, with what is known of the earlier units' variables
abbrev pub activity_with : List StructDef → List UnitDef → List InMachine → ℕ → List Bool → Activity
activity_with structs units machine k remember =
    activity_of structs (take k units) remember (unwrap_or (slice_get units k) no_unit)
    (unwrap_or (slice_get machine (graph_position units k)) no_part)

-- whether the unit at the position remembers variables: no function does
abbrev pub remembers_with : List StructDef → List UnitDef → List InMachine → ℕ → List Bool → Bool
remembers_with structs units machine k remember =
    is_activity (unwrap_or (slice_get units k) no_unit).kind && remembers_any (activity_with structs units machine k remember)

-- whether each of the units before a position remembers variables
abbrev pub remembered_before : List StructDef → List UnitDef → List InMachine → ℕ → List Bool
remembered_before structs units machine zero = []
remembered_before structs units machine (suc k) =
    let earlier = remembered_before structs units machine k in earlier ++ remembers_with structs units machine k earlier ∷ []

-- the activity of each unit, as its C is made
abbrev pub activities_of : List StructDef → List UnitDef → List InMachine → Activities
activities_of structs units machine k = activity_with structs units machine k (remembered_before structs units machine k)

-- ---- the C functions of all units

-- something of each of these units, the first of which stands at this position
abbrev pub each_from : {X : Type 0} → (ℕ → UnitDef → X) → ℕ → List UnitDef → List X
each_from of k [] = []
each_from of k (unit ∷ rest) = of k unit ∷ each_from of (suc k) rest

-- the C function of the unit at a position
abbrev pub unit_function : List StructDef → List UnitDef → Activities → ℕ → UnitDef → CFunc
unit_function structs units activities k unit =
    if is_activity unit.kind then activity_function (activities k) else function_code structs (take k units) unit

-- the C functions of all units, in order
abbrev pub functions_of_all : List StructDef → List UnitDef → Activities → List CFunc
functions_of_all structs units activities = each_from (unit_function structs units activities) 0 units

-- the table of the C functions of the units before a position
abbrev pub table_up_to : List StructDef → List UnitDef → Activities → ℕ → Table Meaning
table_up_to structs units activities k = known_after no_entries (take k (functions_of_all structs units activities))

-- the table of the C functions of all units
abbrev pub table_of_all : List StructDef → List UnitDef → Activities → Table Meaning
table_of_all structs units activities = known_after no_entries (functions_of_all structs units activities)

-- ---- the C functions of the units that are needed

-- the elements at the positions where a test is true
abbrev pub kept_where : {X : Type 0} → List Bool → List X → List X
kept_where [] xs = []
kept_where (test ∷ tests) [] = []
kept_where (true ∷ tests) (x ∷ xs) = x ∷ kept_where tests xs
kept_where (false ∷ tests) (x ∷ xs) = kept_where tests xs
