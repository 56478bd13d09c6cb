-- The C functions of functions.
use Rattle.std.specs.Prelude.{ℕ, zero, suc, ◌+◌, Bool, true, false, ◌&&◌, ◌||◌, List, [], ◌∷◌, ◌++◌}
use Rattle.std.specs.Prelude.{map, Option, Some, None, codes, is_none, option_map, if◌then◌else◌}
use Rattle.std.specs.List.{list_any}
use Rattle.bl_tree.specs.declared.text.Text.{Text}
use Rattle.bl_tree.specs.declared.c.CFunc.{CFunc}
use Rattle.bl_tree.specs.declared.c.CLocal.{CLocal}
use Rattle.bl_tree.specs.declared.c.CMember.{CMember}
use Rattle.bl_tree.specs.declared.c.CParam.{CParam}
use Rattle.bl_tree.specs.declared.c.CStmt.{CStmt}
use Rattle.bl_tree.specs.declared.c.CStruct.{CStruct}
use Rattle.bl_tree.specs.declared.c.CType.TheVariants.{Scalar as OfScalar, Struct as OfStruct}
use Rattle.bl_tree.specs.declared.scalar.Scalar.{Scalar as ScalarType}
use Rattle.bl_tree.specs.declared.scalar.Scalar.TheVariants.{Bool as OfBool}
use Rattle.bl_tree.specs.declared.tree.StructDef.{StructDef}
use Rattle.bl_tree.specs.declared.tree.Unit.{Unit as UnitDef}
use Rattle.bl_tree.specs.declared.tree.Var.{Var}
use Rattle.bl_tree.specs.Program.{is_output, parameters_of}
use Rattle.bl_tree.specs.Types.{scalar_in}
use Rattle.bl_tree.specs.Typing.{TypingContext, inputs_of, is_fixed, is_variable, site_of, var_at}
use Rattle.bl_ctext_semantics.specs.Faults.{last_returns, surely_returns}
use Rattle.bl_emit_acts.specs.Acts.{c_set}
use Rattle.bl_emit_acts.specs.declared.home.Home.{Home}
use Rattle.bl_emit_acts.specs.declared.home.Home.TheVariants.{Held, Local, Lent}
use Rattle.bl_emit_acts.specs.Expressions.{hidden, scalar_at}
use Rattle.bl_emit_acts.specs.Places.{home_of, is_alone, place_in}
use Rattle.bl_emit_acts.specs.Trees.{c_place, c_read, nowhere}
use Rattle.bl_emit_acts.specs.Types.{c_scalar, c_type, unit_name, variable_name}
use Rattle.bl_emit_functions.specs.declared.coded.Coded.{Coded}
use Rattle.bl_emit_functions.specs.declared.coded.Free.{Free}
use Rattle.bl_emit_functions.specs.Reads.{reads_in_block}
use Rattle.bl_emit_functions.specs.Statements.{block_codes, codes_of}
use Rattle.bl_emit_functions.specs.Trees.{c_return_zero, flag_name}

-- ---- parameters

-- the parameter of the variable at a position among all of its unit's: a scalar input by value, all others by pointer
abbrev pub param_of : List StructDef → List Var → ℕ → Var → CParam
param_of structs vars k var =
    record { ty = c_type structs var.ty; pointer = is_output var.role || is_none (scalar_in var.ty); name = variable_name vars k }

-- the parameters for variables, the first of which is at this position among all of its unit's
abbrev pub params_from : List StructDef → List Var → ℕ → List Var → List CParam
params_from structs vars k [] = []
params_from structs vars k (var ∷ rest) = param_of structs vars k var ∷ params_from structs vars (k + 1) rest

-- ---- variables

-- the member of the variable at a position among all of its unit's
abbrev pub held_member : List StructDef → List Var → ℕ → Var → CMember
held_member structs vars k var = record { ty = c_type structs var.ty; name = variable_name vars k; length = None }

-- whether the unit holds what has this home
abbrev pub is_held : Home → Bool
is_held Held = true
is_held Local = false
is_held Lent = false

-- the member of a variable that the unit holds; others have none
abbrev pub member_of : Bool → List StructDef → List Var → ℕ → Var → List CMember
member_of true structs vars k var = held_member structs vars k var ∷ []
member_of false structs vars k var = []

-- the members of the variables that the unit holds, of those from this position on
abbrev pub members_from : TypingContext → ℕ → List Var → List CMember
members_from site k [] = []
members_from site k (var ∷ rest) =
    member_of (is_held (home_of site (Some var))) site.structs site.vars k var ++ members_from site (k + 1) rest

-- the members of the variables that a function holds
abbrev pub members_of : List StructDef → List UnitDef → UnitDef → List CMember
members_of structs earlier unit = members_from (site_of structs earlier unit) 0 unit.vars

-- the name of the struct of the variables that a unit holds
abbrev pub memory_name : Text → Text
memory_name name = codes "m_" ++ name

-- the struct of the members; none without members
abbrev pub struct_of : Text → List CMember → List CStruct
struct_of name [] = []
struct_of name (member ∷ rest) = record { place = nowhere; name = memory_name name; members = member ∷ rest } ∷ []

-- the struct of the variables that a function holds
abbrev pub memory_struct : List StructDef → List UnitDef → UnitDef → List CStruct
memory_struct structs earlier unit = struct_of unit.name (members_of structs earlier unit)

-- whether the unit holds one of the variables
abbrev pub holds_any : TypingContext → List Var → Bool
holds_any site vars = list_any (λ var. is_held (home_of site (Some var))) vars

-- the local that is the struct of the variables, where there are any
abbrev pub memory_local : Text → Bool → List CLocal
memory_local name true = record { ty = OfStruct (memory_name name); name = codes "m" } ∷ []
memory_local name false = []

-- a flag as a local
abbrev pub flag_local : ℕ → CLocal
flag_local k = record { ty = OfScalar OfBool; name = flag_name k }

-- n flags as locals
abbrev pub flag_locals : ℕ → List CLocal
flag_locals zero = []
flag_locals (suc n) = flag_locals n ++ flag_local n ∷ []

-- whether the variable is a local that the function declares, a scalar of the body
abbrev pub has_local : TypingContext → Var → Bool
has_local site var = is_alone site var.ty && (is_variable var.role || is_fixed var.role)

-- the variable at a position among all of its unit's, as a local
abbrev pub variable_local : List StructDef → List Var → ℕ → Var → CLocal
variable_local structs vars k var = record { ty = c_type structs var.ty; name = variable_name vars k }

-- the local of a variable that has one; others have none
abbrev pub local_of : Bool → List StructDef → List Var → ℕ → Var → List CLocal
local_of true structs vars k var = variable_local structs vars k var ∷ []
local_of false structs vars k var = []

-- the locals of variables, the first of which is at this position
abbrev pub locals_from : TypingContext → ℕ → List Var → List CLocal
locals_from site k [] = []
locals_from site k (var ∷ rest) = local_of (has_local site var) site.structs site.vars k var ++ locals_from site (k + 1) rest

-- the locals of a function's variables: the struct, where it holds any, and those by themselves
abbrev pub variable_locals : TypingContext → UnitDef → List CLocal
variable_locals site unit = memory_local unit.name (holds_any site unit.vars) ++ locals_from site 0 unit.vars

-- ---- bodies

-- a variable becomes what the parameter of its name points to
abbrev pub c_input_copied : TypingContext → ℕ → CStmt
c_input_copied site k = c_set (place_in site k []) (c_read (c_place true (variable_name site.vars k) []))

-- an input that the unit holds is copied from what its parameter points to; others aren't
abbrev pub input_copied : TypingContext → Home → ℕ → List CStmt
input_copied site Held k = c_input_copied site k ∷ []
input_copied site Local k = []
input_copied site Lent k = []

-- the statements that copy inputs, the first of which is at this position
abbrev pub copies_from : TypingContext → ℕ → List Var → List CStmt
copies_from site k [] = []
copies_from site k (var ∷ rest) = input_copied site (home_of site (Some var)) k ++ copies_from site (k + 1) rest

-- whether C surely returns: its last statement is a `return`, or an `if` whose two blocks surely return
abbrev pub code_returns : List CStmt → Bool
code_returns code = last_returns (map surely_returns code)

-- what ends a function with a result whose C doesn't surely return: a C compiler doesn't see that each way through the body returns before it
abbrev pub end_code : Option ScalarType → Bool → List CStmt
end_code (Some s) false = c_return_zero (c_scalar s) ∷ []
end_code (Some s) true = []
end_code None returns = []

-- no number is taken yet
abbrev pub none_taken : Free
none_taken = record { flags = 0; turns = 0 }

-- the C of the statements of a function
abbrev pub body_coded : TypingContext → UnitDef → Coded
body_coded site unit = block_codes (map (codes_of site) unit.body) none_taken

-- the copies of inputs, the C of the statements, and what ends them
abbrev pub body_code : TypingContext → UnitDef → List CStmt
body_code site unit =
    copies_from site 0 (inputs_of unit) ++ ((body_coded site unit).code ++ end_code unit.result (code_returns (body_coded site unit).code))

-- the position of the first variable that the unit holds, of those from this position on
abbrev pub first_held : TypingContext → ℕ → List Var → Option ℕ
first_held site k [] = None
first_held site k (var ∷ rest) = if is_held (home_of site (Some var)) then Some k else first_held site (k + 1) rest

-- a variable is set to what it has
abbrev pub c_set_again : TypingContext → ℕ → CStmt
c_set_again site k = c_set (place_in site k []) (c_read (place_in site k []))

-- the statement that sets a variable of the struct to itself, if nothing reads the struct: compilers warn of structs that are set and never read
abbrev pub read_code : TypingContext → Option ℕ → Bool → List CStmt
read_code site None reads = []
read_code site (Some k) true = []
read_code site (Some k) false = c_set_again site k ∷ []

-- a local is set to what it has, in a form of which compilers don't warn
abbrev pub c_local_again : TypingContext → ℕ → CStmt
c_local_again site k = c_set (place_in site k []) (hidden (scalar_at (var_at site k)) (c_read (place_in site k [])))

-- the statement that reads the local at a position, where there is one (first) and the code doesn't (second)
abbrev pub local_again : TypingContext → ℕ → Bool → Bool → List CStmt
local_again site k true false = c_local_again site k ∷ []
local_again site k true true = []
local_again site k false reads = []

-- the statements that read the locals that the code only sets, of variables from this position on: compilers warn of such locals
abbrev pub locals_again : TypingContext → List CStmt → ℕ → List Var → List CStmt
locals_again site code k [] = []
locals_again site code k (var ∷ rest) =
    local_again site k (has_local site var) (reads_in_block (variable_name site.vars k) code) ++ locals_again site code (k + 1) rest

-- the statements that read what the code of a body only sets
abbrev pub again_code : TypingContext → UnitDef → List CStmt → List CStmt
again_code site unit code = read_code site (first_held site 0 unit.vars) (reads_in_block (codes "m") code) ++ locals_again site code 0 unit.vars

-- the body of the C function of a function
abbrev pub whole_code : TypingContext → UnitDef → List CStmt
whole_code site unit = again_code site unit (body_code site unit) ++ body_code site unit

-- the C function of a function
abbrev pub function_code : List StructDef → List UnitDef → UnitDef → CFunc
function_code structs earlier unit = record {
  place = nowhere;
  fixed = true;
  result = option_map c_scalar unit.result;
  name = unit_name unit.name;
  params = params_from structs unit.vars 0 (parameters_of unit);
  locals = variable_locals (site_of structs earlier unit) unit ++ flag_locals (body_coded (site_of structs earlier unit) unit).free.flags;
  body = whole_code (site_of structs earlier unit) unit;
}
