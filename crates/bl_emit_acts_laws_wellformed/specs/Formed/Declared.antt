-- What C declares for the expressions and acts of a unit.
use Rattle.std.specs.Prelude.{◌≡◌, ℕ, Bool, true, false, ◌||◌, is_none, List, map, Some, None, codes, option_map, slice_get, Contains}
use Rattle.bl_tree.specs.declared.text.Text.{Text}
use Rattle.bl_tree.specs.declared.c.CMember.{CMember}
use Rattle.bl_tree.specs.declared.c.CStruct.{CStruct}
use Rattle.bl_tree.specs.declared.c.CType.{CType}
use Rattle.bl_tree.specs.declared.c.CType.TheVariants.{Struct as OfStruct}
use Rattle.bl_tree.specs.declared.tree.StructDef.{StructDef}
use Rattle.bl_tree.specs.declared.tree.Unit.{Unit as UnitDef}
use Rattle.bl_tree.specs.declared.tree.Var.{Var}
use Rattle.bl_tree.specs.Program.{is_output, parameters_of}
use Rattle.bl_tree.specs.Reduce.{joined}
use Rattle.bl_tree.specs.Types.{scalar_in}
use Rattle.bl_tree.specs.Typing.{TypingContext, is_activity, is_function, var_at}
use Rattle.bl_ctext_semantics.specs.Faults.{Context, Signature, Variable, member_of, member_table}
use Rattle.bl_ctext_semantics.specs.Tables.{Table}
use Rattle.bl_emit_acts.specs.declared.home.Home.{Home}
use Rattle.bl_emit_acts.specs.declared.home.Home.TheVariants.{Held, Local, Lent}
use Rattle.bl_emit_acts.specs.Places.{home_of}
use Rattle.bl_emit_acts.specs.Types.{c_scalar, c_type, copy_name, unit_name, variable_name}
use Rattle.bl_emit_structs.specs.Structs.{arrays_of, structs_for_definition}

-- ---- structs

-- a C struct stands in the table under its name, with its members
abbrev pub IsDeclared : Table (Table CMember) → CStruct → Type 0
IsDeclared table s = table s.name ≡ Some (member_table s)

-- each of these C structs stands in the table under its name, with its members
abbrev pub AreDeclared : Table (Table CMember) → List CStruct → Type 0
AreDeclared table structs = (s : CStruct) → Contains structs s → IsDeclared table s

-- the C structs of a program's structs are declared, and those of the arrays that these or a unit's variables have
pub record TypesDeclared (site : TypingContext) (table : Table (Table CMember)) : Type 0 where
  pub definitions : AreDeclared table (joined (map (structs_for_definition site.structs) site.structs))
  pub variables : (k : ℕ) (var : Var) → var_at site k ≡ Some var → AreDeclared table (arrays_of site.structs var.ty)

-- ---- variables

-- a variable of C, or a pointer, by the type of what it holds or leads to
abbrev pub variable_of : Bool → CType → Variable
variable_of pointer ty = record { pointer = pointer; ty = ty }

-- the member of a type that is no array
abbrev pub plain_member : Text → CType → CMember
plain_member name ty = record { ty = ty; name = name; length = None }

-- the variable at a position among its unit's is a member of the struct `m`: an activity is given a pointer to it, a function has it
pub record HeldIn (context : Context) (activity : Bool) (vars : List Var) (k : ℕ) (ty : CType) : Type 0 where
  pub name : Text
  pub memory : context.variables (codes "m") ≡ Some (variable_of activity (OfStruct name))
  pub member : member_of context (OfStruct name) (variable_name vars k) ≡ Some (plain_member (variable_name vars k) ty)

-- the variable at a position among its unit's stands in C where its home is, with its C type
abbrev pub IsDeclaredAt : Context → Bool → Home → List Var → ℕ → CType → Type 0
IsDeclaredAt context activity Held vars k ty = HeldIn context activity vars k ty
IsDeclaredAt context activity Local vars k ty = context.variables (variable_name vars k) ≡ Some (variable_of false ty)
IsDeclaredAt context activity Lent vars k ty = context.variables (variable_name vars k) ≡ Some (variable_of true ty)

-- whether the place of a variable with this home begins with what a pointer leads to
abbrev pub home_leads : Bool → Home → Bool
home_leads activity Held = activity
home_leads activity Local = false
home_leads activity Lent = true

-- whether the place of the variable at a position begins with what a pointer leads to
abbrev pub leads_through : TypingContext → ℕ → Bool
leads_through site k = home_leads (is_activity site.kind) (home_of site (var_at site k))

-- no variable of the unit begins with a pointer in a context in which nothing may be changed through pointers
abbrev pub ChangesNone : TypingContext → Context → Type 0
ChangesNone site context = context.is_read_only ≡ true → (k : ℕ) (var : Var) → var_at site k ≡ Some var → leads_through site k ≡ false

-- ---- functions

-- a parameter of the function of a unit: a scalar input by value, all others by pointer
abbrev pub parameter_for : List StructDef → Var → Variable
parameter_for structs var = variable_of (is_output var.role || is_none (scalar_in var.ty)) (c_type structs var.ty)

-- the parameters and the result of the function of a unit
abbrev pub signature_for : List StructDef → UnitDef → Signature
signature_for structs unit =
    record { widens = false; params = map (parameter_for structs) (parameters_of unit); result = option_map c_scalar unit.result }

-- ---- a unit

-- a test holds where the unit is an activity
abbrev pub InActivity : TypingContext → Bool → Type 0
InActivity site holds = is_activity site.kind ≡ true → holds ≡ true

-- all that a unit's expressions and acts name is declared in C with its type: structs and arrays, variables, copies, and earlier functions
pub record Declared (site : TypingContext) (copied : ℕ → Bool) (context : Context) : Type 0 where
  pub types : TypesDeclared site context.structs
  pub variables : (k : ℕ) (var : Var) → var_at site k ≡ Some var →
      IsDeclaredAt context (is_activity site.kind) (home_of site (Some var)) site.vars k (c_type site.structs var.ty)
  pub copies : (k : ℕ) (var : Var) → copied k ≡ true → var_at site k ≡ Some var →
      context.variables (copy_name site.vars k) ≡ Some (variable_of false (c_type site.structs var.ty))
  pub functions : (f : ℕ) (callee : UnitDef) → slice_get site.earlier f ≡ Some callee → is_function callee.kind ≡ true →
      context.functions (unit_name callee.name) ≡ Some (signature_for site.structs callee)
