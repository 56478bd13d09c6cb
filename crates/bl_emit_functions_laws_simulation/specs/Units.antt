-- What holds of the C functions of all functions of a typed program.
use Rattle.std.specs.Prelude.{◌≡◌, ℕ, zero, suc, ◌≤◌, ◌^◌, Bool, true, false, List, [], ◌∷◌, ◌++◌, take, Some, None}
use Rattle.std.specs.Prelude.{slice_get, length}
use Rattle.bl_tree.specs.declared.text.Text.{Text}
use Rattle.bl_tree.specs.declared.c.CFunc.{CFunc}
use Rattle.bl_tree.specs.declared.place.Place.{Place}
use Rattle.bl_tree.specs.declared.tree.StructDef.{StructDef}
use Rattle.bl_tree.specs.declared.tree.Unit.{Unit as UnitDef}
use Rattle.bl_tree.specs.Program.{IsWellTyped}
use Rattle.bl_tree.specs.Typing.{is_function, site_of}
use Rattle.bl_effects.specs.Rules.{FailsAlias}
use Rattle.bl_eval.specs.Functions.{callees_of}
use Rattle.bl_ctext_semantics.specs.Meaning.{Meaning, Scope, function_c}
use Rattle.bl_ctext_semantics.specs.Tables.{Table, no_entries, with_entry}
use Rattle.bl_emit_acts.specs.Types.{unit_name}
use Rattle.bl_emit_acts_laws_simulation.specs.Acts.{ProceduresAgree}
use Rattle.bl_emit_acts_laws_simulation.specs.Simulation.{FunctionsAgree}
use Rattle.bl_emit_functions.specs.Functions.{body_coded, function_code}

-- ---- tables of C functions

-- the table has the C function of the unit at a position under its name, if the unit is a function. That function runs over a table with the property
abbrev pub KnownAt : List StructDef → List UnitDef → ℕ → (Table Meaning → Type 0) → Table Meaning → Type 0
KnownAt structs units k Below known =
    (unit : UnitDef) → slice_get units k ≡ Some unit → is_function unit.kind ≡ true → (below : Table Meaning)
    × (known (unit_name unit.name) ≡ Some (function_c below (function_code structs (take k units) unit))) × Below below

-- a table that knows the C functions of all functions before a position, each of which sees those before it. It may know others
abbrev pub KnownUpTo : List StructDef → List UnitDef → ℕ → Table Meaning → Type 0
KnownUpTo structs units zero known = Unit {0}
KnownUpTo structs units (suc k) known = KnownUpTo structs units k known × KnownAt structs units k (KnownUpTo structs units k) known

-- ---- what is asked of a program

-- rule Alias doesn't fail: no output of a call overlaps another output or an aggregate input
abbrev pub NoneOverlaps : List UnitDef → Type 0
NoneOverlaps units = (at : Place) (also : List Place) → FailsAlias units at also → ⊥

-- a function has no more variables and flags than there are names
pub record NamesSuffice (structs : List StructDef) (units : List UnitDef) (k : ℕ) (unit : UnitDef) : Type 0 where
  pub vars : length unit.vars ≤ 2 ^ 64
  pub flags : (body_coded (site_of structs (take k units) unit) unit).free.flags ≤ 2 ^ 64

-- each function of the program has no more variables and flags than there are names
abbrev pub AllNamesSuffice : List StructDef → List UnitDef → Type 0
AllNamesSuffice structs units =
    (k : ℕ) (unit : UnitDef) → slice_get units k ≡ Some unit → is_function unit.kind ≡ true → NamesSuffice structs units k unit

-- ---- the law of all functions

-- the C functions before a position do what the functions of the program do
pub record AllAgree (structs : List StructDef) (units : List UnitDef) (k : ℕ) (scope : Scope) : Type 0 where
  pub functions : FunctionsAgree structs (take k units) (callees_of structs (take k units)) scope
  pub procedures : ProceduresAgree structs (take k units) (callees_of structs (take k units)) scope

-- the C functions before a position simulate the functions of the program, wherever they are known, at any depth of calls
abbrev pub FunctionsSimulate : List StructDef → List UnitDef → ℕ → Type 0
FunctionsSimulate structs units entry =
    (k : ℕ) (scope : Scope) → IsWellTyped structs units entry → NoneOverlaps units
    → AllNamesSuffice structs units → KnownUpTo structs units k scope.known →
    AllAgree structs units k scope

-- ---- the functions of a C text

-- the C function of a unit that is a function; others have none
abbrev pub made_where : Bool → List StructDef → List UnitDef → UnitDef → List CFunc
made_where true structs earlier unit = function_code structs earlier unit ∷ []
made_where false structs earlier unit = []

-- the C functions of these units, in order, where these stand before them
abbrev pub functions_after : List StructDef → List UnitDef → List UnitDef → List CFunc
functions_after structs earlier [] = []
functions_after structs earlier (unit ∷ rest) =
    made_where (is_function unit.kind) structs earlier unit ++ functions_after structs (earlier ++ unit ∷ []) rest

-- what is known behind functions of a C text, each of which sees those before it
abbrev pub known_after : Table Meaning → List CFunc → Table Meaning
known_after known [] = known
known_after known (function ∷ rest) = known_after (with_entry known function.name (function_c known function)) rest

-- the table that C functions of a program's functions make, up to a position
abbrev pub made_table : List StructDef → List UnitDef → ℕ → Table Meaning
made_table structs units k = known_after no_entries (functions_after structs [] (take k units))

-- How tables grow: what is known stays known when another function joins; a function that joins under a name that is free is known; where the next
-- unit is none, nothing has to join
pub record TablesGrow (structs : List StructDef) (units : List UnitDef) : Type 0 where
  pub others : (k : ℕ) (known : Table Meaning) (name : Text) (meaning : Meaning) → KnownUpTo structs units k known →
      KnownUpTo structs units k (with_entry known name meaning)
  pub function : (k : ℕ) (unit : UnitDef) (known : Table Meaning) → slice_get units k ≡ Some unit → known (unit_name unit.name) ≡ None →
      KnownUpTo structs units k known →
      KnownUpTo structs units (suc k) (with_entry known (unit_name unit.name) (function_c known (function_code structs (take k units) unit)))
  pub activity : (k : ℕ) (unit : UnitDef) (known : Table Meaning) → slice_get units k ≡ Some unit → is_function unit.kind ≡ false →
      KnownUpTo structs units k known → KnownUpTo structs units (suc k) known

-- The C functions of a program's functions, one behind the other, know one another
abbrev pub TablesKnow : List StructDef → List UnitDef → ℕ → Type 0
TablesKnow structs units entry = (k : ℕ) → IsWellTyped structs units entry → KnownUpTo structs units k (made_table structs units k)
