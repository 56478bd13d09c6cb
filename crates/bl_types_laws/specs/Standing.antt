-- What stands around statements: what they see, what is known before and after them, and how it grows.
use Rattle.std.specs.Prelude.{◌≡◌, ℕ, Bool, true, ◌&&◌, ◌||◌, is_some, List, [], ◌∷◌, ◌++◌, length, map, take, slice_get, Option, Some, None}
use Rattle.std.specs.List.{list_all}
use Rattle.bl_tree.specs.declared.tree.StructDef.{StructDef}
use Rattle.bl_tree.specs.declared.tree.Ty.{Ty}
use Rattle.bl_tree.specs.declared.tree.Unit.{Unit as UnitDef}
use Rattle.bl_tree.specs.Depths.{is_shallow}
use Rattle.bl_tree.specs.Program.{is_entry, names_of, roles_stand}
use Rattle.bl_tree.specs.Reduce.{all_of}
use Rattle.bl_tree.specs.Returns.{unit_returns}
use Rattle.bl_tree.specs.Types.{type_stands}
use Rattle.bl_tree.specs.Typing.{TypingContext, fits, is_activity, is_fixed, is_function, is_inhabited, is_variable, site_of}
use Rattle.bl_names_tree.specs.declared.expr.NamedExpr.{NamedExpr}
use Rattle.bl_names_tree.specs.declared.item.NamedConstant.{NamedConstant}
use Rattle.bl_names_tree.specs.declared.item.NamedUnit.{NamedUnit}
use Rattle.bl_names_tree.specs.declared.item.NamedVar.{NamedVar}
use Rattle.bl_names_tree.specs.declared.stmt.NamedStmt.{NamedStmt, fold-NamedStmt}
use Rattle.bl_names_tree.specs.declared.stmt.NamedStmtKind.TheOpen.{NamedStmtKind-F, NamedArm-F, NamedBranch-F, NamedStmt-F}
use Rattle.bl_names_tree.specs.Placed.{DeclaredBefore, holds_if, holds_of, parameters}
use Rattle.bl_types.specs.declared.environment.Constant.{Constant}
use Rattle.bl_types.specs.declared.environment.Environment.{Environment}
use Rattle.bl_types.specs.declared.environment.Variable.{Variable}
use Rattle.bl_types.specs.Statements.{Block, Walked}
use Rattle.bl_types.specs.Units.{drives}
use Rattle.bl_types_laws.specs.Within.{ConstantStands, VariableThere, calls_functions, has_parameters, known_in, target_calls}

-- ---- what naming a spelled tree gives

-- a declaration without a value is of a `var` with a type, one with a value of a `var` or a `let`
abbrev pub declared_by : NamedVar → Option NamedExpr → Bool
declared_by var (Some e) = is_variable var.role || is_fixed var.role
declared_by var None = is_variable var.role && is_some var.ty

-- whether a kind of statement is named well, from whether its blocks are
abbrev pub kind_named : List NamedConstant → List NamedVar → List UnitDef → NamedStmtKind-F Bool Bool Bool Bool → Bool
kind_named constants vars units (NamedStmtKind-F.Declare k e) = holds_of (λ var. declared_by var e) (slice_get vars k) && holds_if (calls_functions units) e
kind_named constants vars units (NamedStmtKind-F.Const k) = holds_of (λ constant. calls_functions units constant.value) (slice_get constants k)
kind_named constants vars units (NamedStmtKind-F.Assign target e) = target_calls units target && calls_functions units e
kind_named constants vars units (NamedStmtKind-F.Call at f inputs outputs) =
    holds_of (λ unit. is_function unit.kind) (slice_get units f) && list_all (calls_functions units) inputs
kind_named constants vars units (NamedStmtKind-F.Await e) = calls_functions units e
kind_named constants vars units (NamedStmtKind-F.Run target at a inputs outputs) =
    holds_of (λ unit. is_activity unit.kind) (slice_get units a) && list_all (calls_functions units) inputs
kind_named constants vars units (NamedStmtKind-F.If arms other) = is_inhabited arms && (all_of arms && all_of other)
kind_named constants vars units (NamedStmtKind-F.Cobegin branches) = is_inhabited branches && all_of branches
kind_named constants vars units (NamedStmtKind-F.When guard e body) = calls_functions units e && all_of body
kind_named constants vars units (NamedStmtKind-F.Repeat body) = all_of body
kind_named constants vars units (NamedStmtKind-F.Until body e) = all_of body && calls_functions units e
kind_named constants vars units (NamedStmtKind-F.While e body) = calls_functions units e && all_of body
kind_named constants vars units (NamedStmtKind-F.Return e) = holds_if (calls_functions units) e

-- whether an arm is named well, from whether its statements are
abbrev pub arm_named : List UnitDef → NamedArm-F Bool Bool Bool Bool → Bool
arm_named units arm = calls_functions units arm.test && all_of arm.body

-- whether a branch is named well, from whether its statements are
abbrev pub branch_named : NamedBranch-F Bool Bool Bool Bool → Bool
branch_named branch = all_of branch.body

-- a statement is named well where its kind is
abbrev pub stmt_layer_named : NamedStmt-F Bool Bool Bool Bool → Bool
stmt_layer_named s = s.what

-- whether a statement's callees have the right kind, its declarations a type or value, and its `if`s and `cobegin`s a part
abbrev pub stmt_named : List NamedConstant → List NamedVar → List UnitDef → NamedStmt → Bool
stmt_named constants vars units = fold-NamedStmt Bool Bool Bool Bool (kind_named constants vars units) (arm_named units) branch_named stmt_layer_named

-- ---- what is known before and after

-- the fields of each struct have types that name earlier structs alone
abbrev pub FieldsStand : List StructDef → Type 0
FieldsStand structs = (k : ℕ) (def : StructDef) → slice_get structs k ≡ Some def → list_all (λ field. type_stands k field.ty) def.fields ≡ true

-- what a statement sees beside variables and constants is that of the site
pub record Around (env : Environment) (site : TypingContext) : Type 0 where
  pub later : List StructDef
  pub structs : site.structs ≡ env.structs ++ later
  pub units : env.units ≡ site.earlier
  pub kind : env.kind ≡ site.kind
  pub result : env.result ≡ site.result
  pub heads : list_all has_parameters site.earlier ≡ true

-- a variable has a type, which names structs that are declared before it
pub record VariableKnown (structs : ℕ) (known : Variable) : Type 0 where
  pub ty : Ty
  pub is_typed : known.ty ≡ Some ty
  pub stands : type_stands structs ty ≡ true

-- each variable has a type, each constant is a number of a scalar type, and the fields of structs have types
pub record Known (env : Environment) : Type 0 where
  pub vars : (k : ℕ) (known : Variable) → slice_get env.vars k ≡ Some known → VariableKnown (length env.structs) known
  pub fields : FieldsStand env.structs
  pub constants : (k : ℕ) (constant : Constant) → slice_get env.constants k ≡ Some constant → ConstantStands constant

-- each variable is the one of the site at its position
abbrev pub VariablesThere : Environment → TypingContext → Type 0
VariablesThere env site = (k : ℕ) (known : Variable) → slice_get env.vars k ≡ Some known → VariableThere site k known

-- variables and constants are added alone
pub record Grown (before after : Environment) : Type 0 where
  pub vars : List Variable
  pub has_vars : after.vars ≡ before.vars ++ vars
  pub constants : List Constant
  pub has_constants : after.constants ≡ before.constants ++ constants
  pub structs : after.structs ≡ before.structs
  pub units : after.units ≡ before.units
  pub kind : after.kind ≡ before.kind
  pub result : after.result ≡ before.result

-- the judgement of a part of a body extends what is known as counted; its typed form is good, and present where it must be
pub record PartPassed {A : Type 0} (must : Bool) (site : TypingContext) (good : A → Bool) (before : Environment) (counts : DeclaredBefore) (after : Walked A) : Type 0 where
  pub grown : Grown before after.env
  pub known : Known after.env
  pub counts_are : known_in after.env ≡ counts
  pub is_good : VariablesThere after.env site → (a : A) → after.made ≡ Some a → good a ≡ true
  pub is_made : must ≡ true → VariablesThere after.env site → (a : A) × (after.made ≡ Some a)

-- the judgement of a list of parts extends what is known as counted; its typed forms are good, and inhabited where the parts are
pub record BlockPassed {A : Type 0} (site : TypingContext) (good : A → Bool) (inhabited : Bool) (before : Environment) (counts : DeclaredBefore) (after : Block A) : Type 0
  where
    pub grown : Grown before after.env
    pub known : Known after.env
    pub counts_are : known_in after.env ≡ counts
    pub is_good : VariablesThere after.env site → all_of (map good after.made) ≡ true
    pub is_inhabited_still : inhabited ≡ true → VariablesThere after.env site → is_inhabited after.made ≡ true

-- ---- units

-- what is known between units: no variable, and units whose parameters are among their variables
pub record BetweenUnits (env : Environment) : Type 0 where
  pub vars : env.vars ≡ []
  pub known : Known env
  pub heads : list_all has_parameters env.units ≡ true

-- whether the parameters of a unit have types, and its statements are named
abbrev pub unit_named : List NamedConstant → List UnitDef → NamedUnit → Bool
unit_named constants units unit = list_all (λ var. is_some var.ty) (take (parameters unit) unit.vars)
    && list_all (stmt_named constants unit.vars units) unit.body

-- the judgement of a unit appends one typed unit with fitting statements, well-formed types, and the named unit's names and roles
pub record UnitPassed (structs : List StructDef) (unit : NamedUnit) (before : Environment) (counts : DeclaredBefore) (after : Environment) : Type 0 where
  pub between : BetweenUnits after
  pub counts_are : known_in after ≡ counts
  pub same_structs : after.structs ≡ before.structs
  pub made : UnitDef
  pub is_made : after.units ≡ before.units ++ made ∷ []
  pub is_good : list_all (fits (site_of structs before.units made)) made.body ≡ true
  pub vars_stand : list_all (λ var. type_stands (length structs) var.ty) made.vars ≡ true
  pub roles : roles_stand made ≡ true
  pub names : names_of made.vars ≡ map (λ var. var.name.text) unit.vars
  pub kind : made.kind ≡ unit.kind
  pub entry : drives unit ≡ true → is_entry (Some made) ≡ true
  pub returns : unit_returns made ≡ true

-- the unit at the position is one that the environment can drive
pub record IsDriven (units : List NamedUnit) (k : ℕ) : Type 0 where
  pub unit : NamedUnit
  pub is_there : slice_get units k ≡ Some unit
  pub is_driven : drives unit ≡ true

-- ---- depth

-- whether blocks nest at most 100 deep in each unit, as they may in a source text
abbrev pub are_shallow : List UnitDef → Bool
are_shallow units = list_all (λ unit. is_shallow 100 unit.body) units
