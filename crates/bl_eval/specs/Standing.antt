-- Expressions and acts at their place in a program.
use Rattle.std.specs.Prelude.{ℕ, List, take, slice_get, Option, Some, None, option_map, option_and_then, is_some, IsTrue, ◌≡◌}
use Rattle.bl_tree.specs.declared.tree.Expr.{Expr}
use Rattle.bl_tree.specs.declared.tree.Stmt.{Stmt, out-Stmt}
use Rattle.bl_tree.specs.declared.tree.StmtKind.{out-StmtKind}
use Rattle.bl_tree.specs.declared.tree.StructDef.{StructDef}
use Rattle.bl_tree.specs.declared.tree.Ty.{Ty}
use Rattle.bl_tree.specs.declared.tree.Unit.{Unit as UnitDef}
use Rattle.bl_tree.specs.declared.value.Value.{Value}
use Rattle.bl_tree.specs.Typing.{TypingContext, fits, site_of, type_of}
use Rattle.bl_eval.specs.declared.values.Did.{Did}
use Rattle.bl_eval.specs.declared.values.Did.TheVariants.{Done}
use Rattle.bl_eval.specs.declared.values.Got.{Got}
use Rattle.bl_eval.specs.declared.values.Got.TheVariants.{Val}
use Rattle.bl_eval.specs.declared.values.Values.{Values}
use Rattle.bl_eval.specs.Functions.{acted, callees_of}
use Rattle.bl_eval.specs.Meaning.{Scope, View, value_in}
use Rattle.bl_eval.specs.Values.{values_fit}

-- the scope of a site: its unit's variables, and the functions before its unit
abbrev pub scope_of : TypingContext → Scope
scope_of site = record { structs = site.structs; vars = site.vars; callees = callees_of site.structs site.earlier }

-- the value of an expression that stands at the site; none where it traps
abbrev pub value_of : TypingContext → Expr → View → Option Value
value_of site e view = value_in (scope_of site) e view

-- the variables of the site's unit after an assignment, a declaration or a call; none where it traps
abbrev pub outcome_of : TypingContext → Stmt → View → Option (List Value)
outcome_of site s view = acted (scope_of site) (out-StmtKind (out-Stmt s).what) view

-- where the statements of the unit at the position stand
abbrev pub site_at : List StructDef → List UnitDef → ℕ → Option TypingContext
site_at structs units k = option_map (site_of structs (take k units)) (slice_get units k)

-- the value of an expression of the unit at the position, from the values of that unit's variables; none where it traps
abbrev pub value_in_unit : List StructDef → List UnitDef → ℕ → Expr → View → Option Value
value_in_unit structs units k e view = option_and_then (λ site. value_of site e view) (site_at structs units k)

-- the type of an expression of the unit at the position; none where its parts do not fit
abbrev pub type_in_unit : List StructDef → List UnitDef → ℕ → Expr → Option Ty
type_in_unit structs units k e = option_and_then (λ site. type_of site e) (site_at structs units k)

-- the variables of the unit at the position after an act of it; none where it traps
abbrev pub outcome_in_unit : List StructDef → List UnitDef → ℕ → Stmt → View → Option (List Value)
outcome_in_unit structs units k s view = option_and_then (λ site. outcome_of site s view) (site_at structs units k)

-- what the variables have now and had at the end of the previous tick, from the values that the code has
abbrev pub view_of : Values → Values → View
view_of now before = record { now = now.list; before = before.list }

-- the value that the code got; none where it trapped
abbrev pub got_value : Got → Option Value
got_value (Val value) = Some value
got_value Got.Trap = None

-- the variables that an act left; none where it trapped
abbrev pub left_values : Did → Values → Option (List Value)
left_values Done now = Some now.list
left_values Did.Trap now = None

-- both lists of a view have one well-typed value for each variable of the unit
pub record ViewFits (site : TypingContext) (view : View) : Type 0 where
  pub now : IsTrue (values_fit site.structs site.vars view.now)
  pub before : IsTrue (values_fit site.structs site.vars view.before)

-- the expression stands in the unit at the position, where both lists of values fit
pub record ExprStandsInUnit (structs : List StructDef) (units : List UnitDef) (k : ℕ) (view : View) (e : Expr) : Type 0 where
  pub unit : UnitDef
  pub is_there : slice_get units k ≡ Some unit
  pub typed : IsTrue (is_some (type_of (site_of structs (take k units) unit) e))
  pub fitting : ViewFits (site_of structs (take k units) unit) view

-- the statement fits the unit at the position, and so does the view
pub record ActStandsInUnit (structs : List StructDef) (units : List UnitDef) (k : ℕ) (view : View) (s : Stmt) : Type 0 where
  pub unit : UnitDef
  pub is_there : slice_get units k ≡ Some unit
  pub fitted : IsTrue (fits (site_of structs (take k units) unit) s)
  pub fitting : ViewFits (site_of structs (take k units) unit) view
