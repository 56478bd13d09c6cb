-- How expressions and declarations of one text are judged in two environments that agree.
use Rattle.std.specs.Prelude.{◌≡◌, ℕ, List, map, Option, option_map, slice_get}
use Rattle.bl_tree.specs.declared.place.Place.{Place}
use Rattle.bl_tree.specs.declared.tree.Ty.{Ty}
use Rattle.bl_names_laws_places.specs.Renamed.{Renaming, renamed_constant, renamed_expr, renamed_path, renamed_root, renamed_struct, renamed_target}
use Rattle.bl_names_laws_places.specs.Renamed.{renamed_type, renamed_var}
use Rattle.bl_names_tree.specs.declared.expr.NamedExpr.{NamedExpr}
use Rattle.bl_names_tree.specs.declared.expr.NamedTarget.{NamedTarget}
use Rattle.bl_names_tree.specs.declared.expr.Root.{Root}
use Rattle.bl_names_tree.specs.declared.item.NamedConstant.{NamedConstant}
use Rattle.bl_names_tree.specs.declared.item.NamedStruct.{NamedStruct}
use Rattle.bl_names_tree.specs.declared.item.NamedVar.{NamedVar}
use Rattle.bl_names_tree.specs.declared.stmt.NamedPath.{NamedPath}
use Rattle.bl_names_tree.specs.declared.types.NamedType.{NamedType}
use Rattle.bl_types.specs.declared.environment.Environment.{Environment}
use Rattle.bl_types.specs.Declarations.{after_constant, after_parameters, after_struct, after_variable, initial, with_variable}
use Rattle.bl_types.specs.Expressions.{in_context, judged, targeted}
use Rattle.bl_types.specs.Statements.{arguments, condition, has_result, immutable, lent, run_target, targeted_path}
use Rattle.bl_types.specs.Written.{bad_lengths, written_type}
use Rattle.bl_types_laws_places.specs.Agree.{EnvironmentsAgree, head_of_unit, placed_failures, placed_variable}
use Rattle.bl_types_laws_places.specs.Judgements.{DeclaringsAgree, placed_arguments, placed_initial, placed_judged, placed_lent, placed_run_target}
use Rattle.bl_types_laws_places.specs.Judgements.{placed_settled, placed_targeted}

-- in the one environment each part of an expression is judged as it is in the other, with places mapped
pub record SameJudgements (by : Renaming) (near far : Environment) : Type 0 where
  pub expr : (e : NamedExpr) → judged far (renamed_expr by e) ≡ placed_judged by.place (judged near e)
  -- where a type or nothing is wanted
  pub context : (wanted : Option Ty) (e : NamedExpr) →
      in_context wanted (judged far (renamed_expr by e)) ≡ placed_settled by.place (in_context wanted (judged near e))
  pub condition : (e : NamedExpr) → condition far (renamed_expr by e) ≡ placed_settled by.place (condition near e)
  pub target : (target : NamedTarget) → targeted far (renamed_target by target) ≡ placed_targeted by.place (targeted near target)
  pub path : (path : NamedPath) → targeted_path far (renamed_path by path) ≡ placed_targeted by.place (targeted_path near path)
  pub written : (ty : NamedType) → written_type far.constants (renamed_type by ty) ≡ written_type near.constants ty
  pub lengths : (ty : NamedType) →
      bad_lengths far.constants (renamed_type by ty) ≡ placed_failures by.place (bad_lengths near.constants ty)
  -- what a change of the root of a target fails
  pub immutable : (place : Place) (root : Root) →
      immutable far (by.place place) (renamed_root by root) ≡ placed_failures by.place (immutable near place root)
  pub variable : (k : ℕ) → slice_get far.vars k ≡ option_map (placed_variable by.place) (slice_get near.vars k)
  pub callee : (f : ℕ) → option_map head_of_unit (slice_get far.units f) ≡ option_map head_of_unit (slice_get near.units f)

-- arguments of calls are judged in the one environment as in the other, with places mapped
pub record SameArguments (by : Renaming) (near far : Environment) : Type 0 where
  pub lent : (wanted : Option Ty) (path : NamedPath) → lent far wanted (renamed_path by path) ≡ placed_lent by.place (lent near wanted path)
  pub arguments : (name : Place) (f : ℕ) (inputs : List NamedExpr) (outputs : List NamedPath) →
      arguments far (by.place name) f (map (renamed_expr by) inputs) (map (renamed_path by) outputs)
      ≡ placed_arguments by.place (arguments near name f inputs outputs)
  pub run_target : (f : ℕ) (target : Option NamedPath) →
      run_target far (slice_get far.units f) (option_map (renamed_path by) target)
      ≡ placed_run_target by.place (run_target near (slice_get near.units f) target)
  -- whether the unit that is called has a result
  pub has_result : (name : Place) (f : ℕ) →
      has_result (by.place name) (slice_get far.units f) ≡ placed_failures by.place (has_result name (slice_get near.units f))

-- what is declared in the one environment is judged as it is in the other, with places mapped
pub record SameDeclarations (by : Renaming) (near far : Environment) : Type 0 where
  pub value : (ty : Option NamedType) (e : NamedExpr) →
      initial far (option_map (renamed_type by) ty) (renamed_expr by e) ≡ placed_initial by.place (initial near ty e)
  pub constant : (constant : NamedConstant) → DeclaringsAgree by (after_constant constant near) (after_constant (renamed_constant by constant) far)
  pub struct : (def : NamedStruct) → DeclaringsAgree by (after_struct def near) (after_struct (renamed_struct by def) far)
  -- a variable of this type, where both units are of one kind
  pub with_type : far.kind ≡ near.kind → (var : NamedVar) (ty : Option Ty) →
      EnvironmentsAgree by (with_variable near var ty) (with_variable far (renamed_var by var) ty)
  pub variable : far.kind ≡ near.kind → (var : NamedVar) →
      DeclaringsAgree by (after_variable var near) (after_variable (renamed_var by var) far)
  pub parameters : far.kind ≡ near.kind → (vars : List NamedVar) →
      DeclaringsAgree by (after_parameters vars near) (after_parameters (map (renamed_var by) vars) far)

-- expressions, targets, paths and types are judged alike in environments that agree
abbrev pub ExpressionsAgree : Type 0
ExpressionsAgree = (by : Renaming) (near far : Environment) → EnvironmentsAgree by near far → SameJudgements by near far

-- arguments of calls are judged alike in environments that agree
abbrev pub ArgumentsAgree : Type 0
ArgumentsAgree = (by : Renaming) (near far : Environment) → EnvironmentsAgree by near far → SameArguments by near far

-- declarations are judged alike in environments that agree
abbrev pub DeclarationsAgree : Type 0
DeclarationsAgree = (by : Renaming) (near far : Environment) → EnvironmentsAgree by near far → SameDeclarations by near far
