-- Paths that stand for outputs or take a result, and initial values, are nested no deeper and name no more.
use Rattle.std.proofs.Common.{List, [], ◌∷◌, map, Option, Some, None}
use Rattle.std.specs.Prelude.{Bool, true, false, option_map, slice_get, if◌then◌else◌}
use Rattle.bl_tree.specs.declared.place.Place.{Place}
use Rattle.bl_tree.specs.declared.rule.Rule.TheVariants as rule
use Rattle.bl_tree.specs.declared.tree.Path.{Path, out-Path}
use Rattle.bl_tree.specs.declared.tree.StructDef.{StructDef}
use Rattle.bl_tree.specs.declared.tree.Ty.{Ty}
use Rattle.bl_tree.specs.declared.tree.Unit.{Unit as UnitDef}
use Rattle.bl_tree.specs.declared.tree.Var.{Var}
use Rattle.bl_tree.specs.Apart as names
use Rattle.bl_tree.specs.Depths as depths
use Rattle.bl_tree.specs.Reduce.{joined}
use Rattle.bl_tree.specs.Types.{same_type}
use Rattle.bl_parse_tree.specs.declared.name.Name.{Name}
use Rattle.bl_names_tree.specs.declared.expr.NamedExpr.{NamedExpr}
use Rattle.bl_names_tree.specs.declared.stmt.NamedPath.{NamedPath}
use Rattle.bl_names_tree.specs.declared.types.NamedType.{NamedType}
use Rattle.bl_names_laws.specs.Apart as named
use Rattle.bl_types.specs.declared.environment.Environment.{Environment}
use Rattle.bl_types.specs.declared.form.Found.{Found}
use Rattle.bl_types.specs.declared.form.Found.TheVariants as found
use Rattle.bl_types.specs.Declarations.{initial}
use Rattle.bl_types.specs.Expressions.{but_first, first_type, judged, stepped, to_field, type_of_variable}
use Rattle.bl_types.specs.Failures.{fails_at}
use Rattle.bl_types.specs.Statements.{Lent, all_lent, lent, lent_as, paths_made, result_type, run_target, targeted_path}
use Rattle.bl_types.specs.Written.{written_type}
use Rattle.bl_types_laws.proofs.Exprs.{context_in, field_in_step, judged_in, path_in}
use Rattle.bl_types_laws.proofs.ShapeForms.{FoundIn, closed_in}
use Rattle.bl_types_laws.proofs.NamedSizes.{named_path_size, named_size}
use Rattle.bl_types_laws.proofs.Opens.{ExprIn}
use Rattle.bl_types_laws.proofs.Sizes.{MadeIn, Size, SizeMost, empty, made_first, part_depth, part_roots, size_all, size_empty, size_of_path, size_self}

abbrev pub PathIn : Size → Option Path → Type 0
PathIn = MadeIn size_of_path

-- paths lead by fields alone
abbrev pub paths_size : List NamedPath → Size
paths_size paths = record { depth = 0; roots = joined (map named.roots_in_path paths) }

abbrev pub size_of_target : Option Path → Size
size_of_target target = record { depth = depths.target_depth target; roots = names.target_roots target }

abbrev pub taker_size : Option NamedPath → Size
taker_size target = record { depth = 0; roots = named.taker_roots target }

-- the target of a run, where it is made
abbrev pub TargetIn : Size → Option (Option Path) → Type 0
TargetIn = MadeIn size_of_target

fields_in : (structs : List StructDef) (fields : List Name) (ty : Option Ty) →
    SizeMost (size_all part_depth part_roots (stepped (map (to_field structs) fields) ty).parts) empty
fields_in structs [] ty = size_empty empty
fields_in structs (name ∷ rest) ty =
    made_first part_depth part_roots (to_field structs name ty).part (stepped (map (to_field structs) rest) (to_field structs name ty).ty).parts empty empty
    (field_in_step structs name ty) (fields_in structs rest (to_field structs name ty).ty)

abbrev lent_if : Bool → Place → Path → Lent
lent_if same at it = if same then record { made = Some it; failures = [] } else record { made = None; failures = fails_at rule.Type at }

lent_if_in : (same : Bool) (at : Place) (it : Path) (size : Size) → SizeMost (size_of_path it) size → PathIn size (lent_if same at it).made
lent_if_in true at it size most = most
lent_if_in false at it size most = tt

lent_as_in : (wanted : Option Ty) (at : Place) (found : Found) (size : Size) → FoundIn size found → PathIn size (lent_as wanted at found).made
lent_as_in (Some wanted) at (found.Place it) size most = lent_if_in (same_type wanted (out-Path it).ty) at it size most
lent_as_in (Some wanted) at (found.Constant s n) size most = tt
lent_as_in (Some wanted) at found.Nothing size most = tt
lent_as_in None at (found.Place it) size most = most
lent_as_in None at (found.Constant s n) size most = tt
lent_as_in None at found.Nothing size most = tt

module _ (env : Environment) where
  lent_in : (wanted : Option Ty) (path : NamedPath) → PathIn (named_path_size path) (lent env wanted path).made
  lent_in wanted path =
      lent_as_in wanted path.place (targeted_path env path).found (named_path_size path)
      (path_in env path.place path.root _ (stepped (map (to_field env.structs) path.fields) (type_of_variable (slice_get env.vars path.root))).ty empty
      (fields_in env.structs path.fields (type_of_variable (slice_get env.vars path.root))))

  pub all_lent_in : (paths : List NamedPath) (params : List Var) → SizeMost
      (size_all depths.path_depth names.roots_in_path (paths_made (all_lent env paths params))) (paths_size paths)
  all_lent_in [] params = size_empty empty
  all_lent_in (path ∷ rest) params =
      made_first depths.path_depth names.roots_in_path (lent env (first_type params) path).made (paths_made (all_lent env rest (but_first params)))
      (named_path_size path) (paths_size rest)
      (lent_in (first_type params) path) (all_lent_in rest (but_first params))

  taken_in : (made : Option Path) (path : NamedPath) → PathIn (named_path_size path) made →
      TargetIn (named_path_size path) (option_map (λ path. Some path) made)
  taken_in (Some it) path most = most
  taken_in None path most = tt

  pub run_target_in : (callee : Option UnitDef) (target : Option NamedPath) → TargetIn (taker_size target) (run_target env callee target).made
  run_target_in callee (Some path) = taken_in (lent env (result_type callee) path).made path (lent_in (result_type callee) path)
  run_target_in callee None = size_self empty

  pub initial_in : (ty : Option NamedType) (e : NamedExpr) → ExprIn (named_size e) (initial env ty e).valued.value
  initial_in (Some written) e = context_in env (Some (written_type env.constants written)) e
  initial_in None e = closed_in (judged env e).form (named_size e) (judged_in env e)
