-- What is made of an expression, and what a target leads to, is nested no deeper and names no more.
use Rattle.std.proofs.Common.{◌≡◌, ℕ, ℤ, List, [], ◌∷◌, map, Option, Some, None, refl, subst, sym}
use Rattle.std.specs.Prelude.{All, option_and_then, option_map, slice_get}
use Rattle.std.proofs.lemmas.List.Elements.{All-head, All-tail}
use Rattle.bl_tree.specs.declared.place.Place.{Place}
use Rattle.bl_tree.specs.declared.scalar.Scalar.{Scalar as ScalarType}
use Rattle.bl_tree.specs.declared.scalar.Scalar.TheVariants.{Bool as OfBool}
use Rattle.bl_tree.specs.declared.tree.Expr.{Expr}
use Rattle.bl_tree.specs.declared.tree.Part.{Part}
use Rattle.bl_tree.specs.declared.tree.Part.TheVariants as part
use Rattle.bl_tree.specs.declared.tree.StructDef.{StructDef}
use Rattle.bl_tree.specs.declared.tree.Ty.{Ty, out-Ty}
use Rattle.bl_tree.specs.declared.tree.Var.{Var}
use Rattle.bl_tree.specs.Apart as names
use Rattle.bl_tree.specs.Depths as depths
use Rattle.bl_tree.specs.Numbers.{number_of}
use Rattle.bl_tree.specs.Types.{scalar_in}
use Rattle.bl_parse_tree.specs.declared.name.Name.{Name}
use Rattle.bl_names_tree.specs.declared.expr.NamedExpr.{NamedExpr, fold-roll-NamedExpr}
use Rattle.bl_names_tree.specs.declared.expr.NamedExprKind.{NamedExprKind, fold-NamedExprKind, fold-roll-NamedExprKind, map-NamedExprKind}
use Rattle.bl_names_tree.specs.declared.expr.NamedExprKind.TheOpen.{NamedExprKind-F, NamedPart-F}
use Rattle.bl_names_tree.specs.declared.expr.NamedPart.{NamedPart, fold_out-NamedPart, map-NamedPart, out-NamedPart}
use Rattle.bl_names_tree.specs.declared.expr.NamedTarget.{NamedTarget, fold-roll-NamedTarget, roll-NamedTarget}
use Rattle.bl_names_tree.specs.declared.expr.Root.{Root}
use Rattle.bl_names_tree.specs.declared.expr.Root.TheVariants as root
use Rattle.bl_names_laws.specs.Apart as named
use Rattle.bl_names_laws.specs.inner.Apart as apart
use Rattle.bl_names_laws.specs.Depths as nested
use Rattle.bl_names_laws.specs.inner.Depths as levels
use Rattle.bl_types.specs.declared.environment.Environment.{Environment}
use Rattle.bl_types.specs.declared.form.Form.{Form}
use Rattle.bl_types.specs.Expressions.{FieldAt, Formed, Judged, Stepped, Targeted, all_made, as_index, constant_found, field_found, field_in, fitted}
use Rattle.bl_types.specs.Expressions.{in_context, judged, judged_kind, judged_layer, judged_part, judged_target, params_of, path, path_found, step_of, stepped}
use Rattle.bl_types.specs.Expressions.{targeted, targeted_from, to_element, to_field, type_of_constant, type_of_variable, value_of_constant, written_number}
use Rattle.bl_types.specs.Settled.{int32, literal}
use Rattle.bl_types_laws.proofs.NamedExprInduction.{Cases, EachIndex, OfIndex, expr, induct, induct_target}
use Rattle.bl_types_laws.proofs.ShapeForms.{FormIn, FoundIn, as_index_in, call_in, cast_in, fitting_in, one_in, previous_in, reading_in, two_in}
use Rattle.bl_types_laws.proofs.NamedSizes.{Layer, PartLayer, inputs_size, named_kind_size, named_size, named_size_at, step_kind_size, step_size, step_size_is}
use Rattle.bl_types_laws.proofs.NamedSizes.{target_size, target_size_is}
use Rattle.bl_types_laws.proofs.Opens.{ExprIn}
use Rattle.bl_types_laws.proofs.Sizes.{MadeIn, Size, SizeMost, deeper, empty, field_size, index_size, literal_size, made_first, part_depth, part_roots}
use Rattle.bl_types_laws.proofs.Sizes.{path_size, rooted, size_all, size_deeper, size_empty, size_is, size_of, size_of_part, size_of_path, size_rooted}

abbrev pub PartIn : Size → Option Part → Type 0
PartIn = MadeIn size_of_part

-- ---- steps

field_part_in : (at : Place) (found : Option FieldAt) → PartIn empty (field_found at found).part
field_part_in at (Some field) = size_is (size_of_part (part.Field field.position)) empty empty (field_size field.position) (size_empty empty)
field_part_in at None = tt

pub field_in_step : (structs : List StructDef) (name : Name) (ty : Option Ty) → PartIn empty (to_field structs name ty).part
field_in_step structs name (Some ty) = field_part_in name.place (field_in structs name.text (out-Ty ty))
field_in_step structs name None = tt

index_part_in : (index : Option Expr) (size : Size) → ExprIn size index → PartIn (deeper size) (option_map part.Index index)
index_part_in (Some e) size most = size_is (size_of_part (part.Index e)) (deeper (size_of e)) (deeper size) (index_size e) (size_deeper (size_of e) size most)
index_part_in None size most = tt

index_in_step : (at : Place) (form : Form) (ty : Option Ty) (size : Size) → FormIn size form → PartIn (deeper size) (to_element at form ty).part
index_in_step at form ty size most = index_part_in (as_index at form).made size (as_index_in at form size most)

-- ---- arguments

all_fitted : {X : Type 0} (judges : X → Judged) (depth : X → ℕ) (roots : X → names.Roots) (xs : List X) →
    All (λ x. FormIn (record { depth = depth x; roots = roots x }) (judges x).form) xs → (params : List Var) →
    SizeMost (size_all depths.expr_depth names.roots_in (all_made (fitted (map judges xs) params))) (size_all depth roots xs)
all_fitted judges depth roots [] each params = size_empty empty
all_fitted judges depth roots (x ∷ xs) each params =
    made_first depths.expr_depth names.roots_in _ _ (record { depth = depth x; roots = roots x }) (size_all depth roots xs)
    (fitting_in _ (judges x).place (judges x).form (record { depth = depth x; roots = roots x })
    (All-head (λ x. FormIn (record { depth = depth x; roots = roots x }) (judges x).form) x xs each))
    (all_fitted judges depth roots xs (All-tail (λ x. FormIn (record { depth = depth x; roots = roots x }) (judges x).form) x xs each) _)

module _ (env : Environment) where
  abbrev P : NamedExpr → Type 0
  P e = FormIn (named_size e) (judged env e).form

  abbrev Q : NamedTarget → Type 0
  Q target = FoundIn (target_size target) (targeted env target).found

  abbrev formed_by : Layer → Place → Formed
  formed_by layer = judged_kind env
      (map-NamedExprKind NamedExprKind NamedPart NamedExpr NamedTarget (Place → Formed) (Option Ty → Stepped) Judged Targeted
      (fold-NamedExprKind (Place → Formed) (Option Ty → Stepped) Judged Targeted (judged_kind env) (judged_part env) judged_layer (judged_target env))
      (step_of env) (judged env) (targeted env) layer)

  judged_is : (place : Place) (layer : Layer) → judged env (expr place layer) ≡ judged_layer (record { place = place; what = formed_by layer })
  judged_is place layer = rw (fold-roll-NamedExpr, fold-roll-NamedExprKind) refl

  by_kind : (place : Place) (layer : Layer) → FormIn (named_kind_size layer) (formed_by layer place).form → P (expr place layer)
  by_kind place layer most =
      subst (λ size. FormIn size (judged env (expr place layer)).form) (sym (named_size_at place layer))
      (subst (λ (judged : Judged). FormIn (named_kind_size layer) judged.form) (sym (judged_is place layer)) most)

  abbrev stepped_by : PartLayer → Option Ty → Stepped
  stepped_by layer = judged_part env
      (map-NamedPart NamedExprKind NamedPart NamedExpr NamedTarget (Place → Formed) (Option Ty → Stepped) Judged Targeted
      (fold-NamedExprKind (Place → Formed) (Option Ty → Stepped) Judged Targeted (judged_kind env) (judged_part env) judged_layer (judged_target env))
      (step_of env) (judged env) (targeted env) layer)

  step_is : (part : NamedPart) → step_of env part ≡ stepped_by (out-NamedPart part)
  step_is part = fold_out-NamedPart (Place → Formed) (Option Ty → Stepped) Judged Targeted (judged_kind env)
      (judged_part env) judged_layer (judged_target env)
      part

  step_by_in : (layer : PartLayer) → OfIndex P layer → (ty : Option Ty) → PartIn (step_kind_size layer) (stepped_by layer ty).part
  step_by_in (NamedPart-F.Field name) of ty = field_in_step env.structs name ty
  step_by_in (NamedPart-F.Index index) of ty = index_in_step (judged env index).place (judged env index).form ty (named_size index) of

  step_in : (part : NamedPart) → OfIndex P (out-NamedPart part) → (ty : Option Ty) → PartIn (step_size part) (step_of env part ty).part
  step_in part of ty =
      subst (λ size. PartIn size (step_of env part ty).part) (sym (step_size_is part))
      (subst (λ (step : Option Ty → Stepped). PartIn (step_kind_size (out-NamedPart part)) (step ty).part) (sym (step_is part))
      (step_by_in (out-NamedPart part) of ty))

  steps_in : (parts : List NamedPart) → EachIndex P parts → (ty : Option Ty) →
      SizeMost (size_all part_depth part_roots (stepped (map (step_of env) parts) ty).parts) (size_all levels.step_depth apart.roots_in_step parts)
  steps_in [] each ty = size_empty empty
  steps_in (part ∷ rest) each ty =
      made_first part_depth part_roots (step_of env part ty).part (stepped (map (step_of env) rest) (step_of env part ty).ty).parts (step_size part)
      (size_all levels.step_depth apart.roots_in_step rest)
      (step_in part (All-head (λ part. OfIndex P (out-NamedPart part)) part rest each) ty)
      (steps_in rest (All-tail (λ part. OfIndex P (out-NamedPart part)) part rest each) (step_of env part ty).ty)

  pub path_in : (place : Place) (k : ℕ) (parts : List Part) (ty : Option Ty) (size : Size) → SizeMost (size_all part_depth part_roots parts) size →
      FoundIn (rooted (k ∷ []) size) (path_found place k parts ty)
  path_in place k parts (Some ty) size most =
      size_is (size_of_path (path place k parts ty)) (rooted (k ∷ []) (size_all part_depth part_roots parts)) (rooted (k ∷ []) size)
      (path_size place k parts ty)
      (size_rooted (k ∷ []) (size_all part_depth part_roots parts) size most)
  path_in place k parts None size most = tt

  constant_in : (value : ℤ) (s : Option ScalarType) (size : Size) → FoundIn size (constant_found value s)
  constant_in value (Some s) size = tt
  constant_in value None size = tt

  root_in : (place : Place) (root : Root) (parts : List NamedPart) → EachIndex P parts →
      FoundIn (rooted (named.roots_of root) (size_all levels.step_depth apart.roots_in_step parts))
      (targeted_from env place root (map (step_of env) parts)).found
  root_in place (root.Variable k) parts each =
      path_in place k (stepped (map (step_of env) parts) (type_of_variable (slice_get env.vars k))).parts
      (stepped (map (step_of env) parts) (type_of_variable (slice_get env.vars k))).ty
      (size_all levels.step_depth apart.roots_in_step parts) (steps_in parts each (type_of_variable (slice_get env.vars k)))
  root_in place (root.Constant k) parts each =
      constant_in (value_of_constant (slice_get env.constants k)) (option_and_then scalar_in
      (stepped (map (step_of env) parts) (type_of_constant (slice_get env.constants k))).ty)
      (rooted (named.roots_of (root.Constant k)) (size_all levels.step_depth apart.roots_in_step parts))

  target_case : (place : Place) (root : Root) (parts : List NamedPart) → EachIndex P parts →
      Q (roll-NamedTarget (record { place = place; root = root; parts = parts }))
  target_case place root parts each =
      let targeted_is : targeted env (roll-NamedTarget (record { place = place; root = root; parts = parts }))
      ≡ targeted_from env place root (map (step_of env) parts) = rw fold-roll-NamedTarget refl in
      subst (λ size. FoundIn size (targeted env (roll-NamedTarget (record { place = place; root = root; parts = parts }))).found)
      (sym (target_size_is place root parts))
      (subst (λ (targeted : Targeted). FoundIn (rooted (named.roots_of root) (size_all levels.step_depth apart.roots_in_step parts)) targeted.found)
      (sym targeted_is) (root_in place root parts each))

  literal_in : (place : Place) (n : ℤ) (s : ScalarType) → SizeMost (size_of (literal place n s)) empty
  literal_in place n s = size_is (size_of (literal place n s)) empty empty (literal_size place n s) (size_empty empty)

  cases : Cases P Q
  cases = record {
    number = λ place minus n. by_kind place (NamedExprKind-F.Number minus n) (literal_in place (written_number minus n) int32);
    truth = λ place b. by_kind place (NamedExprKind-F.Truth b) (literal_in place (number_of b) OfBool);
    read = λ place target is. by_kind place (NamedExprKind-F.Read target) (reading_in place (targeted env target).found (target_size target) is);
    prev = λ place k. by_kind place (NamedExprKind-F.Prev k) (previous_in env.kind place k (slice_get env.vars k));
    one = λ place op a is. by_kind place (NamedExprKind-F.One op a) (one_in place op (judged env a).form (named_size a) is);
    two = λ place op a b is_a is_b. by_kind place (NamedExprKind-F.Two op a b)
        (two_in place op (judged env a).form (judged env b).form (named_size a) (named_size b) is_a is_b);
    cast = λ place s a is. by_kind place (NamedExprKind-F.Cast s a) (cast_in place s (judged env a).form (named_size a) is);
    call = λ place name f inputs each. by_kind place (NamedExprKind-F.Call name f inputs)
        (call_in place f (all_made (fitted (map (judged env) inputs) (params_of (slice_get env.units f)))) _ _ (inputs_size inputs)
        (all_fitted (judged env) nested.expr_depth named.roots_in inputs each (params_of (slice_get env.units f))));
    target = target_case;
  }

  pub judged_in : (e : NamedExpr) → FormIn (named_size e) (judged env e).form
  judged_in = induct P Q cases

  pub targeted_in : (target : NamedTarget) → FoundIn (target_size target) (targeted env target).found
  targeted_in = induct_target P Q cases

  -- an expression of which a type or nothing is wanted
  pub context_in : (wanted : Option Ty) (e : NamedExpr) → ExprIn (named_size e) (in_context wanted (judged env e)).made
  context_in wanted e = fitting_in wanted (judged env e).place (judged env e).form (named_size e) (judged_in e)

  -- the arguments that are made
  pub inputs_in : (inputs : List NamedExpr) (params : List Var) → SizeMost
      (size_all depths.expr_depth names.roots_in (all_made (fitted (map (judged env) inputs) params))) (inputs_size inputs)
  inputs_in inputs params = all_fitted (judged env) nested.expr_depth named.roots_in inputs (λ k d within. judged_in _) params
