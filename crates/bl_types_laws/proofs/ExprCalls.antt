-- Calls in expressions name functions, where every use fits.
use Rattle.std.proofs.Common.{◌≡◌, Bool, true, List, [], ◌∷◌, map, Option, Some, None, refl, ap, subst, ◌∙◌}
use Rattle.std.specs.Prelude.{All, option_map, slice_get}
use Rattle.std.specs.List.{list_all}
use Rattle.std.proofs.lemmas.List.Elements.{All-head, All-tail}
use Rattle.std.proofs.lemmas.Bool.{and_from}
use Rattle.bl_tree.specs.declared.place.Place.{Place}
use Rattle.bl_tree.specs.declared.tree.Unit.{Unit as UnitDef}
use Rattle.bl_tree.specs.Reduce.{all_of, joined}
use Rattle.bl_tree.specs.Typing.{is_activity, is_function}
use Rattle.bl_names_tree.specs.declared.expr.NamedExpr.{NamedExpr, fold-roll-NamedExpr, roll-NamedExpr}
use Rattle.bl_names_tree.specs.declared.expr.NamedExprKind.{NamedExprKind, fold-NamedExprKind, fold_out-NamedExprKind, map-NamedExprKind, out-NamedExprKind}
use Rattle.bl_names_tree.specs.declared.expr.NamedExprKind.TheOpen.{NamedExprKind-F, NamedPart-F}
use Rattle.bl_names_tree.specs.declared.expr.NamedExprKind.TheVariants as what
use Rattle.bl_names_tree.specs.declared.expr.NamedPart.{NamedPart, fold-NamedPart, fold_out-NamedPart, map-NamedPart, out-NamedPart}
use Rattle.bl_names_tree.specs.declared.expr.NamedPart.TheVariants as part
use Rattle.bl_names_tree.specs.declared.expr.NamedTarget.{NamedTarget, fold-roll-NamedTarget}
use Rattle.bl_names_tree.specs.Placed.{holds_if, holds_of}
use Rattle.bl_names_scopes.specs.declared.kind.Wanted.{Wanted}
use Rattle.bl_names_scopes.specs.declared.kind.Wanted.TheVariants as wants
use Rattle.bl_names_scopes.specs.declared.scopes.Counts.{Counts}
use Rattle.bl_names_scopes.specs.Marks.{Marks, expr_layer_marks, expr_marks, kind_marks, marks_of_part, optional, part_marks, target_layer_marks, target_marks}
use Rattle.bl_names_scopes.specs.Scopes.{Scopes}
use Rattle.bl_parse_tree.specs.declared.expr.RawExpr.{RawExpr, fold-roll-RawExpr}
use Rattle.bl_parse_tree.specs.declared.expr.RawExprKind.{RawExprKind, fold-RawExprKind, fold-roll-RawExprKind, map-RawExprKind}
use Rattle.bl_parse_tree.specs.declared.expr.RawExprKind.TheOpen.{RawExprKind-F, RawPart-F}
use Rattle.bl_parse_tree.specs.declared.expr.RawPart.{RawPart, fold_out-RawPart, map-RawPart, out-RawPart}
use Rattle.bl_parse_tree.specs.declared.expr.RawTarget.{RawTarget, fold-roll-RawTarget, roll-RawTarget}
use Rattle.bl_parse_tree.specs.declared.name.Name.{Name}
use Rattle.bl_names.specs.Naming.{named_expr, named_expr_layer, named_kind, named_part, named_step, named_target, named_target_layer, position}
use Rattle.bl_names.proofs.FitLemmas.{Fits, IsFit, fits_behind, fits_first}
use Rattle.bl_names.proofs.RawExprInduction.{Cases, EachIndex, OfIndex, expr, induct, induct_target}
use Rattle.bl_names.proofs.StillLemmas.{Still, still_expr}
use Rattle.bl_types_laws.specs.Within.{calls_functions, expr_layer_calls, kind_calls, part_calls, target_calls, target_layer_calls}
use Rattle.bl_types_laws.proofs.Told.{Told, activity_there, function_there, kinds_of}
use Rattle.bl_names_laws.proofs.ExprRoots.{still_part}

abbrev RawLayer : Type 0
RawLayer = RawExprKind-F RawExprKind RawPart RawExpr RawTarget

abbrev pub Layer : Type 0
Layer = NamedExprKind-F NamedExprKind NamedPart NamedExpr NamedTarget

abbrev pub PartLayer : Type 0
PartLayer = NamedPart-F NamedExprKind NamedPart NamedExpr NamedTarget

-- ---- what an expression comes to

module _ (units : List UnitDef) where
  abbrev calls_kind : NamedExprKind → Bool
  calls_kind = fold-NamedExprKind Bool Bool Bool Bool (kind_calls units) part_calls expr_layer_calls target_layer_calls

  abbrev pub calls_step : NamedPart → Bool
  calls_step = fold-NamedPart Bool Bool Bool Bool (kind_calls units) part_calls expr_layer_calls target_layer_calls

  abbrev pub calls_by : Layer → Bool
  calls_by layer = kind_calls units (map-NamedExprKind NamedExprKind NamedPart NamedExpr NamedTarget Bool Bool Bool Bool calls_kind calls_step
      (calls_functions units) (target_calls units) layer)

  pub calls_at : (place : Place) (kind : NamedExprKind) (layer : Layer) → out-NamedExprKind kind ≡ layer →
      calls_functions units (roll-NamedExpr (record { place = place; what = kind })) ≡ calls_by layer
  calls_at place kind layer is =
      rw fold-roll-NamedExpr (fold_out-NamedExprKind Bool Bool Bool Bool (kind_calls units) part_calls expr_layer_calls target_layer_calls kind
      ∙ ap calls_by is)

  abbrev pub calls_part : PartLayer → Bool
  calls_part layer = part_calls (map-NamedPart NamedExprKind NamedPart NamedExpr NamedTarget Bool Bool Bool Bool calls_kind calls_step (calls_functions units)
      (target_calls units) layer)

  pub step_at : (part : NamedPart) (layer : PartLayer) → out-NamedPart part ≡ layer → calls_step part ≡ calls_part layer
  step_at part layer is = fold_out-NamedPart Bool Bool Bool Bool (kind_calls units) part_calls expr_layer_calls target_layer_calls part ∙ ap calls_part is

-- ---- what is made of an expression

module _ (scopes : Scopes) where
  abbrev named_of_kind : RawExprKind → NamedExprKind
  named_of_kind = fold-RawExprKind NamedExprKind NamedPart NamedExpr NamedTarget (named_kind scopes) named_part named_expr_layer (named_target_layer scopes)

  abbrev named_parts : RawLayer → RawExprKind-F NamedExprKind NamedPart NamedExpr NamedTarget
  named_parts = map-RawExprKind RawExprKind RawPart RawExpr RawTarget NamedExprKind NamedPart NamedExpr NamedTarget named_of_kind (named_step scopes)
      (named_expr scopes) (named_target scopes)

  named_at : (place : Place) (layer : RawLayer) → named_expr scopes (expr place layer)
      ≡ roll-NamedExpr (record { place = place; what = named_kind scopes (named_parts layer) })
  named_at place layer = rw (fold-roll-RawExpr, fold-roll-RawExprKind) refl

  named_step_at : (raw : RawPart) (layer : RawPart-F RawExprKind RawPart RawExpr RawTarget) → out-RawPart raw ≡ layer →
      named_step scopes raw ≡ named_part (map-RawPart RawExprKind RawPart RawExpr RawTarget NamedExprKind NamedPart NamedExpr NamedTarget named_of_kind
      (named_step scopes) (named_expr scopes) (named_target scopes) layer)
  named_step_at raw layer is =
      fold_out-RawPart NamedExprKind NamedPart NamedExpr NamedTarget (named_kind scopes) named_part named_expr_layer (named_target_layer scopes) raw
      ∙ ap (λ layer. named_part (map-RawPart RawExprKind RawPart RawExpr RawTarget NamedExprKind NamedPart NamedExpr NamedTarget named_of_kind
      (named_step scopes) (named_expr scopes) (named_target scopes) layer)) is

abbrev marks_of_kind : RawExprKind → Marks
marks_of_kind = fold-RawExprKind Marks Marks Marks (Wanted → Marks) kind_marks part_marks expr_layer_marks target_layer_marks

abbrev mark_parts : RawLayer → RawExprKind-F Marks Marks Marks (Wanted → Marks)
mark_parts = map-RawExprKind RawExprKind RawPart RawExpr RawTarget Marks Marks Marks (Wanted → Marks) marks_of_kind marks_of_part expr_marks target_marks

marks_at : (place : Place) (layer : RawLayer) → expr_marks (expr place layer) ≡ kind_marks (mark_parts layer)
marks_at place layer = rw (fold-roll-RawExpr, fold-roll-RawExprKind) refl

-- the names that are used are bound as in these scopes, whatever is counted
module _ (units : List UnitDef) (scopes : Scopes) (counts : Counts) (told : Told (kinds_of units) scopes) where
  abbrev there : Scopes
  there = record scopes { counts = counts }

  pub function_is : (name : Name) → IsFit there name wants.Function → holds_of (λ (unit : UnitDef). is_function unit.kind)
      (slice_get units (position scopes name)) ≡ true
  function_is name fit = function_there units scopes name fit.declaration told fit.is_bound fit.is_suited

  pub activity_is : (name : Name) → IsFit there name wants.Activity → holds_of (λ (unit : UnitDef). is_activity unit.kind)
      (slice_get units (position scopes name)) ≡ true
  activity_is name fit = activity_there units scopes name fit.declaration told fit.is_bound fit.is_suited

  abbrev ExprCalls : RawExpr → Type 0
  ExprCalls e = Fits there (expr_marks e) → calls_functions units (named_expr scopes e) ≡ true

  abbrev TargetCalls : RawTarget → Type 0
  TargetCalls target = (wanted : Wanted) → Fits there (target_marks target wanted) → target_calls units (named_target scopes target) ≡ true

  all_are : {X Y : Type 0} (marks : X → Marks) (calls : Y → Bool) (made : X → Y) (xs : List X) → ((x : X) → Still (marks x)) →
      All (λ x. Fits there (marks x) → calls (made x) ≡ true) xs →
      Fits there (joined (map marks xs)) → all_of (map calls (map made xs)) ≡ true
  all_are marks calls made [] still each fits = refl
  all_are marks calls made (x ∷ xs) still each fits =
      and_from (calls (made x)) (all_of (map calls (map made xs))) (All-head (λ x. Fits there (marks x) → calls (made x) ≡ true) x xs each
      (fits_first there (marks x) (joined (map marks xs)) fits))
      (all_are marks calls made xs still (All-tail (λ x. Fits there (marks x) → calls (made x) ≡ true) x xs each)
      (fits_behind there (marks x) (joined (map marks xs)) (still x) fits))

  -- an expression whose kind becomes this
  kind_is : (place : Place) (layer : RawLayer) (made : Layer) → out-NamedExprKind (named_kind scopes (named_parts scopes layer)) ≡ made →
      (Fits there (kind_marks (mark_parts layer)) → calls_by units made ≡ true) → ExprCalls (expr place layer)
  kind_is place layer made is gives fits =
      ap (calls_functions units) (named_at scopes place layer)
      ∙ calls_at units place (named_kind scopes (named_parts scopes layer)) made is ∙ gives (subst (Fits there) (marks_at place layer) fits)

  part_is : (raw : RawPart) (layer : RawPart-F RawExprKind RawPart RawExpr RawTarget) → out-RawPart raw ≡ layer → OfIndex ExprCalls layer →
      Fits there (marks_of_part raw) → calls_step units (named_step scopes raw) ≡ true
  part_is raw (RawPart-F.Field name) is of fits =
      ap (calls_step units) (named_step_at scopes raw (RawPart-F.Field name) is)
      ∙ step_at units (part.Field name) (NamedPart-F.Field name) (part.outs-Field name)
  part_is raw (RawPart-F.Index e) is of fits =
      ap (calls_step units) (named_step_at scopes raw (RawPart-F.Index e) is)
      ∙ step_at units (part.Index (named_expr scopes e)) (NamedPart-F.Index (named_expr scopes e)) (part.outs-Index (named_expr scopes e))
      ∙ of (rw (fold_out-RawPart Marks Marks Marks (Wanted → Marks) kind_marks part_marks expr_layer_marks target_layer_marks raw, is) at fits)

  target_case : (place : Place) (root : Name) (parts : List RawPart) → EachIndex ExprCalls parts →
      TargetCalls (roll-RawTarget (record { place = place; root = root; parts = parts }))
  target_case place root parts each wanted fits =
      let at = rw fold-roll-RawTarget at fits in
      rw (fold-roll-RawTarget, fold-roll-NamedTarget)
      (all_are marks_of_part (calls_step units) (named_step scopes) parts (λ raw. still_part raw _ refl) (λ k d within. part_is _ _ refl (each k d within))
      at.1)

  cases : Cases ExprCalls TargetCalls
  cases = record {
    number = λ place minus n. kind_is place (RawExprKind-F.Number minus n) (NamedExprKind-F.Number minus n) (what.outs-Number minus n) (λ fits. refl);
    truth = λ place b. kind_is place (RawExprKind-F.Truth b) (NamedExprKind-F.Truth b) (what.outs-Truth b) (λ fits. refl);
    read = λ place target is. kind_is place (RawExprKind-F.Read target) (NamedExprKind-F.Read (named_target scopes target))
        (what.outs-Read (named_target scopes target)) (is wants.Value);
    prev = λ place name. kind_is place (RawExprKind-F.Prev name) (NamedExprKind-F.Prev (position scopes name)) (what.outs-Prev (position scopes name))
        (λ fits. refl);
    one = λ place op a is. kind_is place (RawExprKind-F.One op a) (NamedExprKind-F.One op (named_expr scopes a)) (what.outs-One op (named_expr scopes a)) is;
    two = λ place op a b is_a is_b. kind_is place (RawExprKind-F.Two op a b) (NamedExprKind-F.Two op (named_expr scopes a) (named_expr scopes b))
        (what.outs-Two op (named_expr scopes a) (named_expr scopes b))
        (λ fits. and_from _ _ (is_a (fits_first there (expr_marks a) (expr_marks b) fits))
        (is_b (fits_behind there (expr_marks a) (expr_marks b) (still_expr a) fits)));
    cast = λ place s a is. kind_is place (RawExprKind-F.Cast s a) (NamedExprKind-F.Cast s (named_expr scopes a)) (what.outs-Cast s (named_expr scopes a)) is;
    call = λ place f inputs all. kind_is place (RawExprKind-F.Call f inputs)
        (NamedExprKind-F.Call f.place (position scopes f) (map (named_expr scopes) inputs))
        (what.outs-Call f.place (position scopes f) (map (named_expr scopes) inputs))
        (λ fits. and_from _ _ (function_is f fits.0) (all_are expr_marks (calls_functions units) (named_expr scopes) inputs still_expr all fits.1));
    target = target_case;
  }

  pub expr_is : (e : RawExpr) → Fits there (expr_marks e) → calls_functions units (named_expr scopes e) ≡ true
  expr_is = induct ExprCalls TargetCalls cases

  pub target_is : (target : RawTarget) (wanted : Wanted) → Fits there (target_marks target wanted) →
      target_calls units (named_target scopes target) ≡ true
  target_is = induct_target ExprCalls TargetCalls cases

  pub exprs_are : (es : List RawExpr) → Fits there (joined (map expr_marks es)) → list_all (calls_functions units) (map (named_expr scopes) es) ≡ true
  exprs_are [] fits = refl
  exprs_are (e ∷ es) fits =
      and_from (calls_functions units (named_expr scopes e)) (list_all (calls_functions units) (map (named_expr scopes) es))
      (expr_is e (fits_first there (expr_marks e) (joined (map expr_marks es)) fits))
      (exprs_are es (fits_behind there (expr_marks e) (joined (map expr_marks es)) (still_expr e) fits))

  pub optional_is : (e : Option RawExpr) → Fits there (optional expr_marks e) → holds_if (calls_functions units) (option_map (named_expr scopes) e) ≡ true
  optional_is (Some e) fits = expr_is e fits
  optional_is None fits = refl
