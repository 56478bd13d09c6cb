-- What expressions become, and what a definition that goes down them comes to.
use Rattle.std.proofs.Common.{◌≡◌, List, map, refl, ap, ◌∙◌}
use Rattle.bl_tree.specs.declared.place.Place.{Place}
use Rattle.bl_names_tree.specs.declared.expr.NamedExpr.{NamedExpr, fold-NamedExpr, fold-roll-NamedExpr, roll-NamedExpr}
use Rattle.bl_names_tree.specs.declared.expr.NamedExprKind.{NamedExprKind, fold-NamedExprKind, fold_out-NamedExprKind, map-NamedExprKind}
use Rattle.bl_names_tree.specs.declared.expr.NamedExprKind.{out-NamedExprKind}
use Rattle.bl_names_tree.specs.declared.expr.NamedExprKind.TheOpen.{NamedExprKind-F, NamedPart-F, NamedExpr-F, NamedTarget-F}
use Rattle.bl_names_tree.specs.declared.expr.NamedPart.{NamedPart, fold-NamedPart, fold_out-NamedPart, map-NamedPart, out-NamedPart}
use Rattle.bl_names_tree.specs.declared.expr.NamedPart.TheVariants as part
use Rattle.bl_names_tree.specs.declared.expr.NamedTarget.{NamedTarget, fold-NamedTarget, fold-roll-NamedTarget}
use Rattle.bl_parse_tree.specs.declared.expr.RawExpr.{RawExpr, fold-roll-RawExpr}
use Rattle.bl_parse_tree.specs.declared.expr.RawExprKind.{RawExprKind, fold-RawExprKind, fold-roll-RawExprKind, map-RawExprKind}
use Rattle.bl_parse_tree.specs.declared.expr.RawExprKind.TheOpen.{RawExprKind-F, RawPart-F}
use Rattle.bl_parse_tree.specs.declared.expr.RawPart.{RawPart, fold_out-RawPart, map-RawPart, out-RawPart}
use Rattle.bl_parse_tree.specs.declared.expr.RawTarget.{RawTarget, fold-roll-RawTarget, roll-RawTarget}
use Rattle.bl_parse_tree.specs.declared.name.Name.{Name}
use Rattle.bl_names_scopes.specs.Scopes.{Scopes}
use Rattle.bl_names.specs.Naming.{named_expr, named_expr_layer, named_kind, named_part, named_root, named_step, named_target, named_target_layer}
use Rattle.bl_names.proofs.RawExprInduction.{expr}
use Rattle.bl_types_laws.proofs.ExprCalls.{Layer}

abbrev pub RawLayer : Type 0
RawLayer = RawExprKind-F RawExprKind RawPart RawExpr RawTarget

module _ (X : Type 0) (of_kind : NamedExprKind-F X X X X → X) (of_part : NamedPart-F X X X X → X) (of_target : NamedTarget-F X X X X
    → X) (scopes : Scopes) where
  abbrev layer : NamedExpr-F X X X X → X
  layer e = e.what

  abbrev of_expr : NamedExpr → X
  of_expr = fold-NamedExpr X X X X of_kind of_part layer of_target

  abbrev of_step : NamedPart → X
  of_step = fold-NamedPart X X X X of_kind of_part layer of_target

  abbrev of_whole : NamedTarget → X
  of_whole = fold-NamedTarget X X X X of_kind of_part layer of_target

  abbrev of_what : NamedExprKind → X
  of_what = fold-NamedExprKind X X X X of_kind of_part layer of_target

  abbrev pub named_parts : Layer → NamedExprKind-F X X X X
  named_parts = map-NamedExprKind NamedExprKind NamedPart NamedExpr NamedTarget X X X X of_what of_step of_expr of_whole

  abbrev kind_named : RawExprKind → NamedExprKind
  kind_named = fold-RawExprKind NamedExprKind NamedPart NamedExpr NamedTarget (named_kind scopes) named_part named_expr_layer
      (named_target_layer scopes)

  abbrev parts : RawLayer → RawExprKind-F NamedExprKind NamedPart NamedExpr NamedTarget
  parts =
      map-RawExprKind RawExprKind RawPart RawExpr RawTarget NamedExprKind NamedPart NamedExpr NamedTarget kind_named (named_step scopes)
      (named_expr scopes)
      (named_target scopes)

  named_at : (place : Place) (layer : RawLayer) → named_expr scopes (expr place layer)
      ≡ roll-NamedExpr (record { place = place; what = named_kind scopes (parts layer) })
  named_at place layer = rw (fold-roll-RawExpr, fold-roll-RawExprKind) refl

  of_at : (place : Place) (kind : NamedExprKind) (layer : Layer) → out-NamedExprKind kind ≡ layer
      → of_expr (roll-NamedExpr (record { place = place; what = kind })) ≡ of_kind (named_parts layer)
  of_at place kind made is =
      rw fold-roll-NamedExpr (fold_out-NamedExprKind X X X X of_kind of_part layer of_target kind ∙ ap (λ layer. of_kind (named_parts layer)) is)

  -- an expression whose kind becomes this
  pub expr_made : (place : Place) (layer : RawLayer) (made : Layer) → out-NamedExprKind (named_kind scopes (parts layer)) ≡ made
      → of_expr (named_expr scopes (expr place layer)) ≡ of_kind (named_parts made)
  expr_made place layer made is = ap of_expr (named_at place layer) ∙ of_at place (named_kind scopes (parts layer)) made is

  abbrev part_layer : NamedPart-F NamedExprKind NamedPart NamedExpr NamedTarget → NamedPart-F X X X X
  part_layer = map-NamedPart NamedExprKind NamedPart NamedExpr NamedTarget X X X X of_what of_step of_expr of_whole

  part_at : (part : NamedPart) (layer : NamedPart-F NamedExprKind NamedPart NamedExpr NamedTarget) → out-NamedPart part ≡ layer
      → of_step part ≡ of_part (part_layer layer)
  part_at part made is = fold_out-NamedPart X X X X of_kind of_part layer of_target part ∙ ap (λ layer. of_part (part_layer layer)) is

  abbrev raw_part_layer : RawPart-F RawExprKind RawPart RawExpr RawTarget → RawPart-F NamedExprKind NamedPart NamedExpr NamedTarget
  raw_part_layer =
      map-RawPart RawExprKind RawPart RawExpr RawTarget NamedExprKind NamedPart NamedExpr NamedTarget kind_named (named_step scopes)
      (named_expr scopes)
      (named_target scopes)

  step_at : (raw : RawPart) (layer : RawPart-F RawExprKind RawPart RawExpr RawTarget) → out-RawPart raw ≡ layer
      → named_step scopes raw ≡ named_part (raw_part_layer layer)
  step_at raw layer is =
      fold_out-RawPart NamedExprKind NamedPart NamedExpr NamedTarget (named_kind scopes) named_part named_expr_layer (named_target_layer scopes) raw
      ∙ ap (λ layer. named_part (raw_part_layer layer)) is

  pub field_made : (raw : RawPart) (name : Name) → out-RawPart raw ≡ RawPart-F.Field name →
      of_step (named_step scopes raw) ≡ of_part (NamedPart-F.Field name)
  field_made raw name is = ap of_step (step_at raw (RawPart-F.Field name) is) ∙ part_at (part.Field name) (NamedPart-F.Field name)
      (part.outs-Field name)

  pub index_made : (raw : RawPart) (e : RawExpr) → out-RawPart raw ≡ RawPart-F.Index e
      → of_step (named_step scopes raw) ≡ of_part (NamedPart-F.Index (of_expr (named_expr scopes e)))
  index_made raw e is =
      ap of_step (step_at raw (RawPart-F.Index e) is) ∙ part_at (part.Index (named_expr scopes e)) (NamedPart-F.Index (named_expr scopes e))
      (part.outs-Index (named_expr scopes e))

  pub target_made : (place : Place) (root : Name) (parts : List RawPart)
      → of_whole (named_target scopes (roll-RawTarget (record { place = place; root = root; parts = parts })))
      ≡ of_target (record { place = place; root = named_root scopes root; parts = map of_step (map (named_step scopes) parts) })
  target_made place root parts = rw (fold-roll-RawTarget, fold-roll-NamedTarget) refl
