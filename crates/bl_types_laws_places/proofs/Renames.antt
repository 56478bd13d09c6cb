-- Named expressions and targets with all places and constants changed, layer by layer.
use Rattle.std.proofs.Common.{◌≡◌, List, map, refl, ap, sym, ◌∙◌}
use Rattle.bl_tree.specs.declared.place.Place.{Place}
use Rattle.bl_joined.specs.Trees.{placed_name}
use Rattle.bl_names_tree.specs.declared.expr.NamedExpr.{NamedExpr, fold-roll-NamedExpr, out-NamedExpr, out-roll-NamedExpr, fold_out-NamedExpr, roll-NamedExpr}
use Rattle.bl_names_tree.specs.declared.expr.NamedExprKind.{NamedExprKind, fold-NamedExprKind, fold-roll-NamedExprKind, roll-NamedExprKind}
use Rattle.bl_names_tree.specs.declared.expr.NamedExprKind.TheOpen.{NamedExprKind-F, NamedPart-F}
use Rattle.bl_names_tree.specs.declared.expr.NamedExprKind.TheVariants.{rolls-Number, rolls-Truth, rolls-Read, rolls-Prev, rolls-One, rolls-Two, rolls-Cast}
use Rattle.bl_names_tree.specs.declared.expr.NamedExprKind.TheVariants.{rolls-Call}
use Rattle.bl_names_tree.specs.declared.expr.NamedPart.{NamedPart, fold-NamedPart, fold_out-NamedPart, map-NamedPart, out-NamedPart, roll-NamedPart}
use Rattle.bl_names_tree.specs.declared.expr.NamedPart.TheVariants.{rolls-Field, rolls-Index}
use Rattle.bl_names_tree.specs.declared.expr.NamedTarget.{NamedTarget, fold-roll-NamedTarget}
use Rattle.bl_names_tree.specs.declared.expr.NamedTarget.{roll-NamedTarget}
use Rattle.bl_names_tree.specs.declared.expr.Root.{Root}
use Rattle.bl_names_laws_places.specs.Renamed.{Renaming, renamed_expr, renamed_expr_layer, renamed_kind, renamed_part, renamed_root, renamed_target}
use Rattle.bl_names_laws_places.specs.Renamed.{renamed_target_layer}
use Rattle.bl_types_laws.proofs.NamedExprInduction.{expr}

abbrev pub Layer : Type 0
Layer = NamedExprKind-F NamedExprKind NamedPart NamedExpr NamedTarget

abbrev pub PartLayer : Type 0
PartLayer = NamedPart-F NamedExprKind NamedPart NamedExpr NamedTarget

module _ (by : Renaming) where
  -- what an expression says, with all places and constants changed
  abbrev saying : NamedExprKind → NamedExprKind
  saying =
      fold-NamedExprKind NamedExprKind NamedPart NamedExpr NamedTarget (renamed_kind by) (renamed_part by) (renamed_expr_layer by)
      (renamed_target_layer by)

  -- a part of a target, with all places and constants changed
  abbrev pub stepping : NamedPart → NamedPart
  stepping =
      fold-NamedPart NamedExprKind NamedPart NamedExpr NamedTarget (renamed_kind by) (renamed_part by) (renamed_expr_layer by)
      (renamed_target_layer by)

  -- a layer of an expression, with all places and constants changed
  abbrev pub renamed_layer : Layer → Layer
  renamed_layer (NamedExprKind-F.Number minus n) = NamedExprKind-F.Number minus n
  renamed_layer (NamedExprKind-F.Truth b) = NamedExprKind-F.Truth b
  renamed_layer (NamedExprKind-F.Read target) = NamedExprKind-F.Read (renamed_target by target)
  renamed_layer (NamedExprKind-F.Prev k) = NamedExprKind-F.Prev k
  renamed_layer (NamedExprKind-F.One op a) = NamedExprKind-F.One op (renamed_expr by a)
  renamed_layer (NamedExprKind-F.Two op a b) = NamedExprKind-F.Two op (renamed_expr by a) (renamed_expr by b)
  renamed_layer (NamedExprKind-F.Cast s a) = NamedExprKind-F.Cast s (renamed_expr by a)
  renamed_layer (NamedExprKind-F.Call name k inputs) = NamedExprKind-F.Call (by.place name) k (map (renamed_expr by) inputs)

  kind_is : (layer : Layer) → saying (roll-NamedExprKind layer) ≡ roll-NamedExprKind (renamed_layer layer)
  kind_is (NamedExprKind-F.Number minus n) = rw fold-roll-NamedExprKind (sym (rolls-Number _ _))
  kind_is (NamedExprKind-F.Truth b) = rw fold-roll-NamedExprKind (sym (rolls-Truth _))
  kind_is (NamedExprKind-F.Read target) = rw fold-roll-NamedExprKind (sym (rolls-Read _))
  kind_is (NamedExprKind-F.Prev k) = rw fold-roll-NamedExprKind (sym (rolls-Prev _))
  kind_is (NamedExprKind-F.One op a) = rw fold-roll-NamedExprKind (sym (rolls-One _ _))
  kind_is (NamedExprKind-F.Two op a b) = rw fold-roll-NamedExprKind (sym (rolls-Two _ _ _))
  kind_is (NamedExprKind-F.Cast s a) = rw fold-roll-NamedExprKind (sym (rolls-Cast _ _))
  kind_is (NamedExprKind-F.Call name k inputs) = rw fold-roll-NamedExprKind (sym (rolls-Call _ _ _))

  pub expr_is : (place : Place) (layer : Layer) → renamed_expr by (expr place layer) ≡ expr (by.place place) (renamed_layer layer)
  expr_is place layer =
      let at : renamed_expr by (expr place layer) ≡ roll-NamedExpr (record { place = by.place place; what = saying (roll-NamedExprKind layer) }) =
      rw fold-roll-NamedExpr refl in
      at ∙ ap (λ kind. roll-NamedExpr (record { place = by.place place; what = kind })) (kind_is layer)

  pub target_is : (place : Place) (root : Root) (parts : List NamedPart) →
      renamed_target by (roll-NamedTarget (record { place = place; root = root; parts = parts }))
      ≡ roll-NamedTarget (record { place = by.place place; root = renamed_root by root; parts = map stepping parts })
  target_is place root parts = rw fold-roll-NamedTarget refl

  -- a layer of a part, with all places and constants changed
  abbrev pub renamed_step : PartLayer → PartLayer
  renamed_step (NamedPart-F.Field name) = NamedPart-F.Field (placed_name by.place name)
  renamed_step (NamedPart-F.Index e) = NamedPart-F.Index (renamed_expr by e)

  -- a layer of a part whose index is changed
  abbrev mapped : PartLayer → PartLayer
  mapped = map-NamedPart NamedExprKind NamedPart NamedExpr NamedTarget NamedExprKind NamedPart NamedExpr NamedTarget saying stepping (renamed_expr by)
      (renamed_target by)

  step_rolled : (layer : PartLayer) → renamed_part by (mapped layer) ≡ roll-NamedPart (renamed_step layer)
  step_rolled (NamedPart-F.Field name) = sym (rolls-Field _)
  step_rolled (NamedPart-F.Index e) = sym (rolls-Index _)

  pub step_is : (part : NamedPart) → stepping part ≡ roll-NamedPart (renamed_step (out-NamedPart part))
  step_is part =
      fold_out-NamedPart NamedExprKind NamedPart NamedExpr NamedTarget (renamed_kind by) (renamed_part by) (renamed_expr_layer by)
      (renamed_target_layer by) part
      ∙ step_rolled (out-NamedPart part)

  expr_out : (e : NamedExpr) → out-NamedExpr (renamed_expr by e)
      ≡ record { place = by.place (out-NamedExpr e).place; what = saying (out-NamedExpr e).what }
  expr_out e =
      ap out-NamedExpr
      (fold_out-NamedExpr NamedExprKind NamedPart NamedExpr NamedTarget (renamed_kind by) (renamed_part by) (renamed_expr_layer by)
      (renamed_target_layer by) e)
      ∙ out-roll-NamedExpr _

  pub expr_place : (e : NamedExpr) → (out-NamedExpr (renamed_expr by e)).place ≡ by.place (out-NamedExpr e).place
  expr_place e = ap (λ layer. layer.place) (expr_out e)
