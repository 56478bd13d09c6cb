-- How deep a named expression is nested, and which variables it names.
use Rattle.std.proofs.Common.{◌≡◌, ℕ, List, ◌++◌, map, refl}
use Rattle.bl_tree.specs.declared.place.Place.{Place}
use Rattle.bl_tree.specs.Apart.{Roots}
use Rattle.bl_tree.specs.Reduce.{greatest, joined}
use Rattle.bl_names_tree.specs.declared.expr.NamedExpr.{NamedExpr, fold-roll-NamedExpr}
use Rattle.bl_names_tree.specs.declared.expr.NamedExprKind.{NamedExprKind, fold-NamedExprKind, fold-roll-NamedExprKind, map-NamedExprKind}
use Rattle.bl_names_tree.specs.declared.expr.NamedExprKind.TheOpen.{NamedExprKind-F, NamedPart-F}
use Rattle.bl_names_tree.specs.declared.expr.NamedPart.{NamedPart, fold_out-NamedPart, map-NamedPart, out-NamedPart}
use Rattle.bl_names_tree.specs.declared.expr.NamedTarget.{NamedTarget, fold-roll-NamedTarget, roll-NamedTarget}
use Rattle.bl_names_tree.specs.declared.expr.Root.{Root}
use Rattle.bl_names_tree.specs.declared.stmt.NamedPath.{NamedPath}
use Rattle.bl_names_laws.specs.Apart as names
use Rattle.bl_names_laws.specs.inner.Apart as apart
use Rattle.bl_names_laws.specs.Depths as depths
use Rattle.bl_names_laws.specs.inner.Depths as levels
use Rattle.bl_types_laws.proofs.NamedExprInduction.{expr}
use Rattle.bl_types_laws.proofs.Sizes.{Size, rooted, size_all}

abbrev pub Layer : Type 0
Layer = NamedExprKind-F NamedExprKind NamedPart NamedExpr NamedTarget

abbrev pub PartLayer : Type 0
PartLayer = NamedPart-F NamedExprKind NamedPart NamedExpr NamedTarget

abbrev pub named_size : NamedExpr → Size
named_size e = record { depth = depths.expr_depth e; roots = names.roots_in e }

abbrev pub target_size : NamedTarget → Size
target_size target = record { depth = depths.target_depth target; roots = names.roots_in_target target }

abbrev pub step_size : NamedPart → Size
step_size part = record { depth = levels.step_depth part; roots = apart.roots_in_step part }

-- a path leads by fields alone
abbrev pub named_path_size : NamedPath → Size
named_path_size path = record { depth = 0; roots = names.roots_in_path path }

abbrev pub inputs_size : List NamedExpr → Size
inputs_size inputs = size_all depths.expr_depth names.roots_in inputs

abbrev depth_kind : Layer → ℕ
depth_kind layer = depths.kind_depth
    (map-NamedExprKind NamedExprKind NamedPart NamedExpr NamedTarget ℕ ℕ ℕ ℕ
    (fold-NamedExprKind ℕ ℕ ℕ ℕ depths.kind_depth depths.part_depth depths.expr_layer_depth depths.target_layer_depth)
    levels.step_depth depths.expr_depth depths.target_depth layer)

abbrev roots_kind : Layer → Roots
roots_kind layer = names.kind_roots
    (map-NamedExprKind NamedExprKind NamedPart NamedExpr NamedTarget Roots Roots Roots Roots
    (fold-NamedExprKind Roots Roots Roots Roots names.kind_roots names.part_roots names.expr_layer_roots names.target_layer_roots)
    apart.roots_in_step names.roots_in names.roots_in_target layer)

abbrev pub named_kind_size : Layer → Size
named_kind_size layer = record { depth = depth_kind layer; roots = roots_kind layer }

pub named_size_at : (place : Place) (layer : Layer) → named_size (expr place layer) ≡ named_kind_size layer
named_size_at place layer =
    let depth_is : depths.expr_depth (expr place layer) ≡ depth_kind layer = rw (fold-roll-NamedExpr, fold-roll-NamedExprKind) refl in
    let roots_are : names.roots_in (expr place layer) ≡ roots_kind layer = rw (fold-roll-NamedExpr, fold-roll-NamedExprKind) refl in
    λ i. record { depth = depth_is i; roots = roots_are i }

abbrev depth_step : PartLayer → ℕ
depth_step layer = depths.part_depth
    (map-NamedPart NamedExprKind NamedPart NamedExpr NamedTarget ℕ ℕ ℕ ℕ
    (fold-NamedExprKind ℕ ℕ ℕ ℕ depths.kind_depth depths.part_depth depths.expr_layer_depth depths.target_layer_depth)
    levels.step_depth depths.expr_depth depths.target_depth layer)

abbrev roots_step : PartLayer → Roots
roots_step layer = names.part_roots
    (map-NamedPart NamedExprKind NamedPart NamedExpr NamedTarget Roots Roots Roots Roots
    (fold-NamedExprKind Roots Roots Roots Roots names.kind_roots names.part_roots names.expr_layer_roots names.target_layer_roots)
    apart.roots_in_step names.roots_in names.roots_in_target layer)

abbrev pub step_kind_size : PartLayer → Size
step_kind_size layer = record { depth = depth_step layer; roots = roots_step layer }

pub step_size_is : (part : NamedPart) → step_size part ≡ step_kind_size (out-NamedPart part)
step_size_is part =
    let depth_is = fold_out-NamedPart ℕ ℕ ℕ ℕ depths.kind_depth depths.part_depth depths.expr_layer_depth depths.target_layer_depth part in
    let roots_are = fold_out-NamedPart Roots Roots Roots Roots names.kind_roots names.part_roots names.expr_layer_roots names.target_layer_roots part in
    λ i. record { depth = depth_is i; roots = roots_are i }

pub target_size_is : (place : Place) (root : Root) (parts : List NamedPart) →
    target_size (roll-NamedTarget (record { place = place; root = root; parts = parts }))
    ≡ rooted (names.roots_of root) (size_all levels.step_depth apart.roots_in_step parts)
target_size_is place root parts =
    let depth_is : depths.target_depth (roll-NamedTarget (record { place = place; root = root; parts = parts })) ≡ greatest (map levels.step_depth parts) =
    rw fold-roll-NamedTarget refl in
    let roots_are : names.roots_in_target (roll-NamedTarget (record { place = place; root = root; parts = parts })) ≡ names.roots_of root
    ++ joined (map apart.roots_in_step parts) = rw fold-roll-NamedTarget refl in
    λ i. record { depth = depth_is i; roots = roots_are i }
