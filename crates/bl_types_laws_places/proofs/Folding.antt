-- Whether expressions are constant, and their numbers, don't hang on places and positions.
use Rattle.std.proofs.Common.{◌≡◌, Bool, List, [], ◌∷◌, map, refl, ap, ap₂, sym, ◌∙◌}
use Rattle.std.specs.Prelude.{Option, Some, None, ◌&&◌, if◌then◌else◌, is_none, not, option_and_then, option_map}
use Rattle.bl_tree.specs.declared.place.Place.{Place}
use Rattle.bl_tree.specs.declared.rule.Rule.TheVariants as rule
use Rattle.bl_tree.specs.declared.tree.Expr.{Expr}
use Rattle.bl_tree_laws_places.specs.Placed.{placed_expr}
use Rattle.bl_tree_laws_places.proofs.Exprs.{expr_stays}
use Rattle.bl_names_tree.specs.declared.expr.NamedExpr.{NamedExpr, fold-roll-NamedExpr, out-NamedExpr}
use Rattle.bl_names_tree.specs.declared.expr.NamedExprKind.{NamedExprKind, fold-NamedExprKind, fold-roll-NamedExprKind, map-NamedExprKind}
use Rattle.bl_names_tree.specs.declared.expr.NamedExprKind.TheOpen.{NamedExprKind-F}
use Rattle.bl_names_tree.specs.declared.expr.NamedPart.{NamedPart, fold-NamedPart}
use Rattle.bl_names_tree.specs.declared.expr.NamedTarget.{NamedTarget, fold-roll-NamedTarget, roll-NamedTarget}
use Rattle.bl_names_tree.specs.declared.expr.Root.{Root}
use Rattle.bl_names_tree.specs.declared.expr.Root.TheVariants as root
use Rattle.bl_names_laws_places.specs.Renamed.{Renaming, renamed_expr, renamed_root, renamed_target}
use Rattle.bl_eval.specs.Meaning.{Meaning, PathMeaning, PathPosition, expr_means, kind_means, meaning_of, operand, part_means, path_means}
use Rattle.bl_types.specs.Failures.{unless}
use Rattle.bl_types.specs.Folded.{constant_kind, constant_layer, constant_part, constant_target, constant_target_of, folded, is_constant, no_values}
use Rattle.bl_types.specs.Folded.{not_constant, nowhere, number_in, traps, whole_constant}
use Rattle.bl_types_laws.proofs.NamedExprInduction.{Cases, EachIndex, expr, induct}
use Rattle.bl_types_laws_places.specs.Agree.{placed_failures}
use Rattle.bl_types_laws_places.proofs.Renames.{Layer, expr_is, expr_place, renamed_layer, stepping, target_is}
use Rattle.bl_types_laws_places.proofs.Trees.{unless_placed}

-- ---- constant expressions

-- a layer of an expression, from whether its operands are constant
abbrev filled : Layer → NamedExprKind-F Bool (Unit {0}) Bool Bool
filled =
    map-NamedExprKind NamedExprKind NamedPart NamedExpr NamedTarget Bool (Unit {0}) Bool Bool
    (fold-NamedExprKind Bool (Unit {0}) Bool Bool constant_kind constant_part constant_layer constant_target)
    (fold-NamedPart Bool (Unit {0}) Bool Bool constant_kind constant_part constant_layer constant_target)
    is_constant constant_target_of

constant_is : (place : Place) (layer : Layer) → is_constant (expr place layer) ≡ constant_kind (filled layer)
constant_is place layer = rw (fold-roll-NamedExpr, fold-roll-NamedExprKind) refl

abbrev asked : NamedPart → Unit {0}
asked = fold-NamedPart Bool (Unit {0}) Bool Bool constant_kind constant_part constant_layer constant_target

constant_target_is : (place : Place) (root : Root) (parts : List NamedPart) →
    constant_target_of (roll-NamedTarget (record { place = place; root = root; parts = parts })) ≡ whole_constant root (map asked parts)
constant_target_is place root parts = rw fold-roll-NamedTarget refl

module _ (by : Renaming) where
  abbrev P : NamedExpr → Type 0
  P e = is_constant (renamed_expr by e) ≡ is_constant e

  abbrev Q : NamedTarget → Type 0
  Q target = constant_target_of (renamed_target by target) ≡ constant_target_of target

  by_layer : (place : Place) (layer : Layer) → constant_kind (filled (renamed_layer by layer)) ≡ constant_kind (filled layer) → P (expr place layer)
  by_layer place layer h =
      ap is_constant (expr_is by place layer) ∙ constant_is (by.place place) (renamed_layer by layer) ∙ h ∙ sym (constant_is place layer)

  whole_stays : (root : Root) (parts : List NamedPart) →
      whole_constant (renamed_root by root) (map asked (map (stepping by) parts)) ≡ whole_constant root (map asked parts)
  whole_stays (root.Variable k) parts = refl
  whole_stays (root.Constant k) [] = refl
  whole_stays (root.Constant k) (part ∷ parts) = refl

  target_case : (place : Place) (root : Root) (parts : List NamedPart) → EachIndex P parts →
      Q (roll-NamedTarget (record { place = place; root = root; parts = parts }))
  target_case place root parts each =
      ap constant_target_of (target_is by place root parts)
      ∙ constant_target_is (by.place place) (renamed_root by root) (map (stepping by) parts)
      ∙ whole_stays root parts ∙ sym (constant_target_is place root parts)

  cases : Cases P Q
  cases = record {
    number = λ place minus n. by_layer place (NamedExprKind-F.Number minus n) refl;
    truth = λ place b. by_layer place (NamedExprKind-F.Truth b) refl;
    read = λ place target h. by_layer place (NamedExprKind-F.Read target) h;
    prev = λ place k. by_layer place (NamedExprKind-F.Prev k) refl;
    one = λ place op a h. by_layer place (NamedExprKind-F.One op a) h;
    two = λ place op a b h k. by_layer place (NamedExprKind-F.Two op a b) (ap₂ (λ x y. x && y) h k);
    cast = λ place s a h. by_layer place (NamedExprKind-F.Cast s a) h;
    call = λ place name callee inputs each. by_layer place (NamedExprKind-F.Call name callee inputs) refl;
    target = target_case;
  }

  pub constant_stays : (e : NamedExpr) → is_constant (renamed_expr by e) ≡ is_constant e
  constant_stays = induct P Q cases

-- ---- numbers

module _ (f : Place → Place) where
  meaning_stays : (e : Expr) → meaning_of nowhere (placed_expr f e) ≡ meaning_of nowhere e
  meaning_stays =
      expr_stays f Meaning PathPosition Meaning PathMeaning (kind_means nowhere) part_means expr_means path_means (λ p q what. refl)
      (λ p q root parts ty. refl)

  number_stays : (e : Expr) → number_in (placed_expr f e) ≡ number_in e
  number_stays e = ap (λ meaning. operand meaning no_values) (meaning_stays e)

  numbers_stay : (value : Option Expr) → option_and_then number_in (option_map (placed_expr f) value) ≡ option_and_then number_in value
  numbers_stay (Some e) = number_stays e
  numbers_stay None = refl

  traps_stay : (value : Option Expr) → traps (option_map (placed_expr f) value) ≡ traps value
  traps_stay (Some e) = ap is_none (number_stays e)
  traps_stay None = refl

module _ (by : Renaming) where
  pub folded_stays : (e : NamedExpr) (value : Option Expr) →
      folded (renamed_expr by e) (option_map (placed_expr by.place) value) ≡ folded e value
  folded_stays e value = ap₂ (λ test number. if test then number else None) (constant_stays by e) (numbers_stay by.place value)

  pub not_constant_agrees : (e : NamedExpr) (value : Option Expr) →
      not_constant (renamed_expr by e) (option_map (placed_expr by.place) value) ≡ placed_failures by.place (not_constant e value)
  not_constant_agrees e value =
      ap₂ (λ test at. unless test rule.Constant at) (ap₂ (λ a b. a && not b) (constant_stays by e) (traps_stay by.place value)) (expr_place by e)
      ∙ unless_placed by.place (is_constant e && not (traps value)) rule.Constant (out-NamedExpr e).place
