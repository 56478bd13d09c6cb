-- Expressions with positions in place of names are as deep as they were.
use Rattle.std.proofs.Common.{◌≡◌, ℕ, ◌+◌, List, [], ◌∷◌, map, refl, sym, ap, ◌∙◌}
use Rattle.std.specs.Prelude.{All, max, Option, Some, None, option_map}
use Rattle.std.proofs.lemmas.List.Elements.{All-head, All-tail}
use Rattle.bl_tree.specs.declared.place.Place.{Place}
use Rattle.bl_tree.specs.Reduce.{greatest}
use Rattle.bl_names_tree.specs.declared.expr.NamedExprKind.TheOpen.{NamedExprKind-F}
use Rattle.bl_names_tree.specs.declared.expr.NamedExprKind.TheVariants as what
use Rattle.bl_parse_tree.specs.declared.expr.RawExpr.{RawExpr, fold-roll-RawExpr}
use Rattle.bl_parse_tree.specs.declared.expr.RawExprKind.{RawExprKind, fold-RawExprKind, fold-roll-RawExprKind, map-RawExprKind}
use Rattle.bl_parse_tree.specs.declared.expr.RawExprKind.TheOpen.{RawExprKind-F, RawPart-F}
use Rattle.bl_parse_tree.specs.declared.expr.RawPart.{RawPart, fold-RawPart, fold_out-RawPart, map-RawPart, out-RawPart}
use Rattle.bl_parse_tree.specs.declared.expr.RawTarget.{RawTarget, fold-roll-RawTarget, roll-RawTarget}
use Rattle.bl_parse_tree.specs.declared.name.Name.{Name}
use Rattle.bl_parse_tree.specs.Depths as raw
use Rattle.bl_names_scopes.specs.Scopes.{Scopes}
use Rattle.bl_names.specs.Naming.{named_expr, named_step, named_target, position}
use Rattle.bl_names.proofs.RawExprInduction.{Cases, OfIndex, expr, induct, induct_target}
use Rattle.bl_names_laws.specs.Depths.{expr_depth, kind_depth, optional_depth, part_depth, target_depth, target_layer_depth}
use Rattle.bl_names_laws.specs.inner.Depths.{step_depth}
use Rattle.bl_names_laws.proofs.ExprMade.{NamedLayer, RawLayer, expr_made, field_made, index_made, named_parts, target_made}

-- ---- the depth of a raw expression by its parts

abbrev raw_step : RawPart → ℕ
raw_step = fold-RawPart ℕ ℕ ℕ ℕ raw.kind_depth raw.part_depth raw.expr_layer_depth raw.target_layer_depth

abbrev raw_kind : RawExprKind → ℕ
raw_kind = fold-RawExprKind ℕ ℕ ℕ ℕ raw.kind_depth raw.part_depth raw.expr_layer_depth raw.target_layer_depth

abbrev raw_parts : RawLayer → RawExprKind-F ℕ ℕ ℕ ℕ
raw_parts = map-RawExprKind RawExprKind RawPart RawExpr RawTarget ℕ ℕ ℕ ℕ raw_kind raw_step raw.expr_depth raw.target_depth

raw_at : (place : Place) (layer : RawLayer) → raw.expr_depth (expr place layer) ≡ raw.kind_depth (raw_parts layer)
raw_at place layer = rw (fold-roll-RawExpr, fold-roll-RawExprKind) refl

raw_step_at : (part : RawPart) (layer : RawPart-F RawExprKind RawPart RawExpr RawTarget) → out-RawPart part ≡ layer →
    raw_step part ≡ raw.part_depth (map-RawPart RawExprKind RawPart RawExpr RawTarget ℕ ℕ ℕ ℕ raw_kind raw_step raw.expr_depth raw.target_depth layer)
raw_step_at part layer is =
    fold_out-RawPart ℕ ℕ ℕ ℕ raw.kind_depth raw.part_depth raw.expr_layer_depth raw.target_layer_depth part
    ∙ ap (λ layer. raw.part_depth (map-RawPart RawExprKind RawPart RawExpr RawTarget ℕ ℕ ℕ ℕ raw_kind raw_step raw.expr_depth
    raw.target_depth layer)) is

raw_target_at : (place : Place) (root : Name) (steps : List RawPart)
    → raw.target_depth (roll-RawTarget (record { place = place; root = root; parts = steps })) ≡ greatest (map raw_step steps)
raw_target_at place root steps = rw fold-roll-RawTarget refl

pub all_same : {X Y : Type 0} (made : X → Y) (depth : Y → ℕ) (before : X → ℕ) (xs : List X) → All (λ x. depth (made x) ≡ before x) xs
    → map depth (map made xs) ≡ map before xs
all_same made depth before [] each = refl
all_same made depth before (x ∷ xs) each =
    λ i. All-head (λ x. depth (made x) ≡ before x) x xs each i ∷ all_same made depth before xs (All-tail (λ x. depth (made x) ≡ before x) x xs each) i

module _ (scopes : Scopes) where
  abbrev SameDepth : RawExpr → Type 0
  SameDepth e = expr_depth (named_expr scopes e) ≡ raw.expr_depth e

  abbrev SameTarget : RawTarget → Type 0
  SameTarget target = target_depth (named_target scopes target) ≡ raw.target_depth target

  abbrev depth_parts : NamedLayer → NamedExprKind-F ℕ ℕ ℕ ℕ
  depth_parts = named_parts ℕ kind_depth part_depth target_layer_depth scopes

  -- an expression whose kind becomes this
  same : (place : Place) (layer : RawLayer) (made : NamedLayer) →
      expr_depth (named_expr scopes (expr place layer)) ≡ kind_depth (depth_parts made) → kind_depth (depth_parts made) ≡ raw.kind_depth (raw_parts layer)
      → SameDepth (expr place layer)
  same place layer made is equal = is ∙ equal ∙ sym (raw_at place layer)

  step_same : (part : RawPart) (layer : RawPart-F RawExprKind RawPart RawExpr RawTarget) → out-RawPart part ≡ layer → OfIndex SameDepth layer
      → step_depth (named_step scopes part) ≡ raw_step part
  step_same part (RawPart-F.Field name) is of =
      field_made ℕ kind_depth part_depth target_layer_depth scopes part name is ∙ sym (raw_step_at part (RawPart-F.Field name) is)
  step_same part (RawPart-F.Index e) is of =
      index_made ℕ kind_depth part_depth target_layer_depth scopes part e is ∙ ap (λ n. 1 + n) of ∙ sym (raw_step_at part (RawPart-F.Index e) is)

  cases : Cases SameDepth SameTarget
  cases = record {
    number = λ place minus n. same place (RawExprKind-F.Number minus n) (NamedExprKind-F.Number minus n)
        (expr_made ℕ kind_depth part_depth target_layer_depth scopes place (RawExprKind-F.Number minus n) (NamedExprKind-F.Number minus n)
        (what.outs-Number minus n)) refl;
    truth = λ place b. same place (RawExprKind-F.Truth b) (NamedExprKind-F.Truth b)
        (expr_made ℕ kind_depth part_depth target_layer_depth scopes place (RawExprKind-F.Truth b) (NamedExprKind-F.Truth b) (what.outs-Truth b)) refl;
    read = λ place target is. same place (RawExprKind-F.Read target) (NamedExprKind-F.Read (named_target scopes target))
        (expr_made ℕ kind_depth part_depth target_layer_depth scopes place (RawExprKind-F.Read target) (NamedExprKind-F.Read (named_target scopes target))
        (what.outs-Read (named_target scopes target))) is;
    prev = λ place name. same place (RawExprKind-F.Prev name) (NamedExprKind-F.Prev (position scopes name))
        (expr_made ℕ kind_depth part_depth target_layer_depth scopes place (RawExprKind-F.Prev name) (NamedExprKind-F.Prev (position scopes name))
        (what.outs-Prev (position scopes name))) refl;
    one = λ place op a is. same place (RawExprKind-F.One op a) (NamedExprKind-F.One op (named_expr scopes a))
        (expr_made ℕ kind_depth part_depth target_layer_depth scopes place (RawExprKind-F.One op a) (NamedExprKind-F.One op (named_expr scopes a))
        (what.outs-One op (named_expr scopes a))) (ap (λ n. 1 + n) is);
    two = λ place op a b is_a is_b. same place (RawExprKind-F.Two op a b) (NamedExprKind-F.Two op (named_expr scopes a) (named_expr scopes b))
        (expr_made ℕ kind_depth part_depth target_layer_depth scopes place (RawExprKind-F.Two op a b)
        (NamedExprKind-F.Two op (named_expr scopes a) (named_expr scopes b)) (what.outs-Two op (named_expr scopes a) (named_expr scopes b)))
        (λ i. 1 + max (is_a i) (is_b i));
    cast = λ place s a is. same place (RawExprKind-F.Cast s a) (NamedExprKind-F.Cast s (named_expr scopes a))
        (expr_made ℕ kind_depth part_depth target_layer_depth scopes place (RawExprKind-F.Cast s a) (NamedExprKind-F.Cast s (named_expr scopes a))
        (what.outs-Cast s (named_expr scopes a))) (ap (λ n. 1 + n) is);
    call = λ place f inputs all. same place (RawExprKind-F.Call f inputs) (NamedExprKind-F.Call f.place (position scopes f) (map (named_expr scopes) inputs))
        (expr_made ℕ kind_depth part_depth target_layer_depth scopes place (RawExprKind-F.Call f inputs)
        (NamedExprKind-F.Call f.place (position scopes f) (map (named_expr scopes) inputs))
        (what.outs-Call f.place (position scopes f) (map (named_expr scopes) inputs)))
        (ap (λ depths. 1 + greatest depths) (all_same (named_expr scopes) expr_depth raw.expr_depth inputs all));
    target = λ place root steps each. target_made ℕ kind_depth part_depth target_layer_depth scopes place root steps
        ∙ ap greatest (all_same (named_step scopes) step_depth raw_step steps (λ k d within. step_same _ _ refl (each k d within)))
        ∙ sym (raw_target_at place root steps);
  }

  pub expr_same : (e : RawExpr) → expr_depth (named_expr scopes e) ≡ raw.expr_depth e
  expr_same = induct SameDepth SameTarget cases

  pub target_same : (target : RawTarget) → target_depth (named_target scopes target) ≡ raw.target_depth target
  target_same = induct_target SameDepth SameTarget cases

  pub optional_same : (value : Option RawExpr) → optional_depth (option_map (named_expr scopes) value) ≡ raw.optional_depth value
  optional_same (Some e) = expr_same e
  optional_same None = refl

  pub inputs_same : (inputs : List RawExpr) → greatest (map expr_depth (map (named_expr scopes) inputs)) ≡ greatest (map raw.expr_depth inputs)
  inputs_same inputs = ap greatest (all_same (named_expr scopes) expr_depth raw.expr_depth inputs (λ k d within. expr_same _))
