-- What is in place stays so where more is declared before it.
use Rattle.std.proofs.Common.{◌≡◌, ℕ, ◌≤◌, ◌+◌, List, [], ◌∷◌, ◌++◌, map, length, nat_lt, refl, ap, sym, ◌∙◌, arith}
use Rattle.std.specs.Prelude.{All, Bool, true, ◌&&◌}
use Rattle.std.proofs.lemmas.Bool.{lt-ltb, ltb-true}
use Rattle.std.proofs.lemmas.List.{length-append}
use Rattle.std.proofs.lemmas.List.Elements.{All-head, All-tail}
use Rattle.std.proofs.lemmas.Bool.{and_from}
use Rattle.bl_tree.proofs.Basics.{and_first, and_second}
use Rattle.bl_tree.specs.declared.place.Place.{Place}
use Rattle.bl_tree.specs.Reduce.{all_of}
use Rattle.bl_names_tree.specs.declared.expr.NamedExpr.{NamedExpr, fold-roll-NamedExpr}
use Rattle.bl_names_tree.specs.declared.expr.NamedExprKind.{NamedExprKind, fold-NamedExprKind, fold-roll-NamedExprKind, map-NamedExprKind}
use Rattle.bl_names_tree.specs.declared.expr.NamedExprKind.TheOpen.{NamedExprKind-F, NamedPart-F}
use Rattle.bl_names_tree.specs.declared.expr.NamedPart.{NamedPart, fold_out-NamedPart, map-NamedPart, out-NamedPart}
use Rattle.bl_names_tree.specs.declared.expr.NamedTarget.{NamedTarget, fold-roll-NamedTarget, roll-NamedTarget}
use Rattle.bl_names_tree.specs.declared.expr.Root.{Root}
use Rattle.bl_names_tree.specs.declared.expr.Root.TheVariants as root
use Rattle.bl_names_tree.specs.Placed.{DeclaredBefore, expr_layer_placed, expr_placed, kind_placed, part_placed, root_placed, target_layer_placed, target_placed}
use Rattle.bl_names_tree.specs.inner.Placed.{step_placed}
use Rattle.bl_types.specs.declared.environment.Environment.{Environment}
use Rattle.bl_types_laws.specs.Standing.{Grown}
use Rattle.bl_types_laws.specs.Within.{known_in}
use Rattle.bl_types_laws.proofs.NamedExprInduction.{Cases, EachIndex, OfIndex, expr, induct}

pub more_below : (k n m : ℕ) → n ≤ m → nat_lt k n ≡ true → nat_lt k m ≡ true
more_below k n m less is = lt-ltb k m (let below = ltb-true k n is in omega arith)

abbrev Layer : Type 0
Layer = NamedExprKind-F NamedExprKind NamedPart NamedExpr NamedTarget

abbrev placed_by : DeclaredBefore → Layer → Bool
placed_by earlier layer = kind_placed earlier
    (map-NamedExprKind NamedExprKind NamedPart NamedExpr NamedTarget Bool Bool Bool Bool
    (fold-NamedExprKind Bool Bool Bool Bool (kind_placed earlier) part_placed expr_layer_placed (target_layer_placed earlier)) (step_placed earlier)
    (expr_placed earlier) (target_placed earlier) layer)

placed_is : (earlier : DeclaredBefore) (place : Place) (layer : Layer) → expr_placed earlier (expr place layer) ≡ placed_by earlier layer
placed_is earlier place layer = rw (fold-roll-NamedExpr, fold-roll-NamedExprKind) refl

abbrev placed_part : DeclaredBefore → NamedPart-F NamedExprKind NamedPart NamedExpr NamedTarget → Bool
placed_part earlier layer = part_placed
    (map-NamedPart NamedExprKind NamedPart NamedExpr NamedTarget Bool Bool Bool Bool
    (fold-NamedExprKind Bool Bool Bool Bool (kind_placed earlier) part_placed expr_layer_placed (target_layer_placed earlier)) (step_placed earlier)
    (expr_placed earlier) (target_placed earlier) layer)

placed_part_is : (earlier : DeclaredBefore) (part : NamedPart) → step_placed earlier part ≡ placed_part earlier (out-NamedPart part)
placed_part_is earlier part = fold_out-NamedPart Bool Bool Bool Bool (kind_placed earlier) part_placed expr_layer_placed (target_layer_placed earlier) part

target_is : (earlier : DeclaredBefore) (place : Place) (root : Root) (parts : List NamedPart) →
    target_placed earlier (roll-NamedTarget (record { place = place; root = root; parts = parts }))
    ≡ (root_placed earlier root && all_of (map (step_placed earlier) parts))
target_is earlier place root parts = rw fold-roll-NamedTarget refl

all_more : {X : Type 0} (a b : X → Bool) (xs : List X) → All (λ x. a x ≡ true → b x ≡ true) xs → all_of (map a xs) ≡ true →
    all_of (map b xs) ≡ true
all_more a b [] each all = refl
all_more a b (x ∷ xs) each all =
    and_from (b x) (all_of (map b xs)) (All-head (λ x. a x ≡ true → b x ≡ true) x xs each (and_first (a x) (all_of (map a xs)) all))
    (all_more a b xs (All-tail (λ x. a x ≡ true → b x ≡ true) x xs each) (and_second (a x) (all_of (map a xs)) all))

module _ (before after : DeclaredBefore) (constants : before.constants ≤ after.constants) (units : before.units ≤ after.units)
    (variables : before.variables ≤ after.variables) where
  abbrev P : NamedExpr → Type 0
  P e = expr_placed before e ≡ true → expr_placed after e ≡ true

  abbrev Q : NamedTarget → Type 0
  Q target = target_placed before target ≡ true → target_placed after target ≡ true

  by_kind : (place : Place) (layer : Layer) → (placed_by before layer ≡ true → placed_by after layer ≡ true) → P (expr place layer)
  by_kind place layer more is = placed_is after place layer ∙ more (sym (placed_is before place layer) ∙ is)

  root_more : (root : Root) → root_placed before root ≡ true → root_placed after root ≡ true
  root_more (root.Variable k) is = more_below k before.variables after.variables variables is
  root_more (root.Constant k) is = more_below k before.constants after.constants constants is

  layer_more : (layer : NamedPart-F NamedExprKind NamedPart NamedExpr NamedTarget) → OfIndex P layer → placed_part before layer ≡ true →
      placed_part after layer ≡ true
  layer_more (NamedPart-F.Field name) index is = refl
  layer_more (NamedPart-F.Index e) index is = index is

  parts_more : (parts : List NamedPart) → EachIndex P parts → all_of (map (step_placed before) parts) ≡ true →
      all_of (map (step_placed after) parts) ≡ true
  parts_more [] each all = refl
  parts_more (part ∷ rest) each all =
      and_from (step_placed after part) (all_of (map (step_placed after) rest))
      (placed_part_is after part ∙ layer_more (out-NamedPart part) (All-head (λ part. OfIndex P (out-NamedPart part)) part rest each)
      (sym (placed_part_is before part) ∙ and_first (step_placed before part) (all_of (map (step_placed before) rest)) all))
      (parts_more rest (All-tail (λ part. OfIndex P (out-NamedPart part)) part rest each)
      (and_second (step_placed before part) (all_of (map (step_placed before) rest)) all))

  more_cases : Cases P Q
  more_cases = record {
    number = λ place minus n. by_kind place (NamedExprKind-F.Number minus n) (λ is. refl);
    truth = λ place b. by_kind place (NamedExprKind-F.Truth b) (λ is. refl);
    read = λ place target more. by_kind place (NamedExprKind-F.Read target) more;
    prev = λ place k. by_kind place (NamedExprKind-F.Prev k) (more_below k before.variables after.variables variables);
    one = λ place op a more. by_kind place (NamedExprKind-F.One op a) more;
    two = λ place op a b more other. by_kind place (NamedExprKind-F.Two op a b)
        (λ is. and_from (expr_placed after a) (expr_placed after b) (more (and_first (expr_placed before a) (expr_placed before b) is))
        (other (and_second (expr_placed before a) (expr_placed before b) is)));
    cast = λ place target a more. by_kind place (NamedExprKind-F.Cast target a) more;
    call = λ place name f inputs each. by_kind place (NamedExprKind-F.Call name f inputs)
        (λ is. and_from (nat_lt f after.units) (all_of (map (expr_placed after) inputs))
        (more_below f before.units after.units units (and_first (nat_lt f before.units) (all_of (map (expr_placed before) inputs)) is))
        (all_more (expr_placed before) (expr_placed after) inputs each (and_second (nat_lt f before.units) (all_of (map (expr_placed before) inputs)) is)));
    target = λ place root parts each is.
        let placed = sym (target_is before place root parts) ∙ is in
        target_is after place root parts
        ∙ and_from (root_placed after root) (all_of (map (step_placed after) parts))
        (root_more root (and_first (root_placed before root) (all_of (map (step_placed before) parts)) placed))
        (parts_more parts each (and_second (root_placed before root) (all_of (map (step_placed before) parts)) placed));
  }

  more_placed : (e : NamedExpr) → expr_placed before e ≡ true → expr_placed after e ≡ true
  more_placed = induct P Q more_cases

longer : {A : Type 0} (xs ys more : List A) → ys ≡ xs ++ more → length xs ≤ length ys
longer xs ys more is = let total : length ys ≡ length xs + length more = ap length is ∙ length-append xs more in omega arith

-- an expression that is in place is so after more variables and constants
pub placed_still : (before after : Environment) → Grown before after → (e : NamedExpr) → expr_placed (known_in before) e ≡ true →
    expr_placed (known_in after) e ≡ true
placed_still before after grown =
    more_placed (known_in before) (known_in after) (longer before.constants after.constants grown.constants grown.has_constants) same_units
    (longer before.vars after.vars grown.vars grown.has_vars)
  where
    same_units : length before.units ≤ length after.units
    same_units = let same : length after.units ≡ length before.units = ap length grown.units in omega arith
