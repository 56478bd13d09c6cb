-- Calls that name functions among all units name functions among the first of them, where positions are of these.
use Rattle.std.proofs.Common.{◌≡◌, ℕ, Bool, true, ◌&&◌, nat_lt, List, [], ◌∷◌, map, refl, sym, ◌∙◌}
use Rattle.std.specs.Prelude.{All, slice_get}
use Rattle.std.proofs.lemmas.List.Elements.{All-head, All-tail}
use Rattle.std.proofs.lemmas.Bool.{and_from}
use Rattle.bl_tree.proofs.Basics.{and_first, and_second}
use Rattle.bl_tree.specs.declared.place.Place.{Place}
use Rattle.bl_tree.specs.declared.tree.Unit.{Unit as UnitDef}
use Rattle.bl_tree.specs.Reduce.{all_of}
use Rattle.bl_tree.specs.Typing.{is_function}
use Rattle.bl_names_tree.specs.declared.expr.NamedExpr.{NamedExpr, fold-roll-NamedExpr}
use Rattle.bl_names_tree.specs.declared.expr.NamedExprKind.{NamedExprKind, fold-NamedExprKind, fold-roll-NamedExprKind, map-NamedExprKind}
use Rattle.bl_names_tree.specs.declared.expr.NamedExprKind.{out-roll-NamedExprKind, roll-NamedExprKind}
use Rattle.bl_names_tree.specs.declared.expr.NamedExprKind.TheOpen.{NamedExprKind-F, NamedPart-F}
use Rattle.bl_names_tree.specs.declared.expr.NamedPart.{NamedPart, fold_out-NamedPart, map-NamedPart, out-NamedPart}
use Rattle.bl_names_tree.specs.declared.expr.NamedTarget.{NamedTarget, fold-roll-NamedTarget, roll-NamedTarget}
use Rattle.bl_names_tree.specs.declared.expr.Root.{Root}
use Rattle.bl_names_tree.specs.Placed.{DeclaredBefore, expr_layer_placed, expr_placed, holds_of, kind_placed, part_placed, root_placed, target_layer_placed, target_placed}
use Rattle.bl_names_tree.specs.inner.Placed.{step_placed}
use Rattle.bl_types_laws.specs.Within.{calls_functions, target_calls}
use Rattle.bl_types_laws.proofs.NamedExprInduction.{Cases, EachIndex, OfIndex, expr, induct}
use Rattle.bl_types_laws.proofs.ExprCalls.{Layer, PartLayer, calls_at, calls_by, calls_part, calls_step, step_at}

-- ---- what stands in an expression

module _ (earlier : DeclaredBefore) where
  abbrev placed_kind : NamedExprKind → Bool
  placed_kind = fold-NamedExprKind Bool Bool Bool Bool (kind_placed earlier) part_placed expr_layer_placed (target_layer_placed earlier)

  abbrev placed_by : Layer → Bool
  placed_by layer = kind_placed earlier (map-NamedExprKind NamedExprKind NamedPart NamedExpr NamedTarget Bool Bool Bool Bool placed_kind (step_placed earlier)
      (expr_placed earlier) (target_placed earlier) layer)

  placed_is : (place : Place) (layer : Layer) → expr_placed earlier (expr place layer) ≡ placed_by layer
  placed_is place layer = rw (fold-roll-NamedExpr, fold-roll-NamedExprKind) refl

  abbrev placed_part : PartLayer → Bool
  placed_part layer = part_placed (map-NamedPart NamedExprKind NamedPart NamedExpr NamedTarget Bool Bool Bool Bool placed_kind (step_placed earlier)
      (expr_placed earlier) (target_placed earlier) layer)

  placed_part_is : (part : NamedPart) → step_placed earlier part ≡ placed_part (out-NamedPart part)
  placed_part_is part = fold_out-NamedPart Bool Bool Bool Bool (kind_placed earlier) part_placed expr_layer_placed (target_layer_placed earlier) part

  placed_target_is : (place : Place) (root : Root) (parts : List NamedPart) →
      target_placed earlier (roll-NamedTarget (record { place = place; root = root; parts = parts }))
      ≡ (root_placed earlier root && all_of (map (step_placed earlier) parts))
  placed_target_is place root parts = rw fold-roll-NamedTarget refl

calls_is : (units : List UnitDef) (place : Place) (layer : Layer) → calls_functions units (expr place layer) ≡ calls_by units layer
calls_is units place layer = calls_at units place (roll-NamedExprKind layer) layer (out-roll-NamedExprKind layer)

calls_target_is : (units : List UnitDef) (place : Place) (root : Root) (parts : List NamedPart) →
    target_calls units (roll-NamedTarget (record { place = place; root = root; parts = parts })) ≡ all_of (map (calls_step units) parts)
calls_target_is units place root parts = rw fold-roll-NamedTarget refl

-- ---- all of them

all_narrow : {X : Type 0} (a b c : X → Bool) (xs : List X) → All (λ x. a x ≡ true → b x ≡ true → c x ≡ true) xs →
    all_of (map a xs) ≡ true →
    all_of (map b xs) ≡ true → all_of (map c xs) ≡ true
all_narrow a b c [] each one two = refl
all_narrow a b c (x ∷ xs) each one two =
    and_from (c x) (all_of (map c xs))
    (All-head (λ x. a x ≡ true → b x ≡ true → c x ≡ true) x xs each (and_first (a x) (all_of (map a xs)) one)
    (and_first (b x) (all_of (map b xs)) two))
    (all_narrow a b c xs (All-tail (λ x. a x ≡ true → b x ≡ true → c x ≡ true) x xs each) (and_second (a x) (all_of (map a xs)) one)
    (and_second (b x) (all_of (map b xs)) two))

-- a position of these units that is one of a function among all is one among these
abbrev pub Narrows : List UnitDef → List UnitDef → ℕ → Type 0
Narrows whole first n = (f : ℕ) → nat_lt f n ≡ true → holds_of (λ unit. is_function unit.kind) (slice_get whole f) ≡ true →
    holds_of (λ unit. is_function unit.kind) (slice_get first f) ≡ true

module _ (whole first : List UnitDef) (counts : DeclaredBefore) (narrows : Narrows whole first counts.units) where
  abbrev P : NamedExpr → Type 0
  P e = expr_placed counts e ≡ true → calls_functions whole e ≡ true → calls_functions first e ≡ true

  abbrev Q : NamedTarget → Type 0
  Q target = target_placed counts target ≡ true → target_calls whole target ≡ true → target_calls first target ≡ true

  by_kind : (place : Place) (layer : Layer) → (placed_by counts layer ≡ true → calls_by whole layer ≡ true →
      calls_by first layer ≡ true) → P (expr place layer)
  by_kind place layer so placed calls = calls_is first place layer
      ∙ so (sym (placed_is counts place layer) ∙ placed) (sym (calls_is whole place layer) ∙ calls)

  by_part : (layer : PartLayer) → OfIndex P layer → placed_part counts layer ≡ true → calls_part whole layer ≡ true →
      calls_part first layer ≡ true
  by_part (NamedPart-F.Field name) index placed calls = refl
  by_part (NamedPart-F.Index e) index placed calls = index placed calls

  part_narrows : (part : NamedPart) → OfIndex P (out-NamedPart part) → step_placed counts part ≡ true → calls_step whole part ≡ true →
      calls_step first part ≡ true
  part_narrows part index placed calls =
      step_at first part (out-NamedPart part) refl ∙ by_part (out-NamedPart part) index (sym (placed_part_is counts part) ∙ placed)
      (sym (step_at whole part (out-NamedPart part) refl) ∙ calls)

  target_case : (place : Place) (root : Root) (parts : List NamedPart) → EachIndex P parts →
      Q (roll-NamedTarget (record { place = place; root = root; parts = parts }))
  target_case place root parts each placed calls =
      calls_target_is first place root parts
      ∙ all_narrow (step_placed counts) (calls_step whole) (calls_step first) parts (λ k d within. part_narrows _ (each k d within))
      (and_second (root_placed counts root) (all_of (map (step_placed counts) parts)) (sym (placed_target_is counts place root parts) ∙ placed))
      (sym (calls_target_is whole place root parts) ∙ calls)

  cases : Cases P Q
  cases = record {
    number = λ place minus n. by_kind place (NamedExprKind-F.Number minus n) (λ placed calls. refl);
    truth = λ place b. by_kind place (NamedExprKind-F.Truth b) (λ placed calls. refl);
    read = λ place target so. by_kind place (NamedExprKind-F.Read target) so;
    prev = λ place k. by_kind place (NamedExprKind-F.Prev k) (λ placed calls. refl);
    one = λ place op a so. by_kind place (NamedExprKind-F.One op a) so;
    two = λ place op a b is_a is_b. by_kind place (NamedExprKind-F.Two op a b)
        (λ placed calls. and_from (calls_functions first a) (calls_functions first b)
        (is_a (and_first (expr_placed counts a) (expr_placed counts b) placed) (and_first (calls_functions whole a) (calls_functions whole b) calls))
        (is_b (and_second (expr_placed counts a) (expr_placed counts b) placed) (and_second (calls_functions whole a) (calls_functions whole b) calls)));
    cast = λ place s a so. by_kind place (NamedExprKind-F.Cast s a) so;
    call = λ place name f inputs each. by_kind place (NamedExprKind-F.Call name f inputs)
        (λ placed calls.
        let is_there = holds_of (λ (unit : UnitDef). is_function unit.kind) (slice_get whole f) in
        and_from (holds_of (λ (unit : UnitDef). is_function unit.kind) (slice_get first f)) (all_of (map (calls_functions first) inputs))
        (narrows f (and_first (nat_lt f counts.units) (all_of (map (expr_placed counts) inputs)) placed)
        (and_first is_there (all_of (map (calls_functions whole) inputs)) calls))
        (all_narrow (expr_placed counts) (calls_functions whole) (calls_functions first) inputs each
        (and_second (nat_lt f counts.units) (all_of (map (expr_placed counts) inputs)) placed)
        (and_second is_there (all_of (map (calls_functions whole) inputs)) calls)));
    target = target_case;
  }

  pub calls_narrow : (e : NamedExpr) → expr_placed counts e ≡ true → calls_functions whole e ≡ true → calls_functions first e ≡ true
  calls_narrow = induct P Q cases
