-- Expressions and targets of one text in environments that agree.
use Rattle.std.proofs.Common.{◌≡◌, ⊎_elim, ℕ, List, [], map, refl, ap, subst, sym, ◌∙◌, arith}
use Rattle.std.specs.Prelude.{All, Option, None, option_map, slice_get}
use Rattle.std.proofs.lemmas.Option.{slice_get_past}
use Rattle.bl_tree.specs.declared.place.Place.{Place}
use Rattle.bl_tree.specs.declared.scalar.Scalar.TheVariants.{Bool as OfBool}
use Rattle.bl_tree.specs.declared.tree.Ty.{Ty}
use Rattle.bl_tree.specs.Numbers.{number_of}
use Rattle.bl_tree.specs.Types.{scalar}
use Rattle.bl_tree_laws_places.proofs.Lists.{map-twice}
use Rattle.bl_names_tree.specs.declared.expr.NamedExpr.{NamedExpr, fold-roll-NamedExpr}
use Rattle.bl_names_tree.specs.declared.expr.NamedExprKind.{NamedExprKind, fold-NamedExprKind, fold-roll-NamedExprKind, map-NamedExprKind}
use Rattle.bl_names_tree.specs.declared.expr.NamedExprKind.TheOpen.{NamedExprKind-F, NamedPart-F}
use Rattle.bl_names_tree.specs.declared.expr.NamedPart.{NamedPart, fold-roll-NamedPart, fold_out-NamedPart, map-NamedPart, out-NamedPart, roll-NamedPart}
use Rattle.bl_names_tree.specs.declared.expr.NamedTarget.{NamedTarget, fold-roll-NamedTarget, roll-NamedTarget}
use Rattle.bl_names_tree.specs.declared.expr.Root.{Root}
use Rattle.bl_names_laws_places.specs.Renamed.{Renaming, renamed_expr, renamed_root, renamed_target}
use Rattle.bl_names_laws_places.proofs.Positions.{map-made}
use Rattle.bl_types.specs.declared.environment.Environment.{Environment}
use Rattle.bl_types.specs.declared.form.Form.TheVariants as form
use Rattle.bl_types.specs.Expressions.{Formed, Judged, Stepped, Targeted, fitted, judged, judged_kind, judged_layer, judged_part, judged_target, params_of}
use Rattle.bl_types.specs.Expressions.{previous_formed, reading, step_of, targeted, targeted_from, written_number}
use Rattle.bl_types.specs.Settled.{int32}
use Rattle.bl_types_laws.proofs.NamedExprInduction.{Cases, EachIndex, OfIndex, expr, induct, induct_target}
use Rattle.bl_types_laws_places.specs.Agree.{EnvironmentsAgree, placed_failures, placed_variable}
use Rattle.bl_types_laws_places.specs.Judgements.{placed_formed, placed_judged, placed_settled, placed_targeted}
use Rattle.bl_types_laws_places.proofs.Calls.{call_agrees, fitted_placed, fitted_same, previous_formed_placed}
use Rattle.bl_types_laws_places.proofs.Environments.{callee_same, variable_same}
use Rattle.bl_types_laws_places.proofs.Forms.{cast_judged, formed_of, one_judged, two_judged}
use Rattle.bl_types_laws_places.proofs.Renames.{Layer, PartLayer, expr_is, renamed_layer, renamed_step, step_is, stepping, target_is}
use Rattle.bl_types_laws_places.proofs.Steps.{index_step, placed_stepped, reading_placed, targeted_agrees, to_field_agrees}
use Rattle.bl_types_laws_places.proofs.Trees.{literal_placed}

-- ---- judgements, layer by layer

module _ (env : Environment) where
  -- what a layer of an expression comes to at a place
  abbrev formed_by : Layer → Place → Formed
  formed_by layer = judged_kind env
      (map-NamedExprKind NamedExprKind NamedPart NamedExpr NamedTarget (Place → Formed) (Option Ty → Stepped) Judged Targeted
      (fold-NamedExprKind (Place → Formed) (Option Ty → Stepped) Judged Targeted (judged_kind env) (judged_part env) judged_layer (judged_target env))
      (step_of env) (judged env) (targeted env) layer)

  judged_is : (place : Place) (layer : Layer) → judged env (expr place layer) ≡ judged_layer (record { place = place; what = formed_by layer })
  judged_is place layer = rw (fold-roll-NamedExpr, fold-roll-NamedExprKind) refl

  -- where a layer of a part leads
  abbrev stepped_by : PartLayer → Option Ty → Stepped
  stepped_by layer = judged_part env
      (map-NamedPart NamedExprKind NamedPart NamedExpr NamedTarget (Place → Formed) (Option Ty → Stepped) Judged Targeted
      (fold-NamedExprKind (Place → Formed) (Option Ty → Stepped) Judged Targeted (judged_kind env) (judged_part env) judged_layer (judged_target env))
      (step_of env) (judged env) (targeted env) layer)

  stepped_is : (part : NamedPart) → step_of env part ≡ stepped_by (out-NamedPart part)
  stepped_is part = fold_out-NamedPart (Place → Formed) (Option Ty → Stepped) Judged Targeted (judged_kind env) (judged_part env) judged_layer
      (judged_target env) part

  rolled_is : (layer : PartLayer) → step_of env (roll-NamedPart layer) ≡ stepped_by layer
  rolled_is layer = fold-roll-NamedPart (Place → Formed) (Option Ty → Stepped) Judged Targeted (judged_kind env) (judged_part env) judged_layer
      (judged_target env) layer

  targeted_is : (place : Place) (root : Root) (parts : List NamedPart) →
      targeted env (roll-NamedTarget (record { place = place; root = root; parts = parts })) ≡ targeted_from env place root (map (step_of env) parts)
  targeted_is place root parts = rw fold-roll-NamedTarget refl

module _ (by : Renaming) (near far : Environment) (agree : EnvironmentsAgree by near far) where
  abbrev P : NamedExpr → Type 0
  P e = judged far (renamed_expr by e) ≡ placed_judged by.place (judged near e)

  abbrev Q : NamedTarget → Type 0
  Q target = targeted far (renamed_target by target) ≡ placed_targeted by.place (targeted near target)

  -- an expression agrees where its layer does
  by_layer : (place : Place) (layer : Layer) →
      formed_by far (renamed_layer by layer) (by.place place) ≡ placed_formed by.place (formed_by near layer place) → P (expr place layer)
  by_layer place layer h =
      ap (judged far) (expr_is by place layer)
      ∙ judged_is far (by.place place) (renamed_layer by layer)
      ∙ ap (λ (formed : Formed). record { place = by.place place; form = formed.form; failures = formed.failures }) h
      ∙ ap (placed_judged by.place) (sym (judged_is near place layer))

  read_agrees : (place : Place) (target : NamedTarget) → Q target → P (expr place (NamedExprKind-F.Read target))
  read_agrees place target h =
      by_layer place (NamedExprKind-F.Read target)
      (ap (λ (leads : Targeted). formed_of (reading (by.place place) leads.found) leads.failures) h
      ∙ ap (λ form. formed_of form (placed_failures by.place (targeted near target).failures))
      (reading_placed by.place place (targeted near target).found))

  prev_formed : (place : Place) (k : ℕ) →
      previous_formed far.kind (by.place place) k (slice_get far.vars k)
      ≡ placed_formed by.place (previous_formed near.kind place k (slice_get near.vars k))
  prev_formed place k =
      ap (previous_formed far.kind (by.place place) k) (variable_same by near far agree k) ∙ ⊎_elim without_vars of_kind agree.kind
    where
      without_vars : near.vars ≡ [] →
          previous_formed far.kind (by.place place) k (option_map (placed_variable by.place) (slice_get near.vars k))
          ≡ placed_formed by.place (previous_formed near.kind place k (slice_get near.vars k))
      without_vars none =
          let absent : None ≡ slice_get near.vars k = sym (ap (λ vars. slice_get vars k) none ∙ slice_get_past [] k (omega arith)) in
          subst
          (λ var. previous_formed far.kind (by.place place) k (option_map (placed_variable by.place) var)
          ≡ placed_formed by.place (previous_formed near.kind place k var))
          absent refl

      of_kind : far.kind ≡ near.kind →
          previous_formed far.kind (by.place place) k (option_map (placed_variable by.place) (slice_get near.vars k))
          ≡ placed_formed by.place (previous_formed near.kind place k (slice_get near.vars k))
      of_kind same =
          ap (λ kind. previous_formed kind (by.place place) k (option_map (placed_variable by.place) (slice_get near.vars k))) same
          ∙ previous_formed_placed by.place near.kind place k (slice_get near.vars k)

  -- arguments of the unit at a position, where each by itself agrees
  inputs_from : (callee : ℕ) (inputs : List NamedExpr) → All P inputs →
      fitted (map (judged far) (map (renamed_expr by) inputs)) (params_of (slice_get far.units callee))
      ≡ map (placed_settled by.place) (fitted (map (judged near) inputs) (params_of (slice_get near.units callee)))
  inputs_from callee inputs each =
      ap (λ arguments. fitted arguments (params_of (slice_get far.units callee)))
      (map-made (judged far) (renamed_expr by) (placed_judged by.place) (judged near) inputs each)
      ∙ fitted_same (slice_get near.units callee) (slice_get far.units callee) (callee_same near.units far.units agree.units callee)
      (map (placed_judged by.place) (map (judged near) inputs))
      ∙ fitted_placed by.place (map (judged near) inputs) (params_of (slice_get near.units callee))

  call_case : (place name : Place) (callee : ℕ) (inputs : List NamedExpr) → All P inputs → P (expr place (NamedExprKind-F.Call name callee inputs))
  call_case place name callee inputs each =
      by_layer place (NamedExprKind-F.Call name callee inputs)
      (call_agrees by.place place name callee (fitted (map (judged near) inputs) (params_of (slice_get near.units callee)))
      (fitted (map (judged far) (map (renamed_expr by) inputs)) (params_of (slice_get far.units callee))) (slice_get near.units callee)
      (slice_get far.units callee) (callee_same near.units far.units agree.units callee) (inputs_from callee inputs each))

  -- ---- targets

  step_by_layer : (layer : PartLayer) → OfIndex P layer → (ty : Option Ty) →
      stepped_by far (renamed_step by layer) ty ≡ placed_stepped by.place (stepped_by near layer ty)
  step_by_layer (NamedPart-F.Field name) of ty = to_field_agrees by near far agree name ty
  step_by_layer (NamedPart-F.Index e) of ty = index_step by.place (judged near e) (judged far (renamed_expr by e)) of ty

  step_agrees : (part : NamedPart) → OfIndex P (out-NamedPart part) → (ty : Option Ty) →
      step_of far (stepping by part) ty ≡ placed_stepped by.place (step_of near part ty)
  step_agrees part of ty =
      ap (λ part. step_of far part ty) (step_is by part)
      ∙ ap (λ (step : Option Ty → Stepped). step ty) (rolled_is far (renamed_step by (out-NamedPart part)))
      ∙ step_by_layer (out-NamedPart part) of ty
      ∙ ap (λ (step : Option Ty → Stepped). placed_stepped by.place (step ty)) (sym (stepped_is near part))

  target_case : (place : Place) (root : Root) (parts : List NamedPart) → EachIndex P parts →
      Q (roll-NamedTarget (record { place = place; root = root; parts = parts }))
  target_case place root parts each =
      ap (targeted far) (target_is by place root parts)
      ∙ targeted_is far (by.place place) (renamed_root by root) (map (stepping by) parts)
      ∙ ap (targeted_from far (by.place place) (renamed_root by root)) (map-twice (step_of far) (stepping by) parts)
      ∙ targeted_agrees by near far agree (step_of near) (λ part. step_of far (stepping by part)) parts
      (λ k d less. step_agrees _ (each k d less)) place root
      ∙ ap (placed_targeted by.place) (sym (targeted_is near place root parts))

  -- ---- all expressions

  cases : Cases P Q
  cases = record {
    number = λ place minus n.
        by_layer place (NamedExprKind-F.Number minus n)
        (ap (λ e. formed_of (form.Open e) []) (sym (literal_placed by.place place (written_number minus n) int32)));
    truth = λ place b.
        by_layer place (NamedExprKind-F.Truth b)
        (ap (λ e. formed_of (form.Of (scalar OfBool) e) []) (sym (literal_placed by.place place (number_of b) OfBool)));
    read = read_agrees;
    prev = λ place k. by_layer place (NamedExprKind-F.Prev k) (prev_formed place k);
    one = λ place op a h.
        by_layer place (NamedExprKind-F.One op a) (one_judged by.place place op (judged near a) (judged far (renamed_expr by a)) h);
    two = λ place op a b h k.
        by_layer place (NamedExprKind-F.Two op a b)
        (two_judged by.place place op (judged near a) (judged near b) (judged far (renamed_expr by a)) (judged far (renamed_expr by b)) h k);
    cast = λ place s a h.
        by_layer place (NamedExprKind-F.Cast s a) (cast_judged by.place place s (judged near a) (judged far (renamed_expr by a)) h);
    call = call_case;
    target = target_case;
  }

  pub judged_agrees : (e : NamedExpr) → judged far (renamed_expr by e) ≡ placed_judged by.place (judged near e)
  judged_agrees = induct P Q cases

  pub target_agrees : (target : NamedTarget) → targeted far (renamed_target by target) ≡ placed_targeted by.place (targeted near target)
  target_agrees = induct_target P Q cases

  pub inputs_agree : (callee : ℕ) (inputs : List NamedExpr) →
      fitted (map (judged far) (map (renamed_expr by) inputs)) (params_of (slice_get far.units callee))
      ≡ map (placed_settled by.place) (fitted (map (judged near) inputs) (params_of (slice_get near.units callee)))
  inputs_agree callee inputs = inputs_from callee inputs (λ k d less. judged_agrees _)
