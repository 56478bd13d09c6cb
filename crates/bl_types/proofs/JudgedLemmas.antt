-- Expressions, arguments and targets by their parts.
use Rattle.std.proofs.Common.{◌≡◌, ◌+◌, suc, ◌<◌, List, [], ◌∷◌, ◌++◌, length, Option, refl, sym, ap, ◌∙◌, append_assoc}
use Rattle.bl_tree.specs.declared.place.Place.{Place}
use Rattle.bl_tree.specs.declared.scalar.Op.{Op}
use Rattle.bl_tree.specs.declared.scalar.Scalar.{Scalar as ScalarType}
use Rattle.bl_tree.specs.declared.tree.Ty.{Ty}
use Rattle.bl_tree.specs.declared.tree.Var.{Var}
use Rattle.bl_names_tree.specs.declared.expr.NamedExpr.{NamedExpr, fold_out-NamedExpr, out-NamedExpr}
use Rattle.bl_names_tree.specs.declared.expr.NamedExprKind.{NamedExprKind, fold-NamedExprKind, fold_out-NamedExprKind, map-NamedExprKind, out-NamedExprKind}
use Rattle.bl_names_tree.specs.declared.expr.NamedExprKind.TheOpen.{NamedExprKind-F, NamedPart-F}
use Rattle.bl_names_tree.specs.declared.expr.NamedExprKind.TheVariants.{One, Two, Cast, outs-One, outs-Two, outs-Cast}
use Rattle.bl_names_tree.specs.declared.expr.NamedPart.{NamedPart, fold_out-NamedPart, map-NamedPart, out-NamedPart}
use Rattle.bl_names_tree.specs.declared.expr.NamedPart.TheVariants.{Index, outs-Index}
use Rattle.bl_names_tree.specs.declared.expr.NamedTarget.{NamedTarget}
use Rattle.bl_types.specs.declared.environment.Environment.{Environment}
use Rattle.bl_types.specs.declared.form.Form.{Form}
use Rattle.bl_types.specs.Expressions.{Formed, Judged, Stepped, Targeted, but_first, cast_formed, fitted, fitting, in_context, judged, judged_kind}
use Rattle.bl_types.specs.Expressions.{judged_layer, judged_part, judged_target, one_formed, step_of, targeted, to_element, two_formed}

-- one settled argument for each
pub fitted-length : (arguments : List Judged) (params : List Var) → length (fitted arguments params) ≡ length arguments
fitted-length [] params = refl
fitted-length (argument ∷ rest) params = ap (λ n. suc n) (fitted-length rest (but_first params))

module _ (env : Environment) where
  abbrev formed_of : NamedExprKind → Place → Formed
  formed_of = fold-NamedExprKind (Place → Formed) (Option Ty → Stepped) Judged Targeted (judged_kind env) (judged_part env) judged_layer (judged_target env)

  abbrev parts : NamedExprKind-F NamedExprKind NamedPart NamedExpr NamedTarget → NamedExprKind-F (Place → Formed) (Option Ty → Stepped) Judged Targeted
  parts = map-NamedExprKind NamedExprKind NamedPart NamedExpr NamedTarget (Place → Formed)
      (Option Ty → Stepped) Judged Targeted formed_of (step_of env) (judged env) (targeted env)

  abbrev as_judged : Place → Formed → Judged
  as_judged at formed = record { place = at; form = formed.form; failures = formed.failures }

  judged_at : (e : NamedExpr) (layer : NamedExprKind-F NamedExprKind NamedPart NamedExpr NamedTarget) → out-NamedExprKind (out-NamedExpr e).what ≡ layer
      → judged env e ≡ as_judged (out-NamedExpr e).place (judged_kind env (parts layer) (out-NamedExpr e).place)
  judged_at e layer is =
      fold_out-NamedExpr (Place → Formed) (Option Ty → Stepped) Judged Targeted (judged_kind env) (judged_part env) judged_layer (judged_target env) e
      ∙ ap (λ f. as_judged (out-NamedExpr e).place (f (out-NamedExpr e).place))
      (fold_out-NamedExprKind (Place → Formed) (Option Ty → Stepped) Judged Targeted (judged_kind env)
      (judged_part env) judged_layer (judged_target env) (out-NamedExpr e).what)
      ∙ ap (λ layer. as_judged (out-NamedExpr e).place (judged_kind env (parts layer) (out-NamedExpr e).place)) is

  -- an expression stands where its tree does
  pub place_is : (e : NamedExpr) → (judged env e).place ≡ (out-NamedExpr e).place
  place_is e = ap (λ j. j.place) (fold_out-NamedExpr (Place → Formed) (Option Ty → Stepped) Judged Targeted (judged_kind env)
      (judged_part env) judged_layer (judged_target env) e)

  -- what fails in a form with one operand
  pub one_judged : (e : NamedExpr) (op : Op) (a given : NamedExpr) (form : Form) → (out-NamedExpr e).what ≡ One op a → given ≡ a →
      form ≡ (judged env given).form
      → (judged env e).failures ≡ (judged env given).failures ++ (one_formed (out-NamedExpr e).place op form).failures
  one_judged e op a given form is same is_form =
      ap (λ j. j.failures) (judged_at e (NamedExprKind-F.One op a) (ap out-NamedExprKind is ∙ outs-One op a))
      ∙ ap (λ x. (judged env x).failures ++ (one_formed (out-NamedExpr e).place op (judged env x).form).failures) (sym same)
      ∙ ap (λ f. (judged env given).failures ++ (one_formed (out-NamedExpr e).place op f).failures) (sym is_form)

  pub cast_judged : (e : NamedExpr) (s : ScalarType) (a given : NamedExpr) (form : Form) → (out-NamedExpr e).what ≡ Cast s a →
      given ≡ a → form ≡ (judged env given).form
      → (judged env e).failures ≡ (judged env given).failures ++ (cast_formed (out-NamedExpr e).place s form).failures
  cast_judged e s a given form is same is_form =
      ap (λ j. j.failures) (judged_at e (NamedExprKind-F.Cast s a) (ap out-NamedExprKind is ∙ outs-Cast s a))
      ∙ ap (λ x. (judged env x).failures ++ (cast_formed (out-NamedExpr e).place s (judged env x).form).failures) (sym same)
      ∙ ap (λ f. (judged env given).failures ++ (cast_formed (out-NamedExpr e).place s f).failures) (sym is_form)

  -- what fails in a form with two operands
  pub two_judged : (e : NamedExpr) (op : Op) (a b given other : NamedExpr) (form form_other : Form) →
      (out-NamedExpr e).what ≡ Two op a b → given ≡ a → other ≡ b
      → form ≡ (judged env given).form → form_other ≡ (judged env other).form
      → (judged env e).failures ≡ ((judged env given).failures ++ (judged env other).failures)
      ++ (two_formed (out-NamedExpr e).place op form form_other).failures
  two_judged e op a b given other form form_other is same same_other is_form is_other =
      ap (λ j. j.failures) (judged_at e (NamedExprKind-F.Two op a b) (ap out-NamedExprKind is ∙ outs-Two op a b))
      ∙ (λ i. (judged env (sym same i)).failures ++ ((judged env (sym same_other i)).failures
      ++ (two_formed (out-NamedExpr e).place op (judged env (sym same i)).form (judged env (sym same_other i)).form).failures))
      ∙ (λ i. (judged env given).failures ++ ((judged env other).failures
      ++ (two_formed (out-NamedExpr e).place op (sym is_form i) (sym is_other i)).failures))
      ∙ sym (append_assoc (judged env given).failures (judged env other).failures (two_formed (out-NamedExpr e).place op form form_other).failures)

  -- an expression in its place
  pub in_context_is : (wanted : Option Ty) (e : NamedExpr) (form : Form) → form ≡ (judged env e).form
      → (in_context wanted (judged env e)).failures ≡ (judged env e).failures ++ (fitting wanted (out-NamedExpr e).place form).failures
  in_context_is wanted e form is = λ i. (judged env e).failures ++ (fitting wanted (place_is e i) (sym is i)).failures

  abbrev inner : NamedPart-F NamedExprKind NamedPart NamedExpr NamedTarget → NamedPart-F (Place → Formed) (Option Ty → Stepped) Judged Targeted
  inner = map-NamedPart NamedExprKind NamedPart NamedExpr NamedTarget (Place → Formed)
      (Option Ty → Stepped) Judged Targeted formed_of (step_of env) (judged env) (targeted env)

  -- what fails in a step to an element
  pub index_judged : (step : NamedPart) (e : NamedExpr) (ty : Option Ty) (form : Form) → step ≡ Index e → form ≡ (judged env e).form
      → (step_of env step ty).failures ≡ (judged env e).failures ++ (to_element (out-NamedExpr e).place form ty).failures
  index_judged step e ty form is is_form =
      ap (λ f. (f ty).failures) (fold_out-NamedPart (Place → Formed) (Option Ty → Stepped) Judged Targeted (judged_kind env)
      (judged_part env) judged_layer (judged_target env) step)
      ∙ ap (λ layer. (judged_part env (inner layer) ty).failures) (ap out-NamedPart is ∙ outs-Index e)
      ∙ (λ i. (judged env e).failures ++ (to_element (place_is e i) (sym is_form i) ty).failures)
