-- What is made of an expression stands where the expression does.
use Rattle.std.proofs.Common.{◌≡◌, ℕ, Bool, true, false, List, Option, Some, None, [], ap, sym, subst, ◌∙◌}
use Rattle.std.specs.Prelude.{length, nat_eq, option_and_then, slice_get, if◌then◌else◌}
use Rattle.bl_tree.specs.declared.place.Place.{Place}
use Rattle.bl_tree.specs.declared.scalar.Op.{Op}
use Rattle.bl_tree.specs.declared.scalar.Scalar.{Scalar as ScalarType}
use Rattle.bl_tree.specs.declared.scalar.Scalar.TheVariants.{Bool as OfBool}
use Rattle.bl_tree.specs.declared.tree.Expr.{Expr, fold_out-Expr, out-Expr, out-roll-Expr, roll-Expr}
use Rattle.bl_tree.specs.declared.tree.ExprKind.{ExprKind, fold-ExprKind, fold_out-ExprKind, map-ExprKind, out-ExprKind}
use Rattle.bl_tree.specs.declared.tree.ExprKind.TheOpen.{ExprKind-F}
use Rattle.bl_tree.specs.declared.tree.ExprKind.TheVariants as what
use Rattle.bl_tree.specs.declared.tree.Part.{Part, fold-Part}
use Rattle.bl_tree.specs.declared.tree.Path.{Path, fold-Path}
use Rattle.bl_tree.specs.declared.tree.Role.{Role}
use Rattle.bl_tree.specs.declared.tree.Ty.{Ty}
use Rattle.bl_tree.specs.declared.tree.Unit.{Unit as UnitDef}
use Rattle.bl_tree.specs.declared.tree.UnitKind.{UnitKind}
use Rattle.bl_tree.specs.Numbers.{number_of, takes_one, takes_two}
use Rattle.bl_tree.specs.Scalar.{is_whole}
use Rattle.bl_tree.specs.Types.{same_type, scalar, scalar_in}
use Rattle.bl_tree.specs.Typing.{cast_type, one_type}
use Rattle.bl_names_tree.specs.declared.expr.NamedExpr.{NamedExpr, fold_out-NamedExpr, out-NamedExpr}
use Rattle.bl_names_tree.specs.declared.expr.NamedExprKind.{NamedExprKind, fold-NamedExprKind, fold_out-NamedExprKind, map-NamedExprKind, out-NamedExprKind}
use Rattle.bl_names_tree.specs.declared.expr.NamedExprKind.TheOpen.{NamedExprKind-F}
use Rattle.bl_names_tree.specs.declared.expr.NamedPart.{NamedPart}
use Rattle.bl_names_tree.specs.declared.expr.NamedTarget.{NamedTarget}
use Rattle.bl_names_tree.specs.Starts.{start_of}
use Rattle.bl_types.specs.declared.environment.Environment.{Environment}
use Rattle.bl_types.specs.declared.environment.Variable.{Variable}
use Rattle.bl_types.specs.declared.form.Form.{Form}
use Rattle.bl_types.specs.declared.form.Form.TheVariants.{Failing, Open, Of}
use Rattle.bl_types.specs.declared.form.Found.{Found}
use Rattle.bl_types.specs.declared.form.Found.TheVariants as found
use Rattle.bl_types.specs.Expressions.{Formed, Judged, Stepped, Targeted, all_made, beside, beside_none, call_form, cast, cast_formed, cast_made, fails_type}
use Rattle.bl_types.specs.Expressions.{fitted, formed_as, in_context, judged, judged_kind, judged_layer, judged_part, judged_target, one_formed, operands_made}
use Rattle.bl_types.specs.Expressions.{params_of, previous_formed, previous_typed, reading, settled_two, step_of, targeted, two_formed, type_of_two, wanted_as}
use Rattle.bl_types.specs.Expressions.{written_number}
use Rattle.bl_types.specs.Settled.{Settled, given, given_scalar, int32, keeps_one_open, keeps_two_open, kept, one, one_made, settled, settled_if, settled_kind}
use Rattle.bl_types.specs.Settled.{settled_layer, settled_part, settled_path, two, two_made, unfit}
use Rattle.bl_types.specs.Statements.{condition}

-- what is made stands at the place
abbrev MadeAt : Place → Option Expr → Type 0
MadeAt at (Some e) = (out-Expr e).place ≡ at
MadeAt at None = Unit {0}

-- what a form has stands at the place
abbrev FormAt : Place → Form → Type 0
FormAt at Failing = Unit {0}
FormAt at (Open e) = (out-Expr e).place ≡ at
FormAt at (Of ty e) = (out-Expr e).place ≡ at

rolled : (at : Place) (kind : ExprKind) → (out-Expr (roll-Expr (record { place = at; what = kind }))).place ≡ at
rolled at kind = ap (λ e. e.place) (out-roll-Expr (record { place = at; what = kind }))

kept_if : (test : Bool) (at : Place) (e : Expr) → (out-Expr e).place ≡ at → MadeAt at (if test then kept e else unfit at).made
kept_if true at e is = is
kept_if false at e is = tt

-- ---- open expressions that take a type

one_at : (s : ScalarType) (at : Place) (op : Op) (a : Option Expr) → MadeAt at (one_made s at op a).made
one_at s at op (Some a) = kept_if (takes_one op s) at (one at op a) (rolled at (what.One op a))
one_at s at op None = tt

two_at : (s : ScalarType) (at : Place) (op : Op) (a b : Option Expr) → MadeAt at (two_made s at op a b).made
two_at s at op (Some a) (Some b) = kept_if (takes_two op s) at (two at op a b) (rolled at (what.Two op a b))
two_at s at op (Some a) None = tt
two_at s at op None b = tt

settled_kind_at : (s : ScalarType) (layer : ExprKind-F (Place → Settled) (Unit {0}) Settled (Unit {0})) (at : Place) →
    MadeAt at (settled_kind s layer at).made
settled_kind_at s (ExprKind-F.Literal n t) at = rolled at (what.Literal n s)
settled_kind_at s (ExprKind-F.Read path) at = tt
settled_kind_at s (ExprKind-F.Prev k) at = tt
settled_kind_at s (ExprKind-F.One op a) at = one_at s at op a.made
settled_kind_at s (ExprKind-F.Two op a b) at = two_at s at op a.made b.made
settled_kind_at s (ExprKind-F.Cast target a) at = tt
settled_kind_at s (ExprKind-F.Call f inputs) at = tt

abbrev settled_parts : ScalarType → ExprKind → ExprKind-F (Place → Settled) (Unit {0}) Settled (Unit {0})
settled_parts s kind =
    map-ExprKind ExprKind Part Expr Path (Place → Settled) (Unit {0}) Settled (Unit {0})
    (fold-ExprKind (Place → Settled) (Unit {0}) Settled (Unit {0}) (settled_kind s) settled_part settled_layer settled_path)
    (fold-Part (Place → Settled) (Unit {0}) Settled (Unit {0}) (settled_kind s) settled_part settled_layer settled_path) (settled s)
    (fold-Path (Place → Settled) (Unit {0}) Settled (Unit {0}) (settled_kind s) settled_part settled_layer settled_path) (out-ExprKind kind)

settled_is : (s : ScalarType) (e : Expr) → settled s e ≡ settled_kind s (settled_parts s (out-Expr e).what) (out-Expr e).place
settled_is s e =
    fold_out-Expr (Place → Settled) (Unit {0}) Settled (Unit {0}) (settled_kind s) settled_part settled_layer settled_path e
    ∙ ap (λ f. f (out-Expr e).place)
    (fold_out-ExprKind (Place → Settled) (Unit {0}) Settled (Unit {0}) (settled_kind s) settled_part settled_layer settled_path (out-Expr e).what)

settled_at : (s : ScalarType) (e : Expr) → MadeAt (out-Expr e).place (settled s e).made
settled_at s e =
    subst (λ (settled : Settled). MadeAt (out-Expr e).place settled.made) (sym (settled_is s e))
    (settled_kind_at s (settled_parts s (out-Expr e).what) (out-Expr e).place)

settled_if_at : (test : Bool) (s : ScalarType) (e : Expr) → MadeAt (out-Expr e).place (settled_if test s e).made
settled_if_at true s e = settled_at s e
settled_if_at false s e = tt

given_scalar_at : (s : Option ScalarType) (e : Expr) → MadeAt (out-Expr e).place (given_scalar s e).made
given_scalar_at (Some s) e = settled_if_at (is_whole s) s e
given_scalar_at None e = tt

given_at : (ty : Ty) (e : Expr) → MadeAt (out-Expr e).place (given ty e).made
given_at ty e = given_scalar_at (scalar_in ty) e

wanted_at : (wanted : Ty) (at : Place) (form : Form) → FormAt at form → MadeAt at (wanted_as wanted at form).made
wanted_at wanted at Failing is = tt
wanted_at wanted at (Open e) is = subst (λ place. MadeAt place (given wanted e).made) is (given_at wanted e)
wanted_at wanted at (Of ty e) is = kept_if (same_type wanted ty) at e is

-- ---- forms

formed_at : (ty : Option Ty) (at : Place) (e : Expr) → (out-Expr e).place ≡ at → FormAt at (formed_as ty at e).form
formed_at (Some ty) at e is = is
formed_at None at e is = tt

one_open : (at : Place) (op : Op) (a : Expr) (stays : Bool) →
    FormAt at (if stays then record { form = Open (one at op a); failures = [] } else fails_type (out-Expr a).place).form
one_open at op a true = rolled at (what.One op a)
one_open at op a false = tt

one_form : (at : Place) (op : Op) (form : Form) → FormAt at (one_formed at op form).form
one_form at op Failing = tt
one_form at op (Open a) = one_open at op a (keeps_one_open op)
one_form at op (Of ty a) = formed_at (option_and_then (one_type op) (scalar_in ty)) at (one at op a) (rolled at (what.One op a))

operands_at : (at : Place) (op : Op) (ty : Option Ty) (a b : Option Expr) → FormAt at (operands_made at op ty a b).form
operands_at at op ty (Some a) (Some b) = formed_at ty at (two at op a b) (rolled at (what.Two op a b))
operands_at at op ty (Some a) None = tt
operands_at at op ty None b = tt

open_two : (at : Place) (op : Op) (a b : Expr) (stays : Bool) →
    FormAt at (if stays then record { form = Open (two at op a b); failures = [] } else settled_two at op a b).form
open_two at op a b true = rolled at (what.Two op a b)
open_two at op a b false =
    operands_at at op (type_of_two op (scalar int32) (scalar int32)) (beside op (scalar int32) a).made (beside op (scalar int32) b).made

none_form : (at : Place) (op : Op) (other : Form) → FormAt at (beside_none op other).form
none_form at op Failing = tt
none_form at op (Open e) = tt
none_form at op (Of ty e) = tt

two_form : (at : Place) (op : Op) (a b : Form) → FormAt at (two_formed at op a b).form
two_form at op Failing b = none_form at op b
two_form at op (Open a) Failing = tt
two_form at op (Open a) (Open b) = open_two at op a b (keeps_two_open op)
two_form at op (Open a) (Of ty b) = operands_at at op (type_of_two op ty ty) (beside op ty a).made (Some b)
two_form at op (Of ty a) Failing = tt
two_form at op (Of ty a) (Open b) = operands_at at op (type_of_two op ty ty) (Some a) (beside op ty b).made
two_form at op (Of ty a) (Of other b) = operands_at at op (type_of_two op ty other) (Some a) (Some b)

cast_made_at : (at : Place) (target : ScalarType) (a : Option Expr) → FormAt at (cast_made at target a)
cast_made_at at target (Some a) = rolled at (what.Cast target a)
cast_made_at at target None = tt

cast_form : (at : Place) (target : ScalarType) (form : Form) → FormAt at (cast_formed at target form).form
cast_form at target Failing = tt
cast_form at target (Open a) = cast_made_at at target (settled_if (is_whole target) target a).made
cast_form at target (Of ty a) = formed_at (option_and_then (cast_type target) (scalar_in ty)) at (cast at target a) (rolled at (what.Cast target a))

typed_at : (kind : UnitKind) (at : Place) (k : ℕ) (role : Role) (ty : Option Ty) → FormAt at (previous_typed kind at k role ty).form
typed_at kind at k role (Some ty) = rolled at (what.Prev k)
typed_at kind at k role None = tt

previous_at : (kind : UnitKind) (at : Place) (k : ℕ) (var : Option Variable) → FormAt at (previous_formed kind at k var).form
previous_at kind at k (Some var) = typed_at kind at k var.role var.ty
previous_at kind at k None = tt

reading_at : (at : Place) (leads : Found) → FormAt at (reading at leads)
reading_at at found.Nothing = tt
reading_at at (found.Constant s n) = rolled at (what.Literal n s)
reading_at at (found.Place path) = rolled at (what.Read path)

call_at : (at : Place) (f : ℕ) (inputs : List Expr) (holds : Bool) (result : Option ScalarType) → FormAt at (call_form at f inputs holds result)
call_at at f inputs true (Some s) = rolled at (what.Call f inputs)
call_at at f inputs true None = tt
call_at at f inputs false (Some s) = tt
call_at at f inputs false None = tt

module _ (env : Environment) where
  abbrev Parts : Type 0
  Parts = NamedExprKind-F (Place → Formed) (Option Ty → Stepped) Judged Targeted

  form_at : (layer : Parts) (at : Place) → FormAt at (judged_kind env layer at).form
  form_at (NamedExprKind-F.Number minus n) at = rolled at (what.Literal (written_number minus n) int32)
  form_at (NamedExprKind-F.Truth truth) at = rolled at (what.Literal (number_of truth) OfBool)
  form_at (NamedExprKind-F.Read target) at = reading_at at target.found
  form_at (NamedExprKind-F.Prev k) at = previous_at env.kind at k (slice_get env.vars k)
  form_at (NamedExprKind-F.One op a) at = one_form at op a.form
  form_at (NamedExprKind-F.Two op a b) at = two_form at op a.form b.form
  form_at (NamedExprKind-F.Cast target a) at = cast_form at target a.form
  form_at (NamedExprKind-F.Call name f inputs) at =
      let callee = slice_get env.units f in
      let arguments : List Settled = fitted inputs (params_of callee) in
      call_at at f (all_made arguments) (nat_eq (length (all_made arguments)) (length arguments))
      (option_and_then (λ (unit : UnitDef). unit.result) callee)

  abbrev parts : NamedExprKind → Parts
  parts kind =
      map-NamedExprKind NamedExprKind NamedPart NamedExpr NamedTarget (Place → Formed) (Option Ty → Stepped) Judged Targeted
      (fold-NamedExprKind (Place → Formed) (Option Ty → Stepped) Judged Targeted (judged_kind env) (judged_part env) judged_layer (judged_target env))
      (step_of env) (judged env) (targeted env) (out-NamedExprKind kind)

  judged_is : (e : NamedExpr) →
      judged env e ≡ judged_layer (record { place = (out-NamedExpr e).place; what = judged_kind env (parts (out-NamedExpr e).what) })
  judged_is e =
      fold_out-NamedExpr (Place → Formed) (Option Ty → Stepped) Judged Targeted (judged_kind env) (judged_part env) judged_layer (judged_target env) e
      ∙ ap (λ f. judged_layer (record { place = (out-NamedExpr e).place; what = f }))
      (fold_out-NamedExprKind (Place → Formed) (Option Ty → Stepped) Judged Targeted (judged_kind env)
      (judged_part env) judged_layer (judged_target env) (out-NamedExpr e).what)

  condition_at : (e : NamedExpr) → MadeAt (out-NamedExpr e).place (condition env e).made
  condition_at e =
      subst (λ (judged : Judged). MadeAt (out-NamedExpr e).place (in_context (Some (scalar OfBool)) judged).made) (sym (judged_is e))
      (wanted_at (scalar OfBool) (out-NamedExpr e).place (judged_kind env (parts (out-NamedExpr e).what) (out-NamedExpr e).place).form
      (form_at (parts (out-NamedExpr e).what) (out-NamedExpr e).place))

-- ---- where what is made begins

-- what is made begins at the offset
abbrev pub MadeFrom : ℕ → Option Expr → Type 0
MadeFrom n (Some e) = (out-Expr e).place.start ≡ n
MadeFrom n None = Unit {0}

made_from : (at : Place) (made : Option Expr) → MadeAt at made → MadeFrom at.start made
made_from at (Some e) is = ap (λ (place : Place). place.start) is
made_from at None is = tt

-- a condition begins where it is written
pub condition_from : (env : Environment) (e : NamedExpr) → MadeFrom (start_of e) (condition env e).made
condition_from env e = made_from (out-NamedExpr e).place (condition env e).made (condition_at env e)
