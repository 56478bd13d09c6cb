-- Expressions that name nothing: they are made of literals, operators and casts alone. What is made of a constant's value is one, where
-- that is made of constants too.
use Rattle.std.proofs.Common.{◌≡◌, ℤ, List, [], map, Option, Some, None, refl, sym, ap, subst, ◌∙◌}
use Rattle.std.specs.Prelude.{Bool, true, false, ◌&&◌, option_and_then, slice_get, if◌then◌else◌}
use Rattle.std.proofs.lemmas.Bool.{and_from}
use Rattle.bl_tree.proofs.Basics.{and_first, and_second}
use Rattle.bl_tree.specs.declared.place.Place.{Place}
use Rattle.bl_tree.specs.declared.scalar.Op.{Op}
use Rattle.bl_tree.specs.declared.scalar.Scalar.{Scalar as ScalarType}
use Rattle.bl_tree.specs.declared.scalar.Scalar.TheVariants.{Bool as OfBool}
use Rattle.bl_tree.specs.declared.tree.Expr.{Expr, fold-Expr, fold-roll-Expr, out-Expr, roll-Expr}
use Rattle.bl_tree.specs.declared.tree.ExprKind.{ExprKind, fold-ExprKind, fold_out-ExprKind, fold-roll-ExprKind, map-ExprKind, out-ExprKind}
use Rattle.bl_tree.specs.declared.tree.ExprKind.TheOpen.{ExprKind-F, Part-F, Path-F, Expr-F}
use Rattle.bl_tree.specs.declared.tree.ExprKind.TheVariants as what
use Rattle.bl_tree.specs.declared.tree.Part.{Part, fold-Part}
use Rattle.bl_tree.specs.declared.tree.Path.{Path, fold-Path}
use Rattle.bl_tree.specs.declared.tree.Ty.{Ty}
use Rattle.bl_tree.specs.Numbers.{number_of, takes_one, takes_two}
use Rattle.bl_tree.specs.Scalar.{is_whole}
use Rattle.bl_tree.specs.Types.{same_type, scalar, scalar_in}
use Rattle.bl_tree.specs.Typing.{cast_type, one_type}
use Rattle.bl_tree.proofs.ExprInduction as trees
use Rattle.bl_names_tree.specs.declared.expr.NamedExpr.{NamedExpr, fold-roll-NamedExpr}
use Rattle.bl_names_tree.specs.declared.expr.NamedExprKind.{NamedExprKind, fold-NamedExprKind, fold-roll-NamedExprKind, map-NamedExprKind}
use Rattle.bl_names_tree.specs.declared.expr.NamedExprKind.TheOpen.{NamedExprKind-F}
use Rattle.bl_names_tree.specs.declared.expr.NamedPart.{NamedPart, fold-NamedPart}
use Rattle.bl_names_tree.specs.declared.expr.NamedTarget.{NamedTarget, fold-roll-NamedTarget, roll-NamedTarget}
use Rattle.bl_names_tree.specs.declared.expr.Root.{Root}
use Rattle.bl_names_tree.specs.declared.expr.Root.TheVariants as root
use Rattle.bl_names_tree.specs.declared.types.NamedType.{NamedType}
use Rattle.bl_types.specs.declared.environment.Environment.{Environment}
use Rattle.bl_types.specs.declared.form.Form.{Form}
use Rattle.bl_types.specs.declared.form.Form.TheVariants.{Failing, Open, Of}
use Rattle.bl_types.specs.Declarations.{expr_of_form, initial}
use Rattle.bl_types.specs.Expressions.{Formed, Judged, Stepped, Targeted, beside, beside_none, cast, cast_formed, cast_made, closed_form, constant_found}
use Rattle.bl_types.specs.Expressions.{fails_type, formed_as, judged, judged_kind, judged_layer, judged_part, judged_target, of_settled, one_formed}
use Rattle.bl_types.specs.Expressions.{operands_made, reading, settled_two, step_of, stepped, targeted, targeted_from, two_formed, type_of_constant}
use Rattle.bl_types.specs.Expressions.{type_of_two, value_of_constant, wanted_as, written_number}
use Rattle.bl_types.specs.Folded.{constant_kind, constant_layer, constant_part, constant_target, constant_target_of, is_constant, whole_constant}
use Rattle.bl_types.specs.Settled.{Settled, given, given_scalar, int32, is_logical, keeps_one_open, keeps_two_open, kept, literal, one, one_made, settled}
use Rattle.bl_types.specs.Settled.{settled_if, settled_kind, settled_layer, settled_part, settled_path, two, two_made, unfit}
use Rattle.bl_types.specs.Written.{written_type}
use Rattle.bl_types_laws.proofs.NamedExprInduction.{Cases, EachIndex, expr, induct}

-- ---- trees that name nothing

abbrev pub nameless_kind : ExprKind-F Bool (Unit {0}) Bool (Unit {0}) → Bool
nameless_kind (ExprKind-F.Literal n s) = true
nameless_kind (ExprKind-F.One op a) = a
nameless_kind (ExprKind-F.Two op a b) = a && b
nameless_kind (ExprKind-F.Cast s a) = a
nameless_kind _ = false

abbrev pub nameless_part : Part-F Bool (Unit {0}) Bool (Unit {0}) → Unit {0}
nameless_part part = tt

abbrev pub nameless_layer : Expr-F Bool (Unit {0}) Bool (Unit {0}) → Bool
nameless_layer e = e.what

abbrev pub nameless_path : Path-F Bool (Unit {0}) Bool (Unit {0}) → Unit {0}
nameless_path path = tt

abbrev pub is_nameless : Expr → Bool
is_nameless = fold-Expr Bool (Unit {0}) Bool (Unit {0}) nameless_kind nameless_part nameless_layer nameless_path

abbrev pub Layer : Type 0
Layer = ExprKind-F ExprKind Part Expr Path

abbrev pub nameless_by : Layer → Bool
nameless_by layer = nameless_kind
    (map-ExprKind ExprKind Part Expr Path Bool (Unit {0}) Bool (Unit {0})
    (fold-ExprKind Bool (Unit {0}) Bool (Unit {0}) nameless_kind nameless_part nameless_layer nameless_path)
    (fold-Part Bool (Unit {0}) Bool (Unit {0}) nameless_kind nameless_part nameless_layer nameless_path) is_nameless
    (fold-Path Bool (Unit {0}) Bool (Unit {0}) nameless_kind nameless_part nameless_layer nameless_path) layer)

pub nameless_is : (place : Place) (layer : Layer) → is_nameless (trees.expr place layer) ≡ nameless_by layer
nameless_is place layer = rw (fold-roll-Expr, fold-roll-ExprKind) refl

nameless_at : (at : Place) (kind : ExprKind) (layer : Layer) → out-ExprKind kind ≡ layer →
    is_nameless (roll-Expr (record { place = at; what = kind })) ≡ nameless_by layer
nameless_at at kind layer is =
    rw fold-roll-Expr
    (fold_out-ExprKind Bool (Unit {0}) Bool (Unit {0}) nameless_kind nameless_part nameless_layer nameless_path kind ∙ ap nameless_by is)

literal_nameless : (at : Place) (n : ℤ) (s : ScalarType) → is_nameless (literal at n s) ≡ true
literal_nameless at n s = nameless_at at (what.Literal n s) (ExprKind-F.Literal n s) (what.outs-Literal n s)

one_nameless : (at : Place) (op : Op) (a : Expr) → is_nameless (one at op a) ≡ is_nameless a
one_nameless at op a = nameless_at at (what.One op a) (ExprKind-F.One op a) (what.outs-One op a)

two_nameless : (at : Place) (op : Op) (a b : Expr) → is_nameless (two at op a b) ≡ (is_nameless a && is_nameless b)
two_nameless at op a b = nameless_at at (what.Two op a b) (ExprKind-F.Two op a b) (what.outs-Two op a b)

cast_nameless : (at : Place) (target : ScalarType) (a : Expr) → is_nameless (cast at target a) ≡ is_nameless a
cast_nameless at target a = nameless_at at (what.Cast target a) (ExprKind-F.Cast target a) (what.outs-Cast target a)

-- what is made names nothing
abbrev pub MadeNameless : Option Expr → Type 0
MadeNameless (Some e) = is_nameless e ≡ true
MadeNameless None = Unit {0}

-- what is known of an expression names nothing
abbrev FormNameless : Form → Type 0
FormNameless Failing = Unit {0}
FormNameless (Open e) = is_nameless e ≡ true
FormNameless (Of ty e) = is_nameless e ≡ true

both_nameless : (at : Place) (op : Op) (a b : Expr) → is_nameless a ≡ true → is_nameless b ≡ true → is_nameless (two at op a b) ≡ true
both_nameless at op a b left right = two_nameless at op a b ∙ and_from (is_nameless a) (is_nameless b) left right

-- ---- open expressions as ones of a type: what is made of them never names a thing

one_if : (takes : Bool) (at : Place) (op : Op) (a : Expr) → is_nameless a ≡ true → MadeNameless (if takes then kept (one at op a) else unfit at).made
one_if true at op a is = one_nameless at op a ∙ is
one_if false at op a is = tt

one_made_nameless : (s : ScalarType) (at : Place) (op : Op) (a : Option Expr) → MadeNameless a → MadeNameless (one_made s at op a).made
one_made_nameless s at op (Some a) is = one_if (takes_one op s) at op a is
one_made_nameless s at op None is = tt

two_if : (takes : Bool) (at : Place) (op : Op) (a b : Expr) → is_nameless a ≡ true → is_nameless b ≡ true →
    MadeNameless (if takes then kept (two at op a b) else unfit at).made
two_if true at op a b left right = both_nameless at op a b left right
two_if false at op a b left right = tt

two_made_nameless : (s : ScalarType) (at : Place) (op : Op) (a b : Option Expr) → MadeNameless a → MadeNameless b →
    MadeNameless (two_made s at op a b).made
two_made_nameless s at op (Some a) (Some b) left right = two_if (takes_two op s) at op a b left right
two_made_nameless s at op (Some a) None left right = tt
two_made_nameless s at op None b left right = tt

module _ (s : ScalarType) where
  abbrev SettledP : Expr → Type 0
  SettledP e = MadeNameless (settled s e).made

  abbrev SettledQ : Path → Type 0
  SettledQ path = Unit {0}

  abbrev settled_by : Layer → Place → Settled
  settled_by layer = settled_kind s
      (map-ExprKind ExprKind Part Expr Path (Place → Settled) (Unit {0}) Settled (Unit {0})
      (fold-ExprKind (Place → Settled) (Unit {0}) Settled (Unit {0}) (settled_kind s) settled_part settled_layer settled_path)
      (fold-Part (Place → Settled) (Unit {0}) Settled (Unit {0}) (settled_kind s) settled_part settled_layer settled_path) (settled s)
      (fold-Path (Place → Settled) (Unit {0}) Settled (Unit {0}) (settled_kind s) settled_part settled_layer settled_path) layer)

  settled_is : (place : Place) (layer : Layer) → settled s (trees.expr place layer) ≡ settled_by layer place
  settled_is place layer = rw (fold-roll-Expr, fold-roll-ExprKind) refl

  of_layer : (place : Place) (layer : Layer) → MadeNameless (settled_by layer place).made → SettledP (trees.expr place layer)
  of_layer place layer is = subst (λ (settled : Settled). MadeNameless settled.made) (sym (settled_is place layer)) is

  settled_cases : trees.Cases SettledP SettledQ
  settled_cases = record {
    literal = λ place n t. of_layer place (ExprKind-F.Literal n t) (literal_nameless place n s);
    read = λ place path leads. of_layer place (ExprKind-F.Read path) tt;
    prev = λ place k. of_layer place (ExprKind-F.Prev k) tt;
    one = λ place op a is. of_layer place (ExprKind-F.One op a) (one_made_nameless s place op (settled s a).made is);
    two = λ place op a b left right. of_layer place (ExprKind-F.Two op a b) (two_made_nameless s place op (settled s a).made (settled s b).made left right);
    cast = λ place target a is. of_layer place (ExprKind-F.Cast target a) tt;
    call = λ place f inputs each. of_layer place (ExprKind-F.Call f inputs) tt;
    path = λ place root parts ty each. tt;
  }

  settled_nameless : (e : Expr) → MadeNameless (settled s e).made
  settled_nameless = trees.induct SettledP SettledQ settled_cases

settled_if_nameless : (whole : Bool) (s : ScalarType) (e : Expr) → MadeNameless (settled_if whole s e).made
settled_if_nameless true s e = settled_nameless s e
settled_if_nameless false s e = tt

given_by : (s : Option ScalarType) (e : Expr) → MadeNameless (given_scalar s e).made
given_by (Some s) e = settled_if_nameless (is_whole s) s e
given_by None e = tt

given_nameless : (ty : Ty) (e : Expr) → MadeNameless (given ty e).made
given_nameless ty e = given_by (scalar_in ty) e

-- ---- where a type is wanted

kept_if : (holds : Bool) (at : Place) (e : Expr) → is_nameless e ≡ true → MadeNameless (if holds then kept e else unfit at).made
kept_if true at e is = is
kept_if false at e is = tt

wanted_nameless : (wanted : Ty) (at : Place) (form : Form) → FormNameless form → MadeNameless (wanted_as wanted at form).made
wanted_nameless wanted at Failing is = tt
wanted_nameless wanted at (Open e) is = given_nameless wanted e
wanted_nameless wanted at (Of ty e) is = kept_if (same_type wanted ty) at e is

of_settled_nameless : (s : ScalarType) (made : Option Expr) → MadeNameless made → MadeNameless (expr_of_form (of_settled s made))
of_settled_nameless s (Some e) is = is
of_settled_nameless s None is = tt

closed_nameless : (form : Form) → FormNameless form → MadeNameless (expr_of_form (closed_form form).form)
closed_nameless Failing is = tt
closed_nameless (Open e) is = of_settled_nameless int32 (settled int32 e).made (settled_nameless int32 e)
closed_nameless (Of ty e) is = is

-- ---- operators

formed_nameless : (ty : Option Ty) (at : Place) (e : Expr) → is_nameless e ≡ true → FormNameless (formed_as ty at e).form
formed_nameless (Some ty) at e is = is
formed_nameless None at e is = tt

one_open : (at : Place) (op : Op) (a : Expr) (stays : Bool) → is_nameless a ≡ true →
    FormNameless (if stays then record { form = Open (one at op a); failures = [] } else fails_type (out-Expr a).place).form
one_open at op a true is = one_nameless at op a ∙ is
one_open at op a false is = tt

one_form : (at : Place) (op : Op) (form : Form) → FormNameless form → FormNameless (one_formed at op form).form
one_form at op Failing is = tt
one_form at op (Open a) is = one_open at op a (keeps_one_open op) is
one_form at op (Of ty a) is = formed_nameless (option_and_then (one_type op) (scalar_in ty)) at (one at op a) (one_nameless at op a ∙ is)

operands_nameless : (at : Place) (op : Op) (ty : Option Ty) (a b : Option Expr) → MadeNameless a → MadeNameless b →
    FormNameless (operands_made at op ty a b).form
operands_nameless at op ty (Some a) (Some b) left right = formed_nameless ty at (two at op a b) (both_nameless at op a b left right)
operands_nameless at op ty (Some a) None left right = tt
operands_nameless at op ty None b left right = tt

beside_if : (logical : Bool) (ty : Ty) (e : Expr) → MadeNameless (if logical then unfit (out-Expr e).place else given ty e).made
beside_if true ty e = tt
beside_if false ty e = given_nameless ty e

beside_nameless : (op : Op) (ty : Ty) (e : Expr) → MadeNameless (beside op ty e).made
beside_nameless op ty e = beside_if (is_logical op) ty e

open_two : (at : Place) (op : Op) (a b : Expr) (stays : Bool) → is_nameless a ≡ true → is_nameless b ≡ true →
    FormNameless (if stays then record { form = Open (two at op a b); failures = [] } else settled_two at op a b).form
open_two at op a b true left right = both_nameless at op a b left right
open_two at op a b false left right =
    operands_nameless at op (type_of_two op (scalar int32) (scalar int32)) (beside op (scalar int32) a).made (beside op (scalar int32) b).made
    (beside_nameless op (scalar int32) a) (beside_nameless op (scalar int32) b)

none_form : (op : Op) (other : Form) → FormNameless (beside_none op other).form
none_form op Failing = tt
none_form op (Open e) = tt
none_form op (Of ty e) = tt

two_form : (at : Place) (op : Op) (a b : Form) → FormNameless a → FormNameless b → FormNameless (two_formed at op a b).form
two_form at op Failing b left right = none_form op b
two_form at op (Open a) Failing left right = tt
two_form at op (Open a) (Open b) left right = open_two at op a b (keeps_two_open op) left right
two_form at op (Open a) (Of ty b) left right = operands_nameless at op (type_of_two op ty ty) (beside op ty a).made (Some b) (beside_nameless op ty a) right
two_form at op (Of ty a) Failing left right = tt
two_form at op (Of ty a) (Open b) left right = operands_nameless at op (type_of_two op ty ty) (Some a) (beside op ty b).made left (beside_nameless op ty b)
two_form at op (Of ty a) (Of other b) left right = operands_nameless at op (type_of_two op ty other) (Some a) (Some b) left right

cast_made_nameless : (at : Place) (target : ScalarType) (a : Option Expr) → MadeNameless a → FormNameless (cast_made at target a)
cast_made_nameless at target (Some a) is = cast_nameless at target a ∙ is
cast_made_nameless at target None is = tt

cast_form : (at : Place) (target : ScalarType) (form : Form) → FormNameless form → FormNameless (cast_formed at target form).form
cast_form at target Failing is = tt
cast_form at target (Open a) is = cast_made_nameless at target (settled_if (is_whole target) target a).made (settled_if_nameless (is_whole target) target a)
cast_form at target (Of ty a) is =
    formed_nameless (option_and_then (cast_type target) (scalar_in ty)) at (cast at target a) (cast_nameless at target a ∙ is)

-- ---- constants' values

constant_reading : (at : Place) (n : ℤ) (s : Option ScalarType) → FormNameless (reading at (constant_found n s))
constant_reading at n (Some s) = literal_nameless at n s
constant_reading at n None = tt

module _ (env : Environment) where
  abbrev P : NamedExpr → Type 0
  P e = is_constant e ≡ true → FormNameless (judged env e).form

  abbrev Q : NamedTarget → Type 0
  Q target = constant_target_of target ≡ true → (at : Place) → FormNameless (reading at (targeted env target).found)

  abbrev NamedLayer : Type 0
  NamedLayer = NamedExprKind-F NamedExprKind NamedPart NamedExpr NamedTarget

  abbrev constant_by : NamedLayer → Bool
  constant_by layer = constant_kind
      (map-NamedExprKind NamedExprKind NamedPart NamedExpr NamedTarget Bool (Unit {0}) Bool Bool
      (fold-NamedExprKind Bool (Unit {0}) Bool Bool constant_kind constant_part constant_layer constant_target)
      (fold-NamedPart Bool (Unit {0}) Bool Bool constant_kind constant_part constant_layer constant_target) is_constant constant_target_of layer)

  constant_is : (place : Place) (layer : NamedLayer) → is_constant (expr place layer) ≡ constant_by layer
  constant_is place layer = rw (fold-roll-NamedExpr, fold-roll-NamedExprKind) refl

  abbrev formed_by : NamedLayer → Place → Formed
  formed_by layer = judged_kind env
      (map-NamedExprKind NamedExprKind NamedPart NamedExpr NamedTarget (Place → Formed) (Option Ty → Stepped) Judged Targeted
      (fold-NamedExprKind (Place → Formed) (Option Ty → Stepped) Judged Targeted (judged_kind env) (judged_part env) judged_layer (judged_target env))
      (step_of env) (judged env) (targeted env) layer)

  judged_is : (place : Place) (layer : NamedLayer) → judged env (expr place layer) ≡ judged_layer (record { place = place; what = formed_by layer })
  judged_is place layer = rw (fold-roll-NamedExpr, fold-roll-NamedExprKind) refl

  by_kind : (place : Place) (layer : NamedLayer) → (constant_by layer ≡ true → FormNameless (formed_by layer place).form) → P (expr place layer)
  by_kind place layer shown constant =
      subst (λ (judged : Judged). FormNameless judged.form) (sym (judged_is place layer)) (shown (sym (constant_is place layer) ∙ constant))

  abbrev steps_of : List NamedPart → List (Unit {0})
  steps_of parts = map (fold-NamedPart Bool (Unit {0}) Bool Bool constant_kind constant_part constant_layer constant_target) parts

  root_nameless : (place : Place) (root : Root) (parts : List NamedPart) → whole_constant root (steps_of parts) ≡ true → (at : Place) →
      FormNameless (reading at (targeted_from env place root (map (step_of env) parts)).found)
  root_nameless place (root.Variable k) parts constant at = absurd (cc)
  root_nameless place (root.Constant k) parts constant at =
      constant_reading at (value_of_constant (slice_get env.constants k)) (option_and_then scalar_in
      (stepped (map (step_of env) parts) (type_of_constant (slice_get env.constants k))).ty)

  target_case : (place : Place) (root : Root) (parts : List NamedPart) → EachIndex P parts →
      Q (roll-NamedTarget (record { place = place; root = root; parts = parts }))
  target_case place root parts each constant at =
      let target = roll-NamedTarget (record { place = place; root = root; parts = parts }) in
      let targeted_is : targeted env target ≡ targeted_from env place root (map (step_of env) parts) = rw fold-roll-NamedTarget refl in
      let whole_is : constant_target_of target ≡ whole_constant root (steps_of parts) = rw fold-roll-NamedTarget refl in
      subst (λ (targeted : Targeted). FormNameless (reading at targeted.found)) (sym targeted_is)
      (root_nameless place root parts (sym whole_is ∙ constant) at)

  cases : Cases P Q
  cases = record {
    number = λ place minus n. by_kind place (NamedExprKind-F.Number minus n) (λ constant. literal_nameless place (written_number minus n) int32);
    truth = λ place b. by_kind place (NamedExprKind-F.Truth b) (λ constant. literal_nameless place (number_of b) OfBool);
    read = λ place target shown. by_kind place (NamedExprKind-F.Read target) (λ constant. shown constant place);
    prev = λ place k. by_kind place (NamedExprKind-F.Prev k) (λ constant. absurd (cc));
    one = λ place op a shown. by_kind place (NamedExprKind-F.One op a) (λ constant. one_form place op (judged env a).form (shown constant));
    two = λ place op a b shown more. by_kind place (NamedExprKind-F.Two op a b)
        (λ constant. two_form place op (judged env a).form (judged env b).form (shown (and_first (is_constant a) (is_constant b) constant))
        (more (and_second (is_constant a) (is_constant b) constant)));
    cast = λ place s a shown. by_kind place (NamedExprKind-F.Cast s a) (λ constant. cast_form place s (judged env a).form (shown constant));
    call = λ place name f inputs each. by_kind place (NamedExprKind-F.Call name f inputs) (λ constant. absurd (cc));
    target = target_case;
  }

  judged_nameless : (e : NamedExpr) → is_constant e ≡ true → FormNameless (judged env e).form
  judged_nameless = induct P Q cases

  -- what is made of a constant's value names nothing
  pub initial_nameless : (written : Option NamedType) (e : NamedExpr) → is_constant e ≡ true → MadeNameless (initial env written e).valued.value
  initial_nameless (Some written) e constant =
      wanted_nameless (written_type env.constants written) (judged env e).place (judged env e).form (judged_nameless e constant)
  initial_nameless None e constant = closed_nameless (judged env e).form (judged_nameless e constant)
