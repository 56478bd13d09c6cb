-- Initial values and constants.
use Rattle.std.proofs.Common.{◌≡◌, List, [], Option, Some, None, refl, ap, sym, subst, ◌∙◌}
use Rattle.std.specs.Prelude.{Bool, true, not, ◌&&◌, is_none, is_some, option_and_then, if◌then◌else◌, IfSome}
use Rattle.std.proofs.lemmas.Option.{same_Some}
use Rattle.bl_tree.proofs.Basics.{and_first, and_second, first_empty, second_empty}
use Rattle.bl_tree.specs.declared.place.Place.{Place}
use Rattle.bl_tree.specs.declared.rule.Failure.{Failure}
use Rattle.bl_tree.specs.declared.rule.Rule.TheVariants as rule
use Rattle.bl_tree.specs.declared.scalar.Scalar.{Scalar as ScalarType}
use Rattle.bl_tree.specs.declared.tree.Expr.{Expr}
use Rattle.bl_tree.specs.declared.tree.ExprKind.{ExprKind, fold-ExprKind, map-ExprKind, out-roll-ExprKind, roll-ExprKind}
use Rattle.bl_tree.specs.declared.tree.ExprKind.TheOpen.{ExprKind-F}
use Rattle.bl_tree.specs.declared.tree.Part.{Part}
use Rattle.bl_tree.specs.declared.tree.Path.{Path}
use Rattle.bl_tree.specs.declared.tree.Ty.{Ty}
use Rattle.bl_tree.specs.declared.tree.Unit.{Unit as UnitDef}
use Rattle.bl_tree.specs.declared.tree.UnitKind.TheVariants.{Function}
use Rattle.bl_tree.specs.Scalar.{in_range}
use Rattle.bl_tree.specs.Types.{scalar, scalar_in}
use Rattle.bl_tree.specs.Typing.{TypingContext, cast_type, expr_type, kind_type, one_type, part_type, path_type, site_of, two_type, type_of, type_of_path}
use Rattle.bl_tree.proofs.ExprInduction.{Cases, expr, induct}
use Rattle.bl_eval.specs.declared.datum.Operand.{Operand}
use Rattle.bl_eval.specs.Meaning.{meaning_of}
use Rattle.bl_eval.proofs.ExprFits.{Sound, expr_fits}
use Rattle.bl_eval.proofs.FitLemmas.{scalar_is}
use Rattle.bl_eval.proofs.OperatorFits.{DatumFits, OperandFits, operand_fits}
use Rattle.bl_eval.proofs.PartFits.{type_of_part}
use Rattle.bl_names_tree.specs.declared.expr.NamedExpr.{NamedExpr, out-NamedExpr}
use Rattle.bl_names_tree.specs.declared.item.NamedConstant.{NamedConstant}
use Rattle.bl_names_tree.specs.declared.types.NamedType.{NamedType}
use Rattle.bl_names_tree.specs.Placed.{expr_placed}
use Rattle.bl_types.specs.declared.environment.Environment.{Environment}
use Rattle.bl_types.specs.declared.form.Form.{Form}
use Rattle.bl_types.specs.declared.form.Form.TheVariants.{Failing, Open, Of}
use Rattle.bl_types.specs.declared.form.Valued.{Valued}
use Rattle.bl_types.specs.Declarations.{Initial, after_constant, closed_initial, constant_failures, constant_of, expr_of_form, initial, not_scalar}
use Rattle.bl_types.specs.Declarations.{type_of_form, typed_initial}
use Rattle.bl_types.specs.Expressions.{Judged, closed_form, in_context, judged, of_settled}
use Rattle.bl_types.specs.Folded.{folded, is_constant, no_values, not_constant, nowhere, number_in, number_or_zero, traps}
use Rattle.bl_types.specs.Settled.{Settled, int32}
use Rattle.bl_types.specs.Written.{bad_lengths, written_type}
use Rattle.bl_types_laws.specs.Fitting.{FormFits, InitialFits, IsMade}
use Rattle.bl_types_laws.specs.Within.{ConstantStands, EnvironmentWithin, calls_functions, known_in}
use Rattle.bl_types_laws.proofs.Expressions.{expressions_fit, some_of, wanted_fits}
use Rattle.bl_types_laws.proofs.Forms.{unless_holds}
use Rattle.bl_types_laws.proofs.Nameless.{Layer, MadeNameless, initial_nameless, is_nameless, nameless_by, nameless_is}
use Rattle.bl_types_laws.proofs.Typed.{kind_at}

-- ---- what names nothing has the same type at each site

module _ (site other : TypingContext) where
  abbrev P : Expr → Type 0
  P e = is_nameless e ≡ true → type_of site e ≡ type_of other e

  abbrev Q : Path → Type 0
  Q path = Unit {0}

  abbrev typed_by : TypingContext → Layer → Option Ty
  typed_by site layer = kind_type site
      (map-ExprKind ExprKind Part Expr Path (Option Ty) (Ty → Option Ty) (Option Ty) (Option Ty)
      (fold-ExprKind (Option Ty) (Ty → Option Ty) (Option Ty) (Option Ty) (kind_type site) (part_type site) expr_type (path_type site)) (type_of_part site)
      (type_of site) (type_of_path site) layer)

  by_kind : (place : Place) (layer : Layer) → (nameless_by layer ≡ true → typed_by site layer ≡ typed_by other layer) → P (expr place layer)
  by_kind place layer same is =
      kind_at site place (roll-ExprKind layer) layer (out-roll-ExprKind layer)
      ∙ same (sym (nameless_is place layer) ∙ is)
      ∙ sym (kind_at other place (roll-ExprKind layer) layer (out-roll-ExprKind layer))

  same_cases : Cases P Q
  same_cases = record {
    literal = λ place n s. by_kind place (ExprKind-F.Literal n s) (λ is. refl);
    read = λ place path leads. by_kind place (ExprKind-F.Read path) (λ is. absurd (cc));
    prev = λ place k. by_kind place (ExprKind-F.Prev k) (λ is. absurd (cc));
    one = λ place op a same. by_kind place (ExprKind-F.One op a) (λ is. ap (λ found. option_and_then (one_type op) (option_and_then scalar_in found))
        (same is));
    two = λ place op a b same more. by_kind place (ExprKind-F.Two op a b)
        (λ is.
        ap (λ found. option_and_then (λ s. option_and_then (two_type op s) (option_and_then scalar_in (type_of site b))) (option_and_then scalar_in found))
        (same (and_first (is_nameless a) (is_nameless b) is))
        ∙ ap (λ found. option_and_then (λ s. option_and_then (two_type op s) (option_and_then scalar_in found))
        (option_and_then scalar_in (type_of other a)))
        (more (and_second (is_nameless a) (is_nameless b) is)));
    cast = λ place target a same. by_kind place (ExprKind-F.Cast target a)
        (λ is. ap (λ found. option_and_then (cast_type target) (option_and_then scalar_in found)) (same is));
    call = λ place f inputs each. by_kind place (ExprKind-F.Call f inputs) (λ is. absurd (cc));
    path = λ place root parts ty each. tt;
  }

  same_everywhere : (e : Expr) → is_nameless e ≡ true → type_of site e ≡ type_of other e
  same_everywhere = induct P Q same_cases

-- ---- the number of a constant

-- a unit with nothing in it
abbrev empty : UnitDef
empty = record { name = []; place = record { start = 0; end = 0 }; kind = Function; vars = []; inputs = 0; outputs = 0; result = None; body = [] }

number_of_type : (s : ScalarType) (found : Option Operand) (a : Operand) → IfSome found (OperandFits s) → found ≡ Some a → in_range s a.n ≡ true
number_of_type s None a fit is = absurd (cc)
number_of_type s (Some b) a fit is = subst (λ (a : Operand). in_range s a.n ≡ true) (same_Some b a is) fit.1

number_fits : (site : TypingContext) (e : Expr) (ty : Ty) (s : ScalarType) (a : Operand) → type_of site e ≡ Some ty → scalar_in ty ≡ Some s →
    is_nameless e ≡ true →
    number_in e ≡ Some a → in_range s a.n ≡ true
number_fits site e ty s a typed scalar_is nameless is =
    let there : type_of (site_of [] [] empty) e ≡ Some ty = sym (same_everywhere site (site_of [] [] empty) e nameless) ∙ typed in
    let sound : Sound [] [] empty [] = record { structs_stand = refl; vars_stand = refl; callees_fit = tt } in
    let fit : IfSome (meaning_of nowhere e no_values) (DatumFits [] ty) = expr_fits [] [] empty [] sound no_values refl refl e ty there in
    number_of_type s (number_in e) a (operand_fits [] ty s (meaning_of nowhere e no_values) scalar_is fit) is

-- ---- initial values

not_none : (found : Option Operand) → not (is_none found) ≡ true → (a : Operand) × (found ≡ Some a)
not_none None there = absurd (cc)
not_none (Some a) there = (a, refl)

module _ (site : TypingContext) where
  closed_fits : (earlier : List Failure) (form : Form) → FormFits site form → (closed_form form).failures ≡ [] →
      InitialFits site (closed_initial earlier (closed_form form)).valued
  closed_fits earlier Failing fit none = absurd fit
  closed_fits earlier (Open e) fit none =
      let made = fit int32 refl none in
      record {
        ty = scalar int32;
        it = made.it;
        is_typed = ap (λ made. type_of_form (of_settled int32 made)) made.is;
        is_made = ap (λ made. expr_of_form (of_settled int32 made)) made.is;
        fits = made.is_typed;
      }
  closed_fits earlier (Of ty e) fit none = record { ty = ty; it = e; is_typed = refl; is_made = refl; fits = fit }

  wanted_initial : (ty : Ty) (earlier : List Failure) (value : Settled) → IsMade site ty value.made →
      InitialFits site (typed_initial ty earlier value).valued
  wanted_initial ty earlier value made = record { ty = ty; it = made.it; is_typed = refl; is_made = made.is; fits = made.is_typed }

module _ (env : Environment) (site : TypingContext) (within : EnvironmentWithin env site) where
  -- an initial value in which nothing fails has a type
  pub initial_fits : (ty : Option NamedType) (e : NamedExpr) → expr_placed (known_in env) e ≡ true → calls_functions env.units e ≡ true →
      (initial env ty e).failures ≡ [] → InitialFits site (initial env ty e).valued
  initial_fits (Some written) e placed calls none =
      let value : Settled = in_context (Some (written_type env.constants written)) (judged env e) in
      wanted_initial site (written_type env.constants written) (bad_lengths env.constants written) value
      (wanted_fits env site within e placed calls (written_type env.constants written) (second_empty (bad_lengths env.constants written) value.failures none))
  initial_fits None e placed calls none =
      let value : Judged = judged env e in
      closed_fits site value.failures value.form (expressions_fit env site within e placed calls
      (first_empty value.failures (closed_form value.form).failures none)) (second_empty value.failures (closed_form value.form).failures none)

  constant_by_value : (name : Place) (e : NamedExpr) (valued : Valued) → InitialFits site valued →
      (is_constant e ≡ true → MadeNameless valued.value) →
      constant_failures name e valued ≡ [] →
      ConstantStands (constant_of e valued)
  constant_by_value name e valued fit nameless none =
      let scalar_none : not_scalar name (Some fit.ty) ≡ [] = ap (not_scalar name) (sym fit.is_typed)
      ∙ first_empty (not_scalar name valued.ty) (not_constant e valued.value) none in
      let found = some_of (scalar_in fit.ty) (unless_holds (is_some (scalar_in fit.ty)) rule.Type name scalar_none) in
      let good = unless_holds (is_constant e && not (traps valued.value)) rule.Constant (out-NamedExpr e).place
      (second_empty (not_scalar name valued.ty) (not_constant e valued.value) none) in
      let constant = and_first (is_constant e) (not (traps valued.value)) good in
      let number = not_none (number_in fit.it)
      (ap (λ value. not (traps value)) (sym fit.is_made) ∙ and_second (is_constant e) (not (traps valued.value)) good) in
      let value : number_or_zero (folded e valued.value) ≡ number.0.n =
      ap (λ (holds : Bool). number_or_zero (if holds then option_and_then number_in valued.value else None)) constant
      ∙ ap (λ made. number_or_zero (option_and_then number_in made)) fit.is_made
      ∙ ap number_or_zero number.1 in
      record {
        ty = found.0;
        is_typed = ap (option_and_then scalar_in) fit.is_typed ∙ found.1;
        is_number = ap (in_range found.0) value
            ∙ number_fits site fit.it fit.ty found.0 number.0 fit.fits found.1 (subst MadeNameless fit.is_made (nameless constant)) number.1;
      }

  -- a constant in which nothing fails has a scalar type, and its number is one of it
  pub constant_fits : (constant : NamedConstant) → expr_placed (known_in env) constant.value ≡ true →
      calls_functions env.units constant.value ≡ true →
      (after_constant constant env).failures ≡ [] →
      ConstantStands (constant_of constant.value (initial env constant.ty constant.value).valued)
  constant_fits constant placed calls none =
      let value : Initial = initial env constant.ty constant.value in
      constant_by_value constant.name.place constant.value value.valued
      (initial_fits constant.ty constant.value placed calls (first_empty value.failures
      (constant_failures constant.name.place constant.value value.valued) none))
      (initial_nameless env constant.ty constant.value)
      (second_empty value.failures (constant_failures constant.name.place constant.value value.valued) none)
