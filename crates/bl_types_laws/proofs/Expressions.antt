-- What is made of an expression fits, and where a target leads.
use Rattle.std.proofs.Common.{◌≡◌, ℕ, ℤ, zero, suc, List, [], ◌∷◌, map, length, nat_lt, Option, Some, None, refl, ap, sym, subst, ◌∙◌, arith}
use Rattle.std.specs.Prelude.{All, Bool, true, false, ◌&&◌, nat_eq, is_some, option_and_then, option_map, slice_get, if◌then◌else◌}
use Rattle.std.specs.List.{cons_option}
use Rattle.std.proofs.lemmas.Bool.{eq-eqb, eqb-true, ltb-true}
use Rattle.std.proofs.lemmas.List.{length-take-le}
use Rattle.std.proofs.lemmas.List.Elements.{All-cons, All-head, All-nil, All-tail}
use Rattle.std.proofs.lemmas.Bool.{and_from}
use Rattle.bl_tree.proofs.Basics.{and_first, and_second, first_empty, second_empty}
use Rattle.bl_tree.specs.declared.place.Place.{Place}
use Rattle.bl_tree.specs.declared.rule.Rule.TheVariants as rule
use Rattle.bl_tree.specs.declared.scalar.Op.{Op}
use Rattle.bl_tree.specs.declared.scalar.Scalar.{Scalar as ScalarType}
use Rattle.bl_tree.specs.declared.scalar.Scalar.TheVariants.{Bool as OfBool}
use Rattle.bl_tree.specs.declared.tree.Expr.{Expr}
use Rattle.bl_tree.specs.declared.tree.Ty.{Ty}
use Rattle.bl_tree.specs.declared.tree.Unit.{Unit as UnitDef}
use Rattle.bl_tree.specs.declared.tree.Var.{Var}
use Rattle.bl_tree.specs.Numbers.{number_of}
use Rattle.bl_tree.specs.Reduce.{all_of}
use Rattle.bl_tree.specs.Scalar.{in_range}
use Rattle.bl_tree.specs.Types.{same_type, scalar, scalar_in}
use Rattle.bl_tree.specs.Typing.{TypingContext, call_type, inputs_of, is_function, literal_type, prev_type, types_match, type_of, var_at, where_same, after_parts}
use Rattle.bl_eval.proofs.OperatorFits.{scalar_alone}
use Rattle.bl_eval.proofs.PartFits.{type_of_part}
use Rattle.bl_eval.proofs.PassLemmas.{all_at}
use Rattle.bl_names_tree.specs.declared.expr.NamedExpr.{NamedExpr, fold-roll-NamedExpr}
use Rattle.bl_names_tree.specs.declared.expr.NamedExprKind.{NamedExprKind, fold-NamedExprKind, fold-roll-NamedExprKind, map-NamedExprKind}
use Rattle.bl_names_tree.specs.declared.expr.NamedExprKind.TheOpen.{NamedExprKind-F, NamedPart-F}
use Rattle.bl_names_tree.specs.declared.expr.NamedPart.{NamedPart, fold-NamedPart, fold_out-NamedPart, map-NamedPart, out-NamedPart}
use Rattle.bl_names_tree.specs.declared.expr.NamedTarget.{NamedTarget, fold-roll-NamedTarget, roll-NamedTarget}
use Rattle.bl_names_tree.specs.declared.expr.Root.{Root}
use Rattle.bl_names_tree.specs.declared.expr.Root.TheVariants as root
use Rattle.bl_names_tree.specs.Placed.{expr_layer_placed, expr_placed, holds_of, kind_placed, part_placed, root_placed, target_layer_placed, target_placed}
use Rattle.bl_names_tree.specs.inner.Placed.{step_placed}
use Rattle.bl_types.specs.declared.environment.Environment.{Environment}
use Rattle.bl_types.specs.Expressions.{Formed, Judged, Led, Stepped, Targeted, all_failures, all_made, call, call_form, call_formed, constant_found, fitted}
use Rattle.bl_types.specs.Expressions.{in_context, judged, judged_kind, judged_layer, judged_part, judged_target, misnamed, params_of, path_found}
use Rattle.bl_types.specs.Expressions.{previous_fits, previous_formed, previous_typed, step_of, stepped, targeted, targeted_from, type_of_constant}
use Rattle.bl_types.specs.Expressions.{type_of_variable, value_of_constant, written_number}
use Rattle.bl_types.specs.Failures.{unless}
use Rattle.bl_types.specs.Settled.{Settled, int32}
use Rattle.bl_types_laws.specs.Fitting.{FormFits, FoundFits, IsMade, SettledFits}
use Rattle.bl_types_laws.specs.Within.{EnvironmentWithin, calls_functions, expr_layer_calls, has_parameters, kind_calls, known_in, part_calls, target_calls}
use Rattle.bl_types_laws.specs.Within.{target_layer_calls}
use Rattle.bl_types_laws.proofs.Forms.{FormedFits, cast_fits, in_context_fits, literal_open, one_fits, reading_fits, same_type_self}
use Rattle.bl_types_laws.proofs.Forms.{two_fits, unless_holds}
use Rattle.bl_types_laws.proofs.NamedExprInduction.{Cases, EachIndex, OfIndex, expr, induct, induct_target}
use Rattle.bl_types_laws.proofs.Targets.{LedFits, StepFits, field_fits, first_leads, index_fits, no_element, no_field, none_lead}
use Rattle.bl_types_laws.proofs.Typed.{call_is, literal_is, path_is, previous_is}
use Rattle.bl_types.proofs.JudgedLemmas.{fitted-length}

-- a position below the length is that of an element
pub there_at : {X : Type 0} (xs : List X) (k : ℕ) → nat_lt k (length xs) ≡ true → (x : X) × (slice_get xs k ≡ Some x)
there_at [] k less = absurd (let below = ltb-true k 0 less in omega arith)
there_at (x ∷ xs) zero less = (x, refl)
there_at (x ∷ xs) (suc k) less = there_at xs k (let below = ltb-true (suc k) (suc (length xs)) less in grind arith)

-- ---- calls

-- a judged expression that fits, where nothing fails
abbrev pub JudgedFits : TypingContext → Judged → Type 0
JudgedFits site judged = judged.failures ≡ [] → FormFits site judged.form

-- arguments are made, one for each parameter, and have the types of the parameters
pub record ArgumentsFit (site : TypingContext) (params : List Var) (arguments : List Settled) : Type 0 where
  pub count : length (all_made arguments) ≡ length arguments
  pub match : types_match (map (type_of site) (all_made arguments)) params ≡ true

made_first : (site : TypingContext) (var : Var) (vars : List Var) (first : Settled) (rest : List Settled) → IsMade site var.ty first.made →
    ArgumentsFit site vars rest →
    ArgumentsFit site (var ∷ vars) (first ∷ rest)
made_first site var vars first rest made more = record {
  count = ap (λ made. length (cons_option made (all_made rest))) made.is ∙ ap suc more.count;
  match =
      ap (λ made. types_match (map (type_of site) (cons_option made (all_made rest))) (var ∷ vars)) made.is
      ∙ ap (λ typed. types_match (typed ∷ map (type_of site) (all_made rest)) (var ∷ vars)) made.is_typed
      ∙ and_from (same_type var.ty var.ty) (types_match (map (type_of site) (all_made rest)) vars) (same_type_self var.ty) more.match;
}

pub arguments_fit : (site : TypingContext) (arguments : List Judged) (params : List Var) → All (JudgedFits site) arguments → length arguments ≡ length params →
    all_failures (fitted arguments params) ≡ [] →
    ArgumentsFit site params (fitted arguments params)
arguments_fit site [] [] each same none = record { count = refl; match = refl }
arguments_fit site [] (var ∷ vars) each same none = absurd (omega arith)
arguments_fit site (argument ∷ rest) [] each same none = absurd (omega arith)
arguments_fit site (argument ∷ rest) (var ∷ vars) each same none =
    let first : Settled = in_context (Some var.ty) argument in
    made_first site var vars first (fitted rest vars)
    (in_context_fits site var.ty argument (All-head (JudgedFits site) argument rest each) (first_empty first.failures (all_failures (fitted rest vars)) none))
    (arguments_fit site rest vars (All-tail (JudgedFits site) argument rest each) (omega arith)
    (second_empty first.failures (all_failures (fitted rest vars)) none))

pub some_of : {X : Type 0} (o : Option X) → is_some o ≡ true → (x : X) × (o ≡ Some x)
some_of None is = absurd (cc)
some_of (Some x) is = (x, refl)

call_by : (site : TypingContext) (at : Place) (f : ℕ) (inputs : List Expr) (unit : UnitDef) (s : ScalarType) → slice_get site.earlier f ≡ Some unit →
    is_function unit.kind ≡ true → nat_eq unit.outputs 0 ≡ true →
    types_match (map (type_of site) inputs) (inputs_of unit) ≡ true → unit.result ≡ Some s → type_of site (call at f inputs) ≡ Some (scalar s)
call_by site at f inputs unit s there function none match result =
    call_is site at f inputs
    ∙ ap (option_and_then (call_type (map (type_of site) inputs))) there
    ∙ ap (λ holds. if holds then option_map scalar unit.result else None)
    (and_from (is_function unit.kind) _ function (and_from (nat_eq unit.outputs 0) (types_match (map (type_of site) inputs) (inputs_of unit)) none match))
    ∙ ap (option_map scalar) result

form_by : (site : TypingContext) (at : Place) (f : ℕ) (inputs : List Expr) (all : Bool) (result : Option ScalarType) (s : ScalarType) →
    all ≡ true → result ≡ Some s →
    type_of site (call at f inputs) ≡ Some (scalar s) → FormFits site (call_form at f inputs all result)
form_by site at f inputs all result s is are typed =
    subst (λ all. FormFits site (call_form at f inputs all result)) (sym is)
    (subst (λ result. FormFits site (call_form at f inputs true result)) (sym are) typed)

call_fits : (site : TypingContext) (at name : Place) (f : ℕ) (arguments : List Judged) (unit : UnitDef) → slice_get site.earlier f ≡ Some unit →
    is_function unit.kind ≡ true → has_parameters unit ≡ true →
    All (JudgedFits site) arguments → FormedFits site (call_formed at name f (fitted arguments (inputs_of unit)) (Some unit))
call_fits site at name f arguments unit there function has each none =
    let given : List Settled = fitted arguments (inputs_of unit) in
    let counts : Bool = nat_eq (length given) unit.inputs && nat_eq 0 unit.outputs in
    let named : misnamed name (length given) (Some unit) ≡ [] = second_empty (all_failures given) (misnamed name (length given) (Some unit)) none in
    let counted : counts ≡ true = unless_holds counts rule.Arity name
    (first_empty (unless counts rule.Arity name) (unless (is_some unit.result) rule.Return name)
    named) in
    let result = some_of unit.result (unless_holds (is_some unit.result) rule.Return name
    (second_empty (unless counts rule.Arity name) (unless (is_some unit.result) rule.Return name) named)) in
    let inputs : length given ≡ unit.inputs = eqb-true (length given) unit.inputs
    (and_first (nat_eq (length given) unit.inputs) (nat_eq 0 unit.outputs) counted)
    in
    let outputs : 0 ≡ unit.outputs = eqb-true 0 unit.outputs (and_second (nat_eq (length given) unit.inputs) (nat_eq 0 unit.outputs) counted) in
    let fit = arguments_fit site arguments (inputs_of unit) each (sym (fitted-length arguments (inputs_of unit)) ∙ inputs ∙ sym (inputs_length unit has))
    (first_empty (all_failures given) (misnamed name (length given) (Some unit)) none) in
    form_by site at f (all_made given) (nat_eq (length (all_made given)) (length given)) unit.result result.0
    (eq-eqb (length (all_made given)) (length given) fit.count) result.1
    (call_by site at f (all_made given) unit result.0 there function (eq-eqb unit.outputs 0 (sym outputs)) fit.match result.1)
  where
    inputs_length : (unit : UnitDef) → has_parameters unit ≡ true → length (inputs_of unit) ≡ unit.inputs
    inputs_length unit has = length-take-le unit.inputs unit.vars (grind (arith, has))

-- ---- variables

previous_at : (site : TypingContext) (at : Place) (k : ℕ) (var : Var) → var_at site k ≡ Some var →
    FormedFits site (previous_typed site.kind at k var.role (Some var.ty))
previous_at site at k var there none =
    previous_is site at k
    ∙ ap (option_and_then (prev_type site.kind)) there
    ∙ ap (λ holds. if holds then Some var.ty else None) (unless_holds (previous_fits site.kind var.role var.ty) rule.Prev at none)

truth_in : (b : Bool) → in_range OfBool (number_of b) ≡ true
truth_in true = refl
truth_in false = refl

module _ (env : Environment) (site : TypingContext) (within : EnvironmentWithin env site) where
  abbrev Fit : Bool → Bool → Judged → Type 0
  Fit placed calls judged = placed ≡ true → calls ≡ true → JudgedFits site judged

  abbrev P : NamedExpr → Type 0
  P e = Fit (expr_placed (known_in env) e) (calls_functions env.units e) (judged env e)

  abbrev FitTarget : Bool → Bool → Targeted → Type 0
  FitTarget placed calls targeted = placed ≡ true → calls ≡ true → targeted.failures ≡ [] → FoundFits site targeted.found

  abbrev Q : NamedTarget → Type 0
  Q target = FitTarget (target_placed (known_in env) target) (target_calls env.units target) (targeted env target)

  -- ---- by the kind of an expression

  abbrev Layer : Type 0
  Layer = NamedExprKind-F NamedExprKind NamedPart NamedExpr NamedTarget

  abbrev placed_layer : Layer → Bool
  placed_layer layer = kind_placed (known_in env)
      (map-NamedExprKind NamedExprKind NamedPart NamedExpr NamedTarget Bool Bool Bool Bool
      (fold-NamedExprKind Bool Bool Bool Bool (kind_placed (known_in env)) part_placed expr_layer_placed (target_layer_placed (known_in env)))
      (step_placed (known_in env)) (expr_placed (known_in env)) (target_placed (known_in env)) layer)

  abbrev calls_layer : Layer → Bool
  calls_layer layer = kind_calls env.units
      (map-NamedExprKind NamedExprKind NamedPart NamedExpr NamedTarget Bool Bool Bool Bool
      (fold-NamedExprKind Bool Bool Bool Bool (kind_calls env.units) part_calls expr_layer_calls target_layer_calls)
      (fold-NamedPart Bool Bool Bool Bool (kind_calls env.units) part_calls expr_layer_calls target_layer_calls) (calls_functions env.units)
      (target_calls env.units) layer)

  abbrev formed_layer : Layer → Place → Formed
  formed_layer layer = judged_kind env
      (map-NamedExprKind NamedExprKind NamedPart NamedExpr NamedTarget (Place → Formed) (Option Ty → Stepped) Judged Targeted
      (fold-NamedExprKind (Place → Formed) (Option Ty → Stepped) Judged Targeted (judged_kind env) (judged_part env) judged_layer (judged_target env))
      (step_of env) (judged env) (targeted env) layer)

  placed_is : (place : Place) (layer : Layer) → expr_placed (known_in env) (expr place layer) ≡ placed_layer layer
  placed_is place layer = rw (fold-roll-NamedExpr, fold-roll-NamedExprKind) refl

  calls_is : (place : Place) (layer : Layer) → calls_functions env.units (expr place layer) ≡ calls_layer layer
  calls_is place layer = rw (fold-roll-NamedExpr, fold-roll-NamedExprKind) refl

  judged_is : (place : Place) (layer : Layer) → judged env (expr place layer) ≡ judged_layer (record { place = place; what = formed_layer layer })
  judged_is place layer = rw (fold-roll-NamedExpr, fold-roll-NamedExprKind) refl

  by_kind : (place : Place) (layer : Layer) → (placed_layer layer ≡ true → calls_layer layer ≡ true → FormedFits site (formed_layer layer place)) →
      P (expr place layer)
  by_kind place layer fit placed calls none =
      subst (λ (judged : Judged). FormFits site judged.form) (sym (judged_is place layer))
      (fit (sym (placed_is place layer) ∙ placed) (sym (calls_is place layer) ∙ calls)
      (ap (λ (judged : Judged). judged.failures) (sym (judged_is place layer)) ∙ none))

  number_case : (place : Place) (minus : Bool) (n : ℕ) → P (expr place (NamedExprKind-F.Number minus n))
  number_case place minus n = by_kind place (NamedExprKind-F.Number minus n) (λ placed calls none. literal_open site place (written_number minus n) int32)

  truth_case : (place : Place) (b : Bool) → P (expr place (NamedExprKind-F.Truth b))
  truth_case place b = by_kind place (NamedExprKind-F.Truth b) (λ placed calls none. literal_is site place (number_of b) OfBool
      ∙ ap (literal_type OfBool) (truth_in b))

  read_case : (place : Place) (target : NamedTarget) → Q target → P (expr place (NamedExprKind-F.Read target))
  read_case place target fit = by_kind place (NamedExprKind-F.Read target)
      (λ placed calls none. reading_fits site place (targeted env target).found (fit placed calls none))

  previous_case : (place : Place) (k : ℕ) → P (expr place (NamedExprKind-F.Prev k))
  previous_case place k = by_kind place (NamedExprKind-F.Prev k)
      (λ placed calls none.
      let known = there_at env.vars k placed in
      let there = within.vars k known.0 known.1 in
      let is : previous_formed env.kind place k (slice_get env.vars k) ≡ previous_typed site.kind place k there.var.role (Some there.var.ty) =
      ap (previous_formed env.kind place k) known.1
      ∙ ap (λ kind. previous_typed kind place k known.0.role known.0.ty) within.kind
      ∙ ap (λ role. previous_typed site.kind place k role known.0.ty) there.role
      ∙ ap (previous_typed site.kind place k there.var.role) there.ty in
      subst (λ (formed : Formed). FormFits site formed.form) (sym is) (previous_at site place k there.var there.is_there
      (ap (λ (formed : Formed). formed.failures) (sym is) ∙ none)))

  one_case : (place : Place) (op : Op) (a : NamedExpr) → P a → P (expr place (NamedExprKind-F.One op a))
  one_case place op a fit = by_kind place (NamedExprKind-F.One op a)
      (λ placed calls none.
      let first : Judged = judged env a in
      one_fits site place op first.form (fit placed calls (first_empty first.failures _ none)) (second_empty first.failures _ none))

  two_case : (place : Place) (op : Op) (a b : NamedExpr) → P a → P b → P (expr place (NamedExprKind-F.Two op a b))
  two_case place op a b fit other = by_kind place (NamedExprKind-F.Two op a b)
      (λ placed calls none.
      let first : Judged = judged env a in
      let second : Judged = judged env b in
      let behind = second_empty first.failures _ none in
      two_fits site place op first.form second.form
      (fit (and_first (expr_placed (known_in env) a) (expr_placed (known_in env) b) placed)
      (and_first (calls_functions env.units a) (calls_functions env.units b) calls) (first_empty first.failures _ none))
      (other (and_second (expr_placed (known_in env) a) (expr_placed (known_in env) b) placed)
      (and_second (calls_functions env.units a) (calls_functions env.units b) calls) (first_empty second.failures _ behind))
      (second_empty second.failures _ behind))

  cast_case : (place : Place) (target : ScalarType) (a : NamedExpr) → P a → P (expr place (NamedExprKind-F.Cast target a))
  cast_case place target a fit = by_kind place (NamedExprKind-F.Cast target a)
      (λ placed calls none.
      let first : Judged = judged env a in
      cast_fits site place target first.form (fit placed calls (first_empty first.failures _ none)) (second_empty first.failures _ none))

  each_judged : (inputs : List NamedExpr) → All P inputs → all_of (map (expr_placed (known_in env)) inputs) ≡ true →
      all_of (map (calls_functions env.units) inputs) ≡ true → All (JudgedFits site) (map (judged env) inputs)
  each_judged [] each placed calls = All-nil (JudgedFits site)
  each_judged (e ∷ rest) each placed calls =
      All-cons (JudgedFits site) (judged env e) (map (judged env) rest)
      (All-head P e rest each (and_first (expr_placed (known_in env) e) (all_of (map (expr_placed (known_in env)) rest)) placed)
      (and_first (calls_functions env.units e) (all_of (map (calls_functions env.units) rest)) calls))
      (each_judged rest (All-tail P e rest each) (and_second (expr_placed (known_in env) e) (all_of (map (expr_placed (known_in env)) rest)) placed)
      (and_second (calls_functions env.units e) (all_of (map (calls_functions env.units) rest)) calls))

  function_at : (f : ℕ) (unit : UnitDef) → slice_get env.units f ≡ Some unit →
      holds_of (λ (unit : UnitDef). is_function unit.kind) (slice_get env.units f) ≡ true → is_function unit.kind ≡ true
  function_at f unit there holds = ap (holds_of (λ (unit : UnitDef). is_function unit.kind)) (sym there) ∙ holds

  call_case : (place name : Place) (f : ℕ) (inputs : List NamedExpr) → All P inputs → P (expr place (NamedExprKind-F.Call name f inputs))
  call_case place name f inputs each = by_kind place (NamedExprKind-F.Call name f inputs)
      (λ placed calls none.
      let known = there_at env.units f (and_first (nat_lt f (length env.units)) (all_of (map (expr_placed (known_in env)) inputs)) placed) in
      let unit : UnitDef = known.0 in
      let there : slice_get site.earlier f ≡ Some unit = ap (λ units. slice_get units f) (sym within.units) ∙ known.1 in
      let is : call_formed place name f (fitted (map (judged env) inputs) (params_of (slice_get env.units f))) (slice_get env.units f)
      ≡ call_formed place name f (fitted (map (judged env) inputs) (inputs_of unit)) (Some unit) =
      ap (λ (unit : Option UnitDef). call_formed place name f (fitted (map (judged env) inputs) (params_of unit)) unit) known.1 in
      subst (λ (formed : Formed). FormFits site formed.form) (sym is)
      (call_fits site place name f (map (judged env) inputs) unit there
      (function_at f unit known.1 (and_first (holds_of (λ (unit : UnitDef). is_function unit.kind) (slice_get env.units f))
      (all_of (map (calls_functions env.units) inputs)) calls))
      (all_at has_parameters site.earlier f unit within.heads there)
      (each_judged inputs each (and_second (nat_lt f (length env.units)) (all_of (map (expr_placed (known_in env)) inputs)) placed)
      (and_second (holds_of (λ (unit : UnitDef). is_function unit.kind) (slice_get env.units f)) (all_of (map (calls_functions env.units) inputs)) calls))
      (ap (λ (formed : Formed). formed.failures) (sym is) ∙ none)))

  -- ---- targets

  abbrev step_calls : NamedPart → Bool
  step_calls = fold-NamedPart Bool Bool Bool Bool (kind_calls env.units) part_calls expr_layer_calls target_layer_calls

  abbrev placed_part : NamedPart-F NamedExprKind NamedPart NamedExpr NamedTarget → Bool
  placed_part layer = part_placed
      (map-NamedPart NamedExprKind NamedPart NamedExpr NamedTarget Bool Bool Bool Bool
      (fold-NamedExprKind Bool Bool Bool Bool (kind_placed (known_in env)) part_placed expr_layer_placed (target_layer_placed (known_in env)))
      (step_placed (known_in env)) (expr_placed (known_in env)) (target_placed (known_in env)) layer)

  abbrev calls_part : NamedPart-F NamedExprKind NamedPart NamedExpr NamedTarget → Bool
  calls_part layer = part_calls
      (map-NamedPart NamedExprKind NamedPart NamedExpr NamedTarget Bool Bool Bool Bool
      (fold-NamedExprKind Bool Bool Bool Bool (kind_calls env.units) part_calls expr_layer_calls target_layer_calls)
      step_calls (calls_functions env.units) (target_calls env.units) layer)

  abbrev stepped_part : NamedPart-F NamedExprKind NamedPart NamedExpr NamedTarget → Option Ty → Stepped
  stepped_part layer = judged_part env
      (map-NamedPart NamedExprKind NamedPart NamedExpr NamedTarget (Place → Formed) (Option Ty → Stepped) Judged Targeted
      (fold-NamedExprKind (Place → Formed) (Option Ty → Stepped) Judged Targeted (judged_kind env) (judged_part env) judged_layer (judged_target env))
      (step_of env) (judged env) (targeted env) layer)

  placed_part_is : (part : NamedPart) → step_placed (known_in env) part ≡ placed_part (out-NamedPart part)
  placed_part_is part = fold_out-NamedPart Bool Bool Bool Bool (kind_placed (known_in env)) part_placed expr_layer_placed (target_layer_placed (known_in env))
      part

  calls_part_is : (part : NamedPart) → step_calls part ≡ calls_part (out-NamedPart part)
  calls_part_is part = fold_out-NamedPart Bool Bool Bool Bool (kind_calls env.units) part_calls expr_layer_calls target_layer_calls part

  step_is : (part : NamedPart) → step_of env part ≡ stepped_part (out-NamedPart part)
  step_is part = fold_out-NamedPart (Place → Formed) (Option Ty → Stepped) Judged Targeted (judged_kind env)
      (judged_part env) judged_layer (judged_target env)
      part

  part_fits : (layer : NamedPart-F NamedExprKind NamedPart NamedExpr NamedTarget) → OfIndex P layer → placed_part layer ≡ true →
      calls_part layer ≡ true →
      (ty : Ty) → (stepped_part layer (Some ty)).failures ≡ [] →
      StepFits site ty (stepped_part layer (Some ty))
  part_fits (NamedPart-F.Field name) fit placed calls ty = field_fits env site within name ty
  part_fits (NamedPart-F.Index index) fit placed calls ty = index_fits site (judged env index) ty (fit placed calls)

  no_part : (layer : NamedPart-F NamedExprKind NamedPart NamedExpr NamedTarget) (s : ScalarType) →
      (stepped_part layer (Some (scalar s))).failures ≡ [] → ⊥
  no_part (NamedPart-F.Field name) s none = no_field env.structs name s none
  no_part (NamedPart-F.Index index) s none = no_element (judged env index) s none

  one_part : (part : NamedPart) → OfIndex P (out-NamedPart part) → step_placed (known_in env) part ≡ true → step_calls part ≡ true → (ty : Ty) →
      (step_of env part (Some ty)).failures ≡ [] → StepFits site ty (step_of env part (Some ty))
  one_part part fit placed calls ty =
      subst (λ step. (step (Some ty)).failures ≡ [] → StepFits site ty (step (Some ty))) (sym (step_is part))
      (part_fits (out-NamedPart part) fit (sym (placed_part_is part) ∙ placed) (sym (calls_part_is part) ∙ calls) ty)

  parts_lead : (parts : List NamedPart) → EachIndex P parts → all_of (map (step_placed (known_in env)) parts) ≡ true →
      all_of (map step_calls parts) ≡ true →
      (ty : Ty) → (stepped (map (step_of env) parts) (Some ty)).failures ≡ [] →
      LedFits site ty (stepped (map (step_of env) parts) (Some ty))
  parts_lead [] each placed calls = none_lead site (step_of env)
  parts_lead (part ∷ rest) each placed calls =
      first_leads site (step_of env) part rest
      (one_part part (All-head (λ part. OfIndex P (out-NamedPart part)) part rest each)
      (and_first (step_placed (known_in env) part) (all_of (map (step_placed (known_in env)) rest)) placed)
      (and_first (step_calls part) (all_of (map step_calls rest)) calls))
      (parts_lead rest (All-tail (λ part. OfIndex P (out-NamedPart part)) part rest each)
      (and_second (step_placed (known_in env) part) (all_of (map (step_placed (known_in env)) rest)) placed)
      (and_second (step_calls part) (all_of (map step_calls rest)) calls))

  pub variable_found : (place : Place) (k : ℕ) (var : Var) (led : Led) → var_at site k ≡ Some var → LedFits site var.ty led →
      FoundFits site (path_found place k led.parts led.ty)
  variable_found place k var led there fit =
      subst (λ ty. FoundFits site (path_found place k led.parts ty)) (sym fit.is_end)
      (path_is site place k led.parts fit.end
      ∙ ap (λ found. option_and_then (where_same fit.end)
      (option_and_then (λ (var : Var). after_parts (map (type_of_part site) led.parts) var.ty) found)) there
      ∙ ap (option_and_then (where_same fit.end)) fit.leads
      ∙ ap (λ same. if same then Some fit.end else None) (same_type_self fit.end))

  no_parts : (parts : List NamedPart) (n : ℤ) (s : ScalarType) → in_range s n ≡ true →
      (stepped (map (step_of env) parts) (Some (scalar s))).failures ≡ [] →
      FoundFits site (constant_found n (option_and_then scalar_in (stepped (map (step_of env) parts) (Some (scalar s))).ty))
  no_parts [] n s number none = subst (λ s. FoundFits site (constant_found n s)) (sym (scalar_alone s)) number
  no_parts (part ∷ rest) n s number none =
      absurd (no_part (out-NamedPart part) s (ap (λ (step : Option Ty → Stepped). (step (Some (scalar s))).failures) (sym (step_is part))
      ∙ first_empty (step_of env part (Some (scalar s))).failures _ none))

  root_fits : (place : Place) (root : Root) (parts : List NamedPart) → EachIndex P parts →
      (root_placed (known_in env) root && all_of (map (step_placed (known_in env)) parts)) ≡ true → all_of (map step_calls parts) ≡ true →
      (targeted_from env place root (map (step_of env) parts)).failures ≡ [] → FoundFits site (targeted_from env place root (map (step_of env) parts)).found
  root_fits place (root.Variable k) parts each placed calls none =
      let known = there_at env.vars k (and_first (nat_lt k (length env.vars)) (all_of (map (step_placed (known_in env)) parts)) placed) in
      let there = within.vars k known.0 known.1 in
      let typed : type_of_variable (slice_get env.vars k) ≡ Some there.var.ty = ap type_of_variable known.1 ∙ there.ty in
      subst (λ ty. FoundFits site (path_found place k (stepped (map (step_of env) parts) ty).parts (stepped (map (step_of env) parts) ty).ty)) (sym typed)
      (variable_found place k there.var (stepped (map (step_of env) parts) (Some there.var.ty)) there.is_there
      (parts_lead parts each (and_second (nat_lt k (length env.vars)) (all_of (map (step_placed (known_in env)) parts)) placed) calls there.var.ty
      (ap (λ ty. (stepped (map (step_of env) parts) ty).failures) (sym typed) ∙ none)))
  root_fits place (root.Constant k) parts each placed calls none =
      let known = there_at env.constants k (and_first (nat_lt k (length env.constants)) (all_of (map (step_placed (known_in env)) parts)) placed) in
      let stands = within.constants k known.0 known.1 in
      let typed : type_of_constant (slice_get env.constants k) ≡ Some (scalar stands.ty) = ap type_of_constant known.1
      ∙ ap (option_map scalar) stands.is_typed in
      let valued : value_of_constant (slice_get env.constants k) ≡ known.0.value = ap value_of_constant known.1 in
      subst (λ n. FoundFits site (constant_found n (option_and_then scalar_in
      (stepped (map (step_of env) parts) (type_of_constant (slice_get env.constants k))).ty))) (sym valued)
      (subst (λ ty. FoundFits site (constant_found known.0.value (option_and_then scalar_in (stepped (map (step_of env) parts) ty).ty))) (sym typed)
      (no_parts parts known.0.value stands.ty stands.is_number (ap (λ ty. (stepped (map (step_of env) parts) ty).failures) (sym typed) ∙ none)))

  target_case : (place : Place) (root : Root) (parts : List NamedPart) → EachIndex P parts →
      Q (roll-NamedTarget (record { place = place; root = root; parts = parts }))
  target_case place root parts each placed calls none =
      let targeted_is : targeted env (roll-NamedTarget (record { place = place; root = root; parts = parts }))
      ≡ targeted_from env place root (map (step_of env) parts) = rw fold-roll-NamedTarget refl in
      let placed_is : target_placed (known_in env) (roll-NamedTarget (record { place = place; root = root; parts = parts }))
      ≡ (root_placed (known_in env) root && all_of (map (step_placed (known_in env)) parts)) = rw fold-roll-NamedTarget refl in
      let calls_is : target_calls env.units (roll-NamedTarget (record { place = place; root = root; parts = parts })) ≡ all_of (map step_calls parts) =
      rw fold-roll-NamedTarget refl in
      subst (λ (targeted : Targeted). FoundFits site targeted.found) (sym targeted_is)
      (root_fits place root parts each (sym placed_is ∙ placed) (sym calls_is ∙ calls)
      (ap (λ (targeted : Targeted). targeted.failures) (sym targeted_is) ∙ none))

  cases : Cases P Q
  cases = record {
    number = number_case;
    truth = truth_case;
    read = read_case;
    prev = previous_case;
    one = one_case;
    two = two_case;
    cast = cast_case;
    call = call_case;
    target = target_case;
  }

  -- an expression in which nothing fails is open or has its type
  pub expressions_fit : (e : NamedExpr) → expr_placed (known_in env) e ≡ true → calls_functions env.units e ≡ true →
      (judged env e).failures ≡ [] →
      FormFits site (judged env e).form
  expressions_fit = induct P Q cases

  -- and a target leads to what is there
  pub targets_fit : (target : NamedTarget) → target_placed (known_in env) target ≡ true → target_calls env.units target ≡ true →
      (targeted env target).failures ≡ [] → FoundFits site (targeted env target).found
  targets_fit = induct_target P Q cases

  -- where a type is wanted, an expression of the type is made
  pub wanted_fits : (e : NamedExpr) → expr_placed (known_in env) e ≡ true → calls_functions env.units e ≡ true → (ty : Ty) →
      SettledFits site ty (in_context (Some ty) (judged env e))
  wanted_fits e placed calls ty = in_context_fits site ty (judged env e) (expressions_fit e placed calls)
