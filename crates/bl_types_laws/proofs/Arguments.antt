-- Conditions, and the arguments of calls and runs.
use Rattle.std.proofs.Common.{◌≡◌, ℕ, ◌+◌, List, [], ◌∷◌, ◌++◌, map, length, drop, Option, Some, None, refl, ap, sym, subst, ◌∙◌, arith}
use Rattle.std.specs.Prelude.{if◌then◌else◌, false, All, Bool, true, ◌&&◌, nat_eq, slice_get}
use Rattle.std.specs.List.{list_all}
use Rattle.std.proofs.lemmas.Bool.{eqb-true}
use Rattle.std.proofs.lemmas.List.{length-drop, length-take-le}
use Rattle.std.proofs.lemmas.List.Elements.{All-cons, All-nil}
use Rattle.bl_tree.specs.declared.place.Place.{Place}
use Rattle.bl_tree.specs.declared.scalar.Scalar.TheVariants.{Bool as OfBool}
use Rattle.bl_tree.specs.declared.tree.Expr.{Expr}
use Rattle.std.proofs.lemmas.Option.{same_Some}
use Rattle.std.proofs.lemmas.Bool.{and_from}
use Rattle.bl_tree.proofs.Basics.{and_first, and_second, first_empty, second_empty}
use Rattle.bl_tree.specs.declared.rule.Rule.TheVariants as rule
use Rattle.bl_tree.specs.declared.tree.Path.{Path}
use Rattle.bl_tree.specs.declared.tree.StmtKind.{StmtKind}
use Rattle.bl_tree.specs.declared.tree.Unit.{Unit as UnitDef}
use Rattle.bl_tree.specs.Reduce.{all_of}
use Rattle.bl_tree.specs.Types.{scalar}
use Rattle.bl_tree.specs.Typing.{TypingContext, arguments_fit, inputs_of, is_outlet, is_truth, outputs_of, type_of, type_of_path, types_match}
use Rattle.bl_eval.proofs.OperatorFits.{scalar_alone}
use Rattle.bl_eval.proofs.PassLemmas.{all_at}
use Rattle.bl_names_tree.specs.declared.expr.NamedExpr.{NamedExpr}
use Rattle.bl_names_tree.specs.declared.stmt.NamedPath.{NamedPath}
use Rattle.bl_names_tree.specs.Placed.{expr_placed, path_placed}
use Rattle.bl_types.specs.declared.environment.Environment.{Environment}
use Rattle.bl_types.specs.Expressions.{all_failures, all_made, fitted, judged, miscounted, params_of}
use Rattle.bl_types.specs.Settled.{Settled}
use Rattle.bl_types.specs.Statements.{Arguments, Lent, all_lent, arguments, arguments_from, condition, outputs_wanted, paths_failures, paths_made}
use Rattle.bl_types_laws.specs.Fitting.{IsMade}
use Rattle.bl_types_laws.specs.Within.{EnvironmentWithin, calls_functions, has_parameters, known_in}
use Rattle.bl_types_laws.proofs.Expressions.{JudgedFits, expressions_fit, arguments_fit as inputs_fit, wanted_fits}
use Rattle.bl_types_laws.proofs.Forms.{unless_holds}
use Rattle.bl_types_laws.proofs.Paths.{all_lent_fit}
use Rattle.bl_types.proofs.CallLemmas.{all_lent-length}
use Rattle.bl_types.proofs.JudgedLemmas.{fitted-length}

-- an expression of type bool is a truth
pub truth_is : (site : TypingContext) (e : Expr) → type_of site e ≡ Some (scalar OfBool) → is_truth (type_of site e) ≡ true
truth_is site e typed = ap is_truth typed ∙ bool_is
  where
    bool_is : is_truth (Some (scalar OfBool)) ≡ true
    bool_is = rw (scalar_alone OfBool) refl

inputs_length : (unit : UnitDef) → has_parameters unit ≡ true → length (inputs_of unit) ≡ unit.inputs
inputs_length unit has = length-take-le unit.inputs unit.vars (grind (arith, has))

outputs_length : (unit : UnitDef) → has_parameters unit ≡ true → length (outputs_of unit) ≡ unit.outputs
outputs_length unit has =
    let dropped : length (drop unit.inputs unit.vars) + unit.inputs ≡ length unit.vars = grind (arith, has, length-drop unit.inputs unit.vars) in
    length-take-le unit.outputs (drop unit.inputs unit.vars) (grind (arith, has, dropped))

-- what is complete is what is made of it
pub complete_if : (holds : Bool) (make : List Expr → List Path → StmtKind) (inputs : List Expr) (outputs : List Path) (a : StmtKind) →
    (if holds then Some (make inputs outputs) else None) ≡ Some a → make inputs outputs ≡ a
complete_if true make inputs outputs a is = same_Some (make inputs outputs) a is
complete_if false make inputs outputs a is = absurd (cc)

-- arguments that fit are those that are made
pub record Complete (site : TypingContext) (arguments : Arguments) (callee : UnitDef) : Type 0 where
  pub fit : arguments_fit site arguments.inputs arguments.outputs callee ≡ true

module _ (env : Environment) (site : TypingContext) (within : EnvironmentWithin env site) where
  pub condition_fits : (e : NamedExpr) → expr_placed (known_in env) e ≡ true → calls_functions env.units e ≡ true →
      (condition env e).failures ≡ [] →
      IsMade site (scalar OfBool) (condition env e).made
  condition_fits e placed calls = wanted_fits env site within e placed calls (scalar OfBool)

  each_judged : (inputs : List NamedExpr) → list_all (expr_placed (known_in env)) inputs ≡ true → list_all (calls_functions env.units) inputs ≡ true →
      All (JudgedFits site) (map (judged env) inputs)
  each_judged [] placed calls = All-nil (JudgedFits site)
  each_judged (e ∷ rest) placed calls =
      All-cons (JudgedFits site) (judged env e) (map (judged env) rest)
      (expressions_fit env site within e (and_first (expr_placed (known_in env) e) (list_all (expr_placed (known_in env)) rest) placed)
      (and_first (calls_functions env.units e) (list_all (calls_functions env.units) rest) calls))
      (each_judged rest (and_second (expr_placed (known_in env) e) (list_all (expr_placed (known_in env)) rest) placed)
      (and_second (calls_functions env.units e) (list_all (calls_functions env.units) rest) calls))

  arguments_by : (at : Place) (inputs : List NamedExpr) (outputs : List NamedPath) (unit : UnitDef) → has_parameters unit ≡ true →
      list_all (expr_placed (known_in env)) inputs ≡ true → list_all (path_placed (known_in env)) outputs ≡ true →
      list_all (calls_functions env.units) inputs ≡ true → (arguments_from at (fitted (map (judged env) inputs) (inputs_of unit))
      (all_lent env outputs (outputs_of unit)) (Some unit)).failures ≡ [] →
      arguments_fit site (all_made (fitted (map (judged env) inputs) (inputs_of unit))) (paths_made (all_lent env outputs (outputs_of unit))) unit ≡ true
  arguments_by at inputs outputs unit has placed paths calls none =
      let given : List Settled = fitted (map (judged env) inputs) (inputs_of unit) in
      let taken : List Lent = all_lent env outputs (outputs_of unit) in
      let counts : Bool = nat_eq (length given) unit.inputs && nat_eq (length taken) unit.outputs in
      let behind : paths_failures taken ++ miscounted at (length given) (length taken) unit ≡ [] =
      second_empty (all_failures given) (paths_failures taken ++ miscounted at (length given) (length taken) unit) none in
      let counted : counts ≡ true = unless_holds counts rule.Arity at (second_empty (paths_failures taken) (miscounted at (length given) (length taken) unit)
      behind) in
      let in_count : length given ≡ unit.inputs = eqb-true (length given) unit.inputs
      (and_first (nat_eq (length given) unit.inputs) (nat_eq (length taken) unit.outputs) counted) in
      let out_count : length taken ≡ unit.outputs = eqb-true (length taken) unit.outputs
      (and_second (nat_eq (length given) unit.inputs) (nat_eq (length taken) unit.outputs) counted) in
      let fit = inputs_fit site (map (judged env) inputs) (inputs_of unit) (each_judged inputs placed calls)
      (sym (fitted-length (map (judged env) inputs) (inputs_of unit)) ∙ in_count ∙ sym (inputs_length unit has))
      (first_empty (all_failures given) (paths_failures taken ++ miscounted at (length given) (length taken) unit) none) in
      let lent = all_lent_fit env site within outputs (outputs_of unit) paths
      (sym (all_lent-length env outputs (outputs_of unit)) ∙ out_count ∙ sym (outputs_length unit has))
      (first_empty (paths_failures taken) (miscounted at (length given) (length taken) unit) behind) in
      and_from (types_match (map (type_of site) (all_made given)) (inputs_of unit)) _ fit.match
      (and_from (types_match (map (type_of_path site) (paths_made taken)) (outputs_of unit)) (all_of (map (is_outlet site) (paths_made taken))) lent.match
      lent.outlets)

  -- the arguments for a unit that is known fit, where nothing fails in them
  pub arguments_good : (at : Place) (f : ℕ) (inputs : List NamedExpr) (outputs : List NamedPath) (unit : UnitDef) → slice_get env.units f ≡ Some unit →
      list_all (expr_placed (known_in env)) inputs ≡ true →
      list_all (path_placed (known_in env)) outputs ≡ true → list_all (calls_functions env.units) inputs ≡ true →
      (arguments env at f inputs outputs).failures ≡ [] → Complete site (arguments env at f inputs outputs) unit
  arguments_good at f inputs outputs unit there placed paths calls none =
      let is : arguments env at f inputs outputs ≡ arguments_from at (fitted (map (judged env) inputs) (inputs_of unit))
      (all_lent env outputs (outputs_of unit)) (Some unit) =
      ap (λ (callee : Option UnitDef). arguments_from at (fitted (map (judged env) inputs) (params_of callee)) (all_lent env outputs (outputs_wanted callee))
      callee) there in
      let has : has_parameters unit ≡ true = all_at has_parameters site.earlier f unit within.heads
      (ap (λ units. slice_get units f) (sym within.units) ∙ there)
      in
      subst (λ (arguments : Arguments). Complete site arguments unit) (sym is)
      (record { fit = arguments_by at inputs outputs unit has placed paths calls (ap (λ (arguments : Arguments). arguments.failures) (sym is) ∙ none) })
