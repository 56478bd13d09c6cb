-- The arguments of a call, whichever function it calls.
use Rattle.std.proofs.Common.{◌≡◌, ℕ, Bool, true, ◌&&◌, List, [], ◌∷◌, ◌++◌, map, take, Option, Some, None, refl, sym, ap}
use Rattle.std.proofs.Common.{◌∙◌, subst, IfSome}
use Rattle.std.proofs.lemmas.Option.{same_Some}
use Rattle.std.specs.Prelude.{is_some, nat_eq, option_and_then, option_map, slice_get}
use Rattle.std.specs.List.{list_all}
use Rattle.std.proofs.lemmas.Bool.{and_from}
use Rattle.bl_tree.proofs.Basics.{and_first, and_second}
use Rattle.bl_tree.specs.declared.c.CArg.{CArg}
use Rattle.bl_tree.specs.declared.place.Place.{Place}
use Rattle.bl_tree.specs.declared.scalar.Scalar.{Scalar as ScalarType}
use Rattle.bl_tree.specs.declared.static_path.Static.{Static}
use Rattle.bl_tree.specs.declared.tree.Expr.{Expr, fold-roll-Expr, out-Expr, roll-Expr, roll-out-Expr}
use Rattle.bl_tree.specs.declared.tree.ExprKind.{ExprKind, fold-roll-ExprKind, out-ExprKind, roll-out-ExprKind}
use Rattle.bl_tree.specs.declared.tree.ExprKind.TheOpen.{ExprKind-F}
use Rattle.bl_tree.specs.declared.tree.Part.{Part}
use Rattle.bl_tree.specs.declared.tree.Path.{Path, fold_out-Path, out-Path}
use Rattle.bl_tree.specs.declared.tree.StructDef.{StructDef}
use Rattle.bl_tree.specs.declared.tree.Ty.{Ty}
use Rattle.bl_tree.specs.declared.tree.Unit.{Unit as UnitDef}
use Rattle.bl_tree.specs.declared.tree.Var.{Var}
use Rattle.bl_tree.specs.declared.value.Value.{Value}
use Rattle.bl_tree.specs.Numbers.{takes_one, takes_two, type_of_result}
use Rattle.bl_tree.specs.Program.{IsWellTyped}
use Rattle.bl_tree.specs.Reduce.{all_of}
use Rattle.bl_tree.specs.Scalar.{in_range, is_whole}
use Rattle.bl_tree.specs.Types.{same_scalar, same_type, scalar, scalar_in}
use Rattle.bl_tree.specs.Typing.{TypingContext, call_type, cast_type, inputs_of, is_activity, is_function, is_variable, one_type, prev_type, site_of, two_type, type_of}
use Rattle.bl_tree.specs.Typing.{type_of_path, types_match, var_at}
use Rattle.bl_tree.proofs.ExprInduction.{expr}
use Rattle.bl_effects.specs.Rules.{marked_inputs, marked_path, outputs_aliased}
use Rattle.bl_eval.specs.Functions.{callees_of, scope_among}
use Rattle.bl_eval.specs.Meaning.{Callee, PathMeaning, Scope as Sees, View, datum_of, meaning_of, path_meaning_of, plain, read_at, reading, values_of}
use Rattle.bl_eval.specs.Values.{value_at, values_fit}
use Rattle.bl_eval.proofs.ExprFits.{Sound, expr_fits, match_fits}
use Rattle.bl_eval.proofs.OperatorFits.{scalar_alone, some_found, where_holds}
use Rattle.bl_eval.proofs.UnitFits.{sound_at}
use Rattle.bl_ctext_semantics.specs.Memory.{CValue, Location, Memory, Projection as CPart}
use Rattle.bl_ctext_semantics.specs.Meaning.{ArgumentValue, Scope, by_address, by_value, location_c, value_c}
use Rattle.bl_emit_acts.specs.declared.made.Made.{Made}
use Rattle.bl_emit_acts.specs.declared.made.Made.TheVariants.{Number, Whole}
use Rattle.bl_emit_acts.specs.Acts.{call_args, is_copied, output_arg}
use Rattle.bl_emit_acts.specs.Expressions.{PathStepTyping, Stood, arg_of, expr_made, kind_made, made_at, made_of, part_steps, path_stands, stands}
use Rattle.bl_emit_acts.specs.Trees.{c_read}
use Rattle.bl_emit_acts_laws_simulation.specs.Acts.{place_in_arg, places_in_args}
use Rattle.bl_emit_acts_laws_simulation.specs.Arguments.{ApartFromVariables, ArgumentsPass, ArgumentsSimulate, OutputLeads, OutputsLead}
use Rattle.bl_emit_acts_laws_simulation.specs.Encodes.{are_apart, copied_in, copied_in_path, location_in, way_to}
use Rattle.bl_emit_acts_laws_simulation.specs.Laws.{BesideActs}
use Rattle.bl_emit_acts_laws_simulation.specs.Simulation.{ExpressionSimulates, PlaceSimulates}
use Rattle.bl_emit_acts_laws_simulation.proofs.Aliases.{may_pass}
use Rattle.bl_emit_acts_laws_simulation.proofs.Arguments.{ArgsShow, pass_all, passes_address, passes_value}
use Rattle.bl_emit_acts_laws_simulation.proofs.Cells.{apart_flip, apart_inside}
use Rattle.bl_emit_acts_laws_simulation.proofs.Evaluated.{passes}
use Rattle.bl_emit_acts_laws_simulation.proofs.Expressions.{inputs_shown, made_shows}
use Rattle.bl_emit_acts_laws_simulation.proofs.Outputs.{OutputAt, OutputsAt, outputs_at, outputs_hold, pass_outputs, places_at, value_now, values_at}
use Rattle.bl_emit_acts_laws_simulation.proofs.Places.{listed-answer}
use Rattle.bl_emit_acts_laws_simulation.proofs.Whole.{expressions, places}
use Rattle.bl_emit_acts_laws_simulation.proofs.Written.{map_found}
use Rattle.bl_eval.proofs.MeaningLemmas.{plain_datum}

-- ---- arguments one after another

-- what arguments pass, and then others
abbrev pub joined_answer : Option (List ArgumentValue) → Option (List ArgumentValue) → Option (List ArgumentValue)
joined_answer first rest = option_and_then (λ xs. option_map (λ ys. xs ++ ys) rest) first

module _ (structs : List StructDef) (scope : Scope) (here : Memory) where
  pub pass_both : (xs ys : List CArg) → (pass_all structs scope here (xs ++ ys)).answer
      ≡ joined_answer (pass_all structs scope here xs).answer (pass_all structs scope here ys).answer
  pass_both [] ys = by (pass_all structs scope here ys).answer
    where
      by : (o : Option (List ArgumentValue)) → o ≡ option_map (λ ys. ys) o
      by None = refl
      by (Some ps) = refl
  pass_both (x ∷ xs) ys =
      listed-answer (passes x scope here) (pass_all structs scope here (xs ++ ys))
      ∙ (ap (λ rest. option_and_then (λ (a : ArgumentValue). option_map (λ others. a ∷ others) rest) (passes x scope here).answer) (pass_both xs ys)
      ∙ (by (passes x scope here).answer (pass_all structs scope here xs).answer (pass_all structs scope here ys).answer
      ∙ ap (λ first. joined_answer first (pass_all structs scope here ys).answer)
      (sym (listed-answer (passes x scope here) (pass_all structs scope here xs)))))
    where
      by : (a : Option ArgumentValue) (first rest : Option (List ArgumentValue)) →
          option_and_then (λ (a : ArgumentValue). option_map (λ others. a ∷ others) (joined_answer first rest)) a
          ≡ joined_answer (option_and_then (λ (a : ArgumentValue). option_map (λ others. a ∷ others) first) a) rest
      by None first rest = refl
      by (Some a) None rest = refl
      by (Some a) (Some xs) None = refl
      by (Some a) (Some xs) (Some ys) = refl

module _ (structs : List StructDef) (units : List UnitDef) (entry : ℕ) (k : ℕ) (unit : UnitDef) (view : View) (copies : List Bool) (scope : Scope)
    (here : Memory) (keeps : IsWellTyped structs units entry) (b : BesideActs structs units k unit view (is_copied copies) scope here) where
  abbrev my_site : TypingContext
  my_site = site_of structs (take k units) unit

  abbrev my_callees : List Callee
  my_callees = callees_of structs (take k units)

  abbrev my_sees : Sees
  my_sees = scope_among structs my_callees unit

  abbrev spot : Path → PathMeaning
  spot path = path_meaning_of my_sees path

  abbrev copied : ℕ → Bool
  copied = is_copied copies

  abbrev Output : Path → Var → Type 0
  Output = OutputAt structs units entry k unit view copies scope here keeps b

  abbrev Outputs : List Path → List Var → Type 0
  Outputs = OutputsAt structs units entry k unit view copies scope here keeps b

  abbrev all_places : (paths : List Path) (vars : List Var) → Outputs paths vars → List Location
  all_places = places_at structs units entry k unit view copies scope here keeps b

  abbrev all_values : (paths : List Path) (vars : List Var) → Outputs paths vars → List Value
  all_values = values_at structs units entry k unit view copies scope here keeps b

  sound : Sound structs (take k units) unit my_callees
  sound = sound_at structs units entry k unit keeps b.beside.is_there

  -- ---- values

  abbrev input_args : List Expr → List CArg
  input_args inputs = map arg_of (map (made_of my_site) inputs)

  inputs_show : (inputs : List Expr) (vars : List Var) → types_match (map (type_of my_site) inputs) vars ≡ true →
      all_of (map (copied_in copied) inputs) ≡ true →
      ArgsShow structs scope here vars (pass_all structs scope here (input_args inputs)).answer (values_of (map (meaning_of my_sees) inputs) view)
  inputs_show inputs vars matched named =
      inputs_shown structs (take k units) unit my_callees sound view b.beside.fitting.now b.beside.fitting.before copied scope here b.beside.variables
      b.beside.live b.beside.copies b.beside.functions inputs
      (λ j d within. made_shows structs (take k units) unit my_callees sound view b.beside.fitting.now b.beside.fitting.before copied scope here
      b.beside.variables b.beside.live b.beside.copies b.beside.functions _) named vars matched

  inputs_fit : (inputs : List Expr) (vars : List Var) → types_match (map (type_of my_site) inputs) vars ≡ true →
      IfSome (values_of (map (meaning_of my_sees) inputs) view) (λ values. values_fit structs vars values ≡ true)
  inputs_fit inputs vars matched =
      match_fits structs view (meaning_of my_sees) (type_of my_site) inputs
      (λ j d within ty typed. expr_fits structs (take k units) unit my_callees sound view b.beside.fitting.now b.beside.fitting.before _ ty typed) vars matched

  -- ---- places in variables

  module _ (place : Location) (clear : ApartFromVariables my_site scope place) where
    within_apart : (root : ℕ) (var : Var) (way : List CPart) → var_at my_site root ≡ Some var →
        are_apart place (location_in scope my_site root way) ≡ true
    within_apart root var way there =
        apart_flip (location_in scope my_site root way) place
        (apart_inside scope my_site root way place (apart_flip place (location_in scope my_site root []) (clear root var there)))

    abbrev Kept : ArgumentValue → Type 0
    Kept passed = list_all (are_apart place) (place_in_arg passed) ≡ true

    abbrev InputApart : Expr → Type 0
    InputApart e = (ty : Ty) (passed : ArgumentValue) → type_of my_site e ≡ Some ty → copied_in copied e ≡ true →
        (passes (arg_of (made_of my_site e)) scope here).answer ≡ Some passed → Kept passed

    number_kept : (passed : ArgumentValue) (o : Option CValue) → option_map by_value o ≡ Some passed → Kept passed
    number_kept passed None is = absurd (cc)
    number_kept passed (Some held) is = subst Kept (same_Some (by_value held) passed is) refl

    scalar_by : (e : Expr) (ty : Ty) (s : ScalarType) (passed : ArgumentValue) → scalar_in ty ≡ Some s → (made : Made) →
        ExpressionSimulates structs ty scope here made (meaning_of my_sees e view) → (passes (arg_of made) scope here).answer ≡ Some passed → Kept passed
    scalar_by e ty s passed is (Number t code) shown h =
        number_kept passed (value_c code scope here).answer (sym (passes_value structs scope here code) ∙ h)
    scalar_by e ty s passed is (Whole at) shown h = absurd (none_is s (sym shown.0 ∙ is))
      where
        none_is : (s : ScalarType) → None ≡ Some s → ⊥
        none_is s h = cc

    scalar_kept : (e : Expr) → ((ty : Ty) → type_of my_site e ≡ Some ty → (s : ScalarType) × (scalar_in ty ≡ Some s)) → InputApart e
    scalar_kept e is ty passed typed named h =
        let s = is ty typed in
        scalar_by e ty s.0 passed s.1 (made_of my_site e)
        (expressions structs units entry k unit e ty view copied scope here keeps b.beside typed named) h

    alone : (s : ScalarType) (ty : Ty) → Some (scalar s) ≡ Some ty → (s : ScalarType) × (scalar_in ty ≡ Some s)
    alone s ty is = (s, subst (λ ty. scalar_in ty ≡ Some s) (same_Some (scalar s) ty is) (scalar_alone s))

    stands_ty : (path : Path) → (stands my_site path).ty ≡ (out-Path path).ty
    stands_ty path =
        ap (λ (s : Stood). s.ty) (fold_out-Path Made PathStepTyping Made Stood (kind_made my_site) (part_steps my_site) expr_made (path_stands my_site) path)

    whole_kept : (path : Path) (ty : Ty) (passed : ArgumentValue) (at : Option Location) → PlaceSimulates my_site view scope ty at (spot path) →
        option_map by_address at ≡ Some passed → Kept passed
    whole_kept path ty passed None leads is = absurd (cc)
    whole_kept path ty passed (Some at) r is =
        subst Kept (same_Some (by_address at) passed is)
        (and_from (are_apart place at) true
        (ap (are_apart place) r.at ∙ within_apart (spot path).root r.var (way_to structs r.ks (Some r.var.ty)) r.is_there) refl)

    read_by : (path : Path) (ty : Ty) (passed : ArgumentValue) (s : Option ScalarType) →
        copied_in_path copied path ≡ true → type_of_path my_site path ≡ Some ty →
        (passes (arg_of (made_at s (stands my_site path).place)) scope here).answer ≡ Some passed → Kept passed
    read_by path ty passed (Some s) named typed h =
        number_kept passed (value_c (c_read (stands my_site path).place) scope here).answer
        (sym (passes_value structs scope here (c_read (stands my_site path).place)) ∙ h)
    read_by path ty passed None named typed h =
        whole_kept path ty passed (location_c (stands my_site path).place scope here).answer
        (places structs units entry k unit path ty view copied scope here keeps b.beside typed named)
        (sym (passes_address structs scope here (stands my_site path).place) ∙ h)

    read_kept : (at : Place) (path : Path) → InputApart (expr at (ExprKind-F.Read path))
    read_kept at path ty passed typed named h =
        read_by path ty passed (scalar_in (out-Path path).ty) (rw (fold-roll-Expr, fold-roll-ExprKind) at named)
        (rw (fold-roll-Expr, fold-roll-ExprKind) at typed)
        (sym (ap (λ ty. (passes (arg_of (made_at (scalar_in ty) (stands my_site path).place)) scope here).answer) (stands_ty path))
        ∙ (rw (fold-roll-Expr, fold-roll-ExprKind) at h))

    kept_by : (at : Place) (layer : ExprKind-F ExprKind Part Expr Path) → InputApart (expr at layer)
    kept_by at (ExprKind-F.Read path) = read_kept at path
    kept_by at (ExprKind-F.Literal n s) = scalar_kept (expr at (ExprKind-F.Literal n s)) (λ ty typed.
        alone s ty (where_holds (in_range s n) (Some (scalar s)) ty (rw (fold-roll-Expr, fold-roll-ExprKind) at typed)).1)
    kept_by at (ExprKind-F.Prev j) = scalar_kept (expr at (ExprKind-F.Prev j))
        (λ ty typed. prev_scalar j ty (rw (fold-roll-Expr, fold-roll-ExprKind) at typed))
      where
        some_there : (o : Option ScalarType) → is_some o ≡ true → (s : ScalarType) × (o ≡ Some s)
        some_there None h = absurd (cc)
        some_there (Some s) h = (s, refl)

        prev_scalar : (j : ℕ) (ty : Ty) → option_and_then (prev_type unit.kind)
            (var_at my_site j) ≡ Some ty → (s : ScalarType) × (scalar_in ty ≡ Some s)
        prev_scalar j ty typed =
            let found = some_found (prev_type unit.kind) (var_at my_site j) ty typed in
            let var : Var = found.0 in
            let is = where_holds (is_activity unit.kind && (is_variable var.role && is_some (scalar_in var.ty))) (Some var.ty) ty found.2 in
            let there = some_there (scalar_in var.ty)
            (and_second (is_variable var.role) (is_some (scalar_in var.ty)) (and_second (is_activity unit.kind) _ is.0)) in
            (there.0, ap scalar_in (sym (same_Some var.ty ty is.1)) ∙ there.1)
    kept_by at (ExprKind-F.One op a) = scalar_kept (expr at (ExprKind-F.One op a)) (λ ty typed.
        let found = some_found (one_type op) (option_and_then scalar_in (type_of my_site a)) ty (rw (fold-roll-Expr, fold-roll-ExprKind) at typed) in
        alone (type_of_result op found.0) ty (where_holds (takes_one op found.0) (Some (scalar (type_of_result op found.0))) ty found.2).1)
    kept_by at (ExprKind-F.Two op x z) = scalar_kept (expr at (ExprKind-F.Two op x z)) (λ ty typed.
        let found = some_found (λ s. option_and_then (two_type op s) (option_and_then scalar_in (type_of my_site z)))
        (option_and_then scalar_in (type_of my_site x)) ty (rw (fold-roll-Expr, fold-roll-ExprKind) at typed) in
        let right = some_found (two_type op found.0) (option_and_then scalar_in (type_of my_site z)) ty found.2 in
        alone (type_of_result op found.0) ty
        (where_holds (same_scalar found.0 right.0 && takes_two op found.0) (Some (scalar (type_of_result op found.0))) ty right.2).1)
    kept_by at (ExprKind-F.Cast target a) = scalar_kept (expr at (ExprKind-F.Cast target a)) (λ ty typed.
        let found = some_found (cast_type target) (option_and_then scalar_in (type_of my_site a)) ty (rw (fold-roll-Expr, fold-roll-ExprKind) at typed) in
        alone target ty (where_holds (is_whole target && is_whole found.0) (Some (scalar target)) ty found.2).1)
    kept_by at (ExprKind-F.Call f inputs) = scalar_kept (expr at (ExprKind-F.Call f inputs)) (λ ty typed.
        let found = some_found (call_type (map (type_of my_site) inputs)) (slice_get (take k units) f) ty (rw (fold-roll-Expr, fold-roll-ExprKind) at typed) in
        let callee : UnitDef = found.0 in
        let is = where_holds (is_function callee.kind && (nat_eq callee.outputs 0 && types_match (map (type_of my_site) inputs) (inputs_of callee)))
        (option_map scalar callee.result) ty found.2 in
        let result = map_found scalar callee.result ty is.1 in
        alone result.0 ty (ap Some result.2))

    input_apart : (e : Expr) → InputApart e
    input_apart e =
        let at : Place = (out-Expr e).place in
        let whole : expr at (out-ExprKind (out-Expr e).what) ≡ e =
        ap (λ (what : ExprKind). roll-Expr (record { place = at; what = what })) (roll-out-ExprKind (out-Expr e).what) ∙ roll-out-Expr e in
        subst InputApart whole (kept_by at (out-ExprKind (out-Expr e).what))

    both_all : (xs ys : List Location) → list_all (are_apart place) xs ≡ true → list_all (are_apart place) ys ≡ true →
        list_all (are_apart place) (xs ++ ys) ≡ true
    both_all [] ys h i = i
    both_all (x ∷ xs) ys h i =
        and_from (are_apart place x) (list_all (are_apart place) (xs ++ ys)) (and_first (are_apart place x) (list_all (are_apart place) xs) h)
        (both_all xs ys (and_second (are_apart place x) (list_all (are_apart place) xs) h) i)

    abbrev Apart : List ArgumentValue → Type 0
    Apart passed = list_all (are_apart place) (places_in_args passed) ≡ true

    inputs_kept : (inputs : List Expr) (vars : List Var) (passed : List ArgumentValue) → types_match (map (type_of my_site) inputs) vars ≡ true →
        all_of (map (copied_in copied) inputs) ≡ true → (pass_all structs scope here (input_args inputs)).answer ≡ Some passed → Apart passed
    inputs_kept [] vars passed matched named h = subst Apart (same_Some [] passed h) refl
    inputs_kept (e ∷ inputs) vars passed matched named h = by (inputs_kept inputs) (type_of my_site e) refl vars matched
      where
        found : (a : ArgumentValue) × ((passes (arg_of (made_of my_site e)) scope here).answer ≡ Some a)
            × (option_map (λ others. a ∷ others) (pass_all structs scope here (input_args inputs)).answer ≡ Some passed)
        found = some_found (λ a. option_map (λ others. a ∷ others) (pass_all structs scope here (input_args inputs)).answer)
            (passes (arg_of (made_of my_site e)) scope here).answer passed
            (sym (listed-answer (passes (arg_of (made_of my_site e)) scope here) (pass_all structs scope here (input_args inputs))) ∙ h)

        rest : (others : List ArgumentValue) × ((pass_all structs scope here (input_args inputs)).answer ≡ Some others) × (found.0 ∷ others ≡ passed)
        rest = map_found (λ others. found.0 ∷ others) (pass_all structs scope here (input_args inputs)).answer passed found.2

        by : ((vars : List Var) (passed : List ArgumentValue) → types_match (map (type_of my_site) inputs) vars ≡ true →
            all_of (map (copied_in copied) inputs) ≡ true →
            (pass_all structs scope here (input_args inputs)).answer ≡ Some passed → Apart passed) →
            (typed : Option Ty) → type_of my_site e ≡ typed → (vars : List Var) → types_match
            (typed ∷ map (type_of my_site) inputs) vars ≡ true → Apart passed
        by again None is [] matched = absurd (cc)
        by again None is (var ∷ vars) matched = absurd (cc)
        by again (Some ty) is [] matched = absurd (cc)
        by again (Some ty) is (var ∷ vars) matched =
            subst Apart rest.2
            (both_all (place_in_arg found.0) (places_in_args rest.0)
            (input_apart e ty found.0 is (and_first (copied_in copied e) (all_of (map (copied_in copied) inputs)) named) found.1)
            (again vars rest.0 (and_second (same_type ty var.ty) (types_match (map (type_of my_site) inputs) vars) matched)
            (and_second (copied_in copied e) (all_of (map (copied_in copied) inputs)) named) rest.1))

    outputs_kept : (paths : List Path) (vars : List Var) (all : Outputs paths vars) →
        list_all (are_apart place) (all_places paths vars all) ≡ true
    outputs_kept [] [] all = refl
    outputs_kept [] (var ∷ vars) all = refl
    outputs_kept (path ∷ paths) [] all = absurd all
    outputs_kept (path ∷ paths) (var ∷ vars) all =
        and_from (are_apart place all.0.place) (list_all (are_apart place) (all_places paths vars all.1))
        (ap (are_apart place) all.0.at
        ∙ within_apart (spot path).root all.0.leads.var (way_to structs all.0.leads.ks (Some all.0.leads.var.ty)) all.0.leads.is_there)
        (outputs_kept paths vars all.1)

  -- ---- where outputs lead

  value_is : (path : Path) (var : Var) (o : Output path var) → read_at (spot path).root view.now o.leads.ks ≡ Some o.value
  value_is path var o =
      let stored = value_now structs units entry k unit view copies scope here keeps b (spot path).root o.leads.var o.leads.is_there in
      let lies = o.leads.lies stored.0 stored.2 in
      let read : read_at (spot path).root view.now o.leads.ks ≡ Some lies.0 =
      ap (option_and_then (value_at o.leads.ks)) stored.1 ∙ lies.1 in
      let one : option_map plain (reading (spot path) view) ≡ Some lies.0 =
      ap (λ o. option_map plain (option_map (datum_of (scalar_in (spot path).ty)) o))
      (ap (option_and_then (read_at (spot path).root view.now)) o.leads.positions ∙ read)
      ∙ ap Some (plain_datum (scalar_in (spot path).ty) lies.0) in
      let other : option_map plain (reading (spot path) view) ≡ Some o.value =
      ap (option_map plain) o.reads ∙ ap Some (plain_datum (scalar_in var.ty) o.value) in
      read ∙ (sym one ∙ other)

  leads_all : (paths : List Path) (vars : List Var) (all : Outputs paths vars) →
      OutputsLead my_site view.now scope paths (all_values paths vars all) (all_places paths vars all)
  leads_all [] [] all = tt
  leads_all [] (var ∷ vars) all = absurd all
  leads_all (path ∷ paths) [] all = absurd all
  leads_all (path ∷ paths) (var ∷ vars) all = (
    subst (λ (s : Static). OutputLeads my_site view.now scope s all.0.value all.0.place) (sym all.0.leads.static)
        (record { var = all.0.leads.var; is_there = all.0.leads.is_there; is = all.0.at; has = value_is path var all.0 }),
    leads_all paths vars all.1,
  )

  -- ---- all arguments

  module _ (inputs : List Expr) (paths : List Path) (ins outs : List Var) (matched : types_match (map (type_of my_site) inputs) ins ≡ true)
      (all : Outputs paths outs) (named : all_of (map (copied_in copied) inputs) ≡ true)
      (none : outputs_aliased (marked_inputs inputs) [] (map marked_path paths) ≡ []) where
    abbrev Come : Option (List Value) → Option (List ArgumentValue) → Type 0
    Come = ArgumentsSimulate structs my_site view scope here ins outs paths

    come_by : (passed : Option (List ArgumentValue)) (values : Option (List Value)) → (pass_all structs scope here (input_args inputs)).answer ≡ passed →
        ArgsShow structs scope here ins passed values → IfSome values (λ values. values_fit structs ins values ≡ true) →
        Come values (joined_answer passed (Some (map by_address (all_places paths outs all))))
    come_by None None is shown fit = refl
    come_by None (Some values) is shown fit = absurd shown
    come_by (Some passed) None is shown fit = absurd shown
    come_by (Some passed) (Some values) is shown fit = record {
      inputs = passed;
      read = all_values paths outs all;
      outputs = all_places paths outs all;
      are = refl;
      fit = fit;
      hold = shown;
      outputs_hold = outputs_hold structs units entry k unit view copies scope here keeps b paths outs all;
      leads = leads_all paths outs all;
      may = may_pass structs units entry k unit view copies scope here keeps b inputs ins passed matched named is paths outs all none;
      inputs_apart = λ place clear. inputs_kept place clear inputs ins passed matched named is;
      outputs_apart = λ place clear. outputs_kept place clear paths outs all;
    }

    pub arguments_come : Come (values_of (map (meaning_of my_sees) inputs) view) (pass_all structs scope here (call_args my_site inputs paths)).answer
    arguments_come =
        subst (Come (values_of (map (meaning_of my_sees) inputs) view))
        (sym (pass_both structs scope here (input_args inputs) (map (output_arg my_site) paths)
        ∙ ap (joined_answer (pass_all structs scope here (input_args inputs)).answer)
        (pass_outputs structs units entry k unit view copies scope here keeps b paths outs all)))
        (come_by (pass_all structs scope here (input_args inputs)).answer (values_of (map (meaning_of my_sees) inputs) view) refl
        (inputs_show inputs ins matched named) (inputs_fit inputs ins matched))

pub arguments : (structs : List StructDef) (units : List UnitDef) (entry : ℕ) → ArgumentsPass structs units entry
arguments structs units entry k unit view copies scope here inputs paths ins outs keeps b matched outs_matched outlets named paths_named none =
    arguments_come structs units entry k unit view copies scope here keeps b inputs paths ins outs matched
    (outputs_at structs units entry k unit view copies scope here keeps b paths outs outs_matched outlets paths_named) named none
