-- Nothing fails in the call that a `run` makes, nor where its target gets the result.
use Rattle.std.proofs.Common.{◌≡◌, ℕ, Bool, true, false, ◌&&◌, ◌||◌, List, [], ◌∷◌, ◌++◌, map, Option, Some, None}
use Rattle.std.proofs.Common.{refl, sym, ap, ◌∙◌, subst, take-add}
use Rattle.std.proofs.lemmas.List.{map-append}
use Rattle.std.specs.Prelude.{Contains, is_none, is_some, slice_get}
use Rattle.std.specs.List.{list_all}
use Rattle.std.proofs.lemmas.Bool.{and_from}
use Rattle.bl_tree.proofs.Basics.{and_first, and_second, both_empty}
use Rattle.bl_tree.specs.declared.c.CStmt.{CStmt}
use Rattle.bl_tree.specs.declared.place.Place.{Place}
use Rattle.bl_tree.specs.declared.c.CArg.{CArg}
use Rattle.bl_tree.specs.declared.c.CArg.TheVariants.{Address}
use Rattle.bl_tree.specs.declared.c.CMember.{CMember}
use Rattle.bl_tree.specs.declared.c.CPlace.{CPlace}
use Rattle.bl_tree.specs.declared.c.CType.{CType}
use Rattle.bl_tree.specs.declared.c.CType.TheVariants.{Scalar as OfScalar, Struct as OfStruct}
use Rattle.bl_tree.specs.declared.scalar.Scalar.{Scalar as ScalarType}
use Rattle.bl_tree.specs.declared.tree.Expr.{Expr}
use Rattle.bl_tree.specs.declared.tree.ExprKind.{ExprKind}
use Rattle.bl_tree.specs.declared.tree.ExprKind.TheOpen.{Part-F, Path-F}
use Rattle.bl_tree.specs.declared.tree.Part.{Part, fold-Part, fold-roll-Part, out-Part, roll-Part, roll-out-Part}
use Rattle.bl_tree.specs.declared.tree.Path.{Path, fold-roll-Path, out-Path, roll-Path, roll-out-Path}
use Rattle.bl_tree.specs.declared.tree.Role.{Role}
use Rattle.bl_tree.specs.declared.tree.Role.TheVariants.{Input, Output, Variable as OfVariable, Fixed}
use Rattle.bl_tree.specs.declared.tree.Ty.{Ty}
use Rattle.bl_tree.specs.declared.tree.Unit.{Unit as UnitDef}
use Rattle.bl_tree.specs.declared.tree.Var.{Var}
use Rattle.bl_tree.specs.Program.{is_output, parameters_of}
use Rattle.bl_tree.specs.Reduce.{all_of}
use Rattle.bl_tree.specs.Types.{same_type, scalar, scalar_in}
use Rattle.bl_tree.specs.Typing.{TypingContext, arguments_fit, expr_ignored, inputs_of, is_activity, is_assignable, is_outlet, is_plain, kind_ignored}
use Rattle.bl_tree.specs.Typing.{outputs_of, part_is_field, path_is_plain, run_fits, target_fits, type_of, type_of_path, types_match}
use Rattle.bl_eval.proofs.FitLemmas.{same_type_is}
use Rattle.bl_eval.proofs.OperatorFits.{scalar_alone}
use Rattle.bl_ctext_semantics.specs.Faults.{Context, JudgedArg, Signature, Variable, bool_type, fit_each, fits_arg, judged_arg, signature_as, signature_of}
use Rattle.bl_ctext_semantics.specs.Tables.{Table}
use Rattle.bl_emit_acts.specs.Acts.{c_calling, c_set, call_args, name_of_callee, output_arg}
use Rattle.bl_emit_acts.specs.Expressions.{arg_of, made_of, stands}
use Rattle.bl_emit_acts.specs.Trees.{c_call, c_read, nowhere}
use Rattle.bl_emit_acts.specs.Types.{c_scalar, c_type, unit_name}
use Rattle.bl_emit_functions.specs.Functions.{memory_name}
use Rattle.bl_emit_functions.specs.Trees.{c_truth}
use Rattle.bl_emit_acts_laws_simulation.specs.Encodes.{copied_in, copied_in_path, expr_copied, kind_copied, part_copied, path_copied}
use Rattle.bl_emit_acts_laws_wellformed.specs.Formed.Declared.{leads_through, parameter_for, variable_of}
use Rattle.bl_emit_acts_laws_wellformed.specs.Formed.Formed.{BlockIs, PlaceIs, StmtIs, sound_place}
use Rattle.bl_emit_acts_laws_wellformed.proofs.OnFormed.Acts.{block_append, block_nil, block_one, calling-is}
use Rattle.bl_emit_acts_laws_wellformed.proofs.OnFormed.Judged.{address_arg-is, faults_of_args, judged_args, literal-is, of_address, read-is}
use Rattle.bl_emit_acts_laws_wellformed.proofs.OnFormed.Parts.{c_scalar_type}
use Rattle.bl_emit_acts_laws_wellformed.proofs.OnFormed.Prelude.{type_same, unit_named}
use Rattle.bl_emit_acts_laws_wellformed.proofs.OnFormed.Typed.{PathIs, inputs_suit, made_typed, place_typed}
use Rattle.bl_graph_nodes.specs.Nodes.{Arguments}
use Rattle.bl_emit_spec.specs.Activities.{word_of_run, Activity, RunAt, activity_view, runs_in_body}
use Rattle.bl_emit_spec.specs.Blocks.{arg_where, has_result, name_in, run_args, run_code, target_code, may_end_in, stmt_where, unit_may_end}
use Rattle.bl_emit_spec.specs.Names.{NumberedWord, callee_frame, callee_memory, ended_place, frame_name, given_place}
use Rattle.bl_emit_spec_laws_wellformed_bodies.specs.Bodies.{memory_given, result_given, signature_of_activity, over_given}
use Rattle.bl_emit_spec_laws_wellformed_bodies.proofs.OnBodies.Guards.{put-is}
use Rattle.bl_emit_spec_laws_wellformed_bodies.proofs.OnBodies.Variables.{Here, context, copied, declared_here, earlier_here, ended-is, frame_at-is, given-is}
use Rattle.bl_emit_spec_laws_wellformed_bodies.proofs.OnBodies.Variables.{memory_at-is, site}
use Rattle.bl_eval.proofs.ActFits.{same_found}

-- ---- paths without an index name nothing under a `prev`

abbrev part_plain : Part → Bool
part_plain = fold-Part (Unit {0}) Bool (Unit {0}) Bool kind_ignored part_is_field expr_ignored path_is_plain

module _ (copied : ℕ → Bool) where
  abbrev part_named : Part → Bool
  part_named = fold-Part Bool Bool Bool Bool (kind_copied copied) part_copied expr_copied path_copied

  one_named : (layer : Part-F ExprKind Part Expr Path) → part_plain (roll-Part layer) ≡ true → part_named (roll-Part layer) ≡ true
  one_named (Part-F.Field j) plain = rw fold-roll-Part refl
  one_named (Part-F.Index e) plain = absurd (let no : false ≡ true = rw fold-roll-Part at plain in cc)

  some_named : (part : Part) → part_plain part ≡ true → part_named part ≡ true
  some_named part = subst (λ part. part_plain part ≡ true → part_named part ≡ true) (roll-out-Part part) (one_named (out-Part part))

  all_named : (parts : List Part) → all_of (map part_plain parts) ≡ true → all_of (map part_named parts) ≡ true
  all_named [] plain = refl
  all_named (part ∷ parts) plain =
      and_from (part_named part) (all_of (map part_named parts)) (some_named part (and_first (part_plain part) (all_of (map part_plain parts)) plain))
      (all_named parts (and_second (part_plain part) (all_of (map part_plain parts)) plain))

  layer_named : (layer : Path-F ExprKind Part Expr Path) → is_plain (roll-Path layer) ≡ true → copied_in_path copied (roll-Path layer) ≡ true
  layer_named layer plain = rw fold-roll-Path (all_named layer.parts (rw fold-roll-Path at plain))

  pub outlet_named : (path : Path) → is_plain path ≡ true → copied_in_path copied path ≡ true
  outlet_named path = subst (λ path. is_plain path ≡ true → copied_in_path copied path ≡ true) (roll-out-Path path) (layer_named (out-Path path))

-- ---- arguments that suit parameters

module _ (here : Context) where
  -- each argument suits its parameter, and nothing fails in them
  abbrev pub Suit : List Variable → List CArg → Type 0
  Suit params args = (fit_each false params (judged_args here args nowhere) ≡ true) × (faults_of_args (judged_args here args nowhere) ≡ [])

  pub suit-append : (ps qs : List Variable) (xs ys : List CArg) → Suit ps xs → Suit qs ys → Suit (ps ++ qs) (xs ++ ys)
  suit-append [] qs [] ys one other = other
  suit-append [] qs (x ∷ xs) ys one other = absurd (let no : false ≡ true = one.0 in cc)
  suit-append (p ∷ ps) qs [] ys one other = absurd (let no : false ≡ true = one.0 in cc)
  suit-append (p ∷ ps) qs (x ∷ xs) ys one other =
      let j : JudgedArg = judged_arg x here nowhere in
      let parts = both_empty j.faults (faults_of_args (judged_args here xs nowhere)) one.1 in
      let rest = suit-append ps qs xs ys (and_second (fits_arg false p j) (fit_each false ps (judged_args here xs nowhere)) one.0, parts.1) other in (
        and_from (fits_arg false p j) (fit_each false (ps ++ qs) (judged_args here (xs ++ ys) nowhere))
            (and_first (fits_arg false p j) (fit_each false ps (judged_args here xs nowhere)) one.0) rest.0,
        (λ i. parts.0 i ++ rest.1 i),
      )

  pub suit-address : (through : Bool) (ty : CType) (place : CPlace) → PlaceIs here through ty place → Suit (variable_of true ty ∷ []) (Address
      place ∷ [])
  suit-address through ty place at =
      let judged : judged_arg (Address place) here nowhere ≡ of_address (sound_place through ty) = address_arg-is here through ty place nowhere at in (
        and_from (fits_arg false (variable_of true ty) (judged_arg (Address place) here nowhere)) true
            (subst (λ j. fits_arg false (variable_of true ty) j ≡ true) (sym judged) (type_same ty)) refl,
        (λ i. (judged i).faults ++ []),
      )

module _ (units : List UnitDef) (entry k : ℕ) (a : Activity) (table : Table (Table CMember)) (known : Table Signature)
    (h : Here units entry k a table known) where
  abbrev here : Context
  here = context units entry k a table known h

  abbrev my_site : TypingContext
  my_site = site units entry k a table known h

  abbrev mine : ℕ → Bool
  mine = copied units entry k a table known h

  path_is : (path : Path) (ty : Ty) → is_plain path ≡ true → type_of_path my_site path ≡ Some ty →
      PathIs here my_site ty (out-Path path).root (stands my_site path)
  path_is path ty plain typed =
      place_typed my_site mine here (declared_here units entry k a table known h) h.well_typed.structs_stand
      (earlier_here units entry k a table known h).inputs path (λ active. outlet_named mine path plain) ty typed

  output_pointer : (role : Role) (rest : Bool) → is_output role ≡ true → (is_output role || rest) ≡ true
  output_pointer Output rest is = refl
  output_pointer Input rest is = absurd (cc)
  output_pointer OfVariable rest is = absurd (cc)
  output_pointer Fixed rest is = absurd (cc)

  abbrev params_for : List Var → List Variable
  params_for vars = map (parameter_for a.structs) vars

  one_output : (path : Path) (outputs : List Path) (var : Var) (vars : List Var) → is_outlet my_site path ≡ true → is_output var.role ≡ true →
      type_of_path my_site path ≡ Some var.ty → Suit here (params_for vars) (map (output_arg my_site) outputs) →
      Suit here (params_for (var ∷ vars)) (map (output_arg my_site) (path ∷ outputs))
  one_output path outputs var vars outlet output typed rest =
      let at = path_is path var.ty (and_first (is_plain path) (is_assignable my_site path) outlet) typed in
      let pointer : (is_output var.role || is_none (scalar_in var.ty)) ≡ true = output_pointer var.role (is_none (scalar_in var.ty)) output in
      suit-append here (parameter_for a.structs var ∷ []) (params_for vars) (output_arg my_site path ∷ []) (map (output_arg my_site) outputs)
      (subst (λ b. Suit here (variable_of b (c_type a.structs var.ty) ∷ []) (output_arg my_site path ∷ [])) (sym pointer)
      (suit-address here (leads_through my_site (out-Path path).root) (c_type a.structs var.ty) (stands my_site path).place at.is)) rest

  abbrev OutputsSuit : List Path → Type 0
  OutputsSuit outputs =
      (vars : List Var) → types_match (map (type_of_path my_site) outputs) vars ≡ true → all_of (map (is_outlet my_site) outputs) ≡ true →
      list_all (λ (var : Var). is_output var.role) vars ≡ true → Suit here (params_for vars) (map (output_arg my_site) outputs)

  first-output : (path : Path) (outputs : List Path) → OutputsSuit outputs → (t : Option Ty) → type_of_path my_site path ≡ t → (vars : List Var) →
      types_match (t ∷ map (type_of_path my_site) outputs) vars ≡ true → all_of (map (is_outlet my_site) (path ∷ outputs)) ≡ true →
      list_all (λ (var : Var). is_output var.role) vars ≡ true → Suit here (params_for vars) (map (output_arg my_site) (path ∷ outputs))
  first-output path outputs more None is [] typed outlets roles = absurd (cc)
  first-output path outputs more (Some t) is [] typed outlets roles = absurd (cc)
  first-output path outputs more None is (var ∷ vars) typed outlets roles = absurd (cc)
  first-output path outputs more (Some t) is (var ∷ vars) typed outlets roles =
      let same : t ≡ var.ty = same_type_is t var.ty (and_first (same_type t var.ty) (types_match (map (type_of_path my_site) outputs) vars) typed) in
      one_output path outputs var vars (and_first (is_outlet my_site path) (all_of (map (is_outlet my_site) outputs)) outlets)
      (and_first (is_output var.role) (list_all (λ (var : Var). is_output var.role) vars) roles) (is ∙ ap Some same)
      (more vars (and_second (same_type t var.ty) (types_match (map (type_of_path my_site) outputs) vars) typed)
      (and_second (is_outlet my_site path) (all_of (map (is_outlet my_site) outputs)) outlets)
      (and_second (is_output var.role) (list_all (λ (var : Var). is_output var.role) vars) roles))

  outputs-suit : (outputs : List Path) → OutputsSuit outputs
  outputs-suit [] [] typed outlets roles = (refl, refl)
  outputs-suit [] (var ∷ vars) typed outlets roles = absurd (cc)
  outputs-suit (path ∷ outputs) vars typed outlets roles =
      first-output path outputs (outputs-suit outputs) (type_of_path my_site path) refl vars typed outlets roles

  -- a statement, where the test is true
  pub where-is : (test : Bool) (s : CStmt) → (test ≡ true → StmtIs here s) → BlockIs here (stmt_where test s)
  where-is true s is = block_one here s (is refl)
  where-is false s is = block_nil here

  -- the arguments for inputs and outputs
  arguments-suit : (f : ℕ) (callee : UnitDef) (inputs : List Expr) (outputs : List Path) → slice_get a.earlier f ≡ Some callee →
      arguments_fit my_site inputs outputs callee ≡ true → all_of (map (copied_in mine) inputs) ≡ true →
      Suit here (params_for (parameters_of callee)) (call_args my_site inputs outputs)
  arguments-suit f callee inputs outputs there shape named =
      let matched : types_match (map (type_of my_site) inputs) (inputs_of callee) ≡ true = and_first _ _ shape in
      let others = and_second (types_match (map (type_of my_site) inputs) (inputs_of callee)) _ shape in
      let stand = earlier_here units entry k a table known h in
      let one : Suit here (params_for (inputs_of callee)) (map arg_of (map (made_of my_site) inputs)) =
      inputs_suit my_site mine here (declared_here units entry k a table known h) h.well_typed.structs_stand stand.inputs inputs nowhere
      (λ j d within. made_typed my_site mine here (declared_here units entry k a table known h) h.well_typed.structs_stand stand.inputs _)
      (λ active. named) (inputs_of callee) matched (stand.inputs f callee there) in
      let other : Suit here (params_for (outputs_of callee)) (map (output_arg my_site) outputs) =
      outputs-suit outputs (outputs_of callee) (and_first _ _ others)
      (and_second (types_match (map (type_of_path my_site) outputs) (outputs_of callee)) _ others) (stand.outputs f callee there) in
      subst (λ params. Suit here params (call_args my_site inputs outputs))
      (sym (ap (map (parameter_for a.structs)) (take-add callee.inputs callee.outputs callee.vars)
      ∙ map-append (parameter_for a.structs) (inputs_of callee) (outputs_of callee)))
      (suit-append here (params_for (inputs_of callee)) (params_for (outputs_of callee)) (map arg_of (map (made_of my_site) inputs))
      (map (output_arg my_site) outputs) one other)

  module _ (at : Place) (number u : ℕ) (has : Contains (runs_in_body a) (record { place = at; number = number; unit = u })) (arguments : Arguments) where
    abbrev run : RunAt
    run = record { place = at; number = number; unit = u }

    abbrev n : NumberedWord
    n = word_of_run a.earlier run

    memory-suits : (callee : UnitDef) → slice_get a.earlier u ≡ Some callee → (b : Bool) → (activity_view a).remembers u ≡ b →
        Suit here (memory_given callee b) (arg_where b (Address (callee_memory n)))
    memory-suits callee there true on =
        suit-address here true (OfStruct (memory_name callee.name)) (callee_memory n)
        (subst (λ o. PlaceIs here true (OfStruct (memory_name (name_in o))) (callee_memory n)) there
        (memory_at-is units entry k a table known h run has on))
    memory-suits callee there false on = (refl, refl)

    result-suits : (callee : UnitDef) → slice_get a.earlier u ≡ Some callee → (r : Option ScalarType) → callee.result ≡ r →
        Suit here (result_given r) (arg_where (is_some r) (Address (given_place n)))
    result-suits callee there (Some s) is =
        suit-address here false (OfScalar (c_scalar s)) (given_place n) (given-is units entry k a table known h run callee s has there is)
    result-suits callee there None is = (refl, refl)

    over-suits : (b : Bool) → (b ≡ true → may_end_in (slice_get a.earlier u) ≡ true) → Suit here (over_given b) (arg_where b (Address ended_place))
    over-suits true ends = suit-address here false bool_type ended_place (ended-is units entry k a table known h run has (ends refl))
    over-suits false ends = (refl, refl)

    -- the arguments of the call of this activity
    abbrev args_of : Option UnitDef → List CArg
    args_of o =
        Address (callee_frame n)
        ∷ (arg_where ((activity_view a).remembers u) (Address (callee_memory n))
        ++ (call_args my_site arguments.inputs arguments.outputs
        ++ (arg_where (has_result o) (Address (given_place n)) ++ arg_where (may_end_in o) (Address ended_place))))

    call-by : (o : Option UnitDef) → slice_get a.earlier u ≡ o → run_fits my_site arguments.target arguments.inputs arguments.outputs o ≡ true →
        all_of (map (copied_in mine) arguments.inputs) ≡ true → StmtIs here (c_calling (c_call (name_of_callee o) (args_of o)))
    call-by None there fits named = absurd (cc)
    call-by (Some callee) there fits named =
        let active : is_activity callee.kind ≡ true =
        and_second (is_activity my_site.kind) (is_activity callee.kind) (and_first (is_activity my_site.kind && is_activity callee.kind) _ fits) in
        let shape : arguments_fit my_site arguments.inputs arguments.outputs callee ≡ true =
        and_second (target_fits my_site callee.result arguments.target) _ (and_second (is_activity my_site.kind && is_activity callee.kind) _ fits) in
        let remembers : Bool = (activity_view a).remembers u in
        let ends : Bool = unit_may_end callee in
        let behind : List Variable = result_given callee.result ++ over_given ends in
        let last : List CArg = arg_where (is_some callee.result) (Address (given_place n)) ++ arg_where ends (Address ended_place) in
        let suits : Suit here (signature_of_activity a.structs callee remembers).params (args_of (Some callee)) =
        suit-append here (variable_of true (OfStruct (frame_name callee.name)) ∷ [])
        (memory_given callee remembers ++ (params_for (parameters_of callee) ++ behind)) (Address (callee_frame n) ∷ [])
        (arg_where remembers (Address (callee_memory n)) ++ (call_args my_site arguments.inputs arguments.outputs ++ last))
        (suit-address here true (OfStruct (frame_name callee.name)) (callee_frame n)
        (subst (λ o. PlaceIs here true (OfStruct (frame_name (name_in o))) (callee_frame n)) there (frame_at-is units entry k a table known h run has)))
        (suit-append here (memory_given callee remembers) (params_for (parameters_of callee) ++ behind) (arg_where remembers (Address (callee_memory n)))
        (call_args my_site arguments.inputs arguments.outputs ++ last) (memory-suits callee there remembers refl)
        (suit-append here (params_for (parameters_of callee)) behind (call_args my_site arguments.inputs arguments.outputs) last
        (arguments-suit u callee arguments.inputs arguments.outputs there shape named)
        (suit-append here (result_given callee.result) (over_given ends) (arg_where (is_some callee.result) (Address (given_place n)))
        (arg_where ends (Address ended_place)) (result-suits callee there callee.result refl)
        (over-suits ends (λ may. ap may_end_in there ∙ may))))) in
        let signed : signature_of here (unit_name callee.name) ≡ Some (signature_of_activity a.structs callee remembers) =
        ap (λ o. signature_as o (here.functions (unit_name callee.name))) (unit_named callee.name) ∙ h.stands.called u callee there active in
        calling-is here (unit_name callee.name) (args_of (Some callee)) (signature_of_activity a.structs callee remembers) signed suits.0 suits.1 refl

    -- the call, before which an activity that may end hasn't ended
    pub call-is : run_fits my_site arguments.target arguments.inputs arguments.outputs (slice_get a.earlier u) ≡ true →
        all_of (map (copied_in mine) arguments.inputs) ≡ true → BlockIs here (run_code (activity_view a) n u arguments)
    call-is fits named =
        let call = c_calling (c_call (name_of_callee (slice_get a.earlier u)) (run_args (activity_view a) n u arguments)) in
        let ends : Bool = may_end_in (slice_get a.earlier u) in
        block_append here (stmt_where ends (c_set ended_place (c_truth false))) (call ∷ [])
        (where-is ends (c_set ended_place (c_truth false))
        (λ may. put-is units entry k a table known h false bool_type ended_place (c_truth false) (ended-is units entry k a table known h run has may)
        (literal-is here _ _)))
        (block_one here call (call-by (slice_get a.earlier u) refl fits named))

    target-by : (o : Option UnitDef) (target : Option Path) → slice_get a.earlier u ≡ o →
        run_fits my_site target arguments.inputs arguments.outputs o ≡ true → BlockIs here (target_code (activity_view a) n target)
    target-by o None there fits = block_nil here
    target-by None (Some path) there fits = absurd (cc)
    target-by (Some callee) (Some path) there fits =
        by callee.result refl (and_first (target_fits my_site callee.result (Some path)) _ (and_second (is_activity my_site.kind && is_activity
        callee.kind) _ fits))
      where
        by : (r : Option ScalarType) → callee.result ≡ r → target_fits my_site r (Some path) ≡ true → BlockIs here (target_code (activity_view a)
            n (Some path))
        by None is fits = absurd (cc)
        by (Some s) is fits =
            let same = same_found (Some (scalar s)) (type_of_path my_site path) (and_second (is_outlet my_site path) _ fits) in
            let typed : type_of_path my_site path ≡ Some (scalar s) = same.2 ∙ sym same.1 in
            let at = path_is path (scalar s) (and_first (is_plain path) (is_assignable my_site path) (and_first (is_outlet my_site path) _ fits)) typed in
            let ty : c_type a.structs (scalar s) ≡ OfScalar (c_scalar s) = c_scalar_type a.structs (scalar s) s (scalar_alone s) in
            block_one here (c_set (stands my_site path).place (c_read (given_place n)))
            (put-is units entry k a table known h (leads_through my_site (out-Path path).root) (OfScalar (c_scalar s)) (stands my_site path).place
            (c_read (given_place n))
            (subst (λ t. PlaceIs here (leads_through my_site (out-Path path).root) t (stands my_site path).place) ty at.is)
            (read-is here false (OfScalar (c_scalar s)) (given_place n) (given-is units entry k a table known h run callee s has there is)))

    -- the target gets the result
    pub target-is : run_fits my_site arguments.target arguments.inputs arguments.outputs (slice_get a.earlier u) ≡ true →
        BlockIs here (target_code (activity_view a) n arguments.target)
    target-is fits = target-by (slice_get a.earlier u) arguments.target refl fits
