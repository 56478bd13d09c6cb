-- The law of the statements of a whole program's functions.
use Rattle.std.proofs.Common.{◌≡◌, ℕ, ◌≤◌, ◌^◌, Bool, true, false, ◌||◌, List, [], ◌∷◌, map, take, Option, Some, None, refl, sym}
use Rattle.std.proofs.Common.{ap, ◌∙◌, subst, IfSome}
use Rattle.std.proofs.lemmas.List.Elements.{All-cons, All-nil}
use Rattle.std.proofs.lemmas.Option.{same_Some}
use Rattle.std.specs.Prelude.{All, is_some, option_and_then, option_map, slice_get, if◌then◌else◌}
use Rattle.std.proofs.lemmas.Bool.{and_from}
use Rattle.bl_tree.proofs.Basics.{and_first, and_second}
use Rattle.bl_tree.specs.declared.place.Place.{Place}
use Rattle.bl_tree.specs.declared.scalar.Scalar.{Scalar as ScalarType}
use Rattle.bl_tree.specs.declared.tree.Arm.{Arm}
use Rattle.bl_tree.specs.declared.tree.Branch.{Branch}
use Rattle.bl_tree.specs.declared.tree.Expr.{Expr}
use Rattle.bl_tree.specs.declared.tree.Path.{Path}
use Rattle.bl_tree.specs.declared.tree.Stmt.{Stmt, fold-roll-Stmt, out-Stmt, out-roll-Stmt}
use Rattle.bl_tree.specs.declared.tree.StmtKind.{StmtKind, fold-roll-StmtKind, out-StmtKind, out-roll-StmtKind, roll-StmtKind}
use Rattle.bl_tree.specs.declared.tree.StmtKind.TheOpen.{StmtKind-F}
use Rattle.bl_tree.specs.declared.tree.StructDef.{StructDef}
use Rattle.bl_tree.specs.declared.tree.Ty.{Ty}
use Rattle.bl_tree.specs.declared.tree.Unit.{Unit as UnitDef}
use Rattle.bl_tree.specs.declared.tree.Var.{Var}
use Rattle.bl_tree.specs.declared.value.Value.{Value}
use Rattle.bl_tree.specs.Numbers.{is_one}
use Rattle.bl_tree.specs.Program.{IsWellTyped}
use Rattle.bl_tree.specs.Reduce.{all_of, joined}
use Rattle.bl_tree.specs.Scalar.{is_bool}
use Rattle.bl_tree.specs.Types.{scalar, scalar_in}
use Rattle.bl_tree.specs.Typing.{TypingContext, are_same, arguments_fit, call_fits, declaration_fits, fits, inputs_of, is_assignable, is_fixed, is_procedure}
use Rattle.bl_tree.specs.Typing.{is_truth, is_variable, outputs_of, site_of, type_of, type_of_path, var_at}
use Rattle.bl_tree.proofs.StmtInduction.{stmt}
use Rattle.bl_effects.specs.Rules.{aliases_in}
use Rattle.bl_eval.specs.declared.datum.Datum.{Datum}
use Rattle.bl_eval.specs.declared.datum.Datum.TheVariants.{Scalar as OfScalar, Whole as OfWhole}
use Rattle.bl_eval.specs.Functions.{Flow, acted, callees_of, does, in_order, own, scope_among, truth}
use Rattle.bl_eval.specs.Meaning.{Scope as Sees, meaning_of, operand_in, path_meaning_of}
use Rattle.bl_eval.specs.Values.{value_fits}
use Rattle.bl_eval.proofs.ActFits.{AllFit, act_fits, same_found}
use Rattle.bl_eval.proofs.ExprFits.{Sound, expr_fits, spot_fits}
use Rattle.bl_eval.proofs.OperatorFits.{DatumFits, scalar_alone}
use Rattle.bl_eval.proofs.PassLemmas.{pass_at}
use Rattle.bl_eval.proofs.UnitFits.{sound_at}
use Rattle.bl_ctext_semantics.specs.Course.{Outcome}
use Rattle.bl_ctext_semantics.specs.Memory.{CValue, Memory, scalar_number}
use Rattle.bl_ctext_semantics.specs.Meaning.{Scope, block_c, value_c}
use Rattle.bl_emit_acts.specs.declared.made.Made.{Made}
use Rattle.bl_emit_acts.specs.declared.made.Made.TheVariants.{Number, Whole}
use Rattle.bl_emit_acts.specs.Acts.{call_made, c_calling, c_set, code_made, declared_code, is_copied, layer_code}
use Rattle.bl_emit_acts.specs.Expressions.{code_of, made_of, stands}
use Rattle.bl_emit_acts_laws_simulation.specs.Acts.{Simulates, before_after, copied_in_layer, is_act}
use Rattle.bl_emit_acts_laws_simulation.specs.Frames.{FrameApart}
use Rattle.bl_emit_acts_laws_simulation.specs.Encodes.{copied_in}
use Rattle.bl_emit_acts_laws_simulation.specs.Laws.{ActsSimulate, Beside, BesideActs, ExpressionsSimulate, FramesApart, overlaps_in}
use Rattle.bl_emit_acts_laws_simulation.specs.Simulation.{ExpressionSimulates, number_given}
use Rattle.bl_emit_functions.specs.declared.coded.Free.{Free}
use Rattle.bl_emit_functions.specs.Statements.{assigned_code, block_codes, codes_of, sets_itself}
use Rattle.bl_emit_functions_laws_simulation.specs.Bodies.{FlowSimulates, FunctionIsRunning, Represents, Spared, StatementsSimulate}
use Rattle.bl_emit_functions_laws_simulation.proofs.OnBodies.Bodies.{body_good}
use Rattle.bl_emit_functions_laws_simulation.proofs.OnBodies.Courses.{EndsAt, truth_c}
use Rattle.bl_emit_functions_laws_simulation.proofs.OnBodies.Itself.{itself_kept}
use Rattle.bl_emit_functions_laws_simulation.proofs.OnBodies.Memories.{fewer, flag_kept, kept_set, no_copy, onward, same, stand_set}
use Rattle.bl_emit_functions_laws_simulation.proofs.OnBodies.NoPrev.{expr_named, exprs_named, path_named, paths_named}

-- a condition is of a scalar type
truth_typed : (typed : Option Ty) → is_truth typed ≡ true → (ty : Ty) × (typed ≡ Some ty) × ((s : ScalarType) × (scalar_in ty ≡ Some s))
truth_typed None h = absurd (cc)
truth_typed (Some ty) h = (ty, refl, by (scalar_in ty) refl h)
  where
    by : (o : Option ScalarType) → scalar_in ty ≡ o → is_some (option_and_then (λ s. if is_bool s then Some s else None) o) ≡ true →
        (s : ScalarType) × (scalar_in ty ≡ Some s)
    by None is h = absurd (cc)
    by (Some s) is h = (s, is)

-- numbers in C and in the program are true together
truth_by : (structs : List StructDef) (ty : Ty) (s : ScalarType) (o : Option CValue) (datum : Option Datum) → scalar_in ty ≡ Some s →
    IfSome datum (DatumFits structs ty) → option_map scalar_number o ≡ option_map number_given datum →
    option_map (λ v. is_one (scalar_number v)) o ≡ option_map (λ a. is_one a.n) (option_and_then operand_in datum)
truth_by structs ty s None None is fit same = refl
truth_by structs ty s None (Some datum) is fit same = absurd (cc)
truth_by structs ty s (Some v) None is fit same = absurd (cc)
truth_by structs ty s (Some v) (Some (OfScalar t n)) is fit same = ap (option_map is_one) same
truth_by structs ty s (Some v) (Some (OfWhole value)) is fit same = absurd (let none = fit.0 in cc)

-- what is made of an expression of a scalar type gives its number
number_made : (structs : List StructDef) (ty : Ty) (s : ScalarType) (scope : Scope) (here : Memory) (made : Made) (datum : Option Datum) →
    scalar_in ty ≡ Some s → ExpressionSimulates structs ty scope here made datum →
    option_map scalar_number (value_c (code_of made) scope here).answer ≡ option_map number_given datum
number_made structs ty s scope here (Number r code) datum is shown = shown.1
number_made structs ty s scope here (Whole place) datum is shown = absurd (let none = shown.0 in cc)

flow_same : (site : TypingContext) (scope : Scope) (flags : ℕ) (here : Memory) (flow : Option Flow) (o : Outcome Memory) →
    EndsAt number_given (Represents site scope) (Spared site scope) flags here flow o.end o.memory → FlowSimulates site scope flags here flow o
flow_same site scope flags here None o h = h
flow_same site scope flags here (Some (Flow.On now)) o h = h
flow_same site scope flags here (Some (Flow.Back now None)) o h = h
flow_same site scope flags here (Some (Flow.Back now (Some datum))) o h = h

module _ (structs : List StructDef) (units : List UnitDef) (entry : ℕ) (k : ℕ) (unit : UnitDef) (scope : Scope) (keeps : IsWellTyped structs units entry)
    (runs : FunctionIsRunning structs units k unit scope) (expressions : ExpressionsSimulate structs units entry) (acts : ActsSimulate structs units entry)
    (frames : FramesApart) where
  abbrev site : TypingContext
  site = site_of structs (take k units) unit

  abbrev sees : Sees
  sees = scope_among structs (callees_of structs (take k units)) unit

  abbrev copied : ℕ → Bool
  copied = is_copied []

  abbrev Stand : List Value → Memory → Type 0
  Stand = Represents site scope

  abbrev AtOf : ℕ → Memory → Option Flow → Outcome Memory → Type 0
  AtOf n here flow o = EndsAt number_given Stand (Spared site scope) n here flow o.end o.memory

  sound : Sound structs (take k units) unit (callees_of structs (take k units))
  sound = sound_at structs units entry k unit keeps runs.is_there

  frame : FrameApart site copied scope
  frame = frames site copied scope runs.pointers

  beside : (now : List Value) (here : Memory) → Stand now here → Beside structs units k unit (own now) copied scope here
  beside now here stand = record {
    is_there = runs.is_there;
    fitting = record { now = stand.fits; before = stand.fits };
    variables = stand.variables;
    live = frame.live;
    copies = record { each = λ j var value copied there at. absurd (no_copy j copied) };
    functions = runs.functions;
  }

  beside_acts : (now : List Value) (here : Memory) → Stand now here → BesideActs structs units k unit (own now) copied scope here
  beside_acts now here stand = record { beside = beside now here stand; apart = frame.variables; copies_apart = frame.copies; procedures = runs.procedures }

  gives : (e : Expr) (ty : Ty) (s : ScalarType) → type_of site e ≡ Some ty → scalar_in ty ≡ Some s
      → (now : List Value) (here : Memory) → Stand now here →
      option_map scalar_number (value_c (code_made site e) scope here).answer ≡ option_map number_given (meaning_of sees e (own now))
  gives e ty s typed is now here stand =
      number_made structs ty s scope here (made_of site e) (meaning_of sees e (own now)) is
      (expressions k unit e ty (own now) copied scope here keeps (beside now here stand) typed
      (expr_named site runs.is_function copied e ty typed))

  tests : (e : Expr) → is_truth (type_of site e) ≡ true → (now : List Value) (here : Memory) → Stand now here →
      truth_c scope (code_made site e) here ≡ truth sees e now
  tests e fitted now here stand =
      let found = truth_typed (type_of site e) fitted in
      truth_by structs found.0 found.2.0 (value_c (code_made site e) scope here).answer (meaning_of sees e (own now)) found.2.1
      (expr_fits structs (take k units) unit (callees_of structs (take k units)) sound (own now) stand.fits stand.fits e found.0 found.1)
      (gives e found.0 found.2.0 found.1 found.2.1 now here stand)

  numbers : (e : Expr) (s : ScalarType) → are_same (Some (scalar s)) (type_of site e) ≡ true → (now : List Value) (here : Memory) → Stand now here →
      option_map scalar_number (value_c (code_made site e) scope here).answer ≡ option_map number_given (meaning_of sees e (own now))
  numbers e s fitted now here stand =
      let found = same_found (Some (scalar s)) (type_of site e) fitted in
      gives e found.0 s found.2 (ap scalar_in (sym (same_Some (scalar s) found.0 found.1)) ∙ scalar_alone s) now here stand

  -- ---- acts

  came : (made : Option (List Value)) (here : Memory) (o : Outcome Memory) (before : List Value → List Value)
      (n : ℕ) → IfSome made (AllFit structs unit.vars) →
      Simulates site copied scope here before made o → AtOf n here (option_map Flow.On made) o
  came None here o before n fit h = h
  came (Some now) here o before n fit h = (
    h.0,
    record { fits = fit; variables = h.1.variables },
    record { each = λ root way u. h.1.kept root way u.foreign },
  )

  layer_is : (place : Place) (layer : StmtKind-F StmtKind Arm Branch Stmt) → out-StmtKind (out-Stmt (stmt place layer)).what ≡ layer
  layer_is place layer = ap (λ s. out-StmtKind s.what) (out-roll-Stmt (record { place = place; what = roll-StmtKind layer })) ∙ out-roll-StmtKind layer

  act_at : (place : Place) (layer : StmtKind-F StmtKind Arm Branch Stmt) → is_act layer ≡ true → fits site (stmt place layer) ≡ true →
      copied_in_layer copied layer ≡ true → overlaps_in layer ≡ [] → (now : List Value) (here : Memory) (n : ℕ) → Stand now here →
      AtOf n here (option_map Flow.On (acted sees layer (own now))) (block_c (layer_code site [] layer) scope here)
  act_at place layer act fitted named clear now here n stand =
      let s : Stmt = stmt place layer in
      subst (λ (layer : StmtKind-F StmtKind Arm Branch Stmt). is_act layer ≡ true → copied_in_layer copied layer ≡ true → overlaps_in layer ≡ [] →
      AtOf n here (option_map Flow.On (acted sees layer (own now))) (block_c (layer_code site [] layer) scope here)) (layer_is place layer)
      (λ act named clear. came (acted sees (out-StmtKind (out-Stmt s).what) (own now)) here
      (block_c (layer_code site [] (out-StmtKind (out-Stmt s).what)) scope here)
      (λ new. before_after (out-StmtKind (out-Stmt s).what) new now) n
      (act_fits structs (take k units) unit (callees_of structs (take k units)) sound (own now) stand.fits stand.fits s fitted)
      (acts k unit s (own now) [] scope here keeps (beside_acts now here stand) act fitted named clear))
      act named clear

  declared_named : (j : ℕ) (initial : Option Expr) (var : Option Var) → declaration_fits site initial var ≡ true →
      copied_in_layer {A = StmtKind} {B = Arm} {C = Branch} {D = Stmt} copied (StmtKind-F.Declare j initial) ≡ true
  declared_named j None var fitted = refl
  declared_named j (Some e) None fitted = absurd (cc)
  declared_named j (Some e) (Some var) fitted =
      let found = same_found (Some var.ty) (type_of site e)
      (and_second (is_variable var.role || is_fixed var.role) (are_same (Some var.ty) (type_of site e)) fitted) in
      expr_named site runs.is_function copied e found.0 found.2

  abbrev Named : Expr → Type 0
  Named e = (ty : Ty) → type_of site e ≡ Some ty → copied_in copied e ≡ true

  called_named : (inputs : List Expr) (outputs : List Path) (callee : Option UnitDef) → call_fits site inputs outputs callee ≡ true →
      copied_in_layer {A = StmtKind} {B = Arm} {C = Branch} {D = Stmt} copied (StmtKind-F.Call 0 inputs outputs) ≡ true
  called_named inputs outputs None fitted = absurd (cc)
  called_named inputs outputs (Some callee) fitted =
      let fitting : arguments_fit site inputs outputs callee ≡ true = and_second (is_procedure callee) (arguments_fit site inputs outputs callee) fitted in
      and_from _ _ (exprs_named site runs.is_function copied inputs (inputs_of callee) (every inputs) (and_first _ _ fitting))
      (paths_named site runs.is_function copied outputs (outputs_of callee) (path_named site runs.is_function copied) (and_first _ _ (and_second _ _ fitting)))
    where
      every : (inputs : List Expr) → All Named inputs
      every [] = All-nil Named
      every (e ∷ inputs) = All-cons Named e inputs (expr_named site runs.is_function copied e) (every inputs)

  module _ (n : ℕ) (now : List Value) (here : Memory) (stand : Stand now here) (place : Place) where
    declare_at : (j : ℕ) (initial : Option Expr) → fits site (stmt place (StmtKind-F.Declare j initial)) ≡ true →
        AtOf n here (does sees (stmt place (StmtKind-F.Declare j initial)) now) (block_c (declared_code site [] j initial) scope here)
    declare_at j initial fitted =
        rw (fold-roll-Stmt, fold-roll-StmtKind)
        (act_at place (StmtKind-F.Declare j initial) refl fitted
        (declared_named j initial (var_at site j) (rw (fold-roll-Stmt, fold-roll-StmtKind) at fitted)) refl now here n stand)

    assign_at : (path : Path) (e : Expr) → fits site (stmt place (StmtKind-F.Assign path e)) ≡ true →
        AtOf n here (does sees (stmt place (StmtKind-F.Assign path e)) now) (block_c (assigned_code site path e) scope here)
    assign_at path e fitted =
        by (same_found (type_of_path site path) (type_of site e)
        (and_second (is_assignable site path) (are_same (type_of_path site path) (type_of site e)) (rw (fold-roll-Stmt, fold-roll-StmtKind) at fitted)))
        (sets_itself path e) refl
      where
        by : ((ty : Ty) × (type_of_path site path ≡ Some ty) × (type_of site e ≡ Some ty)) → (itself : Bool) → sets_itself path e ≡ itself →
            AtOf n here (does sees (stmt place (StmtKind-F.Assign path e)) now)
            (block_c (if itself then [] else c_set (stands site path).place (code_made site e) ∷ []) scope here)
        by typed false itself =
            rw (fold-roll-Stmt, fold-roll-StmtKind)
            (act_at place (StmtKind-F.Assign path e) refl fitted
            (and_from _ _ (path_named site runs.is_function copied path typed.0 typed.1) (expr_named site runs.is_function copied e typed.0 typed.2))
            refl now here n
            stand)
        by typed true itself =
            let spot = spot_fits structs (take k units) unit (callees_of structs (take k units)) sound (own now) stand.fits stand.fits path typed.0 typed.1 in
            let stored = pass_at (λ (var : Var). value_fits structs var.ty) unit.vars now (path_meaning_of sees path).root spot.var stand.fits spot.is_there in
            rw (fold-roll-Stmt, fold-roll-StmtKind)
            (subst (λ made. AtOf n here (option_map Flow.On made) (block_c [] scope here)) (sym (itself_kept sees path e itself now stored.0 stored.1))
            (refl, stand, same site runs.is_function scope runs.pointers n here))

    call_at : (f : ℕ) (inputs : List Expr) (outputs : List Path) → fits site (stmt place (StmtKind-F.Call f inputs outputs)) ≡ true →
        aliases_in (stmt place (StmtKind-F.Call f inputs outputs)) ≡ [] →
        AtOf n here (does sees (stmt place (StmtKind-F.Call f inputs outputs)) now) (block_c (c_calling (call_made site f inputs outputs) ∷ []) scope here)
    call_at f inputs outputs fitted apart =
        rw (fold-roll-Stmt, fold-roll-StmtKind)
        (act_at place (StmtKind-F.Call f inputs outputs) refl fitted
        (called_named inputs outputs (slice_get (take k units) f) (rw (fold-roll-Stmt, fold-roll-StmtKind) at fitted))
        (rw (fold-roll-Stmt, fold-roll-StmtKind) at apart) now here n stand)

  pub statements : (body : List Stmt) (free : Free) (now : List Value) (here : Memory) → all_of (map (fits site) body) ≡ true →
      joined (map aliases_in body) ≡ [] → (block_codes (map (codes_of site) body) free).free.flags ≤ 2 ^ 64 → Stand now here →
      FlowSimulates site scope free.flags here (in_order (map (does sees) body) now) (block_c (block_codes (map (codes_of site) body) free).code scope here)
  statements body free now here fitted apart few stand =
      flow_same site scope free.flags here (in_order (map (does sees) body) now) (block_c (block_codes (map (codes_of site) body) free).code scope here)
      ((body_good number_given Stand (Spared site scope) (same site runs.is_function scope runs.pointers) (onward site runs.is_function scope runs.pointers)
      (fewer site runs.is_function scope runs.pointers) scope (kept_set site runs.is_function scope runs.pointers)
      (flag_kept site runs.is_function scope runs.pointers) (stand_set site runs.is_function scope runs.pointers) site sees runs.is_function tests numbers
      (λ place j initial fitted n now here stand. declare_at n now here stand place j initial fitted)
      (λ place path e fitted n now here stand. assign_at n now here stand place path e fitted)
      (λ place f inputs outputs fitted apart n now here stand. call_at n now here stand place f inputs outputs fitted apart)
      body fitted apart free).1 few now here stand)

pub come : (structs : List StructDef) (units : List UnitDef) (entry : ℕ) → ExpressionsSimulate structs units entry → ActsSimulate structs units entry →
    FramesApart → StatementsSimulate structs units entry
come structs units entry expressions acts frames k unit scope body free now here keeps runs fitted apart few stand =
    statements structs units entry k unit scope keeps runs expressions acts frames body free now here fitted apart few stand
