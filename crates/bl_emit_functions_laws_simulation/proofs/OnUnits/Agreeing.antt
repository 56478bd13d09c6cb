-- The C functions that a table knows do what the functions of the program do.
use Rattle.std.proofs.Common.{◌≡◌, ℕ, zero, suc, ◌+◌, ◌<◌, ◌≤◌, arith, Bool, true, false, List, [], ◌∷◌, ◌++◌, map, take}
use Rattle.std.proofs.Common.{length, Option, Some, None, refl, sym, ap, ◌∙◌, subst}
use Rattle.std.proofs.lemmas.Bool.{eq-eqb, eqb-true}
use Rattle.std.proofs.lemmas.List.{length-take}
use Rattle.std.proofs.lemmas.Option.{same_Some, slice_get_within}
use Rattle.std.specs.Prelude.{Contains, is_none, option_map, slice_get, ◌==◌}
use Rattle.bl_tree.proofs.Basics.{and_first, and_second, contains_at, get_taken}
use Rattle.bl_tree.specs.declared.scalar.Scalar.{Scalar as ScalarType}
use Rattle.bl_tree.specs.declared.tree.StructDef.{StructDef}
use Rattle.bl_tree.specs.declared.tree.Unit.{Unit as UnitDef}
use Rattle.bl_tree.specs.declared.value.Value.{Value}
use Rattle.bl_tree.specs.Program.{IsWellTyped}
use Rattle.bl_tree.specs.Reduce.{joined}
use Rattle.bl_tree.specs.Typing.{inputs_of, is_function, is_procedure, outputs_of}
use Rattle.bl_effects.specs.Rules.{Aliased, aliases_in}
use Rattle.bl_eval.specs.declared.datum.Left.{Left}
use Rattle.bl_eval.specs.Functions.{callee_of, callees_of}
use Rattle.bl_eval.specs.Meaning.{Callee}
use Rattle.bl_eval.specs.Values.{values_fit}
use Rattle.bl_eval.proofs.MeaningLemmas.{function_there}
use Rattle.bl_eval.proofs.PassLemmas.{take_less}
use Rattle.bl_ctext_semantics.specs.Meaning.{ArgumentValue, CallResult, Meaning, Scope, applied, by_address, function_c}
use Rattle.bl_ctext_semantics.specs.Memory.{Location, Memory}
use Rattle.bl_ctext_semantics.specs.Tables.{Table}
use Rattle.bl_emit_acts.specs.Types.{unit_name}
use Rattle.bl_emit_acts_laws_simulation.specs.Acts.{CallSimulates, MayPass, OutputsEncoded}
use Rattle.bl_emit_acts_laws_simulation.specs.Simulation.{ArgumentsEncoded, number_given, number_returned}
use Rattle.bl_emit_functions.specs.Functions.{function_code}
use Rattle.bl_emit_functions_laws_simulation.specs.Calls.{MayRun, ProceduresSimulate, scope_begun}
use Rattle.bl_emit_functions_laws_simulation.specs.Results.{CallReturns, ResultsSimulate}
use Rattle.bl_emit_functions_laws_simulation.specs.Units.{AllAgree, AllNamesSuffice, FunctionsSimulate, KnownAt, KnownUpTo, NamesSuffice, NoneOverlaps}

-- ---- tables

-- the C function of a function before a position
pub known_at : (structs : List StructDef) (units : List UnitDef) (k f : ℕ) (known : Table Meaning) → f < k → KnownUpTo structs units k known →
    KnownAt structs units f (KnownUpTo structs units f) known
known_at structs units zero f known less all = absurd (omega (arith, less))
known_at structs units (suc k) f known less all = by (f == k) refl (λ less. known_at structs units k f known less all.0)
  where
    by : (last : Bool) → (f == k) ≡ last → (f < k → KnownAt structs units f (KnownUpTo structs units f) known) →
        KnownAt structs units f (KnownUpTo structs units f) known
    by true is before =
        subst (λ n. KnownAt structs units n (KnownUpTo structs units n) known) (sym (eqb-true f k is)) all.1
    by false is before =
        let differ : f ≡ k → ⊥ = λ same. (let no = sym (eq-eqb f k same) ∙ is in cc) in
        before (omega (arith, less, differ))

-- ---- what is asked of a function

none_overlap : (units : List UnitDef) (k : ℕ) (unit : UnitDef) → NoneOverlaps units → slice_get units k ≡ Some unit →
    joined (map aliases_in unit.body) ≡ []
none_overlap units k unit none there = by (joined (map aliases_in unit.body)) refl
  where
    by : (all : List Aliased) → joined (map aliases_in unit.body) ≡ all → all ≡ []
    by [] is = refl
    by (first ∷ rest) is =
        absurd (none first.at (first.also ∷ []) (record {
          unit = unit;
          is_there = contains_at units k unit there;
          aliased = first;
          fails = subst (λ all. Contains all first) (sym is) (0, omega arith, refl);
          at_one = refl;
          at_other = refl;
        }))

function_of : (unit : UnitDef) → is_procedure unit ≡ true → (is_function unit.kind ≡ true) × (unit.result ≡ None)
function_of unit h =
    (and_first (is_function unit.kind) (is_none unit.result) h, no_result unit.result (and_second (is_function unit.kind) (is_none unit.result) h))
  where
    no_result : {A : Type 0} (o : Option A) → is_none o ≡ true → o ≡ None
    no_result None h = refl
    no_result (Some x) h = absurd (cc)

-- ---- one function after another

returned_by : (depth : ℕ) (here : Memory) (left : Option Left) (called : CallResult)
    → CallReturns depth here left called → called.result ≡ number_returned left
returned_by depth here None called h = h
returned_by depth here (Some left) called h = h.is_returned ∙ sym (ap (option_map number_given) h.is_given)

module _ (structs : List StructDef) (units : List UnitDef) (entry : ℕ) (keeps : IsWellTyped structs units entry) (none : NoneOverlaps units)
    (names : AllNamesSuffice structs units) (results : ResultsSimulate structs units entry) (procedures : ProceduresSimulate structs units entry) where
  module _ (k : ℕ) (scope : Scope) (all : KnownUpTo structs units k scope.known)
      (lower : (f : ℕ) (scope : Scope) → f < k → KnownUpTo structs units f scope.known → AllAgree structs units f scope) where
    inside : (f : ℕ) (unit : UnitDef) → slice_get (take k units) f ≡ Some unit → f < k
    inside f unit at =
        let less : f < length (take k units) = slice_get_within (take k units) f unit at in omega (arith, less, length-take k units)

    there_at : (f : ℕ) (unit : UnitDef) → slice_get (take k units) f ≡ Some unit → slice_get units f ≡ Some unit
    there_at f unit at = sym (get_taken units k f (inside f unit at)) ∙ at

    -- what a function before the position does
    abbrev made : ℕ → UnitDef → Callee
    made f unit = callee_of structs (callees_of structs (take f units)) unit

    made_is : (f : ℕ) (unit : UnitDef) (callee : Callee) → slice_get (take k units) f ≡ Some unit → is_function unit.kind ≡ true →
        slice_get (callees_of structs (take k units)) f ≡ Some callee → made f unit ≡ callee
    made_is f unit callee at function is =
        ap (λ earlier. callee_of structs (callees_of structs earlier) unit) (sym (take_less units k f (inside f unit at)))
        ∙ same_Some (callee_of structs (callees_of structs (take f (take k units))) unit) callee
        (sym (function_there structs (take k units) f unit at function) ∙ is)

    may_run : (f : ℕ) (unit : UnitDef) (below : Table Meaning) (depth : ℕ) (passed : List ArgumentValue) → slice_get (take k units) f ≡ Some unit →
        is_function unit.kind ≡ true → KnownUpTo structs units f below → MayRun structs units f unit below depth passed
    may_run f unit below depth passed at function known =
        let there = there_at f unit at in
        let few : NamesSuffice structs units f unit = names f unit there function in
        let before = lower f (scope_begun below (function_code structs (take f units) unit) depth passed) (inside f unit at) known in
        record {
          vars = few.vars;
          flags = few.flags;
          apart = none_overlap units f unit none there;
          functions = before.functions;
          procedures = before.procedures;
        }

    function_comes : (f : ℕ) (unit : UnitDef) (callee : Callee) (s : ScalarType) (values : List Value) (passed : List ArgumentValue) (here : Memory) →
        slice_get (take k units) f ≡ Some unit → slice_get (callees_of structs (take k units)) f ≡ Some callee → is_function unit.kind ≡ true →
        unit.result ≡ Some s → values_fit structs (inputs_of unit) values ≡ true → ArgumentsEncoded structs scope.depth here (inputs_of unit) values passed →
        (applied (scope.known (unit_name unit.name)) (scope.depth + 1) passed here).result ≡ number_returned (callee values)
    function_comes f unit callee s values passed here at is function result fit holds =
        let found = known_at structs units k f scope.known (inside f unit at) all unit (there_at f unit at) function in
        let code = function_code structs (take f units) unit in
        ap (λ meaning. (applied meaning (scope.depth + 1) passed here).result) found.1
        ∙ (returned_by scope.depth here (made f unit values) (function_c found.0 code (scope.depth + 1) passed here)
        (results f unit s found.0 scope.depth values passed here keeps (there_at f unit at) function result
        (may_run f unit found.0 (scope.depth + 1) passed at function found.2) fit holds)
        ∙ ap (λ (callee : Callee). number_returned (callee values)) (made_is f unit callee at function is))

    procedure_comes : (f : ℕ) (unit : UnitDef) (callee : Callee) (values given : List Value) (passed : List ArgumentValue) (outputs : List Location)
        (here : Memory) → slice_get (take k units) f ≡ Some unit → slice_get (callees_of structs (take k units)) f ≡ Some callee →
        is_procedure unit ≡ true → values_fit structs (inputs_of unit) values ≡ true → values_fit structs (outputs_of unit) given ≡ true →
        ArgumentsEncoded structs scope.depth here (inputs_of unit) values passed → OutputsEncoded structs here (outputs_of unit) given outputs →
        MayPass scope.depth passed outputs →
        CallSimulates structs (outputs_of unit) scope.depth outputs here (callee (values ++ given))
        (applied (scope.known (unit_name unit.name)) (scope.depth + 1) (passed ++ map by_address outputs) here)
    procedure_comes f unit callee values given passed outputs here at is procedure fit fit_given holds outs may =
        let kind = function_of unit procedure in
        let found = known_at structs units k f scope.known (inside f unit at) all unit (there_at f unit at) kind.0 in
        let code = function_code structs (take f units) unit in
        subst (λ meaning. CallSimulates structs (outputs_of unit) scope.depth outputs here (callee (values ++ given))
        (applied meaning (scope.depth + 1) (passed ++ map by_address outputs) here)) (sym found.1)
        (subst (λ (callee : Callee). CallSimulates structs (outputs_of unit) scope.depth outputs here (callee (values ++ given))
        (function_c found.0 code (scope.depth + 1) (passed ++ map by_address outputs) here)) (made_is f unit callee at kind.0 is)
        (procedures f unit found.0 scope.depth values given passed outputs here keeps (there_at f unit at) kind.0 kind.1
        (may_run f unit found.0 (scope.depth + 1) (passed ++ map by_address outputs) at kind.0 found.2) fit fit_given holds outs may))

    agree_by : AllAgree structs units k scope
    agree_by = record {
      functions = record {
        each = λ f unit callee s values passed here at is function no_outputs result fit holds.
            function_comes f unit callee s values passed here at is function result fit holds;
      };
      procedures = record {
        each = λ f unit callee values given passed outputs here at is procedure fit fit_given holds outs may.
            procedure_comes f unit callee values given passed outputs here at is procedure fit fit_given holds outs may;
      };
    }

  agree_up_to : (n k : ℕ) (scope : Scope) → k ≤ n → KnownUpTo structs units k scope.known → AllAgree structs units k scope
  agree_up_to zero k scope within all = agree_by k scope all (λ f scope less known. absurd (omega (arith, within, less)))
  agree_up_to (suc n) k scope within all =
      agree_by k scope all (λ f scope less known. agree_up_to n f scope (omega (arith, within, less)) known)

pub functions_come_all : (structs : List StructDef) (units : List UnitDef) (entry : ℕ) → ResultsSimulate structs units entry →
    ProceduresSimulate structs units entry → FunctionsSimulate structs units entry
functions_come_all structs units entry results procedures k scope keeps none names all =
    agree_up_to structs units entry keeps none names results procedures k k scope (omega arith) all
