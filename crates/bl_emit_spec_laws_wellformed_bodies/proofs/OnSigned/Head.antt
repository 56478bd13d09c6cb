-- No clause fails in the C function of an activity.
use Rattle.std.proofs.Common.{◌≡◌, ℕ, suc, ◌+◌, ◌≤◌, Bool, true, false, ◌&&◌, ◌||◌, List, [], ◌∷◌, ◌++◌, map}
use Rattle.std.proofs.Common.{length, Option, Some, None}
use Rattle.std.proofs.Common.{refl, sym, ap, ◌∙◌, subst, arith, codes}
use Rattle.std.proofs.lemmas.Bool.Decides.{nat_tests}
use Rattle.std.proofs.lemmas.List.{map-append}
use Rattle.std.proofs.lemmas.List.Elements.{Contains-append_left, Contains-append_right}
use Rattle.std.specs.Prelude.{is_none, is_some, nat_le, nat_lt, option_and_then, slice_get, if◌then◌else◌}
use Rattle.std.specs.List.{list_all}
use Rattle.std.proofs.lemmas.Bool.{and_from}
use Rattle.bl_tree.proofs.Basics.{all_append, contains_first}
use Rattle.bl_tree.specs.declared.text.Text.{Text}
use Rattle.bl_tree.specs.declared.c.CFunc.{CFunc}
use Rattle.bl_tree.specs.declared.c.CLocal.{CLocal}
use Rattle.bl_tree.specs.declared.c.CMember.{CMember}
use Rattle.bl_tree.specs.declared.c.CParam.{CParam}
use Rattle.bl_tree.specs.declared.scalar.Scalar.{Scalar as ScalarType}
use Rattle.bl_tree.specs.declared.scalar.Scalar.TheVariants.{Bool as OfBool}
use Rattle.bl_tree.specs.declared.tree.StructDef.{StructDef}
use Rattle.bl_tree.specs.declared.tree.Unit.{Unit as UnitDef}
use Rattle.bl_tree.specs.declared.tree.Var.{Var}
use Rattle.bl_tree.specs.Program.{IsWellTyped, is_output, parameters_of}
use Rattle.bl_tree.specs.Reduce.{joined}
use Rattle.bl_tree.specs.Types.{scalar_in, type_stands}
use Rattle.bl_eval.proofs.PassLemmas.{all_at}
use Rattle.bl_ctext_semantics.specs.Faults.{Signature, Variable, all_distinct, declared_before, depth_of_function, distinct_names, faults_in_head, is_declared}
use Rattle.bl_ctext_semantics.specs.Faults.{is_scalar, scalar_parameter, short_chain, variable_names}
use Rattle.bl_ctext_semantics.specs.Faults as faults
use Rattle.bl_ctext_semantics.specs.Tables.{Table, no_entries}
use Rattle.bl_emit_acts.specs.Types.{c_type}
use Rattle.bl_emit_structs.specs.Structs.{arrays_of, structs_for_definition, structs_for_unit}
use Rattle.bl_emit_functions.specs.Functions.{memory_name, param_of, params_from, struct_of}
use Rattle.bl_emit_acts_laws_wellformed.specs.Formed.Declared.{AreDeclared, parameter_for}
use Rattle.bl_emit_acts_laws_wellformed.proofs.OnFormed.Judged.{kept}
use Rattle.bl_emit_acts_laws_wellformed.proofs.OnFormed.Parts.{c_scalar_type, joined_has}
use Rattle.bl_emit_acts_laws_wellformed.proofs.OnFormed.TypeNames.{type_declared, whole_type}
use Rattle.bl_emit_acts_laws_wellformed.proofs.OnFormed.Units.{taken_there, vars_stand}
use Rattle.bl_emit_structs_laws_wellformed.proofs.OnFormed.Faultless.{all_differ}
use Rattle.bl_machine_pass.specs.Transitions.{Change, Transition}
use Rattle.bl_machine_pass.specs.Transitions.{ClearsBoth, ClearsCounter, EndsWhen, Finishes, SetsCounter, SetsFlag, SetsMark}
use Rattle.bl_emit_spec.specs.Blocks.{unit_may_end}
use Rattle.bl_emit_spec.specs.Activities.{Activity, RunAt, activity_function, activity_locals, activity_params, activity_view, copied_in, copy_local}
use Rattle.bl_emit_spec.specs.Activities.{counters_read, first_rules, flag_local, given_local, is_flagged, mark_local, mark_locals, memory_params, over_params}
use Rattle.bl_emit_spec.specs.Activities.{pointer_param, remembered, remembers_any, rested_local, result_params, rules_at, run_locals, runs_in_body}
use Rattle.bl_emit_spec.specs.Activities.{scalar_local, word_of_run, ended_local, some_ends}
use Rattle.bl_emit_spec.specs.Blocks.{ActivityView, node_word}
use Rattle.bl_emit_spec.specs.Names.{NumberedWord, flag_name, frame_name}
use Rattle.bl_emit_spec_laws_wellformed.specs.Names.{LocalsDiffer, NumbersDiffer}
use Rattle.bl_emit_spec_laws_wellformed_bodies.specs.Bodies.{ActivityBodiesWellFormed, ActivityStands, memory_given, over_given, result_given}
use Rattle.bl_emit_spec_laws_wellformed_bodies.specs.Signed.{ActivitiesSigned, ActivitiesWellFormed, NoneLoops}

-- ---- parameters

abbrev as_variable : CParam → Variable
as_variable p = record { pointer = p.pointer; ty = p.ty }

params_are : (structs : List StructDef) (all : List Var) (base : ℕ) (vars : List Var) →
    map as_variable (params_from structs all base vars) ≡ map (parameter_for structs) vars
params_are structs all base [] = refl
params_are structs all base (var ∷ vars) = ap (λ rest. parameter_for structs var ∷ rest) (params_are structs all (base + 1) vars)

memory_are : (a : Activity) (b : Bool) → map as_variable (memory_params a b) ≡ memory_given a.unit b
memory_are a true = refl
memory_are a false = refl

result_are : (r : Option ScalarType) → map as_variable (result_params r) ≡ result_given r
result_are (Some s) = refl
result_are None = refl

over_are : (ends : Bool) → map as_variable (over_params ends) ≡ over_given ends
over_are true = refl
over_are false = refl

pub signed : ActivitiesSigned
signed a =
    let ends : Bool = unit_may_end a.unit in
    let behind : List CParam = result_params a.unit.result ++ over_params ends in
    let params : List CParam = params_from a.structs a.unit.vars 0 (parameters_of a.unit) in
    let whole : map as_variable (memory_params a (remembers_any a) ++ (params ++ behind))
    ≡ memory_given a.unit (remembers_any a) ++ (map (parameter_for a.structs) (parameters_of a.unit)
    ++ (result_given a.unit.result ++ over_given ends)) =
    map-append as_variable (memory_params a (remembers_any a)) (params ++ behind)
    ∙ (λ i. memory_are a (remembers_any a) i ++ map-append as_variable params behind i)
    ∙ (λ i. memory_given a.unit (remembers_any a) ++ (params_are a.structs a.unit.vars 0 (parameters_of a.unit) i
    ++ map-append as_variable (result_params a.unit.result) (over_params ends) i))
    ∙ (λ i. memory_given a.unit (remembers_any a) ++ (map (parameter_for a.structs) (parameters_of a.unit)
    ++ (result_are a.unit.result i ++ over_are ends i))) in
    ap (λ (rest : List Variable). record {
      widens = false;
      params = as_variable (pointer_param (codes "f") (frame_name a.unit.name)) ∷ rest;
      result = None;
    }) whole

-- ---- what holds of each

all_mapped : {A B : Type 0} (p : B → Bool) (f : A → B) (xs : List A) → ((x : A) → p (f x) ≡ true) → list_all p (map f xs) ≡ true
all_mapped p f [] each = refl
all_mapped p f (x ∷ xs) each = and_from (p (f x)) (list_all p (map f xs)) (each x) (all_mapped p f xs each)

all_joined : {A B : Type 0} (p : B → Bool) (f : A → List B) (xs : List A) → ((x : A) → list_all p (f x) ≡ true) →
    list_all p (joined (map f xs)) ≡ true
all_joined p f [] each = refl
all_joined p f (x ∷ xs) each = all_append p (f x) (joined (map f xs)) (each x) (all_joined p f xs each)

params_all : (structs : List StructDef) (all : List Var) (test : CParam → Bool) (base : ℕ) (vars : List Var) →
    ((k j : ℕ) (var : Var) → slice_get vars j ≡ Some var → test (param_of structs all k var) ≡ true) → list_all test (params_from structs all
    base vars) ≡ true
params_all structs all test base [] each = refl
params_all structs all test base (v ∷ vars) each =
    and_from (test (param_of structs all base v)) (list_all test (params_from structs all (base + 1) vars)) (each base 0 v refl)
    (params_all structs all test (base + 1) vars (λ k j var found. each k (suc j) var found))

scalar_or_pointer : (structs : List StructDef) (var : Var) (s : Option ScalarType) → scalar_in var.ty ≡ s →
    ((is_output var.role || is_none s) || is_scalar (c_type structs var.ty)) ≡ true
scalar_or_pointer structs var None is = by (is_output var.role)
  where
    by : (b : Bool) → ((b || true) || is_scalar (c_type structs var.ty)) ≡ true
    by true = refl
    by false = refl
scalar_or_pointer structs var (Some s) is = by (is_output var.role)
  where
    by : (b : Bool) → ((b || false) || is_scalar (c_type structs var.ty)) ≡ true
    by true = refl
    by false = ap is_scalar (c_scalar_type structs var.ty s is)

-- ---- locals are numbers and bools

module _ (table : Table (Table CMember)) where
  abbrev fine : CLocal → Bool
  fine l = is_declared table l.ty

  flag_fine : (view : ActivityView) (rule : Transition) → list_all fine (flag_local view rule) ≡ true
  flag_fine view rule = by (is_flagged rule.condition) (flag_name (node_word view rule.node))
    where
      by : (b : Bool) (name : Text) → list_all fine (if b then scalar_local OfBool name ∷ [] else []) ≡ true
      by true name = refl
      by false name = refl

  mark_fine : (view : ActivityView) (change : Change) → list_all fine (mark_local view change) ≡ true
  mark_fine view (SetsMark n) = refl
  mark_fine view (SetsFlag n) = refl
  mark_fine view (SetsCounter slot) = refl
  mark_fine view (ClearsCounter c) = refl
  mark_fine view (ClearsBoth c) = refl
  mark_fine view (EndsWhen start surface depth) = refl
  mark_fine view Finishes = refl

  given_fine : (n : NumberedWord) (o : Option ScalarType) → list_all fine (given_local n o) ≡ true
  given_fine n (Some s) = refl
  given_fine n None = refl

  run_fine : (a : Activity) (run : RunAt) → list_all fine (run_locals a run) ≡ true
  run_fine a run = given_fine (word_of_run a.earlier run) (option_and_then (λ (unit : UnitDef). unit.result) (slice_get a.earlier run.unit))

  ended_fine : (ends : Bool) → list_all fine (ended_local ends) ≡ true
  ended_fine true = refl
  ended_fine false = refl

  locals-fine : (a : Activity) → list_all fine (activity_locals a) ≡ true
  locals-fine a =
      let view : ActivityView = activity_view a in
      let of_results : List CLocal = joined (map (run_locals a) (runs_in_body a)) in
      let ends : Bool = some_ends a.earlier (runs_in_body a) in
      let of_runs : List CLocal = ended_local ends ++ of_results in
      let of_copies : List CLocal = map (copy_local a) (copied_in a) in
      let of_marks : List CLocal = joined (map (mark_locals view) (rules_at a)) in
      let of_flags : List CLocal = joined (map (flag_local view) (first_rules a)) in
      all_append fine (map (rested_local a.sizes) (counters_read a)) (of_flags ++ (of_marks ++ (of_copies ++ of_runs)))
      (all_mapped fine (rested_local a.sizes) (counters_read a) (λ c. refl))
      (all_append fine of_flags (of_marks ++ (of_copies ++ of_runs)) (all_joined fine (flag_local view) (first_rules a) (flag_fine view))
      (all_append fine of_marks (of_copies ++ of_runs)
      (all_joined fine (mark_locals view) (rules_at a) (λ rule. all_joined fine (mark_local view) rule.on_true (mark_fine view)))
      (all_append fine of_copies of_runs (all_mapped fine (copy_local a) (copied_in a) (λ j. refl))
      (all_append fine (ended_local ends) of_results (ended_fine ends)
      (all_joined fine (run_locals a) (runs_in_body a) (run_fine a))))))

-- ---- the function

module _ (units : List UnitDef) (entry k : ℕ) (a : Activity) (keeps : IsWellTyped a.structs units entry) (there : slice_get units k ≡ Some a.unit)
    (differ : NumbersDiffer a) (locals : LocalsDiffer) (table : Table (Table CMember)) (functions : Table Signature)
    (stands : ActivityStands units a table functions) where
  abbrev f : CFunc
  f = activity_function a

  var_declared : (j : ℕ) (var : Var) → slice_get a.unit.vars j ≡ Some var → is_declared table (c_type a.structs var.ty) ≡ true
  var_declared j var found = by (scalar_in var.ty) refl
    where
      by : (s : Option ScalarType) → scalar_in var.ty ≡ s → is_declared table (c_type a.structs var.ty) ≡ true
      by (Some s) is = ap (is_declared table) (c_scalar_type a.structs var.ty s is)
      by None is =
          ap (is_declared table) (whole_type a.structs var.ty is)
          ∙ type_declared a.structs (faults.context_in table functions f)
          (λ s has. stands.declared s (Contains-append_left (joined (map (structs_for_definition a.structs) a.structs))
          (joined (map (structs_for_unit a.structs) units)) s has))
          var.ty
          (all_at (λ (var : Var). type_stands (length a.structs) var.ty) a.unit.vars j var (vars_stand a.structs units entry keeps k a.unit there) found) is
          (λ s has. stands.declared s (Contains-append_right (joined (map (structs_for_definition a.structs) a.structs))
          (joined (map (structs_for_unit a.structs) units)) s
          (joined_has (structs_for_unit a.structs) units k a.unit s there
          (joined_has (λ (var : Var). arrays_of a.structs var.ty) a.unit.vars j var s found has))))

  any_there : (members : List CMember) → nat_lt 0 (length members) ≡ true → AreDeclared table (struct_of a.unit.name members) →
      is_some (table (memory_name a.unit.name)) ≡ true
  any_there [] any declared = absurd (cc)
  any_there (m ∷ members) any declared = ap is_some (declared _ (contains_first _ []))

  memory_declared : (b : Bool) → remembers_any a ≡ b → list_all (λ (p : CParam). is_declared table p.ty) (memory_params a b) ≡ true
  memory_declared true is = and_from (is_some (table (memory_name a.unit.name))) true (any_there (remembered a) is stands.memory) refl
  memory_declared false is = refl

  result_declared : (r : Option ScalarType) (ends : Bool) → list_all (λ (p : CParam). is_declared table p.ty) (result_params r ++ over_params ends) ≡ true
  result_declared (Some s) true = refl
  result_declared (Some s) false = refl
  result_declared None true = refl
  result_declared None false = refl

  params_declared : list_all (λ (p : CParam). is_declared table p.ty) (activity_params a) ≡ true
  params_declared =
      let test : CParam → Bool = λ (p : CParam). is_declared table p.ty in
      let params : List CParam = params_from a.structs a.unit.vars 0 (parameters_of a.unit) in
      let behind : List CParam = result_params a.unit.result ++ over_params (unit_may_end a.unit) in
      and_from (is_some (table (frame_name a.unit.name))) (list_all test (memory_params a (remembers_any a) ++ (params ++ behind)))
      (ap is_some stands.frame)
      (all_append test (memory_params a (remembers_any a)) (params ++ behind) (memory_declared (remembers_any a) refl)
      (all_append test params behind
      (params_all a.structs a.unit.vars test 0 (parameters_of a.unit)
      (λ i j var found. var_declared j var (taken_there a.unit.vars (a.unit.inputs + a.unit.outputs) j var found)))
      (result_declared a.unit.result (unit_may_end a.unit))))

  memory_scalar : (b : Bool) → list_all (λ (p : CParam). p.pointer || is_scalar p.ty) (memory_params a b) ≡ true
  memory_scalar true = refl
  memory_scalar false = refl

  result_scalar : (r : Option ScalarType) (ends : Bool) →
      list_all (λ (p : CParam). p.pointer || is_scalar p.ty) (result_params r ++ over_params ends) ≡ true
  result_scalar (Some s) true = refl
  result_scalar (Some s) false = refl
  result_scalar None true = refl
  result_scalar None false = refl

  params_scalar : list_all (λ (p : CParam). p.pointer || is_scalar p.ty) (activity_params a) ≡ true
  params_scalar =
      let test : CParam → Bool = λ (p : CParam). p.pointer || is_scalar p.ty in
      let params : List CParam = params_from a.structs a.unit.vars 0 (parameters_of a.unit) in
      let behind : List CParam = result_params a.unit.result ++ over_params (unit_may_end a.unit) in
      all_append test (memory_params a (remembers_any a)) (params ++ behind) (memory_scalar (remembers_any a))
      (all_append test params behind
      (params_all a.structs a.unit.vars test 0 (parameters_of a.unit) (λ i j var found. scalar_or_pointer a.structs var (scalar_in var.ty) refl))
      (result_scalar a.unit.result (unit_may_end a.unit)))

  at_most : (n : ℕ) → n ≤ 300 → nat_le n 300 ≡ true
  at_most n le = grind (arith, nat_tests)

  absent : {A : Type 0} (o : Option A) → o ≡ None → is_none o ≡ true
  absent None is = refl
  absent (Some x) is = absurd (cc)

  -- nothing fails before the statements
  pub head-is : (depths : Table ℕ) → functions f.name ≡ None → depth_of_function depths f ≤ 300 → faults_in_head table functions depths
      false f ≡ []
  head-is depths new short =
      let one = kept (is_none (functions f.name)) distinct_names f.place (absent (functions f.name) new) in
      let two = kept (all_distinct no_entries (variable_names f)) distinct_names f.place (all_differ (variable_names f) (locals a differ)) in
      let three = kept (list_all (λ (p : CParam). is_declared table p.ty) f.params && list_all (λ (l : CLocal). is_declared table l.ty) f.locals)
      declared_before f.place
      (and_from (list_all (λ (p : CParam). is_declared table p.ty) f.params) (list_all (λ (l : CLocal). is_declared table l.ty) f.locals) params_declared
      (locals-fine table a)) in
      let four = kept (list_all (λ (p : CParam). p.pointer || is_scalar p.ty) f.params) scalar_parameter f.place params_scalar in
      let six = kept (nat_le (depth_of_function depths f) 300) short_chain f.place (at_most (depth_of_function depths f) short) in
      (λ i. one i ++ (two i ++ (three i ++ (four i ++ ([] ++ (six i ++ []))))))

pub formed : (structs : List StructDef) (units : List UnitDef) (entry : ℕ) → ActivityBodiesWellFormed structs units entry → LocalsDiffer → NoneLoops →
    ActivitiesWellFormed structs units entry
formed structs units entry bodies locals quiet k a table functions depths keeps can active differ stands owns copies new short =
    let own : IsWellTyped a.structs units entry = subst (λ structs. IsWellTyped structs units entry) (sym can.structures) keeps in
    let body = bodies k a table functions keeps can active differ stands owns copies false in
    (λ i. head-is units entry k a own can.there differ locals table functions stands depths new short i
    ++ (faults.repeated (faults.names_table (variable_names (activity_function a))) (quiet a i) ++ body i))
