-- In the C function of an activity all is declared that its statements name.
use Rattle.std.proofs.Common.{◌≡◌, ℕ, zero, suc, ◌+◌, ◌-◌, ◌<◌, ◌≤◌, ◌^◌, Bool, true, false, ◌&&◌, ◌||◌}
use Rattle.std.proofs.Common.{List, [], ◌∷◌, ◌++◌, map, take, length, Option, Some, None, refl, sym, ap, ◌∙◌, subst, arith}
use Rattle.std.proofs.Common.{codes}
use Rattle.std.proofs.lemmas.Bool.{eqb-true}
use Rattle.std.proofs.lemmas.Bool.Decides.{nat_tests}
use Rattle.std.proofs.lemmas.List.Elements.{Contains-append_left, Contains-append_right}
use Rattle.std.proofs.lemmas.Option.{same_Some, slice_get_within}
use Rattle.std.specs.Prelude.{Contains, is_none, is_some, nat_eq, nat_lt, option_and_then, slice_get, unwrap_or, if◌then◌else◌}
use Rattle.std.specs.List.{list_any}
use Rattle.bl_tree.proofs.Basics.{and_first, and_second, any_from, contains_first, contains_further, contains_mapped}
use Rattle.bl_tree.specs.declared.text.Text.{Text}
use Rattle.bl_tree.specs.declared.c.CLocal.{CLocal}
use Rattle.bl_tree.specs.declared.c.CMember.{CMember}
use Rattle.bl_tree.specs.declared.c.CParam.{CParam}
use Rattle.bl_tree.specs.declared.c.CType.{CType}
use Rattle.bl_tree.specs.declared.c.CType.TheVariants.{Scalar as OfScalar, Struct as OfStruct}
use Rattle.bl_tree.specs.declared.scalar.Scalar.{Scalar as ScalarType}
use Rattle.bl_tree.specs.declared.scalar.Scalar.TheVariants.{Bool as OfBool}
use Rattle.bl_tree.specs.declared.tree.Role.{Role}
use Rattle.bl_tree.specs.declared.tree.Role.TheVariants.{Input, Output, Variable as OfVariable, Fixed}
use Rattle.bl_tree.specs.declared.tree.StructDef.{StructDef}
use Rattle.bl_tree.specs.declared.tree.Unit.{Unit as UnitDef}
use Rattle.bl_tree.specs.declared.tree.Var.{Var}
use Rattle.bl_tree.specs.Program.{IsWellTyped, is_output, parameters_of, roles_stand}
use Rattle.bl_tree.specs.Reduce.{joined}
use Rattle.bl_tree.specs.Types.{scalar_in, type_stands}
use Rattle.bl_tree.specs.Typing.{TypingContext, is_activity, is_fixed, is_variable, var_at}
use Rattle.bl_tree.specs.Words.{are_distinct}
use Rattle.bl_eval.proofs.PassLemmas.{all_at}
use Rattle.bl_ctext_semantics.specs.Faults.{Context, Judged, Signature, bool_type, context_in, judge_root, local_variable, member_of, param_variable}
use Rattle.bl_ctext_semantics.specs.Faults.{parameters_and_locals}
use Rattle.bl_ctext_semantics.specs.Tables.{Table, found}
use Rattle.bl_machine.specs.Blocks.{up_to}
use Rattle.bl_graph_nodes.specs.Nodes.{Node}
use Rattle.bl_machine_pass.specs.Transitions.{Change, Transition}
use Rattle.bl_machine_pass.specs.Transitions.{ClearsBoth, ClearsCounter, EndsWhen, Finishes, SetsCounter, SetsFlag, SetsMark}
use Rattle.bl_emit_acts.specs.Acts.{is_copied}
use Rattle.bl_emit_acts.specs.declared.home.Home.{Home}
use Rattle.bl_emit_acts.specs.declared.home.Home.TheVariants.{Held, Local, Lent}
use Rattle.bl_emit_acts.specs.Expressions.{scalar_at}
use Rattle.bl_emit_acts.specs.Places.{home_of, home_of_role}
use Rattle.bl_emit_acts.specs.Trees.{c_place, c_step, nowhere}
use Rattle.bl_emit_acts.specs.Types.{c_scalar, c_type, copy_name, variable_name}
use Rattle.bl_emit_structs.specs.Structs.{arrays_of, structs_for_definition, structs_for_unit}
use Rattle.bl_emit_functions.specs.Functions.{held_member, is_held, members_from, members_of, memory_name, param_of, params_from, struct_of}
use Rattle.bl_emit_functions.specs.Functions as functions
use Rattle.bl_emit_acts_laws_simulation.proofs.Homes.{activity_home}
use Rattle.bl_emit_acts_laws_wellformed.specs.Formed.Declared.{AreDeclared, Declared, HeldIn, IsDeclaredAt, leads_through, plain_member}
use Rattle.bl_emit_acts_laws_wellformed.specs.Formed.Declared.{variable_of}
use Rattle.bl_emit_acts_laws_wellformed.specs.Formed.Formed.{PlaceIs}
use Rattle.bl_emit_acts_laws_wellformed.proofs.OnFormed.Judged.{place-is, step-judged, steps_judged}
use Rattle.bl_emit_acts_laws_wellformed.proofs.OnFormed.Parts.{c_scalar_type, into_member, joined_has}
use Rattle.bl_emit_acts_laws_wellformed.proofs.OnFormed.SiteActs.{EarlierStand}
use Rattle.bl_emit_acts_laws_wellformed.proofs.OnFormed.Typed.{pointer_place, variable_place}
use Rattle.bl_emit_acts_laws_wellformed.proofs.OnFormed.Units.{roles_at, taken_there, vars_stand}
use Rattle.bl_emit_spec.specs.Activities.{word_of_run, Activity, RunAt, activity_function, activity_locals, activity_params, copied_in, copies_of, copy_local}
use Rattle.bl_emit_spec.specs.Activities.{counter_member, counters_read, first_rules, flag_local, frame_member, frame_struct, given_local, is_flagged}
use Rattle.bl_emit_spec.specs.Activities.{ended_local, mark_local, some_ends}
use Rattle.bl_emit_spec.specs.Activities.{mark_locals, memory_member, memory_params, over_params, pointer_param, remembered, remembers_any}
use Rattle.bl_emit_spec.specs.Activities.{activity_view, rested_local, result_params, rules_at, run_locals, runs_in_body, scalar_local, struct_member}
use Rattle.bl_emit_spec.specs.Blocks.{ActivityView, counter_type, may_end_in, name_in, unit_may_end}
use Rattle.bl_emit_spec.specs.Names.{NumberedWord, callee_frame, callee_memory, callee_name, counter_name}
use Rattle.bl_emit_spec.specs.Names.{counter_place, ended_name, ended_place, flag_name, flag_place}
use Rattle.bl_emit_spec.specs.Names.{frame_name, given_name, given_place, mark_name, mark_place, over_place, rested_name, rested_place, result_place, with_word}
use Rattle.bl_emit_spec_laws.specs.Calls.Built.{asks_flag, registered, sets_mark}
use Rattle.bl_emit_spec_laws_wellformed.specs.Names.{FrameDiffers, LocalsDiffer, MemoryDiffers, NumbersDiffer}
use Rattle.bl_emit_spec_laws.proofs.OnOwn.Members.{any_found}
use Rattle.bl_emit_spec_laws_wellformed.specs.Spelled.{all_fit}
use Rattle.bl_emit_spec.specs.Activities.{body_of, callees_in}
use Rattle.bl_emit_spec_laws_wellformed_bodies.specs.Bodies.{ActivityStands, CopiesSuffice, OwnsRules}
use Rattle.bl_emit_spec_laws_wellformed_bodies.proofs.OnBodies.Lists.{found-one, joined-has, names_of_entries, up-has}
use Rattle.bl_cause.proofs.ListLemmas.{filter_keeps}
use Rattle.bl_emit_functions_laws_wellformed.proofs.OnFormed.Variables.{parameter_at}

-- what is known where the C function of an activity stands
pub record Here (units : List UnitDef) (entry k : ℕ) (a : Activity) (table : Table (Table CMember)) (known : Table Signature) : Type 0 where
  pub well_typed : IsWellTyped a.structs units entry
  pub there : slice_get units k ≡ Some a.unit
  pub earlier : a.earlier ≡ take k units
  pub active : is_activity a.unit.kind ≡ true
  pub few : length a.unit.vars ≤ 2 ^ 64
  pub fitted : all_fit a.sizes (activity_view a).site (callees_in (body_of a)) (rules_at a) ≡ true
  pub differ : NumbersDiffer a
  pub locals : LocalsDiffer
  pub members : FrameDiffers
  pub memories : MemoryDiffers
  pub stands : ActivityStands units a table known
  pub owns : OwnsRules a
  pub copies : CopiesSuffice a

-- the parameters of variables
param-has : (structs : List StructDef) (all : List Var) (base : ℕ) (vars : List Var) (j : ℕ) (var : Var) → slice_get vars j ≡ Some var →
    Contains (params_from structs all base vars) (param_of structs all (base + j) var)
param-has structs all base [] j var there = absurd (cc)
param-has structs all base (v ∷ vars) zero var there =
    let none : base ≡ base + 0 = omega arith in
    let same : v ≡ var = same_Some v var there in
    subst (λ n. Contains (param_of structs all base v ∷ params_from structs all (base + 1) vars) (param_of structs all n var)) none
    (subst (λ w. Contains (param_of structs all base v ∷ params_from structs all (base + 1) vars) (param_of structs all base w)) same
    (contains_first (param_of structs all base v) (params_from structs all (base + 1) vars)))
param-has structs all base (v ∷ vars) (suc j) var there =
    let next : (base + 1) + j ≡ base + suc j = omega arith in
    subst (λ n. Contains (param_of structs all base v ∷ params_from structs all (base + 1) vars) (param_of structs all n var)) next
    (contains_further (param_of structs all base v) (params_from structs all (base + 1) vars) (param_of structs all ((base + 1) + j) var)
    (param-has structs all (base + 1) vars j var there))

-- the members of variables that a unit holds
held-has : (site : TypingContext) (base : ℕ) (vars : List Var) (j : ℕ) (var : Var) → slice_get vars j ≡ Some var → is_held (home_of site (Some var))
    ≡ true →
    Contains (members_from site base vars) (held_member site.structs site.vars (base + j) var)
held-has site base [] j var there held = absurd (cc)
held-has site base (v ∷ vars) zero var there held =
    let none : base ≡ base + 0 = omega arith in
    let same : v ≡ var = same_Some v var there in
    subst (λ n. Contains (members_from site base (v ∷ vars)) (held_member site.structs site.vars n var)) none
    (subst (λ w. Contains (members_from site base (v ∷ vars)) (held_member site.structs site.vars base w)) same
    (by (is_held (home_of site (Some v))) (ap (λ w. is_held (home_of site (Some w))) same ∙ held)))
  where
    by : (b : Bool) → b ≡ true → Contains (functions.member_of b site.structs site.vars base v ++ members_from site (base + 1) vars) (held_member
        site.structs site.vars base v)
    by true is = contains_first (held_member site.structs site.vars base v) (members_from site (base + 1) vars)
    by false is = absurd (cc)
held-has site base (v ∷ vars) (suc j) var there held =
    let next : (base + 1) + j ≡ base + suc j = omega arith in
    Contains-append_right (functions.member_of (is_held (home_of site (Some v))) site.structs site.vars base v) (members_from site (base + 1) vars)
    (held_member site.structs site.vars (base + suc j) var)
    (subst (λ n. Contains (members_from site (base + 1) vars) (held_member site.structs site.vars n var)) next (held-has site (base + 1) vars j var there held))

module _ (context : Context) where
  -- a member of what a pointer leads to
  pub member_place : (root struct name : Text) (ty : CType) → context.variables root ≡ Some (variable_of true (OfStruct struct)) →
      member_of context (OfStruct struct) name ≡ Some (plain_member name ty) → PlaceIs context true ty (c_place true root (c_step name ∷ []))
  member_place root struct name ty variable member =
      place-is context true root (c_step name ∷ []) (OfStruct struct) ty (λ at. ap (λ o. judge_root o true at) variable)
      (λ at. ap (λ (first : Judged). record {
        ty = (steps_judged context [] at first.ty).ty;
        faults = first.faults ++ (steps_judged context [] at first.ty).faults;
      })
      (step-judged context name at (Some (OfStruct struct)) ∙ into_member context name (OfStruct struct) ty at member))

module _ (units : List UnitDef) (entry k : ℕ) (a : Activity) (table : Table (Table CMember)) (known : Table Signature)
    (h : Here units entry k a table known) where
  abbrev pub site : TypingContext
  site = (activity_view a).site

  abbrev view : ActivityView
  view = activity_view a

  abbrev pub number : Node → ℕ
  number = (activity_view a).number

  abbrev pub copied : ℕ → Bool
  copied = is_copied (copies_of a.unit)

  abbrev pub context : Context
  context = context_in table known (activity_function a)

  -- ---- parameters and locals

  names_are : (params : List CParam) (locals : List CLocal) → names_of_entries (map param_variable params ++ map local_variable locals)
      ≡ map (λ (p : CParam). p.name) params ++ map (λ (l : CLocal). l.name) locals
  names_are [] [] = refl
  names_are [] (l ∷ locals) = ap (λ rest. l.name ∷ rest) (names_are [] locals)
  names_are (p ∷ params) locals = ap (λ rest. p.name ∷ rest) (names_are params locals)

  entries_differ : are_distinct (names_of_entries (parameters_and_locals (activity_function a))) ≡ true
  entries_differ = ap are_distinct (names_are (activity_params a) (activity_locals a)) ∙ h.locals a h.differ

  pub param-there : (p : CParam) → Contains (activity_params a) p → context.variables p.name ≡ Some (variable_of p.pointer p.ty)
  param-there p has =
      found-one (parameters_and_locals (activity_function a)) (param_variable p) entries_differ
      (Contains-append_left (map param_variable (activity_params a)) (map local_variable (activity_locals a)) (param_variable p)
      (contains_mapped param_variable (activity_params a) p has))

  pub local-there : (l : CLocal) → Contains (activity_locals a) l → context.variables l.name ≡ Some (variable_of false l.ty)
  local-there l has =
      found-one (parameters_and_locals (activity_function a)) (local_variable l) entries_differ
      (Contains-append_right (map param_variable (activity_params a)) (map local_variable (activity_locals a)) (local_variable l)
      (contains_mapped local_variable (activity_locals a) l has))

  local-place : (s : ScalarType) (name : Text) → Contains (activity_locals a) (scalar_local s name) → PlaceIs context false (OfScalar s) (c_place
      false name [])
  local-place s name has = variable_place context name (OfScalar s) (local-there (scalar_local s name) has)

  abbrev params_behind : List CParam
  params_behind = params_from a.structs a.unit.vars 0 (parameters_of a.unit) ++ (result_params a.unit.result ++ over_params (unit_may_end a.unit))

  behind_frame : (p : CParam) → Contains (memory_params a (remembers_any a) ++ params_behind) p → Contains (activity_params a) p
  behind_frame p has = contains_further (pointer_param (codes "f") (frame_name a.unit.name)) (memory_params a (remembers_any a) ++ params_behind) p has

  behind_memory : (p : CParam) → Contains params_behind p → Contains (activity_params a) p
  behind_memory p has = behind_frame p (Contains-append_right (memory_params a (remembers_any a)) params_behind p has)

  -- ---- members

  member_names_are : (members : List CMember) → names_of_entries (map (λ (m : CMember). (m.name, m)) members) ≡ map (λ (m : CMember). m.name) members
  member_names_are [] = refl
  member_names_are (m ∷ members) = ap (λ rest. m.name ∷ rest) (member_names_are members)

  abbrev entry_of : CMember → Text × CMember
  entry_of m = (m.name, m)

  -- a member of a struct whose members differ
  member_found : (members : List CMember) (m : CMember) → are_distinct (map (λ (m : CMember). m.name) members) ≡ true → Contains members m →
      found m.name (map (λ (m : CMember). (m.name, m)) members) ≡ Some m
  member_found members m differ has =
      found-one (map (λ (m : CMember). (m.name, m)) members) (entry_of m) (ap are_distinct (member_names_are members) ∙ differ)
      (contains_mapped entry_of members m has)

  frame_variable : context.variables (codes "f") ≡ Some (variable_of true (OfStruct (frame_name a.unit.name)))
  frame_variable =
      param-there (pointer_param (codes "f") (frame_name a.unit.name))
      (contains_first (pointer_param (codes "f") (frame_name a.unit.name)) (memory_params a (remembers_any a) ++ params_behind))

  frame_place : (name : Text) (ty : CType) → Contains (frame_struct a).members (plain_member name ty) →
      PlaceIs context true ty (c_place true (codes "f") (c_step name ∷ []))
  frame_place name ty has =
      member_place context (codes "f") (frame_name a.unit.name) name ty frame_variable
      (ap (option_and_then (λ (members : Table CMember). members name)) h.stands.frame
      ∙ member_found (frame_struct a).members (plain_member name ty) (h.members a h.differ) has)

  -- what the activity remembers
  any_remembered : (members : List CMember) (m : CMember) → Contains members m → nat_lt 0 (length members) ≡ true
  any_remembered [] m (j, below, is) = absurd (omega (arith, below))
  any_remembered (x ∷ members) m has = some (length members)
    where
      some : (n : ℕ) → nat_lt 0 (suc n) ≡ true
      some n = grind (arith, nat_tests)

  memory_variable : (m : CMember) → Contains (remembered a) m → context.variables (codes "m") ≡ Some (variable_of true (OfStruct (memory_name
      a.unit.name)))
  memory_variable m has =
      param-there (pointer_param (codes "m") (memory_name a.unit.name))
      (behind_frame (pointer_param (codes "m") (memory_name a.unit.name))
      (Contains-append_left (memory_params a (remembers_any a)) params_behind (pointer_param (codes "m") (memory_name a.unit.name))
      (by (remembers_any a) (any_remembered (remembered a) m has))))
    where
      by : (b : Bool) → b ≡ true → Contains (memory_params a b) (pointer_param (codes "m") (memory_name a.unit.name))
      by true is = contains_first (pointer_param (codes "m") (memory_name a.unit.name)) []
      by false is = absurd (cc)

  memory_member_of : (m : CMember) → Contains (remembered a) m → member_of context (OfStruct (memory_name a.unit.name)) m.name ≡ Some m
  memory_member_of m has = by (remembered a) h.stands.memory (h.memories a h.differ) has
    where
      by : (members : List CMember) → AreDeclared table (struct_of a.unit.name members) → are_distinct (map (λ (m : CMember). m.name) members) ≡ true →
          Contains members m → option_and_then (λ (members : Table CMember). members m.name) (table (memory_name a.unit.name)) ≡ Some m
      by [] declared differ (j, below, is) = absurd (omega (arith, below))
      by (x ∷ members) declared differ has =
          ap (option_and_then (λ (members : Table CMember). members m.name))
          (declared (record { place = nowhere; name = memory_name a.unit.name; members = x ∷ members }) (contains_first _ []))
          ∙ member_found (x ∷ members) m differ has

  -- ---- registers

  pub counter-is : (c : ℕ) → (registered a).counters c ≡ true → PlaceIs context true (OfScalar (counter_type a.sizes c)) (counter_place c)
  counter-is c on =
      frame_place (counter_name c) (OfScalar (counter_type a.sizes c))
      (Contains-append_left (map (counter_member a.sizes) (up_to (length a.sizes))) (map (frame_member a) (runs_in_body a)) (counter_member a.sizes c)
      (contains_mapped (counter_member a.sizes) (up_to (length a.sizes)) c
      (up-has (length a.sizes) c (low c (length a.sizes) on))))
    where
      low : (j n : ℕ) → nat_lt j n ≡ true → j < n
      low j n less = grind (arith, nat_tests)

  abbrev of_flags : List CLocal
  of_flags = joined (map (flag_local view) (first_rules a))

  abbrev of_marks : List CLocal
  of_marks = joined (map (mark_locals view) (rules_at a))

  abbrev of_copies : List CLocal
  of_copies = map (copy_local a) (copied_in a)

  abbrev of_results : List CLocal
  of_results = joined (map (run_locals a) (runs_in_body a))

  abbrev of_runs : List CLocal
  of_runs = ended_local (some_ends a.earlier (runs_in_body a)) ++ of_results

  abbrev of_rested : List CLocal
  of_rested = map (rested_local a.sizes) (counters_read a)

  pub rested-is : (c : ℕ) → (activity_view a).is_read c ≡ true → PlaceIs context false (OfScalar (counter_type a.sizes c)) (rested_place c)
  rested-is c on =
      local-place (counter_type a.sizes c) (rested_name c)
      (Contains-append_left of_rested (of_flags ++ (of_marks ++ (of_copies ++ of_runs))) (rested_local a.sizes c)
      (contains_mapped (rested_local a.sizes) (counters_read a) c
      (filter_keeps (activity_view a).is_read (up_to (length a.sizes)) c (up-has (length a.sizes) c (h.owns.read c on)) on)))

  both_ends : (x y : Bool) → (x && y) ≡ true → (x ≡ true) × (y ≡ true)
  both_ends true true is = (refl, refl)
  both_ends true false is = absurd (cc)
  both_ends false y is = absurd (cc)

  -- the locals for the flag and the mark of a number
  abbrev flag : ℕ → CLocal
  flag n = scalar_local OfBool (flag_name (with_word view.word n))

  abbrev mark : ℕ → CLocal
  mark n = scalar_local OfBool (mark_name (with_word view.word n))

  pub flag-is : (n : ℕ) → (registered a).flags n ≡ true → PlaceIs context false bool_type (flag_place (with_word view.word n))
  flag-is n on =
      let one = any_found (asks_flag number n) (first_rules a) on in
      let tests = both_ends (is_flagged one.one.condition) (nat_eq n (number one.one.node)) one.on in
      let same : n ≡ number one.one.node = eqb-true n (number one.one.node) tests.1 in
      local-place OfBool (flag_name (with_word view.word n))
      (Contains-append_right of_rested (of_flags ++ (of_marks ++ (of_copies ++ of_runs))) (flag n)
      (Contains-append_left of_flags (of_marks ++ (of_copies ++ of_runs)) (flag n)
      (joined-has (flag_local view) (first_rules a) one.one (flag n) one.there
      (subst (λ m. Contains (flag_local view one.one) (flag m)) (sym same)
      (by one.one (is_flagged one.one.condition) tests.0)))))
    where
      by : (rule : Transition) (b : Bool) → b ≡ true → Contains (if b then flag (number rule.node) ∷ [] else []) (flag (number rule.node))
      by rule true is = contains_first (flag (number rule.node)) []
      by rule false is = absurd (cc)

  marks_there : (n : ℕ) (change : Change) → sets_mark number n change ≡ true → Contains (mark_local view change) (mark n)
  marks_there n (SetsMark m) on =
      subst (λ j. Contains (mark (number m) ∷ []) (mark j)) (sym (eqb-true n (number m) on)) (contains_first (mark (number m)) [])
  marks_there n (SetsFlag m) on = absurd (cc)
  marks_there n (SetsCounter slot) on = absurd (cc)
  marks_there n (ClearsCounter j) on = absurd (cc)
  marks_there n (ClearsBoth j) on = absurd (cc)
  marks_there n (EndsWhen start surface depth) on = absurd (cc)
  marks_there n Finishes on = absurd (cc)

  pub mark-is : (n : ℕ) → (registered a).marks n ≡ true → PlaceIs context false bool_type (mark_place (with_word view.word n))
  mark-is n on =
      let one = any_found (λ (rule : Transition). list_any (sets_mark number n) rule.on_true) (rules_at a) on in
      let change = any_found (sets_mark number n) one.one.on_true one.on in
      local-place OfBool (mark_name (with_word view.word n))
      (Contains-append_right of_rested (of_flags ++ (of_marks ++ (of_copies ++ of_runs))) (mark n)
      (Contains-append_right of_flags (of_marks ++ (of_copies ++ of_runs)) (mark n)
      (Contains-append_left of_marks (of_copies ++ of_runs) (mark n)
      (joined-has (mark_locals view) (rules_at a) one.one (mark n) one.there
      (joined-has (mark_local view) one.one.on_true change.one (mark n) change.there (marks_there n change.one change.on))))))

  pub over-is : unit_may_end a.unit ≡ true → PlaceIs context true bool_type over_place
  over-is ends =
      let p : CParam = record { ty = OfScalar OfBool; pointer = true; name = codes "e" } in
      pointer_place context (codes "e") bool_type
      (param-there p
      (behind_memory p
      (Contains-append_right (params_from a.structs a.unit.vars 0 (parameters_of a.unit)) (result_params a.unit.result ++ over_params (unit_may_end a.unit)) p
      (Contains-append_right (result_params a.unit.result) (over_params (unit_may_end a.unit)) p
      (subst (λ b. Contains (over_params b) p) (sym ends) (contains_first p []))))))

  pub result-is : (s : ScalarType) → a.unit.result ≡ Some s → PlaceIs context true (OfScalar (c_scalar s)) result_place
  result-is s is =
      let p : CParam = record { ty = OfScalar (c_scalar s); pointer = true; name = codes "r" } in
      pointer_place context (codes "r") (OfScalar (c_scalar s))
      (param-there p
      (behind_memory p
      (Contains-append_right (params_from a.structs a.unit.vars 0 (parameters_of a.unit)) (result_params a.unit.result ++ over_params (unit_may_end a.unit)) p
      (Contains-append_left (result_params a.unit.result) (over_params (unit_may_end a.unit)) p
      (subst (λ o. Contains (result_params o) p) (sym is) (contains_first p []))))))

  -- ---- `run`s

  abbrev word : RunAt → NumberedWord
  word run = word_of_run a.earlier run

  run_local : (l : CLocal) → Contains of_runs l → Contains (activity_locals a) l
  run_local l has =
      Contains-append_right of_rested (of_flags ++ (of_marks ++ (of_copies ++ of_runs))) l
      (Contains-append_right of_flags (of_marks ++ (of_copies ++ of_runs)) l
      (Contains-append_right of_marks (of_copies ++ of_runs) l
      (Contains-append_right of_copies of_runs l has)))

  pub ended-is : (run : RunAt) → Contains (runs_in_body a) run → may_end_in (slice_get a.earlier run.unit) ≡ true →
      PlaceIs context false bool_type ended_place
  ended-is run has ends =
      let l : CLocal = scalar_local OfBool ended_name in
      let some : some_ends a.earlier (runs_in_body a) ≡ true =
      any_from (λ (run : RunAt). may_end_in (slice_get a.earlier run.unit)) (runs_in_body a) run has ends in
      local-place OfBool ended_name
      (run_local l
      (Contains-append_left (ended_local (some_ends a.earlier (runs_in_body a))) of_results l
      (subst (λ b. Contains (ended_local b) l) (sym some) (contains_first l []))))

  pub given-is : (run : RunAt) (callee : UnitDef) (s : ScalarType) → Contains (runs_in_body a) run → slice_get a.earlier run.unit ≡ Some callee →
      callee.result ≡ Some s → PlaceIs context false (OfScalar (c_scalar s)) (given_place (word run))
  given-is run callee s has there result =
      local-place (c_scalar s) (given_name (word_of_run a.earlier run))
      (run_local l
      (Contains-append_right (ended_local (some_ends a.earlier (runs_in_body a))) of_results l
      (joined-has (run_locals a) (runs_in_body a) run l has
      (subst (λ o. Contains (given_local (word_of_run a.earlier run) o) l)
      (sym (ap (option_and_then (λ (unit : UnitDef). unit.result)) there ∙ result)) (contains_first _ [])))))
    where
      l : CLocal
      l = scalar_local (c_scalar s) (given_name (word_of_run a.earlier run))

  pub frame_at-is : (run : RunAt) → Contains (runs_in_body a) run →
      PlaceIs context true (OfStruct (frame_name (name_in (slice_get a.earlier run.unit)))) (callee_frame (word run))
  frame_at-is run has =
      frame_place (callee_name (word run)) (OfStruct (frame_name (name_in (slice_get a.earlier run.unit))))
      (Contains-append_right (map (counter_member a.sizes) (up_to (length a.sizes))) (map (frame_member a) (runs_in_body a)) (frame_member a run)
      (contains_mapped (frame_member a) (runs_in_body a) run has))

  pub memory_at-is : (run : RunAt) → Contains (runs_in_body a) run → (activity_view a).remembers run.unit ≡ true →
      PlaceIs context true (OfStruct (memory_name (name_in (slice_get a.earlier run.unit)))) (callee_memory (word run))
  memory_at-is run has on =
      let m : CMember = struct_member (callee_name (word run)) (memory_name (name_in (slice_get a.earlier run.unit))) in
      let inside : Contains (remembered a) m =
      Contains-append_right (members_of a.structs a.earlier a.unit) (joined (map (memory_member a) (runs_in_body a))) m
      (joined-has (memory_member a) (runs_in_body a) run m has (by ((activity_view a).remembers run.unit) on)) in
      member_place context (codes "m") (memory_name a.unit.name) (callee_name (word run)) (OfStruct (memory_name (name_in (slice_get a.earlier run.unit))))
      (memory_variable m inside) (memory_member_of m inside)
    where
      by : (b : Bool) → b ≡ true → Contains
          (if b then struct_member (callee_name (word run)) (memory_name (name_in (slice_get a.earlier run.unit))) ∷ [] else [])
          (struct_member (callee_name (word run)) (memory_name (name_in (slice_get a.earlier run.unit))))
      by true is = contains_first _ []
      by false is = absurd (cc)

  -- ---- variables

  roles : roles_stand a.unit ≡ true
  roles = roles_at a.structs units entry h.well_typed k a.unit h.there

  -- whether a parameter is one by pointer
  abbrev pointer_of : Var → Bool
  pointer_of var = is_output var.role || is_none (scalar_in var.ty)

  given_by : (role : Role) (s : Option ScalarType) → home_of_role false role (is_some s) false ≡ Local →
      ((is_variable role || is_fixed role) ≡ false) × ((is_output role || is_none s) ≡ false)
  given_by Input (Some s) is = (refl, refl)
  given_by Input None is = absurd (cc)
  given_by Output s is = absurd (cc)
  given_by OfVariable s is = absurd (cc)
  given_by Fixed s is = absurd (cc)

  lent_by : (role : Role) (s : Option ScalarType) → home_of_role false role (is_some s) false ≡ Lent →
      ((is_variable role || is_fixed role) ≡ false) × ((is_output role || is_none s) ≡ true)
  lent_by Input (Some s) is = absurd (cc)
  lent_by Input None is = (refl, refl)
  lent_by Output s is = (refl, refl)
  lent_by OfVariable s is = absurd (cc)
  lent_by Fixed s is = absurd (cc)

  param_of_kind : (j : ℕ) (var : Var) (pointer : Bool) → slice_get a.unit.vars j ≡ Some var → (is_variable var.role || is_fixed var.role) ≡ false →
      pointer_of var ≡ pointer → context.variables (variable_name site.vars j) ≡ Some (variable_of pointer (c_type a.structs var.ty))
  param_of_kind j var pointer in_vars parameter is =
      let none : 0 + j ≡ j = omega arith in
      param-there (param_of a.structs a.unit.vars j var)
      (behind_memory (param_of a.structs a.unit.vars j var)
      (Contains-append_left (params_from a.structs a.unit.vars 0 (parameters_of a.unit)) (result_params a.unit.result ++ over_params (unit_may_end a.unit))
      (param_of a.structs a.unit.vars j var)
      (subst (λ n. Contains (params_from a.structs a.unit.vars 0 (parameters_of a.unit)) (param_of a.structs a.unit.vars n var)) none
      (param-has a.structs a.unit.vars 0 (parameters_of a.unit) j var (parameter_at a.unit roles j var in_vars parameter)))))
      ∙ ap (λ p. Some (variable_of p (c_type a.structs var.ty))) is

  held_there : (j : ℕ) (var : Var) → slice_get a.unit.vars j ≡ Some var → is_held (home_of site (Some var)) ≡ true →
      HeldIn context true site.vars j (c_type a.structs var.ty)
  held_there j var in_vars held =
      let m : CMember = held_member a.structs a.unit.vars j var in
      let none : 0 + j ≡ j = omega arith in
      let inside : Contains (remembered a) m =
      Contains-append_left (members_of a.structs a.earlier a.unit) (joined (map (memory_member a) (runs_in_body a))) m
      (subst (λ n. Contains (members_from site 0 a.unit.vars) (held_member a.structs a.unit.vars n var)) none
      (held-has site 0 a.unit.vars j var in_vars held)) in
      record { name = memory_name a.unit.name; memory = memory_variable m inside; member = memory_member_of m inside }

  stands_by : (j : ℕ) (var : Var) (home : Home) → slice_get a.unit.vars j ≡ Some var → home_of site (Some var) ≡ home →
      IsDeclaredAt context true home site.vars j (c_type a.structs var.ty)
  stands_by j var Held in_vars is = held_there j var in_vars (ap is_held is)
  stands_by j var Local in_vars is =
      let at = given_by var.role (scalar_in var.ty) (sym (activity_home site var h.active) ∙ is) in param_of_kind j var false in_vars at.0 at.1
  stands_by j var Lent in_vars is =
      let at = lent_by var.role (scalar_in var.ty) (sym (activity_home site var h.active) ∙ is) in param_of_kind j var true in_vars at.0 at.1

  pub variable_there : (j : ℕ) (var : Var) → var_at site j ≡ Some var →
      IsDeclaredAt context (is_activity a.unit.kind) (home_of site (Some var)) site.vars j (c_type a.structs var.ty)
  variable_there j var in_vars =
      subst (λ b. IsDeclaredAt context b (home_of site (Some var)) site.vars j (c_type a.structs var.ty)) (sym h.active)
      (stands_by j var (home_of site (Some var)) in_vars refl)

  -- ---- copies

  scalar_there : (o : Option ScalarType) → is_some o ≡ true → (s : ScalarType) × (o ≡ Some s)
  scalar_there None is = absurd (cc)
  scalar_there (Some s) is = (s, refl)

  copy_there : (j : ℕ) (var : Var) → copied j ≡ true → var_at site j ≡ Some var →
      context.variables (copy_name site.vars j) ≡ Some (variable_of false (c_type a.structs var.ty))
  copy_there j var on in_vars =
      let s = scalar_there (scalar_in var.ty) (h.copies.scalars j var on in_vars) in
      let within : j < length a.unit.vars = slice_get_within a.unit.vars j var in_vars in
      let scalar : scalar_at (slice_get a.unit.vars j) ≡ s.0 = ap scalar_at in_vars ∙ ap (λ o. unwrap_or o OfBool) s.1 in
      local-there (copy_local a j)
      (Contains-append_right of_rested (of_flags ++ (of_marks ++ (of_copies ++ of_runs))) (copy_local a j)
      (Contains-append_right of_flags (of_marks ++ (of_copies ++ of_runs)) (copy_local a j)
      (Contains-append_right of_marks (of_copies ++ of_runs) (copy_local a j)
      (Contains-append_left of_copies of_runs (copy_local a j)
      (contains_mapped (copy_local a) (copied_in a) j
      (filter_keeps copied (up_to (length a.unit.vars)) j (up-has (length a.unit.vars) j within) on))))))
      ∙ ap (λ t. Some (variable_of false (OfScalar (c_scalar t)))) scalar
      ∙ ap (λ t. Some (variable_of false t)) (sym (c_scalar_type a.structs var.ty s.0 s.1))

  -- ---- all that a unit names

  pub declared_here : Declared site copied context
  declared_here = record {
    types = record {
      definitions = λ s has.
          h.stands.declared s (Contains-append_left (joined (map (structs_for_definition a.structs) a.structs))
          (joined (map (structs_for_unit a.structs) units)) s has);
      variables = λ j var in_vars s has.
          h.stands.declared s (Contains-append_right (joined (map (structs_for_definition a.structs) a.structs))
          (joined (map (structs_for_unit a.structs) units)) s
          (joined_has (structs_for_unit a.structs) units k a.unit s h.there
          (joined_has (λ (var : Var). arrays_of a.structs var.ty) a.unit.vars j var s in_vars has)));
    };
    variables = variable_there;
    copies = copy_there;
    functions = h.stands.known;
  }

  -- nothing is kept from being changed through a pointer
  pub plain_here : context.is_read_only ≡ true → (j : ℕ) (var : Var) → var_at site j ≡ Some var → leads_through site j ≡ false
  plain_here keeps_now j var in_vars = absurd (let no : false ≡ true = keeps_now in cc)

  earlier_is : (f : ℕ) (callee : UnitDef) → slice_get a.earlier f ≡ Some callee → slice_get units f ≡ Some callee
  earlier_is f callee found =
      taken_there units k f callee (ap (λ earlier. slice_get earlier f) (sym h.earlier) ∙ found)

  pub earlier_here : EarlierStand site
  earlier_here = record {
    inputs = λ f callee earlier. and_first _ _ (and_second _ _ (roles_at a.structs units entry h.well_typed f callee (earlier_is f callee earlier)));
    outputs = λ f callee earlier.
        and_first _ _ (and_second _ _ (and_second _ _ (roles_at a.structs units entry h.well_typed f callee (earlier_is f callee earlier))));
  }

  pub typed_here : (j : ℕ) (var : Var) → var_at site j ≡ Some var → type_stands (length a.structs) var.ty ≡ true
  typed_here j var in_vars =
      all_at (λ (var : Var). type_stands (length a.structs) var.ty) a.unit.vars j var (vars_stand a.structs units entry h.well_typed k a.unit h.there) in_vars
