-- The functions of the file that is written of a program.
use Rattle.std.proofs.Common.{◌≡◌, ⊎_elim, ℕ, ◌+◌, Bool, true, false, ◌||◌, List, [], ◌∷◌, ◌++◌, Contains, take, drop}
use Rattle.std.proofs.Common.{Option, Some, None, refl, sym, ap, subst, ◌∙◌, arith}
use Rattle.std.proofs.lemmas.List.Elements.{Contains-append_cases, Contains-append_left}
use Rattle.std.specs.List.{list_any}
use Rattle.std.specs.Prelude.{option_and_then, option_map, slice_get, unwrap_or, if◌then◌else◌}
use Rattle.bl_tree.proofs.Basics.{contains_at, contains_first, contains_further, contains_none, first_or_further, true_and_false}
use Rattle.bl_tree.specs.declared.c.CFunc.{CFunc}
use Rattle.bl_tree.specs.declared.c.CMember.{CMember}
use Rattle.bl_tree.specs.declared.c.CType.{CType}
use Rattle.bl_tree.specs.declared.c.CType.TheVariants.{Scalar as OfScalar, Struct as OfStruct}
use Rattle.bl_tree.specs.declared.program.Program.{Program}
use Rattle.bl_tree.specs.declared.text.Text.{Text}
use Rattle.bl_tree.specs.declared.tree.StructDef.{StructDef}
use Rattle.bl_tree.specs.declared.tree.Unit.{Unit as UnitDef}
use Rattle.bl_tree.specs.Program.{IsWellTyped}
use Rattle.bl_tree.specs.Typing.{is_activity}
use Rattle.bl_ctree.specs.declared.instance.Instance.{Instance}
use Rattle.bl_ctree.specs.Instances.{Setting, setting_of, unit_at, unit_of}
use Rattle.bl_ctree_laws_confluence.specs.Deeds.Orderly.{AcceptedIsOrderly, Orderly}
use Rattle.bl_ctext_semantics.specs.Faults.{Variable, WellFormed, parameters_and_locals, struct_table}
use Rattle.bl_ctext_semantics.specs.Parts.{Parts}
use Rattle.bl_ctext_semantics.specs.Tables.{Table, table_of}
use Rattle.bl_machine.specs.declared.machine.Activity.{Activity as InMachine}
use Rattle.bl_emit_acts.specs.Types.{unit_name}
use Rattle.bl_emit_functions.specs.Functions.{function_code}
use Rattle.bl_emit_spec.specs.Activities.{Activity, activity_function, frame_struct, remembers_any}
use Rattle.bl_emit_spec.specs.Names.{counter_name, frame_name}
use Rattle.bl_emit_spec.specs.Programs.{init_function, needed_units, tick_function}
use Rattle.bl_emit_spec_laws.specs.Calls.Built.{Activities, AreBuilt, unit_number}
use Rattle.bl_emit_spec_laws_wellformed.specs.Closed.{InstancesNeeded}
use Rattle.bl_emit_spec_laws_files.specs.States.States.{FramesDeclared}
use Rattle.bl_emit_spec_laws.specs.Tables.Laws.{ActivitiesBuilt}
use Rattle.bl_emit_spec_laws.specs.Tables.Tables.{functions_of_all, unit_function}
use Rattle.bl_emit_laws.specs.Kept.{FileEnds, FilesEnd, FramesAreDeclared, activities_in, functions_before, shown_file}
use Rattle.bl_emit_laws.specs.Counters.Laws.{FilesOwn}
use Rattle.bl_emit_laws.specs.Counters.Own.{CountersAreOwn, CountersStandInOne, EachHasOneFunctionAndFrame, MemberOf, NamesItsOwn, members_at}
use Rattle.bl_ctext_places.specs.Counters.{is_counter_name}
use Rattle.bl_emit_laws.specs.Counters.Own.{members_through, type_of_member}
use Rattle.bl_ctext_places.specs.Counters.{names_counter}
use Rattle.bl_ctext_places.specs.Places.{CPath, places_named}
use Rattle.bl_emit_laws.proofs.OnCounters.Activities.{activity-fine}
use Rattle.bl_emit_laws.proofs.OnCounters.Fine.{each-fine}
use Rattle.bl_emit_laws.proofs.OnCounters.Functions.{function-fine, init-fine, tick-fine}
use Rattle.bl_emit_laws.proofs.OnCounters.Guards.{own_counter}
use Rattle.bl_emit_laws.proofs.OnCounters.Lists.{each_at, each_has, kept_at, kept_has}
use Rattle.bl_emit_laws.proofs.OnCounters.Once.{function_alone, struct_alone}

-- ---- what functions name

-- a place names no counter
abbrev None_of : CPath → Type 0
None_of place = names_counter place ≡ false

-- a place that names a counter is one of the running activity
abbrev Own_of : CPath → Type 0
Own_of place = names_counter place ≡ true → (counter : Text) × (place ≡ own_counter counter)

no_counter : (units : List UnitDef) (function : CFunc) (place : CPath) → names_counter place ≡ false → names_counter place ≡ true →
    NamesItsOwn units function place
no_counter units function place none is = absurd (true_and_false (names_counter place) is none)

-- what is so of each place of a function that names a counter
abbrev NamesOwn : List UnitDef → CFunc → Type 0
NamesOwn units function = (place : CPath) → Contains (places_named function) place → names_counter place ≡ true → NamesItsOwn units function place

own_function : (structs : List StructDef) (units earlier : List UnitDef) (unit : UnitDef) → NamesOwn units (function_code structs earlier unit)
own_function structs units earlier unit place at is =
    no_counter units (function_code structs earlier unit) place
    (each-fine None_of (places_named (function_code structs earlier unit)) place (function-fine None_of (λ place none. none) structs earlier unit) at) is

own_init : (units : List UnitDef) → NamesOwn units init_function
own_init units place at is =
    no_counter units init_function place (each-fine None_of (places_named init_function) place (init-fine None_of (λ place none. none)) at) is

own_tick : (units : List UnitDef) (unit : UnitDef) (remembers : Bool) → NamesOwn units (tick_function unit remembers)
own_tick units unit remembers place at is =
    no_counter units (tick_function unit remembers) place
    (each-fine None_of (places_named (tick_function unit remembers)) place (tick-fine None_of (λ place none. none) unit remembers) at) is

own_plain : (place : CPath) → names_counter place ≡ false → Own_of place
own_plain place none is = absurd (true_and_false (names_counter place) is none)

own_counters : (k : ℕ) → Own_of (own_counter (counter_name k))
own_counters k is = (counter_name k, refl)

own_activity : (units : List UnitDef) (a : Activity) → Contains units a.unit → is_activity a.unit.kind ≡ true → NamesOwn units (activity_function a)
own_activity units a there active place at is =
    let found = each-fine Own_of (places_named (activity_function a)) place (activity-fine Own_of own_plain own_counters a) at is in
    record {
      activity = a.unit;
      is_there = there;
      active = active;
      named = refl;
      pointer = refl;
      counter = found.0;
      is = found.1;
    }

-- ---- by types

any_here : (members : List Text) (member : Text) → Contains members member → is_counter_name member ≡ true → list_any is_counter_name members ≡ true
any_here [] member at is = absurd (contains_none member at)
any_here (m ∷ members) member at is =
    ⊎_elim (λ same. one (is_counter_name m) (list_any is_counter_name members) (ap is_counter_name same ∙ is))
    (λ later. other (is_counter_name m) (list_any is_counter_name members) (any_here members member later is)) (first_or_further m members member at)
  where
    one : (a b : Bool) → a ≡ true → (a || b) ≡ true
    one true b is = refl
    one false b is = absurd (cc)

    other : (a b : Bool) → b ≡ true → (a || b) ≡ true
    other true b is = refl
    other false b is = is

-- a member of a struct
abbrev member_of : Text → Text → MemberOf
member_of struct member = record { struct = struct; member = member }

-- what types lead through is a member of the place
through_some : (structs : Table (Table CMember)) (ty : Option CType) (members : List Text) (one : MemberOf) →
    Contains (members_through structs ty members) one → Contains members one.member
through_some structs ty [] one at = absurd (contains_none one at)
through_some structs None (m ∷ rest) one at = absurd (contains_none one at)
through_some structs (Some (OfScalar s)) (m ∷ rest) one at = absurd (contains_none one at)
through_some structs (Some (OfStruct struct)) (m ∷ rest) one at =
    let later : List MemberOf = members_through structs (type_of_member structs struct m) rest in
    ⊎_elim (λ same. subst (λ (one : MemberOf). Contains (m ∷ rest) one.member) same (contains_first m rest))
    (λ behind. contains_further m rest one.member (through_some structs (type_of_member structs struct m) rest one behind))
    (first_or_further (member_of struct m) later one at)

-- structs of where activities rest that have one name are of activities of one name
same_name : (a b : Text) → frame_name a ≡ frame_name b → unit_name a ≡ unit_name b
same_name a b is = ap (λ name. unit_name (drop 2 name)) is

pub stands_alone : (units : List UnitDef) (file : Parts) → CountersAreOwn units file → CountersStandInOne file
stands_alone units file own function place name counter has at is through =
    let ty : Option CType = option_map (λ (variable : Variable). variable.ty) (table_of (parameters_and_locals function) place.name) in
    let named : Contains place.members counter = through_some (struct_table file.structs) ty place.members (member_of (frame_name name) counter) through in
    let found = own function place has at (any_here place.members counter named is) in
    let through_own : Contains (members_at file function (own_counter found.counter)) (member_of (frame_name name) counter) =
    subst (λ (place : CPath). Contains (members_at file function place) (member_of (frame_name name) counter)) found.is through in
    let through_frame : Contains (member_of (frame_name found.activity.name) found.counter ∷ []) (member_of (frame_name name) counter) =
    subst (λ (o : Option Variable). Contains (members_through (struct_table file.structs)
    (option_map (λ (variable : Variable). variable.ty) o) (found.counter ∷ [])) (member_of (frame_name name) counter)) found.pointer through_own in
    let same : member_of (frame_name found.activity.name) found.counter ≡ member_of (frame_name name) counter =
    ⊎_elim (λ is. is) (λ none. absurd (contains_none (member_of (frame_name name) counter) none))
    (first_or_further (member_of (frame_name found.activity.name) found.counter) [] (member_of (frame_name name) counter) through_frame) in
    found.named ∙ same_name found.activity.name name (ap (λ (one : MemberOf). one.struct) same)

-- ---- the functions of the file

-- which unit an instance is of
instance_at : (w : Setting) (i : ℕ) (unit : UnitDef) → unit_at w i ≡ Some unit →
    (instance : Instance) × (slice_get w.instances i ≡ Some instance) × (slice_get w.units instance.unit ≡ Some unit)
instance_at w i unit is = by (slice_get w.instances i) refl is
  where
    by : (o : Option Instance) → slice_get w.instances i ≡ o → option_and_then (unit_of w) o ≡ Some unit →
        (instance : Instance) × (slice_get w.instances i ≡ Some instance) × (slice_get w.units instance.unit ≡ Some unit)
    by None eq is = absurd (cc)
    by (Some instance) eq is = (instance, eq, is)

module _ (program : Program) (machine : List InMachine) (unit : UnitDef) (ends : FileEnds program machine unit) where
  abbrev structs : List StructDef
  structs = program.structs

  abbrev units : List UnitDef
  units = program.units

  abbrev needed : List Bool
  needed = needed_units program.units program.entry

  abbrev activities : Activities
  activities = activities_in program machine

  abbrev file : Parts
  file = shown_file program unit machine

  abbrev own_functions : List CFunc
  own_functions = functions_before program machine

  abbrev last_functions : List CFunc
  last_functions = init_function ∷ tick_function unit (remembers_any (activities program.entry)) ∷ []

  functions_are : file.funcs ≡ own_functions ++ last_functions
  functions_are = ap (λ (file : Parts). file.funcs) ends.is

  chosen : (k : ℕ) (one : UnitDef) (active : Bool) → active ≡ true →
      (if active then activity_function (activities k) else function_code structs (take k units) one) ≡ activity_function (activities k)
  chosen k one true is = refl
  chosen k one false is = absurd (cc)

  -- the function of an activity that is needed is there
  pub function_there : (k : ℕ) (one : UnitDef) → slice_get units k ≡ Some one → is_activity one.kind ≡ true → slice_get needed k ≡ Some true →
      Contains file.funcs (activity_function (activities k))
  function_there k one there active is =
      let first : 0 + k ≡ k = omega arith in
      let all : slice_get (functions_of_all structs units activities) k ≡ Some (activity_function (activities k)) =
      each_at (unit_function structs units activities) 0 units k one there
      ∙ ap (λ k. Some (unit_function structs units activities k one)) first
      ∙ ap Some (chosen k one (is_activity one.kind) active) in
      subst (λ list. Contains list (activity_function (activities k))) (sym functions_are)
      (Contains-append_left own_functions last_functions (activity_function (activities k))
      (kept_at needed (functions_of_all structs units activities) k (activity_function (activities k)) is all))

  module _ (built : AreBuilt program.structs program.units machine (activities_in program machine)) where
    own_unit : (k : ℕ) (one : UnitDef) (active : Bool) → slice_get units k ≡ Some one → is_activity one.kind ≡ active →
        NamesOwn units (if active then activity_function (activities k) else function_code structs (take k units) one)
    own_unit k one true there is =
        let same : (activities k).unit ≡ one = built.unit k one there in
        own_activity units (activities k) (subst (Contains units) (sym same) (contains_at units k one there))
        (ap (λ (one : UnitDef). is_activity one.kind) same ∙ is)
    own_unit k one false there is = own_function structs units (take k units) one

    own_before : (function : CFunc) → Contains own_functions function → NamesOwn units function
    own_before function at =
        let found = each_has (unit_function structs units activities) 0 units function
        (kept_has needed (functions_of_all structs units activities) function at) in
        let first : found.position ≡ 0 + found.position = omega arith in
        subst (NamesOwn units) (ap (λ k. unit_function structs units activities k found.unit) first ∙ found.is)
        (own_unit found.position found.unit (is_activity found.unit.kind) found.is_there refl)

    own_last : (function : CFunc) → Contains last_functions function → NamesOwn units function
    own_last function at =
        ⊎_elim (λ is. subst (NamesOwn units) is (own_init units))
        (λ later. ⊎_elim (λ is. subst (NamesOwn units) is (own_tick units unit (remembers_any (activities program.entry))))
        (λ none. absurd (contains_none function none)) (first_or_further (tick_function unit (remembers_any (activities program.entry))) [] function later))
        (first_or_further init_function (tick_function unit (remembers_any (activities program.entry)) ∷ []) function at)

    pub counters_own : CountersAreOwn units file
    counters_own function place has =
        ⊎_elim (λ before. own_before function before place) (λ last. own_last function last place)
        (Contains-append_cases own_functions last_functions function (subst (λ list. Contains list function) functions_are has))

    -- ---- one for each activity

    module _ (needs : InstancesNeeded program.structs program.units program.entry) (keeps : IsWellTyped program.structs program.units program.entry)
        (orderly : Orderly program.structs program.units (setting_of program.structs program.units program.entry))
        (declared : FramesDeclared program.structs program.units program.entry (activities_in program machine) unit (shown_file program unit machine))
        (formed : WellFormed (shown_file program unit machine))
      where
        abbrev w : Setting
        w = setting_of program.structs program.units program.entry

        pub one_each : EachHasOneFunctionAndFrame structs units program.entry file
        one_each i activity is =
            let at = instance_at w i activity is in
            let k : ℕ = at.0.unit in
            let number : unit_number w i ≡ k = ap (λ found. unwrap_or (option_map (λ (one : Instance). one.unit) found) 0) at.1 in
            let same : (activities k).unit ≡ activity = built.unit k activity at.2 in
            let active : is_activity activity.kind ≡ true = (orderly.each i activity is).activity in
            let function = function_alone file formed (unit_name activity.name) (activity_function (activities k))
            (function_there k activity at.2 active (needs i at.0 keeps at.1)) (ap (λ (one : UnitDef). unit_name one.name) same) in
            let frame = struct_alone file formed (frame_name activity.name) (frame_struct (activities k))
            (subst (λ k. Contains file.structs (frame_struct (activities k))) number (declared.frames i activity is))
            (ap (λ (one : UnitDef). frame_name one.name) same) in
            record {
              function = function.0;
              functions = function.1;
              frame = frame.0;
              frames = frame.1;
            }

pub files_own : (program : Program) → AcceptedIsOrderly → ActivitiesBuilt → InstancesNeeded program.structs program.units program.entry →
    FramesAreDeclared program → FilesEnd program → FilesOwn program
files_own program orderly built needs declared ends machine unit keeps passes agrees there formed =
    let end : FileEnds program machine unit = ends machine unit keeps agrees there in
    let are_built : AreBuilt program.structs program.units machine (activities_in program machine) = built program.structs program.units machine agrees in
    let own : CountersAreOwn program.units (shown_file program unit machine) = counters_own program machine unit end are_built in
    record {
      each = one_each program machine unit end are_built needs keeps (orderly program.structs program.units program.entry keeps passes)
          (declared machine unit keeps passes agrees there) formed;
      own = own;
      alone = stands_alone program.units (shown_file program unit machine) own;
    }
