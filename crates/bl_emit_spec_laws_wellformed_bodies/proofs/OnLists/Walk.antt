-- The units of a program one after another: nothing fails in the functions of those that are needed.
use Rattle.std.proofs.Common.{◌≡◌, ℕ, zero, suc, ◌<◌, ◌≤◌, ⊎_elim, Bool, true, false, List, [], ◌∷◌, ◌++◌}
use Rattle.std.proofs.Common.{map, take, drop, length, Option, Some, None, refl, sym, ap, ◌∙◌, subst, arith, codes, append_assoc}
use Rattle.std.proofs.lemmas.Bool.{cases_lt}
use Rattle.std.proofs.lemmas.Bool.Decides.{nat_tests}
use Rattle.std.proofs.lemmas.List.{append-nil}
use Rattle.std.proofs.lemmas.List.Elements.{All-contains, Contains-append_cases, Contains-append_left, Contains-append_right}
use Rattle.std.proofs.lemmas.Option.{same_Some, slice_get_within}
use Rattle.std.proofs.lemmas.Slice.Eq.{bytes_eq-Decides}
use Rattle.std.specs.Option.{option_or}
use Rattle.std.specs.Prelude.{Contains, bytes_eq, is_some, nat_eq, slice_get, unwrap_or, if◌then◌else◌}
use Rattle.std.proofs.lemmas.Bool.{not-true}
use Rattle.bl_tree.proofs.Basics.{any_from, contains_first, contains_further, get_front, push_length, some_within, take_next}
use Rattle.bl_tree.specs.declared.c.CFunc.{CFunc}
use Rattle.bl_tree.specs.declared.c.CMember.{CMember}
use Rattle.bl_tree.specs.declared.text.Text.{Text}
use Rattle.bl_tree.specs.declared.tree.StructDef.{StructDef}
use Rattle.bl_tree.specs.declared.tree.Unit.{Unit as UnitDef}
use Rattle.bl_tree.specs.Program.{IsWellTyped}
use Rattle.bl_tree.specs.Typing.{is_activity, is_function, site_of}
use Rattle.bl_tree.specs.Words.{are_distinct}
use Rattle.bl_limits.specs.Rules.{Passes}
use Rattle.bl_limits_measures.specs.Calls.{calls_of}
use Rattle.bl_limits_measures.specs.Runs.{activities_run}
use Rattle.bl_limits_measures_laws.specs.Laws.{UnitsUseEarlierOnes}
use Rattle.bl_graph_nodes.specs.Nodes.{nodes_in}
use Rattle.bl_graph_nodes.specs.Plain.{Block, plain_body}
use Rattle.bl_machine.specs.Uses.{Slots}
use Rattle.bl_machine.specs.declared.machine.Activity.{Activity as InMachine}
use Rattle.bl_machine_pass.specs.Transitions.{Transition, rules}
use Rattle.bl_machine_transitions.specs.Callees.{callees_in}
use Rattle.bl_ctext_semantics.specs.Calls.{calls_in_block}
use Rattle.bl_ctext_semantics.specs.Faults.{Signature, depth_of_function, faults_in_function, function_faults_after, signature_in}
use Rattle.bl_ctext_semantics.specs.Tables.{Table, no_entries, with_entry}
use Rattle.bl_ctext_semantics_laws_calls.specs.Called.{FaultsFollow}
use Rattle.bl_emit_acts.specs.Types.{unit_name}
use Rattle.bl_emit_structs.specs.Structs.{structs_for}
use Rattle.bl_emit_functions.specs.Functions.{function_code, memory_struct}
use Rattle.bl_emit_acts_laws_wellformed.specs.Formed.Declared.{AreDeclared, signature_for}
use Rattle.bl_emit_functions_laws_wellformed.specs.Formed.{FunctionsSigned, FunctionsWellFormed, IsNumbered}
use Rattle.bl_emit_functions_laws_wellformed.specs.Files.Laws.{ChainsGrow, ChainsKnown, ChainsShort}
use Rattle.bl_emit_functions_laws_wellformed.proofs.OnFiles.Chains.{code_few, taken}
use Rattle.bl_emit_functions_laws_wellformed.proofs.OnFiles.Growing.{distinct_behind, names, one_place}
use Rattle.bl_emit_functions_laws_wellformed.proofs.OnFiles.Under.{Under, back-under, front-under}
use Rattle.bl_emit_functions_laws_wellformed.proofs.OnFiles.Walk.{drop_next}
use Rattle.bl_emit_spec_laws.proofs.OnRunPlaces.Sharing.{once_in}
use Rattle.bl_emit_spec.specs.Activities.{Activity, RunAt, activity_function, activity_view, frame_struct, remembered_struct, remembers_any, rules_at, runs_at, runs_in_body}
use Rattle.bl_emit_spec.specs.Blocks.{name_in}
use Rattle.bl_emit_spec.specs.Names.{frame_name}
use Rattle.bl_emit_spec.specs.Programs.{ProgramParts, activity_of, needed_units, needs_of, parts_from, parts_of_activity}
use Rattle.bl_emit_spec.specs.Programs.{parts_of_function, parts_of_next, where_needed}
use Rattle.bl_emit_spec_laws_wellformed_bodies.specs.Bodies.{ActivityStands}
use Rattle.bl_emit_spec_laws_wellformed.proofs.OnChains.Nodes.{AllUnder, body_under}
use Rattle.bl_emit_spec_laws_wellformed.specs.Chains.{ActivitiesCallFew, ActivityChainsGrow, ActivityChainsShort, IsOfUnit}
use Rattle.bl_emit_spec_laws_wellformed.specs.Closed.{NeededClosed}
use Rattle.bl_emit_spec_laws_wellformed_bodies.specs.Signed.{ActivitiesSigned, ActivitiesWellFormed}
use Rattle.bl_emit_spec_laws_wellformed_bodies.proofs.OnLists.Agreeing.{IsBefore, all_known, by, is_need, light-alike, needs-counted, needs-light, prelude-light}
use Rattle.bl_emit_spec_laws_wellformed_bodies.proofs.OnLists.Agreeing.{run_called}
use Rattle.bl_emit_spec_laws_wellformed_bodies.proofs.OnLists.Agreeing.{run_needed, same-faults, weight}
use Rattle.bl_emit_spec_laws_wellformed_bodies.proofs.OnLists.Entries.{full-known, full-new}
use Rattle.bl_emit_spec_laws_wellformed_bodies.specs.Lists.{ActivityConditions, AllConditions, FunctionsEnd, NeededKnown, PartsWellFormed, UnitConditions}
use Rattle.bl_emit_spec_laws_wellformed_bodies.specs.Lists.{signature_by}
use Rattle.bl_emit_spec_laws.proofs.OnTables.Kept.{needed_many}
use Rattle.bl_emit_functions_laws_wellformed.proofs.OnFiles.Walk.{longer}

-- ---- lists

get_last : {A : Type 0} (xs : List A) (y : A) (k : ℕ) → length xs ≡ k → slice_get (xs ++ y ∷ []) k ≡ Some y
get_last [] y zero is = refl
get_last [] y (suc k) is = absurd (omega (arith, is))
get_last (x ∷ xs) y zero is = absurd (omega (arith, is))
get_last (x ∷ xs) y (suc k) is = get_last xs y k (omega (arith, is))

taken_length : {A : Type 0} (k : ℕ) (xs : List A) → k ≤ length xs → length (take k xs) ≡ k
taken_length zero xs le = refl
taken_length (suc k) [] le = absurd (omega (arith, le))
taken_length (suc k) (x ∷ xs) le = ap suc (taken_length k xs (omega (arith, le)))

taken_at : {A : Type 0} (xs : List A) (k f : ℕ) (x : A) → slice_get xs f ≡ Some x → f < k → slice_get (take k xs) f ≡ Some x
taken_at [] k f x there less = absurd (cc)
taken_at (y ∷ xs) zero f x there less = absurd (omega (arith, less))
taken_at (y ∷ xs) (suc k) zero x there less = there
taken_at (y ∷ xs) (suc k) (suc f) x there less = taken_at xs k f x there (omega (arith, less))

dropped_none : {A : Type 0} (k : ℕ) (xs : List A) → drop k xs ≡ [] → length xs ≤ k
dropped_none zero [] is = omega arith
dropped_none zero (x ∷ xs) is = absurd (cc)
dropped_none (suc k) [] is = omega arith
dropped_none (suc k) (x ∷ xs) is = let rest = dropped_none k xs is in omega (arith, rest)

-- ---- how many tests there are

-- ---- tables

stays : {A : Type 0} (o : Option A) (b : Bool) (new s : A) → o ≡ Some s → option_or o (if b then Some new else None) ≡ Some s
stays None b new s is = absurd (cc)
stays (Some t) b new s is = is

joins : {A : Type 0} (o : Option A) (b : Bool) (new : A) → o ≡ None → b ≡ true → option_or o (if b then Some new else None) ≡ Some new
joins None true new is same = refl
joins None false new is same = absurd (cc)
joins (Some t) b new is same = absurd (cc)

stays_free : {A : Type 0} (o : Option A) (b : Bool) (new : A) → o ≡ None → b ≡ false → option_or o (if b then Some new else None) ≡ None
stays_free None true new is other = absurd (cc)
stays_free None false new is other = refl
stays_free (Some t) b new is other = absurd (cc)

-- all that the laws below promise
pub record Given (structs : List StructDef) (units : List UnitDef) (entry : ℕ) : Type 0 where
  pub uses : UnitsUseEarlierOnes
  pub closed : NeededClosed structs units entry
  pub nodes : (slots : Slots) (body : Block) → map (λ (rule : Transition). rule.node) (rules slots body) ≡ nodes_in body
  pub follow : FaultsFollow
  pub functions : FunctionsWellFormed structs units entry
  pub signed : FunctionsSigned
  pub grow : ChainsGrow structs units entry
  pub short : ChainsShort structs units entry
  pub activities : ActivitiesWellFormed structs units entry
  pub marked : ActivitiesSigned
  pub few : ActivitiesCallFew
  pub rises : ActivityChainsGrow
  pub low : ActivityChainsShort

module _ (structs : List StructDef) (units : List UnitDef) (entry : ℕ) (given : Given structs units entry) (keeps : IsWellTyped structs units entry)
    (passes : Passes structs units entry) (table : Table (Table CMember)) (types : AreDeclared table (structs_for structs units)) (last : List CFunc)
    (two : 2 ≤ length last) where
  abbrev needed : List Bool
  needed = needed_units units entry

  differ : are_distinct (names units) ≡ true
  differ = distinct_behind (map (λ (def : StructDef). def.name) structs) (names units) keeps.distinct

  abbrev Knows : List Bool → ℕ → Table Signature → Type 0
  Knows remember k functions = NeededKnown structs units needed remember k functions

  -- the structs of where needed activities rest stand before
  abbrev FramesStand : ℕ → Type 0
  FramesStand k =
      (f : ℕ) (unit : UnitDef) → slice_get units f ≡ Some unit → f < k → slice_get needed f ≡ Some true → is_activity unit.kind ≡ true →
      is_some (table (frame_name unit.name)) ≡ true

  -- ---- one unit

  module _ (k : ℕ) (unit : UnitDef) (there : slice_get units k ≡ Some unit) (remember : List Bool) (functions : Table Signature)
      (knows : Knows remember k functions) where
    other_name : (j : ℕ) (other : UnitDef) → slice_get units j ≡ Some other → (k ≡ j → ⊥) → (b : Bool) → bytes_eq unit.name
        other.name ≡ b → b ≡ false
    other_name j other found differs false is = refl
    other_name j other found differs true is =
        absurd (differs (one_place units k j unit other differ there found ((bytes_eq-Decides unit.name other.name).0 is)))

    -- the functions that are known once that of the unit is
    module _ (r : Bool) where
      abbrev own : Signature
      own = signature_by (is_activity unit.kind) structs unit r

      abbrev next : Table Signature
      next = with_entry functions (unit_name unit.name) own

      before_is : (f : ℕ) (callee : UnitDef) → slice_get units f ≡ Some callee → f < k → slice_get needed f ≡ Some true →
          functions (unit_name callee.name)
          ≡ Some (signature_by (is_activity callee.kind) structs callee (unwrap_or (slice_get (remember ++ r ∷ []) f) false))
      before_is f callee found less need =
          let long = knows.long in
          let inside : f < length remember = omega (arith, less, long) in
          knows.known f callee found less need
          ∙ ap (λ o. Some (signature_by (is_activity callee.kind) structs callee (unwrap_or o false))) (sym (get_front remember (r ∷ []) f inside))

      here_is : (f : ℕ) (callee : UnitDef) → slice_get units f ≡ Some callee → f ≡ k →
          next (unit_name callee.name)
          ≡ Some (signature_by (is_activity callee.kind) structs callee (unwrap_or (slice_get (remember ++ r ∷ []) f) false))
      here_is f callee found same =
          let one : unit ≡ callee = same_Some unit callee (sym there ∙ ap (slice_get units) (sym same) ∙ found) in
          subst (λ (callee : UnitDef). next (unit_name callee.name)
          ≡ Some (signature_by (is_activity callee.kind) structs callee (unwrap_or (slice_get (remember ++ r ∷ []) f) false))) one
          (joins (functions (unit_name unit.name)) (bytes_eq (unit_name unit.name) (unit_name unit.name)) own (knows.free k unit there (omega arith))
          ((bytes_eq-Decides (unit_name unit.name) (unit_name unit.name)).1 refl)
          ∙ ap (λ o. Some (signature_by (is_activity unit.kind) structs unit (unwrap_or o false)))
          (sym (ap (slice_get (remember ++ r ∷ [])) same ∙ get_last remember r k knows.long)))

      long_next : length (remember ++ r ∷ []) ≡ suc k
      long_next = push_length remember r ∙ ap suc knows.long

      pub known-next : Knows (remember ++ r ∷ []) (suc k) next
      known-next = record {
        known = λ f callee found less need.
            ⊎_elim
            (λ (low : f < k). stays (functions (unit_name callee.name)) (bytes_eq (unit_name unit.name) (unit_name callee.name)) own _
            (before_is f callee found low need))
            (λ (high : k ≤ f). here_is f callee found (let same : f ≡ k = omega (arith, less, high) in same))
            (cases_lt f k);
        free = λ j other found later.
            stays_free (functions (unit_name other.name)) (bytes_eq (unit_name unit.name) (unit_name other.name)) own
            (knows.free j other found (let le : k ≤ j = omega (arith, later) in le))
            (other_name j other found (λ same. (let no : ⊥ = omega (arith, same, later) in no)) (bytes_eq unit.name other.name) refl);
        prelude = λ rest. stays_free (functions (codes "bl_" ++ rest)) (bytes_eq (unit_name unit.name) (codes "bl_" ++ rest)) own (knows.prelude rest) refl;
        long = long_next;
      }

      -- and where the unit isn't needed
      pub known-same : slice_get needed k ≡ Some false → Knows (remember ++ r ∷ []) (suc k) functions
      known-same none = record {
        known = λ f callee found less need.
            ⊎_elim (λ (low : f < k). before_is f callee found low need)
            (λ (high : k ≤ f). let same : f ≡ k = omega (arith, less, high) in
            absurd (let no : Some true ≡ Some false = sym need ∙ ap (slice_get needed) same ∙ none in cc))
            (cases_lt f k);
        free = λ j other found later. knows.free j other found (let le : k ≤ j = omega (arith, later) in le);
        prelude = knows.prelude;
        long = long_next;
      }

    -- ---- what a needed unit calls

    module _ (need : slice_get needed k ≡ Some true) where
      earlier_than : (f : ℕ) → Contains (needs_of unit) f → f < k
      earlier_than f has =
          let earlier = given.uses structs units keeps.units_stand k unit there in
          ⊎_elim (λ calls. All-contains (λ j. j < k) (calls_of unit) f earlier.calls calls)
          (λ runs. All-contains (λ j. j < k) (activities_run unit) f earlier.runs runs) (Contains-append_cases (calls_of unit) (activities_run unit) f has)

      pub stands-before : (f : ℕ) → Contains (needs_of unit) f → IsBefore units needed k f
      stands-before f has =
          let less : f < k = earlier_than f has in
          let within : k < length units = slice_get_within units k unit there in
          let found = some_within units f (let low : f < length units = omega (arith, less, within) in low) in
          record {
            unit = found.0;
            there = taken_at units k f found.0 found.1 less;
            needed_so = given.closed.closed k f unit keeps there need (any_from (nat_eq f) (needs_of unit) f has (equal f));
          }
        where
          equal : (n : ℕ) → nat_eq n n ≡ true
          equal n = grind (arith, nat_tests)

      abbrev everything : Table Signature
      everything = all_known structs units needed remember differ k unit functions knows stands-before

      abbrev heavy : Text → ℕ
      heavy = weight structs units needed remember differ k unit functions knows stands-before

      abbrev by_position : ℕ → ℕ
      by_position = by structs units needed remember differ k unit functions knows stands-before

      light : Under by_position 0 (needs_of unit)
      light = needs-light structs units needed remember differ k unit functions knows stands-before

      few_enough : (n : ℕ) → n ≤ n
      few_enough n = omega arith

      -- nothing fails in a function that calls what the unit calls where nothing does over all units
      same : (f : CFunc) (depths : Table ℕ) → f.name ≡ unit_name unit.name → Under heavy 0 (calls_in_block f.body) →
          faults_in_function table everything depths false f ≡ [] → faults_in_function table functions depths false f ≡ []
      same f depths named calls none =
          same-faults given.follow table depths f functions everything
          (ap functions named ∙ knows.free k unit there (omega arith)
          ∙ sym (ap everything named ∙ full-new structs remember units differ k unit there))
          (light-alike structs units needed remember differ k unit functions knows stands-before (calls_in_block f.body) calls)
          ∙ none

      -- ---- a function

      pub function-fine : (depths : Table ℕ) → ChainsKnown units depths → is_activity unit.kind ≡ false → IsNumbered structs (take k units) unit →
          AreDeclared table (memory_struct structs (take k units) unit) →
          faults_in_function table functions depths false (function_code structs (take k units) unit) ≡ []
      function-fine depths chains function numbered memory =
          let short : depth_of_function depths (function_code structs (take k units) unit) ≤ 100 = given.short k unit depths passes there chains in
          same (function_code structs (take k units) unit) depths refl
          (code_few heavy (prelude-light structs units needed remember differ k unit functions knows stands-before) (site_of structs (take k units) unit)
          by_position (λ f. few_enough (by_position f)) 0 unit (front-under by_position 0 (calls_of unit) (activities_run unit) light))
          (given.functions k unit table everything depths keeps there function
          (record { declared = types; memory = memory; known = functions_known }) numbered
          (full-new structs remember units differ k unit there) (omega (arith, short)))
        where
          functions_known : (f : ℕ) (callee : UnitDef) → slice_get (take k units) f ≡ Some callee → is_function callee.kind ≡ true →
              everything (unit_name callee.name) ≡ Some (signature_for structs callee)
          functions_known f callee found is =
              full-known structs remember units differ k f callee found
              ∙ ap (λ b. Some (signature_by b structs callee (unwrap_or (slice_get remember f) false))) (not-true (is_activity callee.kind) is)

      -- ---- an activity

      module _ (one : InMachine) (forms : ActivityConditions structs units k (activity_of structs (take k units) remember unit one)) where
        abbrev a : Activity
        a = activity_of structs (take k units) remember unit one

        of_unit : IsOfUnit units k unit a
        of_unit = record { there = there; is = refl; before = refl }

        runs_under : AllUnder (is_need unit) 0 (callees_in (plain_body unit.body)) (map (λ (rule : Transition). rule.node) (rules_at a))
        runs_under =
            subst (AllUnder (is_need unit) 0 (callees_in (plain_body unit.body))) (sym (given.nodes a.slots (plain_body unit.body)))
            (body_under (is_need unit) 0 unit (front-under (is_need unit) 0 (calls_of unit) (activities_run unit) (needs-counted unit))
            (back-under (is_need unit) 0 (calls_of unit) (activities_run unit) (needs-counted unit)))

        frames_stand : FramesStand k → (run : RunAt) → Contains (runs_in_body a) run →
            (callee : UnitDef) → slice_get (take k units) run.unit ≡ Some callee → is_activity callee.kind ≡ true →
            is_some (table (frame_name (name_in (slice_get (take k units) run.unit)))) ≡ true
        frames_stand frames run has callee found active =
            let need_it = run_needed unit (activity_view a).number (callees_in (plain_body unit.body)) (rules_at a) runs_under run
            (once_in (runs_at (activity_view a).number (callees_in (plain_body unit.body)) (rules_at a)) run has) in
            let it = stands-before run.unit need_it in
            let at = taken units k run.unit callee found in
            subst (λ o. is_some (table (frame_name (name_in o))) ≡ true) (sym found)
            (frames run.unit callee at.1 at.0 it.needed_so active)

        stands : FramesStand k → AreDeclared table (parts_of_activity a).structs →
            ((run : RunAt) → Contains (runs_in_body a) run →
            (callee : UnitDef) × ((slice_get (take k units) run.unit ≡ Some callee) × (is_activity callee.kind ≡ true))) →
            ActivityStands units a table everything
        stands frames declared callees = record {
          declared = types;
          frame = declared (frame_struct a) (contains_first (frame_struct a) (remembered_struct a));
          memory = λ s has. declared s (contains_further (frame_struct a) (remembered_struct a) s has);
          frames = λ run has. (let c = callees run has in frames_stand frames run has c.0 c.1.0 c.1.1);
          known = λ f callee found is.
              full-known structs remember units differ k f callee found
              ∙ ap (λ b. Some (signature_by b structs callee (unwrap_or (slice_get remember f) false))) (not-true (is_activity callee.kind) is);
          called = λ f callee found is.
              full-known structs remember units differ k f callee found
              ∙ ap (λ b. Some (signature_by b structs callee (unwrap_or (slice_get remember f) false))) is;
        }

        pub activity-fine : (depths : Table ℕ) → ChainsKnown units depths → is_activity unit.kind ≡ true → FramesStand k →
            AreDeclared table (parts_of_activity a).structs →
            faults_in_function table functions depths false (activity_function a) ≡ []
        activity-fine depths chains active frames declared =
            let callees : (run : RunAt) → Contains (runs_in_body a) run →
            (callee : UnitDef) × ((slice_get (take k units) run.unit ≡ Some callee) × (is_activity callee.kind ≡ true)) =
            (λ run has. run_called a.sizes (activity_view a).site (activity_view a).number (callees_in (plain_body unit.body)) (rules_at a)
            forms.can.rules run (once_in (runs_at (activity_view a).number (callees_in (plain_body unit.body)) (rules_at a)) run has)) in
            let short : depth_of_function depths (activity_function a) ≤ 100 = given.low structs units entry k unit a depths passes of_unit chains in
            same (activity_function a) depths refl
            (given.few a heavy by_position 0 (prelude-light structs units needed remember differ k unit functions knows stands-before)
            (λ f. few_enough (by_position f)) light)
            (given.activities k a table everything depths keeps forms.can active forms.differ (stands frames declared callees) forms.owns forms.copies
            (full-new structs remember units differ k unit there) (omega (arith, short)))

  -- ---- one unit behind the other

  -- what fails in functions behind these is what fails in the last ones, where more is known
  record Behind (functions : Table Signature) (depths : Table ℕ) (funcs : List CFunc) (remember : List Bool) : Type 0 where
    known_then : Table Signature
    depths_then : Table ℕ
    same_faults : function_faults_after table functions depths (funcs ++ last) ≡ function_faults_after table known_then depths_then last
    knows_then : Knows remember (length units) known_then
    chains_then : ChainsKnown units depths_then
    frames_then : FramesStand (length units)

  then_one : (functions : Table Signature) (depths : Table ℕ) (f : CFunc) (funcs : List CFunc) (remember : List Bool) →
      faults_in_function table functions depths false f ≡ [] →
      Behind (with_entry functions f.name (signature_in f)) (with_entry depths f.name (depth_of_function depths f)) funcs remember →
      Behind functions depths (f ∷ funcs) remember
  then_one functions depths f funcs remember none rest = record {
    known_then = rest.known_then;
    depths_then = rest.depths_then;
    same_faults =
        (λ i. faults_in_function table functions depths (longer funcs last two i) f
        ++ function_faults_after table (with_entry functions f.name (signature_in f)) (with_entry depths f.name (depth_of_function depths f)) (funcs ++ last))
        ∙ (λ i. none i ++ rest.same_faults i);
    knows_then = rest.knows_then;
    chains_then = rest.chains_then;
    frames_then = rest.frames_then;
  }

  frames_next : (k : ℕ) (unit : UnitDef) → slice_get units k ≡ Some unit → FramesStand k →
      (slice_get needed k ≡ Some true → is_activity unit.kind ≡ true → is_some (table (frame_name unit.name)) ≡ true) → FramesStand (suc k)
  frames_next k unit there frames new f callee found less need active =
      ⊎_elim (λ (low : f < k). frames f callee found low need active)
      (λ (high : k ≤ f). let same : f ≡ k = omega (arith, less, high) in
      let one : unit ≡ callee = same_Some unit callee (sym there ∙ ap (slice_get units) (sym same) ∙ found) in
      subst (λ (callee : UnitDef). is_some (table (frame_name callee.name)) ≡ true) one
      (new (ap (slice_get needed) (sym same) ∙ need) (ap (λ (u : UnitDef). is_activity u.kind) one ∙ active)))
      (cases_lt f k)

  -- nothing fails in the functions of these units, which stand behind those
  abbrev Sound : ℕ → List UnitDef → List UnitDef → List Bool → Type 0
  Sound k earlier xs tests =
      (machine : List InMachine) (remember : List Bool) (functions : Table Signature) (depths : Table ℕ) → Knows remember k functions →
      ChainsKnown units depths → AllConditions structs units earlier remember xs tests machine →
      AreDeclared table (parts_from structs earlier remember xs tests machine).structs → FramesStand k →
      Behind functions depths (parts_from structs earlier remember xs tests machine).funcs
      (remember ++ (parts_from structs earlier remember xs tests machine).remember)

  module _ (k : ℕ) (unit : UnitDef) (xs : List UnitDef) (tests : List Bool) where
    abbrev here_by : Bool → List Bool → List InMachine → ProgramParts
    here_by b remember machine =
        if b then parts_of_next structs (take k units) remember unit machine else parts_of_function structs (take k units) unit

    abbrev behind_by : Bool → List InMachine → List InMachine
    behind_by b machine = if b then drop 1 machine else machine

    abbrev later_by : Bool → List Bool → List InMachine → ProgramParts
    later_by b remember machine =
        parts_from structs (take k units ++ unit ∷ []) (remember ++ (here_by b remember machine).remember) xs tests (behind_by b machine)

    -- the same, where it is told whether the unit is an activity, and whether it is needed
    abbrev SoundBy : Bool → Bool → Type 0
    SoundBy b test =
        (machine : List InMachine) (remember : List Bool) (functions : Table Signature) (depths : Table ℕ) → Knows remember k functions →
        ChainsKnown units depths →
        UnitConditions b test structs units (take k units) remember unit machine
        × AllConditions structs units (take k units ++ unit ∷ []) (remember ++ (here_by b remember machine).remember) xs tests (behind_by b machine) →
        AreDeclared table ((where_needed test (here_by b remember machine)).structs ++ (later_by b remember machine).structs) → FramesStand k →
        Behind functions depths ((where_needed test (here_by b remember machine)).funcs ++ (later_by b remember machine).funcs)
        (remember ++ ((where_needed test (here_by b remember machine)).remember ++ (later_by b remember machine).remember))

    module _ (there : slice_get units k ≡ Some unit) (next : Sound (suc k) (take k units ++ unit ∷ []) xs tests) where
      within : k ≤ length units
      within = let less : k < length units = slice_get_within units k unit there in omega (arith, less)

      moved : (functions : Table Signature) (depths : Table ℕ) (funcs : List CFunc) (remember r later : List Bool) →
          Behind functions depths funcs ((remember ++ r) ++ later) → Behind functions depths funcs (remember ++ (r ++ later))
      moved functions depths funcs remember r later rest = subst (Behind functions depths funcs) (append_assoc remember r later) rest

      -- a function
      function_step : (test : Bool) → slice_get needed k ≡ Some test → is_activity unit.kind ≡ false → SoundBy false test
      function_step true need function machine remember functions depths knows chains forms declared frames =
          let f : CFunc = function_code structs (take k units) unit in
          let signed : signature_by (is_activity unit.kind) structs unit false ≡ signature_in f =
          ap (λ b. signature_by b structs unit false) function ∙ sym (given.signed structs (take k units) unit) in
          let D : Table ℕ = with_entry depths (unit_name unit.name) (depth_of_function depths f) in
          let F : Table Signature = with_entry functions (unit_name unit.name) (signature_in f) in
          let memory : AreDeclared table (memory_struct structs (take k units) unit) =
          λ s has. declared s (Contains-append_left (memory_struct structs (take k units) unit) (later_by false remember machine).structs s has) in
          moved functions depths (f ∷ (later_by false remember machine).funcs) remember (false ∷ []) (later_by false remember machine).remember
          (then_one functions depths f (later_by false remember machine).funcs ((remember ++ false ∷ []) ++ (later_by false remember machine).remember)
          (function-fine k unit there remember functions knows need depths chains function forms.0 memory)
          (next machine (remember ++ false ∷ []) F D
          (subst (λ s. Knows (remember ++ false ∷ []) (suc k) (with_entry functions (unit_name unit.name) s)) signed
          (known-next k unit there remember functions knows false))
          (given.grow k unit depths keeps there chains) forms.1
          (λ s has. declared s (Contains-append_right (memory_struct structs (take k units) unit) (later_by false remember machine).structs s has))
          (frames_next k unit there frames (λ need active. absurd (let no : false ≡ true = sym function ∙ active in cc)))))
      function_step false need function machine remember functions depths knows chains forms declared frames =
          moved functions depths (later_by false remember machine).funcs remember (false ∷ []) (later_by false remember machine).remember
          (next machine (remember ++ false ∷ []) functions depths (known-same k unit there remember functions knows false need) chains forms.1 declared
          (frames_next k unit there frames (λ need active. absurd (let no : false ≡ true = sym function ∙ active in cc))))

      -- an activity
      activity_step : (test : Bool) → slice_get needed k ≡ Some test → is_activity unit.kind ≡ true → SoundBy true test
      activity_step test need active [] remember functions depths knows chains forms declared frames = absurd forms.0
      activity_step true need active (one ∷ machine) remember functions depths knows chains forms declared frames =
          let a : Activity = activity_of structs (take k units) remember unit one in
          let r : Bool = remembers_any a in
          let f : CFunc = activity_function a in
          let later : ProgramParts = later_by true remember (one ∷ machine) in
          let own : ActivityConditions structs units k a = subst (λ n. ActivityConditions structs units n a) (taken_length k units within) forms.0 in
          let signed : signature_by (is_activity unit.kind) structs unit r ≡ signature_in f =
          ap (λ b. signature_by b structs unit r) active ∙ sym (given.marked a) in
          let D : Table ℕ = with_entry depths (unit_name unit.name) (depth_of_function depths f) in
          let F : Table Signature = with_entry functions (unit_name unit.name) (signature_in f) in
          let mine : AreDeclared table (parts_of_activity a).structs =
          λ s has. declared s (Contains-append_left (parts_of_activity a).structs later.structs s has) in
          moved functions depths (f ∷ later.funcs) remember (r ∷ []) later.remember
          (then_one functions depths f later.funcs ((remember ++ r ∷ []) ++ later.remember)
          (activity-fine k unit there remember functions knows need one own depths chains active frames mine)
          (next machine (remember ++ r ∷ []) F D
          (subst (λ s. Knows (remember ++ r ∷ []) (suc k) (with_entry functions (unit_name unit.name) s)) signed
          (known-next k unit there remember functions knows r))
          (given.rises structs units entry k unit a depths keeps (record { there = there; is = refl; before = refl }) chains) forms.1
          (λ s has. declared s (Contains-append_right (parts_of_activity a).structs later.structs s has))
          (frames_next k unit there frames (λ need active. ap is_some (mine (frame_struct a) (contains_first (frame_struct a) (remembered_struct a)))))))
      activity_step false need active (one ∷ machine) remember functions depths knows chains forms declared frames =
          let a : Activity = activity_of structs (take k units) remember unit one in
          let r : Bool = remembers_any a in
          let later : ProgramParts = later_by true remember (one ∷ machine) in
          moved functions depths later.funcs remember (r ∷ []) later.remember
          (next machine (remember ++ r ∷ []) functions depths (known-same k unit there remember functions knows r need) chains forms.1 declared
          (frames_next k unit there frames
          (λ needs active. absurd (let no : Some true ≡ Some false = sym needs ∙ need in cc))))

      step : (test : Bool) → slice_get needed k ≡ Some test → (b : Bool) → is_activity unit.kind ≡ b → SoundBy b test
      step test need true active = activity_step test need active
      step test need false function = function_step test need function

  walk_end : (k : ℕ) (tests : List Bool) → k ≤ length units → drop k units ≡ [] → Sound k (take k units) [] tests
  walk_end k tests le is machine remember functions depths knows chains forms declared frames =
      let high : length units ≤ k = dropped_none k units is in
      let whole : length units ≡ k = omega (arith, le, high) in record {
        known_then = functions;
        depths_then = depths;
        same_faults = refl;
        knows_then = subst (λ remember. Knows remember (length units) functions) (sym (append-nil remember))
            (subst (λ n. Knows remember n functions) (sym whole) knows);
        chains_then = chains;
        frames_then = subst FramesStand (sym whole) frames;
      }

  walk : (xs : List UnitDef) (k : ℕ) (tests : List Bool) → k ≤ length units → drop k units ≡ xs → drop k needed ≡ tests → Sound k
      (take k units) xs tests
  walk [] k tests le is tests_are = walk_end k tests le is
  walk (unit ∷ xs) k [] le is tests_are =
      let found = drop_next units k unit xs is in
      let less : k < length units = slice_get_within units k unit found.0 in
      let few : length needed ≤ k = dropped_none k needed tests_are in
      let many : length needed ≡ length units = needed_many units entry in
      absurd (omega (arith, less, few, many))
  walk (unit ∷ xs) k (test ∷ tests) le is tests_are =
      let found = drop_next units k unit xs is in
      let test_found = drop_next needed k test tests tests_are in
      let less : k < length units = slice_get_within units k unit found.0 in
      step k unit xs tests found.0
      (subst (λ earlier. Sound (suc k) earlier xs tests) (take_next units k unit found.0) (walk xs (suc k) tests less found.1 test_found.1))
      test test_found.0 (is_activity unit.kind) refl

  none_known : Knows [] 0 no_entries
  none_known = record {
    known = λ f callee found less need. absurd (omega (arith, less));
    free = λ j unit found later. refl;
    prelude = λ rest. refl;
    long = refl;
  }

  no_chains : ChainsKnown units no_entries
  no_chains = record { prelude = λ word s. refl; unnamed = refl; of_units = λ f unit found. omega arith }

  pub whole : (machine : List InMachine) → AllConditions structs units [] [] units needed machine →
      AreDeclared table (parts_from structs [] [] units needed machine).structs →
      FunctionsEnd structs units entry table (parts_from structs [] [] units needed machine) last
  whole machine forms declared =
      let end = walk units 0 needed (omega arith) refl refl machine [] no_entries no_entries none_known no_chains forms declared
      (λ f unit found less need active. absurd (omega (arith, less))) in record {
        functions = end.known_then;
        depths = end.depths_then;
        same = end.same_faults;
        known = end.knows_then;
        chains = end.chains_then;
        frames = λ f unit found need active. end.frames_then f unit found (slice_get_within units f unit found) need active;
      }

pub parts : (structs : List StructDef) (units : List UnitDef) (entry : ℕ) → Given structs units entry → PartsWellFormed structs units entry
parts structs units entry given machine table last keeps passes forms types declared two =
    whole structs units entry given keeps passes table types last two machine forms declared
