-- The function of an activity begins as a pass begins.
use Rattle.std.proofs.Common.{◌≡◌, inl, inr, ℕ, zero, suc, ◌+◌, ◌<◌, pos, arith, Bool, true}
use Rattle.std.proofs.Common.{false, not, ◌&&◌, ◌||◌}
use Rattle.std.proofs.Common.{List, [], ◌∷◌, ◌++◌, length, map, Option, Some, refl, sym, ap, ◌∙◌, subst}
use Rattle.std.proofs.lemmas.Bool.{lt-ltb, ltb-true}
use Rattle.std.proofs.lemmas.List.{append-nil}
use Rattle.std.proofs.lemmas.Option.{slice_get_within}
use Rattle.std.specs.Prelude.{Contains, bytes_eq, is_some, nat_eq, slice_get}
use Rattle.std.specs.List.{list_any}
use Rattle.bl_tree.proofs.Basics.{true_not_false}
use Rattle.bl_tree.specs.declared.place.Place.{Place}
use Rattle.bl_tree.specs.declared.tree.StructDef.{StructDef}
use Rattle.bl_tree.specs.declared.tree.Unit.{Unit as UnitDef}
use Rattle.bl_tree.specs.declared.tree.Var.{Var}
use Rattle.bl_tree.specs.declared.value.Value.{Value}
use Rattle.bl_tree.specs.Numbers.{number_of}
use Rattle.bl_tree.specs.Typing.{TypingContext, var_at}
use Rattle.bl_graph_nodes.specs.Nodes.{Arguments, EnterAt, entry, nodes_in}
use Rattle.bl_graph_nodes.specs.Plain.{Block, Label, Plain, Then, plain_body}
use Rattle.bl_ctext_semantics.specs.Course.{goes_on}
use Rattle.bl_ctext_semantics.specs.Meaning.{Meaning, Scope, block_c, further}
use Rattle.bl_ctext_semantics.specs.Memory.{Location, Memory, Projection, Root, left_after, member, same_root, scalar_number, value_at, variable}
use Rattle.bl_ctext_semantics.specs.Tables.{Table}
use Rattle.bl_ctree.specs.Instances.{Setting, callee_of, setting_of, unit_at}
use Rattle.bl_ctree.specs.Store.{Store, view_at}
use Rattle.bl_ctree_laws_confluence.specs.Deeds.Orderly.{AcceptedIsOrderly}
use Rattle.bl_emit_acts.specs.Acts.{c_copied, is_copied}
use Rattle.bl_emit_acts.specs.Types.{copy_name, variable_name}
use Rattle.bl_emit_acts_laws_simulation.specs.Acts.{BegunWith, copy_location, lies_in}
use Rattle.bl_emit_acts_laws_simulation.specs.Frames.{is_older, remembered_at}
use Rattle.bl_emit_acts_laws_simulation.specs.Encodes.{CopiesEncoded, are_apart, ways_part}
use Rattle.bl_emit_acts_laws_simulation.specs.Laws.{CopiesBegin, FramesApart}
use Rattle.bl_emit_functions_laws_simulation.specs.Calls.{CallsKeepFrame, HandsOver, memory_begun}
use Rattle.bl_emit_spec.specs.Activities.{Activity, activity_function, body_of, copied_in, copies_of, counters_read, entry_code, remembers_any}
use Rattle.bl_emit_spec.specs.Activities.{activity_view, rested_code}
use Rattle.bl_emit_spec.specs.Blocks.{unit_may_end}
use Rattle.bl_emit_spec.specs.Names.{counter_name, flag_name, mark_name, rested_name, with_word}
use Rattle.bl_emit_spec_laws.specs.Registers.Laws.{GuardsEvaluate, RegistersKeepApart, RegistersWithin}
use Rattle.bl_emit_spec_laws.specs.Registers.Registers.{Before, Counter, FewRegisters, Flag, Mark, Over, Register, Registered, RegistersApart}
use Rattle.bl_emit_spec_laws.specs.Registers.Registers.{RegistersBeside, frame_at, has_register, held_in, register_at}
use Rattle.bl_machine.specs.Blocks.{up_to}
use Rattle.bl_machine.specs.declared.machine.Activity.{Activity as InMachine}
use Rattle.bl_machine_pass.specs.Registers.{Registers}
use Rattle.bl_machine_pass_laws_execution.specs.Executes.{begun_registers, resumed_registers}
use Rattle.bl_machine_pass_laws.specs.Turns.Laws.{entry_flag}
use Rattle.bl_machine_pass_laws_execution.specs.Frames.{Frames}
use Rattle.bl_emit_spec_laws.specs.Own.{EntriesAreOwn}
use Rattle.bl_emit_spec_laws.specs.Calls.Built.{Activities, activity_at, rank_by, registered, run_by, site_at, unit_number}
use Rattle.bl_emit_spec_laws.specs.Calls.Calls.{CallAddresses, CallBegins, MayGive, PassStarts, input_values, output_values, passed_to}
use Rattle.bl_emit_spec_laws.specs.Calls.Laws.{CompilationContext, PartSimulates, memory_in, scope_in, start_code}
use Rattle.bl_emit_spec_laws.specs.Calls.Memories as memories
use Rattle.bl_emit_spec_laws.specs.Calls.Memories.{MemoryEncodes, inner}
use Rattle.bl_emit_spec_laws.specs.Calls.Invariant.{PassRepresents, PlacesAreSeparate}
use Rattle.bl_emit_spec_laws.specs.Activities.{CalleesRemember, PointersLead}
use Rattle.bl_emit_spec_laws.proofs.OnWithin.Changing.{none_within}
use Rattle.bl_emit_spec_laws.proofs.OnRegisters.Setting.{GoesTo}
use Rattle.bl_emit_spec_laws_nodes.proofs.OnPoints.Changes.{registers_keep}
use Rattle.bl_emit_spec_laws_files.specs.Begins.{CountersSuffice, FunctionsBeginWhere}
use Rattle.bl_emit_spec_laws_files.proofs.OnBegins.Callees.{callee_kept}
use Rattle.bl_emit_spec_laws_files.proofs.OnBegins.Members.{all_said, below_there, picked_there, there_below, there_picked}
use Rattle.bl_emit_spec_laws_files.proofs.OnBegins.Places.{as_many}
use Rattle.bl_emit_spec_laws_files.proofs.OnBegins.Pointers.{local_zero}
use Rattle.bl_emit_spec_laws_files.proofs.OnBegins.Setting.{then_goes}
use Rattle.bl_emit_spec_laws_files.proofs.OnBegins.Standing.{active, few, functions_stand_all, gives, handed, kind_is, many, places_are, pointers_go}
use Rattle.bl_emit_spec_laws_files.proofs.OnBegins.Standing.{standing, stands_there, unit_is}
use Rattle.bl_emit_spec_laws_files.proofs.OnBegins.Start.{Stands, comes_rested, copies_within, entry_begun, entry_goes, entry_resumed, other_parts}
use Rattle.bl_emit_spec_laws_files.proofs.OnBegins.Start.{rested_goes, same_parts, with_entry, with_rested}
use Rattle.bl_emit_spec_laws_files.proofs.OnBegins.Variables.{variables_begin_all}
use Rattle.bl_emit_acts_laws_simulation.proofs.Frames.{older_differs}
use Rattle.bl_emit_acts_laws_simulation.proofs.Cells.{apart_flip}
use Rattle.bl_emit_acts_laws_simulation.proofs.Written.{left_apart}

any_false : (test : ℕ → Bool) (ks : List ℕ) → ((k : ℕ) → test k ≡ false) → list_any test ks ≡ false
any_false test [] h = refl
any_false test (k ∷ ks) h = ap (λ b. b || list_any test ks) (h k) ∙ any_false test ks h

-- what keeps apart from a place doesn't lie in it
apart_lies : (p q : Location) (way : List Projection) → are_apart p q ≡ true → lies_in q p.root (p.parts ++ way) ≡ false
apart_lies p q way h =
    by (same_root q.root p.root) (apart_flip p q h)
  where
    by : (same : Bool) → (not same || ways_part q.parts p.parts) ≡ true → (same && is_some (left_after q.parts (p.parts ++ way))) ≡ false
    by false h = refl
    by true h =
        ap (λ (qs : List Projection). is_some (left_after qs (p.parts ++ way))) (sym (append-nil q.parts))
        ∙ ap (λ (o : Option (List Projection)). is_some o) (left_apart q.parts p.parts [] way h)

-- the registers as the function begins
abbrev at_first : (ℕ → ℕ) → Registers
at_first counters = record { counters = counters; rested = λ k. 0; flags = λ k. false; marks = λ k. false; over = false }

module _ (structs : List StructDef) (units : List UnitDef) (entry_at : ℕ) (orderly : AcceptedIsOrderly) (hands : HandsOver structs units entry_at)
    (keeps : CallsKeepFrame) (keep_apart : RegistersKeepApart) (guards : GuardsEvaluate) (frames_apart : FramesApart) (copying : CopiesBegin)
    (entries : EntriesAreOwn)
    (machine : List InMachine) (activities : Activities) (i : ℕ) (unit : UnitDef) (known : Table Meaning) (depth : ℕ) (given : CallAddresses)
    (frames : Frames) (store : Store) (here : Memory) (compiled : CompilationContext structs units entry_at machine activities)
    (there : unit_at (setting_of structs units entry_at) i ≡ Some unit)
    (may : MayGive unit (remembers_any (activity_at (setting_of structs units entry_at) activities i)) depth given)
    (begins : CallBegins (setting_of structs units entry_at) activities i unit depth given frames store here)
    (remember : CalleesRemember structs units entry_at machine activities)
    (suffice : CountersSuffice (activities (unit_number (setting_of structs units entry_at) i))) where
  abbrev w : Setting
  w = setting_of structs units entry_at

  abbrev a : Activity
  a = activities (unit_number w i)

  abbrev site : TypingContext
  site = site_at w activities i

  abbrev has : Registered
  has = registered a

  abbrev scope : Scope
  scope = scope_in w activities i unit known depth given

  abbrev now : List Value
  now = (view_at w store i).now

  abbrev begun : Memory
  begun = memory_in w activities i unit depth given here

  is_unit : a.unit ≡ unit
  is_unit = unit_is structs units entry_at orderly hands machine activities i unit known depth given frames store here compiled there may begins

  places : PlacesAreSeparate site unit (remembers_any a) scope
  places = places_are structs units entry_at orderly hands machine activities i unit known depth given frames store here compiled there may begins

  go : PointersLead w activities i unit scope given
  go = pointers_go structs units entry_at orderly hands machine activities i unit known depth given frames store here compiled there may begins

  few_registers : FewRegisters has
  few_registers =
      compiled.registers (unit_number w i) unit
      (stands_there structs units entry_at orderly hands machine activities i unit known depth given frames store here compiled there may begins)
      (kind_is structs units entry_at orderly hands machine activities i unit known depth given frames store here compiled there may begins)

  kept_apart : RegistersApart has scope × RegistersBeside has site scope
  kept_apart = registers_keep keep_apart site unit (remembers_any a) scope a is_unit few_registers places

  apart : RegistersApart has scope
  apart = kept_apart.0

  beside : RegistersBeside has site scope
  beside = kept_apart.1

  -- ---- the memory in which it begins

  begun_older : (root : Root) (way : List Projection) → is_older (depth + 1) root ≡ true → begun root way ≡ here root way
  begun_older root way older = (keeps known (activity_function a) (depth + 1) (passed_to unit (remembers_any a) given) here).begins root way older

  frame_older : is_older (depth + 1) given.frame.root ≡ true
  frame_older = ap (λ (p : Location). is_older (depth + 1) p.root) (sym go.frame) ∙ places.frame.frame_older

  over_older : unit_may_end unit ≡ true → is_older (depth + 1) given.over.root ≡ true
  over_older ends = ap (λ (p : Location). is_older (depth + 1) p.root) (sym (go.over ends)) ∙ places.frame.over_older ends

  zero_at : (name : List ℕ) → ((k : ℕ) → bytes_eq (variable_name site.vars k) name ≡ false) → (way : List Projection)
      → begun (variable (depth + 1) name) way ≡ pos 0
  zero_at name differ way =
      subst (λ (u : UnitDef). memory_begun (activity_function a) (depth + 1) (passed_to u (remembers_any a) given) here
      (variable (depth + 1) name) way
      ≡ pos 0) is_unit
      (local_zero a known (depth + 1) given
      (as_many a
      (standing structs units entry_at orderly hands machine activities i unit known depth given frames store here compiled there may begins)
      (active structs units entry_at orderly hands machine activities i unit known depth given frames store here compiled there may begins)
      (few structs units entry_at orderly hands machine activities i unit known depth given frames store here compiled there may begins)
      known depth given (input_values w store i unit ++ output_values w store i unit) here
      (handed structs units entry_at orderly hands machine activities i unit known depth given frames store here compiled there may begins)
      (many structs units entry_at orderly hands machine activities i unit known depth given frames store here compiled there may begins)
      (gives structs units entry_at orderly hands machine activities i unit known depth given frames store here compiled there may begins))
      here name differ way)

  first_holds : (x : Register) → has_register has x ≡ true →
      scalar_number (value_at begun (register_at has scope x)) ≡ held_in (at_first (frames i)) x
  first_holds (Counter c) its =
      ap (λ (p : Location). scalar_number (value_at begun (further p (member (counter_name c) ∷ [])))) go.frame
      ∙ (begun_older given.frame.root ((given.frame.parts ++ member (counter_name c) ∷ []) ++ []) frame_older
      ∙ begins.memory.counters i given.frame given.memory memories.here c (ltb-true c (length a.sizes) its))
  first_holds (Before k) its = zero_at (rested_name k) (λ j. refl) []
  first_holds (Flag k) its = zero_at (flag_name (with_word has.words k)) (λ j. refl) []
  first_holds (Mark k) its = zero_at (mark_name (with_word has.words k)) (λ j. refl) []
  first_holds Over its =
      let ends : unit_may_end unit ≡ true = ap unit_may_end (sym is_unit) ∙ its in
      ap (λ (p : Location). scalar_number (value_at begun (further p []))) (go.over ends)
      ∙ (ap (λ (parts : List Projection). begun given.over.root (parts ++ [])) (append-nil given.over.parts)
      ∙ (begun_older given.over.root (given.over.parts ++ []) (over_older ends) ∙ begins.over ends))

  abbrev Mid : Registers → Memory → Type 0
  Mid = Stands has site scope now begun

  first_stands : Mid (at_first (frames i)) begun
  first_stands = record {
    hold = record { each = first_holds };
    older = λ root way older. refl;
    vars = variables_begin_all structs units entry_at orderly hands keeps machine activities i unit known depth given frames store here compiled
        there may begins;
  }

  -- ---- what is done

  abbrev Read : List ℕ
  Read = counters_read a

  abbrev second : Registers
  second = with_rested Read (at_first (frames i))

  abbrev third : Registers
  third = with_entry (activity_view a) (body_of a) second

  second_within : RegistersWithin a.sizes second
  second_within =
      copies_within a.sizes Read (at_first (frames i)) (record { counters = begins.within i; rested = none_within a.sizes })

  read_below : (k : ℕ) → list_any (nat_eq k) Read ≡ true → has.counters k ≡ true
  read_below k h =
      lt-ltb k (length a.sizes) (there_below (length a.sizes) k (there_picked (activity_view a).is_read (up_to (length a.sizes)) k h).1)

  read_copied : (k : ℕ) → list_any (nat_eq k) Read ≡ true → has.copied k ≡ true
  read_copied k h = (there_picked (activity_view a).is_read (up_to (length a.sizes)) k h).0

  copied_read : (k : ℕ) → has.copied k ≡ true → list_any (nat_eq k) Read ≡ true
  copied_read k is = picked_there (activity_view a).is_read (up_to (length a.sizes)) k is (below_there (length a.sizes) k (suffice.asked k is))

  rested_done : GoesTo (Mid second) (block_c (map rested_code Read) scope begun)
  rested_done =
      rested_goes has site scope apart beside now begun Read (at_first (frames i)) begun (all_said has.counters Read read_below)
      (all_said has.copied Read read_copied) first_stands

  entry_flagged : (s : Plain) (rest : Block) → plain_body unit.body ≡ Then s rest → has.flags ((activity_view a).number (entry s)) ≡ true
  entry_flagged s rest is =
      entries structs units machine activities (unit_number w i) unit s rest
      (record {
        agrees = compiled.agrees;
        built = compiled.built;
        is_there = stands_there structs units entry_at orderly hands machine activities i unit known depth given frames store here compiled there may begins;
        activity = kind_is structs units entry_at orderly hands machine activities i unit known depth given frames store here compiled there may begins;
      })
      is

  first_copied : (activity_view a).is_read 0 ≡ true → (has.copied 0 ≡ true) × (second.rested 0 ≡ second.counters 0)
  first_copied is =
      let first : Registers = at_first (frames i) in
      (is, comes_rested Read first 0 (copied_read 0 is) ∙ sym (ap (λ (held : ℕ → ℕ). held 0) (same_parts Read first).0))

  entry_done : (m : Memory) → Mid second m → GoesTo (Mid third) (block_c (entry_code (activity_view a) (body_of a)) scope m)
  entry_done m stands =
      entry_goes has site scope apart beside now begun (activity_view a) (λ k. refl) guards (lt-ltb 0 (length a.sizes) suffice.some) (body_of a) second m
      (λ s rest is. entry_flagged s rest (ap (λ (u : UnitDef). plain_body u.body) (sym is_unit) ∙ is)) first_copied
      second_within.rested stands

  -- ---- the copies of variables

  abbrev copied : ℕ → Bool
  copied = is_copied (copies_of a.unit)

  abbrev Copied : List ℕ
  Copied = copied_in a

  copies_there : (k : ℕ) → list_any (nat_eq k) Copied ≡ true → (var : Var) × (var_at site k ≡ Some var) × (copied k ≡ true)
  copies_there k h =
      let both = there_picked copied (up_to (length a.unit.vars)) k h in
      let found = var_there a.unit.vars k (there_below (length a.unit.vars) k both.1) in
      (found.0, found.1, both.0)
    where
      var_there : (vars : List Var) (k : ℕ) → k < length vars → (var : Var) × (slice_get vars k ≡ Some var)
      var_there [] k less = absurd (omega (arith, less))
      var_there (v ∷ vars) zero less = (v, refl)
      var_there (v ∷ vars) (suc k) less = var_there vars k (omega (arith, less))

  copies_done : (m : Memory) → Mid third m → ((block_c (map (c_copied site) Copied) scope m).end ≡ goes_on)
      × BegunWith site scope m now Copied (block_c (map (c_copied site) Copied) scope m).memory
  copies_done m stands =
      copying site copied scope now Copied m (frames_apart site copied scope places.pointers).copies stands.vars copies_there

  -- ---- the whole

  module _ (r : Registers) (starts : PassStarts (setting_of structs units entry_at) activities i unit frames r) where
    abbrev Same : Registers → Type 0
    Same r = (x : Register) → has_register has x ≡ true → held_in third x ≡ held_in r x

    kept_second : (second.counters ≡ frames i) × (second.flags ≡ (λ k. false)) × (second.marks ≡ (λ k. false)) × (second.over ≡ false)
    kept_second = same_parts Read (at_first (frames i))

    kept_third : (third.counters ≡ second.counters) × (third.rested ≡ second.rested) × (third.marks ≡ second.marks) ×
        (third.over ≡ second.over)
    kept_third = other_parts (activity_view a) (body_of a) second

    counter_third : (k : ℕ) → third.counters k ≡ frames i k
    counter_third k = ap (λ (f : ℕ → ℕ). f k) (kept_third.0 ∙ kept_second.0)

    rested_third : (k : ℕ) → has.copied k ≡ true → third.rested k ≡ frames i k
    rested_third k is = ap (λ (f : ℕ → ℕ). f k) kept_third.1 ∙ comes_rested Read (at_first (frames i)) k (copied_read k is)

    none_flagged : (k : ℕ) → second.flags k ≡ false
    none_flagged k = ap (λ (f : ℕ → Bool). f k) kept_second.1

    first_counter : second.counters 0 ≡ frames i 0
    first_counter = ap (λ (f : ℕ → ℕ). f 0) kept_second.0

    mark_third : (k : ℕ) → third.marks k ≡ false
    mark_third k = ap (λ (f : ℕ → Bool). f k) (kept_third.2 ∙ kept_second.2)

    over_third : third.over ≡ false
    over_third = kept_third.3 ∙ kept_second.3

    body_is : body_of a ≡ plain_body unit.body
    body_is = ap (λ (u : UnitDef). plain_body u.body) is_unit

    same_begun : ((c : ℕ) → frames i c ≡ 0) → Same (begun_registers (rank_by w activities) i unit)
    same_begun zeros (Counter k) its = ap pos (counter_third k ∙ zeros k)
    same_begun zeros (Before k) its = ap pos (rested_third k its ∙ zeros k)
    same_begun zeros (Flag k) its =
        ap number_of (entry_begun (activity_view a) (body_of a) second k (first_counter ∙ zeros 0) (none_flagged k)
        ∙ ap (λ (body : Block). entry_flag (activity_view a).number body k) body_is)
    same_begun zeros (Mark k) its = ap number_of (mark_third k)
    same_begun zeros Over its = ap number_of over_third

    same_resumed : (frames i 0 ≡ 0 → ⊥) → Same (resumed_registers frames i)
    same_resumed goes (Counter k) its = ap pos (counter_third k)
    same_resumed goes (Before k) its = ap pos (rested_third k its)
    same_resumed goes (Flag k) its =
        ap number_of (entry_resumed (activity_view a) (body_of a) second k (λ is. goes (sym first_counter ∙ is)) (none_flagged k))
    same_resumed goes (Mark k) its = ap number_of (mark_third k)
    same_resumed goes Over its = ap number_of over_third

    same : Same r
    same = by starts
      where
        by : PassStarts w activities i unit frames r → Same r
        by (inl (is, zeros)) = subst Same (sym is) (same_begun zeros)
        by (inr (is, goes)) = subst Same (sym is) (same_resumed goes)

    not_over : r.over ≡ false
    not_over = by starts
      where
        by : PassStarts w activities i unit frames r → r.over ≡ false
        by (inl (is, zeros)) = ap (λ (r : Registers). r.over) is
        by (inr (is, goes)) = ap (λ (r : Registers). r.over) is

    module _ (m after : Memory) (stands : Mid third m) (left : BegunWith site scope m now Copied after) where
      after_older : (root : Root) (way : List Projection) → is_older (depth + 1) root ≡ true → after root way ≡ begun root way
      after_older root way older =
          left.kept root way (any_false (λ k. lies_in (copy_location scope site.vars k) root way) Copied
          (λ k. ap (λ b. b && is_some (left_after [] way)) (older_differs (depth + 1) (copy_name site.vars k) root older)))
          ∙ stands.older root way older

      after_holds : (x : Register) → has_register has x ≡ true → scalar_number (value_at after (register_at has scope x)) ≡ held_in r x
      after_holds x its =
          left.kept (register_at has scope x).root ((register_at has scope x).parts ++ [])
          (any_false (λ k. lies_in (copy_location scope site.vars k) (register_at has scope x).root ((register_at has scope x).parts ++ [])) Copied
          (λ k. apart_lies (register_at has scope x) (copy_location scope site.vars k) [] (beside.copies x k its)))
          ∙ (stands.hold.each x its ∙ same x its)

      after_copied : CopiesEncoded site now (is_copied (copies_of unit)) scope after
      after_copied = record {
        each = λ k var value is at known_value.
            left.copies.each k var value
            (picked_there copied (up_to (length a.unit.vars)) k (ap (λ (u : UnitDef). is_copied (copies_of u) k) is_unit ∙ is)
            (below_there (length a.unit.vars) k (slice_get_within a.unit.vars k var at))) at known_value;
      }

      memory_older : remembers_any a ≡ true → is_older (depth + 1) given.memory.root ≡ true
      memory_older is = ap (λ (p : Location). is_older (depth + 1) p.root) (sym (go.memory is)) ∙ (places.memory is).older

      after_callees : (l : Label) (at : Place) (arguments : Arguments) (j : ℕ) →
          Contains (nodes_in (plain_body unit.body)) (EnterAt l at arguments) →
          callee_of w i at ≡ Some j →
          MemoryEncodes w activities j (inner (frame_at scope) (run_by w activities i at))
          (inner (remembered_at scope) (run_by w activities i at)) frames store after
      after_callees l at arguments j within calls =
          subst (λ (p : Location). MemoryEncodes w activities j (inner p (run_by w activities i at))
          (inner (remembered_at scope) (run_by w activities i at)) frames store after) (sym go.frame)
          (callee_kept structs units entry_at machine activities compiled remember i unit there (depth + 1) frames store here after
          (λ root way older. after_older root way older ∙ begun_older root way older) given.frame given.memory (remembered_at scope) begins.memory
          go.memory frame_older memory_older l at arguments j within calls)

      pub pass_stands : PassRepresents (setting_of structs units entry_at) activities i unit
          (scope_in (setting_of structs units entry_at) activities i unit known depth given) frames store
          (view_at (setting_of structs units entry_at) store i).now r after
      pass_stands = record {
        registers = record { each = after_holds };
        variables = left.variables;
        copied = after_copied;
        callees = after_callees;
        result = λ value over has_result is. absurd (true_not_false (sym over ∙ not_over));
      }

    abbrev Left : Memory → Type 0
    Left after = PassRepresents w activities i unit scope frames store now r after
        × ((root : Root) (way : List Projection) → is_older (depth + 1) root ≡ true → after root way ≡ begun root way)

    done : GoesTo Left (block_c (start_code a) scope begun)
    done =
        then_goes scope (map rested_code Read) (entry_code (activity_view a) (body_of a) ++ map (c_copied (activity_view a).site) Copied) begun
        (Mid second) Left
        rested_done
        (λ m stands.
        then_goes scope (entry_code (activity_view a) (body_of a)) (map (c_copied (activity_view a).site) Copied) m (Mid third) Left (entry_done m stands)
        (λ k next.
        let copies = copies_done k next in (
          copies.0,
          (
            pass_stands k (block_c (map (c_copied site) Copied) scope k).memory next copies.1,
            after_older k (block_c (map (c_copied site) Copied) scope k).memory next copies.1,
          ),
        )))

    pub part_comes : PartSimulates (setting_of structs units entry_at) activities i unit
        (scope_in (setting_of structs units entry_at) activities i unit known depth given) frames store
        (view_at (setting_of structs units entry_at) store i).now r (memory_in (setting_of structs units entry_at) activities i unit depth given here)
        (block_c (start_code (activities (unit_number (setting_of structs units entry_at) i)))
        (scope_in (setting_of structs units entry_at) activities i unit known depth given)
        (memory_in (setting_of structs units entry_at) activities i unit depth given here))
    part_comes = record {
      ends = done.0;
      stands = done.1.0;
      kept = λ root way older outside. done.1.1 root way older;
    }

pub functions_begin_all : (structs : List StructDef) (units : List UnitDef) (entry_at : ℕ) → AcceptedIsOrderly →
    HandsOver structs units entry_at →
    CallsKeepFrame → RegistersKeepApart → GuardsEvaluate → FramesApart → CopiesBegin → EntriesAreOwn → FunctionsBeginWhere structs units entry_at
functions_begin_all structs units entry_at orderly hands keeps keep_apart guards frames_apart copying entries machine activities remember suffice
    i unit known depth given frames store r here compiled there may begins starts agree come = (
      functions_stand_all structs units entry_at orderly hands machine activities i unit known depth given frames store here compiled there may begins
          agree come,
      part_comes structs units entry_at orderly hands keeps keep_apart guards frames_apart copying entries machine activities i unit known depth given frames
          store here compiled there may begins remember
          (suffice (unit_number (setting_of structs units entry_at) i) unit
          (stands_there structs units entry_at orderly hands machine activities i unit known depth given frames store here compiled there may begins)
          (kind_is structs units entry_at orderly hands machine activities i unit known depth given frames store here compiled there may begins))
          r starts,
    )
