-- The structs of needed units, one after another: each is one of a unit, and uses earlier ones alone.
use Rattle.std.proofs.Common.{◌≡◌, ◌⊎◌, inl, inr, ⊎_elim, ℕ, zero, suc, ◌+◌, ◌<◌, ◌≤◌, ◌^◌, arith, Bool, true, false, cond}
use Rattle.std.proofs.Common.{◌||◌, nat_lt, List, [], ◌∷◌, ◌++◌, Contains, map, take, drop, length, Option, Some}
use Rattle.std.proofs.Common.{None, refl, sym, ap, ◌∙◌, subst, append_assoc}
use Rattle.std.proofs.lemmas.List.{append-nil, length-append, map-append}
use Rattle.std.proofs.lemmas.List.Elements.{Contains-append_cases}
use Rattle.std.proofs.lemmas.Option.{same_Some}
use Rattle.std.proofs.lemmas.Slice.Eq.{bytes_eq-Decides}
use Rattle.std.specs.List.{list_all, list_any}
use Rattle.std.specs.Prelude.{bytes_eq, slice_get, unwrap_or, if◌then◌else◌}
use Rattle.std.proofs.lemmas.Bool.{and_from}
use Rattle.bl_tree.proofs.Basics.{below_or_last, contains_none, first_or_further, get_seam, take_front, within_at}
use Rattle.bl_tree.specs.declared.c.CMember.{CMember}
use Rattle.bl_tree.specs.declared.c.CStruct.{CStruct}
use Rattle.bl_tree.specs.declared.c.CType.{CType}
use Rattle.bl_tree.specs.declared.c.CType.TheVariants.{Struct as OfStruct}
use Rattle.bl_tree.specs.declared.text.Text.{Text}
use Rattle.bl_tree.specs.declared.tree.StructDef.{StructDef}
use Rattle.bl_tree.specs.declared.tree.Unit.{Unit as UnitDef}
use Rattle.bl_tree.specs.Typing.{is_activity}
use Rattle.bl_tree.specs.Words.{are_distinct}
use Rattle.bl_cause.specs.Activities.{EachTwo, activities}
use Rattle.bl_machine.specs.declared.machine.Activity.{Activity as InMachine}
use Rattle.bl_machine.specs.Blocks.{up_to}
use Rattle.bl_machine.specs.Machines.{IsActivityOf}
use Rattle.bl_limits_measures.specs.Units.{chain_at}
use Rattle.bl_emit_acts.specs.Trees.{nowhere}
use Rattle.bl_emit_structs_laws_wellformed.specs.Names.{are_known, is_known, names_of}
use Rattle.bl_emit_structs_laws_wellformed.specs.Formed.{OfVariable}
use Rattle.bl_emit_structs_laws_wellformed.proofs.OnFormed.Whole.{known_both}
use Rattle.bl_emit_functions.specs.Functions.{members_of, memory_name, memory_struct, struct_of}
use Rattle.bl_emit_functions_laws_wellformed.specs.Formed.{MemoriesHold}
use Rattle.bl_emit_spec.specs.Activities.{Activity, RunAt, activity_view, counter_member, frame_member, frame_struct, memory_member, remembered}
use Rattle.bl_emit_spec.specs.Activities.{remembered_struct, remembers_any, runs_in_body, word_of_run}
use Rattle.bl_emit_spec.specs.Blocks.{name_in}
use Rattle.bl_emit_spec.specs.Names.{callee_name, frame_name}
use Rattle.bl_emit_spec.specs.Programs.{ProgramParts, activity_of, needed_units, parts_from, parts_of_function, parts_of_next, parts_then, where_needed}
use Rattle.bl_emit_spec_laws_wellformed.specs.Names.{FrameDiffers, MemoryDiffers, NumbersDiffer}
use Rattle.bl_emit_spec_laws_wellformed_bodies.specs.Structs.Parts.{IsPart, OfNumber, OfPart}
use Rattle.bl_emit_spec_laws_wellformed_bodies.proofs.OnStructs.Lists.{any_first, any_second, from_joined, from_map}
use Rattle.bl_emit_spec_laws_wellformed_bodies.proofs.OnStructs.Lists.{get_front, known_more, list_known}

-- the activity that a `run` of the unit at the position calls: it stands before, is needed with the unit, and heads a shorter chain
pub record RunFits (units : List UnitDef) (entry k : ℕ) (earlier : List UnitDef) (r : RunAt) : Type 0 where
  pub callee : UnitDef
  pub own : slice_get earlier r.unit ≡ Some callee
  pub is_there : slice_get units r.unit ≡ Some callee
  pub before : r.unit < k
  pub active : is_activity callee.kind ≡ true
  pub needed : slice_get (needed_units units entry) k ≡ Some true → slice_get (needed_units units entry) r.unit ≡ Some true
  pub less : chain_at units r.unit + 1 ≤ chain_at units k

-- what is known of an activity that is needed
pub record Modest (units : List UnitDef) (entry k : ℕ) (earlier : List UnitDef) (a : Activity) : Type 0 where
  pub numbers : NumbersDiffer a
  pub runs : (r : RunAt) → Contains (runs_in_body a) r → RunFits units entry k earlier r

module _ (structs : List StructDef) (units : List UnitDef) (entry : ℕ) (types : List Text) (hold : MemoriesHold structs units)
    (frames_differ : FrameDiffers) (memories_differ : MemoryDiffers)
    (declared : (m : CMember) → OfVariable structs units m → is_known types m.ty ≡ true)
    (few : (k : ℕ) (unit : UnitDef) → slice_get units k ≡ Some unit → slice_get (needed_units units entry) k ≡ Some true →
    length unit.vars ≤ 2 ^ 64)
    (modest : (k : ℕ) (unit : UnitDef) (one : InMachine) (remember : List Bool) → slice_get units k ≡ Some unit → is_activity unit.kind ≡ true →
    slice_get (needed_units units entry) k ≡ Some true → IsActivityOf unit one →
    Modest units entry k (take k units) (activity_of structs (take k units) remember unit one))
  where
    abbrev Needed : ℕ → Type 0
    Needed k = slice_get (needed_units units entry) k ≡ Some true

    -- what stands in front of the units from this position on
    pub record Known (names : List Text) (k : ℕ) (remember : List Bool) : Type 0 where
      pub long : length remember ≡ k
      pub of_types : (ty : CType) → is_known types ty ≡ true → is_known names ty ≡ true
      pub frames : (j : ℕ) (unit : UnitDef) → j < k → slice_get units j ≡ Some unit → Needed j → is_activity unit.kind ≡ true →
          is_known names (OfStruct (frame_name unit.name)) ≡ true
      pub memories : (j : ℕ) (unit : UnitDef) → j < k → slice_get units j ≡ Some unit → Needed j → slice_get remember j ≡ Some true →
          is_known names (OfStruct (memory_name unit.name)) ≡ true

    -- structs and what is told of the unit that they are of
    pub record Own (names : List Text) (k : ℕ) (remember : List Bool) (own : List CStruct) (told : List Bool) : Type 0 where
      pub known : are_known names own ≡ true
      pub each : (s : CStruct) → Contains own s → IsPart structs units memory_name s ⊎ IsPart structs units frame_name s
      pub next : Known (names ++ names_of own) (suc k) (remember ++ told)

    last_told : (xs : List Bool) (y : Bool) (k : ℕ) → length xs ≡ k → slice_get (xs ++ y ∷ []) k ≡ Some y
    last_told xs y k is = subst (λ k. slice_get (xs ++ y ∷ []) k ≡ Some y) is (get_seam xs y [])

    -- one more unit
    grow : (names more : List Text) (k : ℕ) (remember : List Bool) (told : Bool) (unit : UnitDef) → slice_get units k ≡ Some unit →
        Known names k remember →
        (Needed k → is_activity unit.kind ≡ true → is_known (names ++ more) (OfStruct (frame_name unit.name)) ≡ true) →
        (Needed k → told ≡ true → is_known (names ++ more) (OfStruct (memory_name unit.name)) ≡ true) →
        Known (names ++ more) (suc k) (remember ++ told ∷ [])
    grow names more k remember told unit there known frame memory = record {
      long = (let all = length-append remember (told ∷ []) in let own : length remember ≡ k = known.long in omega (arith, own));
      of_types = λ ty is. known_more names more ty (known.of_types ty is);
      frames = λ j other below at needed active.
          ⊎_elim (λ less. known_more names more (OfStruct (frame_name other.name)) (known.frames j other less at needed active))
          (λ same. let is : other ≡ unit = same_Some other unit (sym at ∙ ap (slice_get units) same ∙ there) in
          subst (λ (u : UnitDef). is_known (names ++ more) (OfStruct (frame_name u.name)) ≡ true) (sym is)
          (frame (ap (slice_get (needed_units units entry)) (sym same) ∙ needed) (ap (λ (u : UnitDef). is_activity u.kind) (sym is) ∙ active)))
          (below_or_last j k below);
      memories = λ j other below at needed tells.
          ⊎_elim
          (λ less. known_more names more (OfStruct (memory_name other.name))
          (known.memories j other less at needed
          (sym (get_front remember told j (let long : length remember ≡ k = known.long in omega (arith, less, long))) ∙ tells)))
          (λ same. let is : other ≡ unit = same_Some other unit (sym at ∙ ap (slice_get units) same ∙ there) in
          subst (λ (u : UnitDef). is_known (names ++ more) (OfStruct (memory_name u.name)) ≡ true) (sym is)
          (memory (ap (slice_get (needed_units units entry)) (sym same) ∙ needed)
          (same_Some told true (sym (last_told remember told k known.long) ∙ ap (slice_get (remember ++ told ∷ [])) (sym same) ∙ tells))))
          (below_or_last j k below);
    }

    -- ---- the struct of what a unit's variables are

    own_variables : (k : ℕ) (unit : UnitDef) → slice_get units k ≡ Some unit → length unit.vars ≤ 2 ^ 64 → (m : CMember) →
        Contains (members_of structs (take k units) unit) m → OfVariable structs units m
    own_variables k unit there small m has = by (members_of structs (take k units) unit) refl has
      where
        by : (members : List CMember) → members_of structs (take k units) unit ≡ members → Contains members m → OfVariable structs units m
        by [] is has = absurd (contains_none m has)
        by (first ∷ rest) is has =
            let s : CStruct = record { place = nowhere; name = memory_name unit.name; members = first ∷ rest } in
            (hold k unit there small s (subst (λ members. Contains (struct_of unit.name members) s) (sym is) (0, omega arith, refl))).members m has

    memory_part : (k : ℕ) (unit : UnitDef) (members : List CMember) → slice_get units k ≡ Some unit →
        are_distinct (map (λ (m : CMember). m.name) members) ≡ true →
        ((m : CMember) → Contains members m → OfPart structs units memory_name k m) → (s : CStruct) → Contains (struct_of unit.name members) s →
        IsPart structs units memory_name s
    memory_part k unit [] there differ parts s has = absurd (contains_none s has)
    memory_part k unit (first ∷ rest) there differ parts s has =
        ⊎_elim
        (λ is. subst (IsPart structs units memory_name) is
        (record { position = k; unit = unit; is_there = there; named = refl; distinct = differ; members = parts }))
        (λ none. absurd (contains_none s none)) (first_or_further _ [] s has)

    memory_known : (names : List Text) (unit : UnitDef) (members : List CMember) →
        ((m : CMember) → Contains members m → is_known names m.ty ≡ true) → are_known names (struct_of unit.name members) ≡ true
    memory_known names unit [] each = refl
    memory_known names unit (first ∷ rest) each =
        and_from (list_all (λ (m : CMember). is_known names m.ty) (first ∷ rest)) true (list_known names (first ∷ rest) each) refl

    memory_named : (unit : UnitDef) (members : List CMember) → nat_lt 0 (length members) ≡ true →
        list_any (bytes_eq (memory_name unit.name)) (names_of (struct_of unit.name members)) ≡ true
    memory_named unit [] some = absurd (cc)
    memory_named unit (first ∷ rest) some = ap (λ b. b || false) ((bytes_eq-Decides (memory_name unit.name) (memory_name unit.name)).1 refl)

    -- ---- a function

    function_own : (names : List Text) (k : ℕ) (remember : List Bool) (unit : UnitDef) → slice_get units k ≡ Some unit →
        is_activity unit.kind ≡ false → Needed k → Known names k remember →
        Own names k remember (memory_struct structs (take k units) unit) (false ∷ [])
    function_own names k remember unit there function needed known =
        let small = few k unit there needed in
        let members : List CMember = members_of structs (take k units) unit in
        record {
          known = memory_known names unit members (λ m has. known.of_types m.ty (declared m (own_variables k unit there small m has)));
          each = λ s has. inl (plain_part s has small);
          next = grow names (names_of (memory_struct structs (take k units) unit)) k remember false unit there known
              (λ need active. absurd (no_both (sym function ∙ active))) (λ need no. absurd (no_both no));
        }
      where
        no_both : false ≡ true → ⊥
        no_both h = absurd (cc)

        plain_part : (s : CStruct) → Contains (memory_struct structs (take k units) unit) s → length unit.vars ≤ 2 ^ 64 →
            IsPart structs units memory_name s
        plain_part s has small = by (members_of structs (take k units) unit) refl has
          where
            by : (members : List CMember) → members_of structs (take k units) unit ≡ members → Contains (struct_of unit.name members) s →
                IsPart structs units memory_name s
            by [] is has = absurd (contains_none s has)
            by (first ∷ rest) is has =
                let memory = hold k unit there small s (subst (λ members. Contains (struct_of unit.name members) s) (sym is) has) in
                let same = ⊎_elim (λ is. is) (λ none. absurd (contains_none s none)) (first_or_further _ [] s has) in
                record {
                  position = k;
                  unit = unit;
                  is_there = there;
                  named = ap (λ (s : CStruct). s.name) (sym same);
                  distinct = memory.distinct;
                  members = λ m at. inr (inl (memory.members m at));
                }

    -- ---- an activity

    module _ (k : ℕ) (remember : List Bool) (unit : UnitDef) (one : InMachine) (there : slice_get units k ≡ Some unit) (needed : Needed k)
        (own : Modest units entry k (take k units) (activity_of structs (take k units) remember unit one)) where
      abbrev a : Activity
      a = activity_of structs (take k units) remember unit one

      small : length unit.vars ≤ 2 ^ 64
      small = own.numbers.variables

      callee_named : (r : RunAt) → RunFits units entry k (take k units) r → (f : RunFits units entry k (take k units) r) →
          name_in (slice_get (take k units) r.unit) ≡ f.callee.name
      callee_named r x f = ap name_in f.own

      frame_member_is : (m : CMember) → Contains (frame_struct a).members m →
          OfNumber m ⊎ ((r : RunAt) × Contains (runs_in_body a) r × (frame_member a r ≡ m))
      frame_member_is m has =
          ⊎_elim
          (λ counter. let found = from_map (counter_member a.sizes) (up_to (length a.sizes)) m counter in
          inl (record { scalar = _; is = ap (λ (m : CMember). m.ty) (sym found.2) }))
          (λ run. inr (from_map (frame_member a) (runs_in_body a) m run))
          (Contains-append_cases (map (counter_member a.sizes) (up_to (length a.sizes))) (map (frame_member a) (runs_in_body a)) m has)

      callee_frame : (r : RunAt) (f : RunFits units entry k (take k units) r) (m : CMember) → frame_member a r ≡ m →
          m.ty ≡ OfStruct (frame_name f.callee.name)
      callee_frame r f m is =
          ap (λ (m : CMember). m.ty) (sym is) ∙ ap (λ name. OfStruct (frame_name name)) (callee_named r f f)

      frame_part : (m : CMember) → Contains (frame_struct a).members m → OfPart structs units frame_name k m
      frame_part m has =
          ⊎_elim (λ number. inl number)
          (λ run. let f = own.runs run.0 run.1 in
          inr (inr (record {
            position = run.0.unit;
            callee = f.callee;
            is_there = f.is_there;
            is = callee_frame run.0 f m run.2;
            less = f.less;
          })))
          (frame_member_is m has)

      frame_known : (names : List Text) → Known names k remember → (m : CMember) → Contains (frame_struct a).members m → is_known names m.ty ≡ true
      frame_known names known m has =
          ⊎_elim (λ (number : OfNumber m). subst (λ ty. is_known names ty ≡ true) (sym number.is) refl)
          (λ run. let f = own.runs run.0 run.1 in
          subst (λ ty. is_known names ty ≡ true) (sym (callee_frame run.0 f m run.2))
          (known.frames run.0.unit f.callee f.before f.is_there (f.needed needed) f.active))
          (frame_member_is m has)

      -- a member of what is remembered: a variable, or what a callee remembers
      pub record Callee (m : CMember) : Type 0 where
        pub run : RunAt
        pub among : Contains (runs_in_body a) run
        pub tells : slice_get remember run.unit ≡ Some true
        pub is : m.ty ≡ OfStruct (memory_name (name_in (slice_get (take k units) run.unit)))

      told_so : (o : Option Bool) → unwrap_or o false ≡ true → o ≡ Some true
      told_so (Some true) is = refl
      told_so (Some false) is = absurd (cc)
      told_so None is = absurd (cc)

      memory_member_is : (m : CMember) → Contains (remembered a) m → OfVariable structs units m ⊎ Callee m
      memory_member_is m has =
          ⊎_elim (λ variable. inl (own_variables k unit there small m variable))
          (λ run. let found = from_joined (memory_member a) (runs_in_body a) m run in
          inr (by found.0 found.1 ((activity_view a).remembers found.0.unit) refl found.2))
          (Contains-append_cases (members_of structs (take k units) unit) _ m has)
        where
          by : (r : RunAt) → Contains (runs_in_body a) r → (b : Bool) → (activity_view a).remembers r.unit ≡ b →
              Contains (if b then record {
                ty = OfStruct (memory_name (name_in (slice_get (take k units) r.unit)));
                name = callee_name (word_of_run a.earlier r);
                length = None;
              } ∷ [] else []) m → Callee m
          by r among true tells has = record {
            run = r;
            among = among;
            tells = told_so (slice_get remember r.unit) tells;
            is = ⊎_elim (λ is. ap (λ (m : CMember). m.ty) (sym is)) (λ none. absurd (contains_none m none)) (first_or_further _ [] m has);
          }
          by r among false tells has = absurd (contains_none m has)

      callee_memory : (m : CMember) (c : Callee m) → m.ty ≡ OfStruct (memory_name (own.runs c.run c.among).callee.name)
      callee_memory m c = c.is ∙ ap (λ o. OfStruct (memory_name (name_in o))) (own.runs c.run c.among).own

      memory_of : (m : CMember) → Contains (remembered a) m → OfPart structs units memory_name k m
      memory_of m has =
          ⊎_elim (λ variable. inr (inl variable))
          (λ (c : Callee m). let f = own.runs c.run c.among in
          inr (inr (record { position = c.run.unit; callee = f.callee; is_there = f.is_there; is = callee_memory m c; less = f.less })))
          (memory_member_is m has)

      memory_knows : (names : List Text) → Known names k remember → (m : CMember) → Contains (remembered a) m → is_known names m.ty ≡ true
      memory_knows names known m has =
          ⊎_elim (λ variable. known.of_types m.ty (declared m variable))
          (λ (c : Callee m). let f = own.runs c.run c.among in
          subst (λ ty. is_known names ty ≡ true) (sym (callee_memory m c))
          (known.memories c.run.unit f.callee f.before f.is_there (f.needed needed) c.tells))
          (memory_member_is m has)

      activity_own : (names : List Text) → is_activity unit.kind ≡ true → Known names k remember →
          Own names k remember (frame_struct a ∷ remembered_struct a) (remembers_any a ∷ [])
      activity_own names active known =
          let frame : Text = frame_name unit.name in
          record {
            known = and_from (list_all (λ (m : CMember). is_known names m.ty) (frame_struct a).members)
                (are_known (names ++ frame ∷ []) (remembered_struct a)) (list_known names (frame_struct a).members (frame_known names known))
                (memory_known (names ++ frame ∷ []) unit (remembered a)
                (λ m has. known_more names (frame ∷ []) m.ty (memory_knows names known m has)));
            each = λ s has.
                ⊎_elim
                (λ is. inr (subst (IsPart structs units frame_name) is
                (record {
                  position = k;
                  unit = unit;
                  is_there = there;
                  named = refl;
                  distinct = frames_differ a own.numbers;
                  members = frame_part;
                })))
                (λ rest. inl (memory_part k unit (remembered a) there (memories_differ a own.numbers) memory_of s rest))
                (first_or_further (frame_struct a) (remembered_struct a) s has);
            next = grow names (frame ∷ names_of (remembered_struct a)) k remember (remembers_any a) unit there known
                (λ need is. any_second (bytes_eq frame) names (frame ∷ names_of (remembered_struct a))
                (any_first (bytes_eq frame) (frame ∷ []) (names_of (remembered_struct a))
                (ap (λ b. b || false) ((bytes_eq-Decides frame frame).1 refl))))
                (λ need some. any_second (bytes_eq (memory_name unit.name)) names (frame ∷ names_of (remembered_struct a))
                (any_second (bytes_eq (memory_name unit.name)) (frame ∷ []) (names_of (remembered_struct a)) (memory_named unit (remembered a) some)));
          }

    -- ---- one unit after another

    -- structs of units one after another, and what is told of the units
    pub record Walked (names : List Text) (remember : List Bool) (parts : ProgramParts) : Type 0 where
      pub known : are_known names parts.structs ≡ true
      pub each : (s : CStruct) → Contains parts.structs s → IsPart structs units memory_name s ⊎ IsPart structs units frame_name s
      pub frames : (j : ℕ) (unit : UnitDef) → slice_get units j ≡ Some unit → Needed j → is_activity unit.kind ≡ true →
          is_known (names ++ names_of parts.structs) (OfStruct (frame_name unit.name)) ≡ true
      pub memories : (j : ℕ) (unit : UnitDef) → slice_get units j ≡ Some unit → Needed j → slice_get (remember ++ parts.remember) j ≡ Some true →
          is_known (names ++ names_of parts.structs) (OfStruct (memory_name unit.name)) ≡ true

    ended : (names : List Text) (k : ℕ) (remember : List Bool) → Known names k remember →
        ((j : ℕ) (unit : UnitDef) → slice_get units j ≡ Some unit → Needed j → j < k) →
        Walked names remember (record { structs = []; funcs = []; remember = [] })
    ended names k remember known all = record {
      known = refl;
      each = λ s has. absurd (contains_none s has);
      frames = λ j unit there needed active.
          subst (λ names. is_known names (OfStruct (frame_name unit.name)) ≡ true) (sym (append-nil names))
          (known.frames j unit (all j unit there needed) there needed active);
      memories = λ j unit there needed tells.
          subst (λ names. is_known names (OfStruct (memory_name unit.name)) ≡ true) (sym (append-nil names))
          (known.memories j unit (all j unit there needed) there needed
          (subst (λ told. slice_get told j ≡ Some true) (append-nil remember) tells));
    }

    joined_so : (names : List Text) (own rest : List CStruct) → names ++ names_of (own ++ rest) ≡ (names ++ names_of own) ++ names_of rest
    joined_so names own rest =
        ap (λ more. names ++ more) (map-append (λ (s : CStruct). s.name) own rest) ∙ sym (append_assoc names (names_of own) (names_of rest))

    then_walked : (names : List Text) (k : ℕ) (remember : List Bool) (own rest : ProgramParts) → Own names k remember own.structs own.remember →
        Walked (names ++ names_of own.structs) (remember ++ own.remember) rest → Walked names remember (parts_then own rest)
    then_walked names k remember own rest first later = record {
      known = known_both names own.structs rest.structs first.known later.known;
      each = λ s has. ⊎_elim (λ at. first.each s at) (λ at. later.each s at) (Contains-append_cases own.structs rest.structs s has);
      frames = λ j unit there needed active.
          subst (λ names. is_known names (OfStruct (frame_name unit.name)) ≡ true) (sym (joined_so names own.structs rest.structs))
          (later.frames j unit there needed active);
      memories = λ j unit there needed tells.
          subst (λ names. is_known names (OfStruct (memory_name unit.name)) ≡ true) (sym (joined_so names own.structs rest.structs))
          (later.memories j unit there needed
          (subst (λ told. slice_get told j ≡ Some true) (sym (append_assoc remember own.remember rest.remember)) tells));
    }

    -- a unit that isn't needed
    none_own : (names : List Text) (k : ℕ) (remember : List Bool) (unit : UnitDef) (told : Bool) → slice_get units k ≡ Some unit →
        slice_get (needed_units units entry) k ≡ Some false → Known names k remember → Own names k remember [] (told ∷ [])
    none_own names k remember unit told there not_needed known = record {
      known = refl;
      each = λ s has. absurd (contains_none s has);
      next = grow names [] k remember told unit there known (λ need active. absurd (never need)) (λ need tells. absurd (never need));
    }
      where
        never : Needed k → ⊥
        never need = let no : false ≡ true = same_Some false true (sym not_needed ∙ need) in absurd (cc)

    module _ (k : ℕ) (earlier : List UnitDef) (unit : UnitDef) (rest : List UnitDef) (needed : List Bool) (names : List Text) (remember : List Bool)
        (there : slice_get units k ≡ Some unit) (before : take k units ≡ earlier) where
      abbrev here : Bool → List UnitDef → List InMachine → ProgramParts
      here active earlier machine = if active then parts_of_next structs earlier remember unit machine else parts_of_function structs earlier unit

      -- what is written of the unit and of those behind it
      abbrev All : Bool → Bool → List UnitDef → List InMachine → ProgramParts
      All active test earlier' machine =
          parts_then (where_needed test (here active earlier' machine))
          (parts_from structs (earlier ++ unit ∷ []) (remember ++ (here active earlier' machine).remember) rest needed
          (if active then drop 1 machine else machine))

      abbrev Behind : Type 0
      Behind = (names' : List Text) (remember' : List Bool) (machine : List InMachine) → EachTwo IsActivityOf (activities rest) machine →
          Known names' (suc k) remember' →
          Walked names' remember' (parts_from structs (earlier ++ unit ∷ []) remember' rest needed machine)

      step_by : (active test : Bool) (machine : List InMachine) → is_activity unit.kind ≡ active →
          slice_get (needed_units units entry) k ≡ Some test →
          EachTwo IsActivityOf (cond active (unit ∷ activities rest) (activities rest)) machine →
          Known names k remember → Behind →
          Walked names remember (All active test (take k units) machine)
      step_by true test [] is need own known behind = absurd own
      step_by true true (one ∷ machine) is need own known behind =
          let first = activity_own k remember unit one there need (modest k unit one remember there is need own.0) names is known in
          then_walked names k remember (here true (take k units) (one ∷ machine)) _ first (behind _ _ machine own.1 first.next)
      step_by true false (one ∷ machine) is need own known behind =
          let first = none_own names k remember unit (remembers_any (activity_of structs (take k units) remember unit one)) there need known in
          then_walked names k remember (where_needed false (here true (take k units) (one ∷ machine))) _ first
          (behind _ _ machine own.1 first.next)
      step_by false true machine is need own known behind =
          let first = function_own names k remember unit there is need known in
          then_walked names k remember (here false (take k units) machine) _ first (behind _ _ machine own first.next)
      step_by false false machine is need own known behind =
          let first = none_own names k remember unit false there need known in
          then_walked names k remember (where_needed false (here false (take k units) machine)) _ first (behind _ _ machine own first.next)

      step : (test : Bool) (machine : List InMachine) → slice_get (needed_units units entry) k ≡ Some test →
          EachTwo IsActivityOf (activities (unit ∷ rest)) machine →
          Known names k remember → Behind → Walked names remember (All (is_activity unit.kind) test earlier machine)
      step test machine need own known behind =
          subst (λ earlier'. Walked names remember (All (is_activity unit.kind) test earlier' machine)) before
          (step_by (is_activity unit.kind) test machine refl need own known behind)

    split : (n j : ℕ) → (j < n) ⊎ ((i : ℕ) × (j ≡ n + i))
    split zero j = inr (j, omega arith)
    split (suc n) zero = inl (omega arith)
    split (suc n) (suc j) =
        ⊎_elim (λ less. inl (omega (arith, less))) (λ more. let is : j ≡ n + more.0 = more.1 in inr (more.0, omega (arith, is))) (split n j)

    length_one : (earlier : List UnitDef) (unit : UnitDef) → length (earlier ++ unit ∷ []) ≡ suc (length earlier)
    length_one earlier unit = let all = length-append earlier (unit ∷ []) in omega arith

    -- these tests tell of the units behind so many which are needed
    abbrev pub Told : ℕ → List Bool → Type 0
    Told n needed = (i : ℕ) → slice_get needed i ≡ slice_get (needed_units units entry) (n + i)

    pub walk : (earlier : List UnitDef) (remember : List Bool) (rest : List UnitDef) (needed : List Bool) (machine : List InMachine)
        (names : List Text) → earlier ++ rest ≡ units → Told (length earlier) needed → EachTwo IsActivityOf (activities rest) machine →
        Known names (length earlier) remember →
        Walked names remember (parts_from structs earlier remember rest needed machine)
    walk earlier remember [] needed machine names whole told own known =
        ended names (length earlier) remember known
        (λ j unit there need.
        subst (λ units. j < length units) (sym whole ∙ append-nil earlier) (within_at units j unit there))
    walk earlier remember (unit ∷ rest) [] machine names whole told own known =
        ended names (length earlier) remember known
        (λ j unit there need.
        ⊎_elim (λ less. less)
        (λ more. absurd (let no : None ≡ Some true = told more.0 ∙ ap (slice_get (needed_units units entry)) (sym more.1) ∙ need in cc))
        (split (length earlier) j))
    walk earlier remember (unit ∷ rest) (test ∷ needed) machine names whole told own known =
        let k : ℕ = length earlier in
        let there : slice_get units k ≡ Some unit = ap (λ units. slice_get units (length earlier)) (sym whole) ∙ get_seam earlier unit rest in
        let before : take k units ≡ earlier = ap (take (length earlier)) (sym whole) ∙ take_front earlier (unit ∷ rest) in
        let none : k + 0 ≡ k = omega arith in
        step k earlier unit rest needed names remember there before test machine
        (sym (told 0 ∙ ap (slice_get (needed_units units entry)) none)) own known
        (λ names' remember' machine own known.
        walk (earlier ++ unit ∷ []) remember' rest needed machine names' (append_assoc earlier (unit ∷ []) rest ∙ whole)
        (λ i. told (suc i) ∙ ap (slice_get (needed_units units entry)) (shifted earlier unit i)) own
        (subst (λ n. Known names' n remember') (sym (length_one earlier unit)) known))
      where
        shifted : (earlier : List UnitDef) (unit : UnitDef) (i : ℕ) → length earlier + suc i ≡ length (earlier ++ unit ∷ []) + i
        shifted earlier unit i = let one = length_one earlier unit in omega (arith, one)
