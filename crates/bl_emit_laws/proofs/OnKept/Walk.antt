-- The structs of each needed activity are among those of the units that the entry needs.
use Rattle.std.proofs.Common.{◌≡◌, ℕ, zero, suc, ◌+◌, Bool, true, false, ◌&&◌, List, [], ◌∷◌, ◌++◌, Contains}
use Rattle.std.proofs.Common.{drop, take, length, Some, refl, sym, ap, subst, ◌∙◌, arith, cond}
use Rattle.std.proofs.lemmas.List.{append-nil}
use Rattle.std.proofs.lemmas.List.Elements.{Contains-append_left, Contains-append_right, filter-append}
use Rattle.std.proofs.lemmas.Option.{same_Some}
use Rattle.std.specs.Prelude.{filter, slice_get, unwrap_or, if◌then◌else◌}
use Rattle.bl_tree.proofs.Basics.{drop_at, push_length, take_next}
use Rattle.bl_tree.specs.declared.c.CStruct.{CStruct}
use Rattle.bl_tree.specs.declared.tree.StructDef.{StructDef}
use Rattle.bl_tree.specs.declared.tree.Unit.{Unit as UnitDef}
use Rattle.bl_tree.specs.Typing.{is_activity}
use Rattle.bl_cause.specs.Activities.{graph_position}
use Rattle.bl_machine.specs.declared.machine.Activity.{Activity as InMachine}
use Rattle.bl_emit_spec.specs.Activities.{frame_struct, remembered_struct, remembers_any}
use Rattle.bl_emit_spec.specs.Programs.{ProgramParts, activity_of, parts_from, parts_of_activity, parts_of_function, parts_of_next, parts_then, where_needed}
use Rattle.bl_emit_spec_laws.specs.Calls.Built.{Activities, AreBuilt, MadeOf}
use Rattle.bl_emit_spec_laws.specs.Tables.Tables.{activities_of, no_part, no_unit, remembered_before}
use Rattle.bl_emit_spec_laws.proofs.OnTables.Lists.{drop_next}
use Rattle.bl_emit_spec_laws.proofs.OnTables.Kept.{drop_one}

-- a needed unit's structs stand before those of others
first_has : (test : Bool) (here rest : ProgramParts) (own : List CStruct) (s : CStruct) → test ≡ true → here.structs ≡ own → Contains own s →
    Contains (parts_then (where_needed test here) rest).structs s
first_has true here rest own s is same at = Contains-append_left here.structs rest.structs s (subst (λ l. Contains l s) (sym same) at)
first_has false here rest own s is same at = absurd (cc)

module _ (structs : List StructDef) (units : List UnitDef) (machine : List InMachine)
    (built : AreBuilt structs units machine (activities_of structs units machine))
  where
    abbrev activities : Activities
    activities = activities_of structs units machine

    abbrev told : ℕ → List Bool
    told k = remembered_before structs units machine k

    -- whether the unit remembers variables
    abbrev flag : ℕ → UnitDef → Bool
    flag k unit = is_activity unit.kind && remembers_any (activities k)

    abbrev left : ℕ → List InMachine
    left k = drop (graph_position units k) machine

    abbrev parts : ℕ → List UnitDef → List Bool → ProgramParts
    parts k xs tests = parts_from structs (take k units) (told k) xs tests (left k)

    -- the structs of the activity at a position
    abbrev pub own : ℕ → List CStruct
    own k = frame_struct (activities k) ∷ remembered_struct (activities k)

    module _ (k : ℕ) (unit : UnitDef) (there : slice_get units k ≡ Some unit) where
      abbrev here : Bool → ProgramParts
      here active = if active then parts_of_next structs (take k units) (told k) unit (left k) else parts_of_function structs (take k units) unit

      -- the activity that the machine has next
      next_is : is_activity unit.kind ≡ true → parts_of_next structs (take k units) (told k) unit (left k) ≡ parts_of_activity (activities k)
      next_is active =
          ap (parts_of_next structs (take k units) (told k) unit) (drop_at machine (graph_position units k) made.one made.is)
          ∙ ap parts_of_activity (sym same)
        where
          made : MadeOf unit (activities k) (slice_get machine (graph_position units k))
          made = built.made k unit there active

          same : activities k ≡ activity_of structs (take k units) (told k) unit made.one
          same = λ i. activity_of structs (take k units) (told k) (unwrap_or (there i) no_unit) (unwrap_or (made.is i) no_part)

      remembered : (active : Bool) → is_activity unit.kind ≡ active → (here active).remember ≡ (active && remembers_any (activities k)) ∷ []
      remembered true is = ap (λ (p : ProgramParts). p.remember) (next_is is)
      remembered false is = refl

      own_structs : (active : Bool) → active ≡ true → is_activity unit.kind ≡ active → (here active).structs ≡ own k
      own_structs true so is = ap (λ (p : ProgramParts). p.structs) (next_is is)
      own_structs false so is = absurd (cc)

      left_next : (active : Bool) → is_activity unit.kind ≡ active → left (suc k) ≡ (if active then drop 1 (left k) else left k)
      left_next active is = ap (λ n. drop n machine) counted ∙ by active
        where
          tested : UnitDef → Bool
          tested it = is_activity it.kind

          many_with : Bool → ℕ
          many_with b = length (filter tested (take k units) ++ cond b (unit ∷ []) [])

          finished : (active : Bool) → many_with active ≡ (if active then suc (graph_position units k) else graph_position units k)
          finished true = push_length (filter tested (take k units)) unit
          finished false = ap length (append-nil (filter tested (take k units)))

          counted : graph_position units (suc k) ≡ (if active then suc (graph_position units k) else graph_position units k)
          counted =
              ap (λ xs. length (filter tested xs)) (take_next units k unit there)
              ∙ (ap length (filter-append tested (take k units) (unit ∷ [])) ∙ (ap many_with is ∙ finished active))

          by : (active : Bool) →
              drop (if active then suc (graph_position units k) else graph_position units k) machine ≡ (if active then drop 1 (left k) else left k)
          by true = drop_one machine (graph_position units k)
          by false = refl

      told_next : told (suc k) ≡ told k ++ flag k unit ∷ []
      told_next = ap (λ o. told k ++ (is_activity (unwrap_or o no_unit).kind && remembers_any (activities k)) ∷ []) there

      -- the parts of the units behind it, as they are written
      abbrev rest : List UnitDef → List Bool → ProgramParts
      rest xs tests =
          parts_from structs (take k units ++ unit ∷ []) (told k ++ (here (is_activity unit.kind)).remember) xs tests
          (if is_activity unit.kind then drop 1 (left k) else left k)

      rest_is : (xs : List UnitDef) (tests : List Bool) → parts (suc k) xs tests ≡ rest xs tests
      rest_is xs tests =
          λ i. parts_from structs (take_next units k unit there i) (told_so i) xs tests (left_next (is_activity unit.kind) refl i)
        where
          told_so : told (suc k) ≡ told k ++ (here (is_activity unit.kind)).remember
          told_so = told_next ∙ ap (λ flags. told k ++ flags) (sym (remembered (is_activity unit.kind) refl))

      own_first : (xs : List UnitDef) (test : Bool) (tests : List Bool) → test ≡ true → is_activity unit.kind ≡ true → (s : CStruct) →
          Contains (own k) s → Contains (parts k (unit ∷ xs) (test ∷ tests)).structs s
      own_first xs test tests needed active s at =
          first_has test (here (is_activity unit.kind)) (rest xs tests) (own k) s needed (own_structs (is_activity unit.kind) active refl) at

      later_first : (xs : List UnitDef) (test : Bool) (tests : List Bool) (s : CStruct) → Contains (parts (suc k) xs tests).structs s →
          Contains (parts k (unit ∷ xs) (test ∷ tests)).structs s
      later_first xs test tests s at =
          Contains-append_right (where_needed test (here (is_activity unit.kind))).structs (rest xs tests).structs s
          (subst (λ (p : ProgramParts). Contains p.structs s) (rest_is xs tests) at)

    pub walk : (xs : List UnitDef) (k : ℕ) (tests : List Bool) → drop k units ≡ xs → (j : ℕ) (unit : UnitDef) → slice_get xs j ≡ Some unit →
        slice_get tests j ≡ Some true → is_activity unit.kind ≡ true → (s : CStruct) → Contains (own (k + j)) s →
        Contains (parts k xs tests).structs s
    walk [] k tests is j unit there needed active s at = absurd (none j there)
      where
        none : (j : ℕ) → slice_get [] j ≡ Some unit → ⊥
        none zero there = absurd (cc)
        none (suc j) there = absurd (cc)
    walk (x ∷ xs) k [] is j unit there needed active s at = absurd (none j needed)
      where
        none : (j : ℕ) → slice_get [] j ≡ Some true → ⊥
        none zero needed = absurd (cc)
        none (suc j) needed = absurd (cc)
    walk (x ∷ xs) k (test ∷ tests) is zero unit there needed active s at =
        let found = drop_next units k x xs is in
        let same : k + 0 ≡ k = omega arith in
        own_first k x found.0 xs test tests (same_Some test true needed)
        (ap (λ (u : UnitDef). is_activity u.kind) (same_Some x unit there) ∙ active) s
        (subst (λ n. Contains (own n) s) same at)
    walk (x ∷ xs) k (test ∷ tests) is (suc j) unit there needed active s at =
        let found = drop_next units k x xs is in
        let same : k + suc j ≡ suc k + j = omega arith in
        later_first k x found.0 xs test tests s
        (walk xs (suc k) tests found.1 j unit there needed active s (subst (λ n. Contains (own n) s) same at))
