-- The C of each unit that the entry needs can be spelled, so the C file has a spelling.
use Rattle.std.proofs.Common.{◌≡◌, ℕ, zero, suc, ◌+◌, ◌<◌, arith, Bool, true, false, List, [], ◌∷◌, ◌++◌}
use Rattle.std.proofs.Common.{map, take, drop, length, Some, cond, refl, sym, ap, ◌∙◌, subst, append_assoc}
use Rattle.std.proofs.lemmas.List.{length-append}
use Rattle.std.specs.Prelude.{slice_get, if◌then◌else◌}
use Rattle.bl_tree.proofs.Basics.{contains_at, get_seam, take_front}
use Rattle.bl_tree.specs.declared.program.Program.{Program}
use Rattle.bl_tree.specs.declared.tree.StructDef.{StructDef}
use Rattle.bl_tree.specs.declared.tree.Unit.{Unit as UnitDef}
use Rattle.bl_tree.specs.Program.{IsWellTyped}
use Rattle.bl_tree.specs.Typing.{is_activity}
use Rattle.bl_cause.specs.Activities.{EachTwo, activities}
use Rattle.bl_ctext.specs.Spellable.{has_any}
use Rattle.bl_effects.specs.Rules.{Passes}
use Rattle.bl_limits.specs.Rules.{Passes as KeepsLimits}
use Rattle.bl_machine.specs.declared.machine.Activity.{Activity as InMachine}
use Rattle.bl_machine.specs.Blocks.{up_to}
use Rattle.bl_machine.specs.Machines.{IsActivityOf}
use Rattle.bl_machine_laws.specs.Rests.{ActivitiesCount}
use Rattle.bl_emit_functions_laws_wellformed.specs.Formed.{IsNumbered}
use Rattle.bl_emit_spec.specs.Activities.{Activity, counter_member, frame_member, frame_struct, runs_in_body}
use Rattle.bl_emit_spec.specs.Programs.{activity_of, needed_units, parts_of_function, parts_of_next}
use Rattle.bl_emit_spec_laws_wellformed.specs.Machines.{IsModest, MachinesSpell}
use Rattle.bl_emit_spec_laws_wellformed.specs.Needed.{NeededNumbered, NeededSmall}
use Rattle.bl_emit_spec_laws_wellformed.specs.Spelled.{CanSpell}
use Rattle.bl_emit_spec_laws_wellformed.specs.Texts.{ActivityIsSpellable, AllWrite, FilesSpelled, UnitWrites, Where}
use Rattle.bl_emit_laws.specs.Spelled.{ProgramsSpelled}
use Rattle.bl_emit_laws.proofs.OnForms.Forms.{behind_none}

-- ---- lists

any_first : {A : Type 0} (xs ys : List A) → has_any xs ≡ true → has_any (xs ++ ys) ≡ true
any_first [] ys h = absurd (cc)
any_first (x ∷ xs) ys h = refl

any_mapped : {A B : Type 0} (f : A → B) (xs : List A) → has_any xs ≡ true → has_any (map f xs) ≡ true
any_mapped f [] h = absurd (cc)
any_mapped f (x ∷ xs) h = refl

any_up_to : (n : ℕ) → 0 < n → has_any (up_to n) ≡ true
any_up_to zero some = absurd (omega (arith, some))
any_up_to (suc n) some = last (up_to n)
  where
    last : (xs : List ℕ) → has_any (xs ++ n ∷ []) ≡ true
    last [] = refl
    last (x ∷ xs) = refl

-- the struct of where an activity rests has a member, where it has a counter
frame_some : (a : Activity) → 0 < length a.sizes → has_any (frame_struct a).members ≡ true
frame_some a some =
    any_first (map (counter_member a.sizes) (up_to (length a.sizes))) (map (frame_member a) (runs_in_body a))
    (any_mapped (counter_member a.sizes) (up_to (length a.sizes)) (any_up_to (length a.sizes) some))

-- ---- units

module _ (structs : List StructDef) (units : List UnitDef) (entry : ℕ) (keeps : IsWellTyped structs units entry) (passes : Passes units)
    (limits : KeepsLimits structs units entry) (counted : ActivitiesCount) (spell : MachinesSpell structs units entry)
    (small : NeededSmall structs units entry) (numbered : NeededNumbered structs units entry)
  where
    -- these tests tell of the units behind so many which are needed
    abbrev Told : ℕ → List Bool → Type 0
    Told n needed = (j : ℕ) → slice_get needed j ≡ Some true → slice_get (needed_units units entry) (n + j) ≡ Some true

    told_rest : (n : ℕ) (test : Bool) (needed : List Bool) → Told n (test ∷ needed) → Told (suc n) needed
    told_rest n test needed told j is = subst (λ m. slice_get (needed_units units entry) m ≡ Some true) (omega arith) (told (suc j) is)

    module _ (earlier : List UnitDef) (unit : UnitDef) (rest : List UnitDef) (whole : earlier ++ unit ∷ rest ≡ units) (remember : List Bool) where
      abbrev k : ℕ
      k = length earlier

      there : slice_get units k ≡ Some unit
      there = ap (λ units. slice_get units (length earlier)) (sym whole) ∙ get_seam earlier unit rest

      before : take k units ≡ earlier
      before = ap (take (length earlier)) (sym whole) ∙ take_front earlier (unit ∷ rest)

      activity_writes : (one : InMachine) → is_activity unit.kind ≡ true → slice_get (needed_units units entry) k ≡ Some true →
          IsActivityOf unit one → ActivityIsSpellable structs units k (activity_of structs earlier remember unit one)
      activity_writes one active needed own =
          let modest : IsModest structs units k unit one =
          record { there = there; of_unit = own; cells = small k keeps limits needed } in
          record {
            can = subst (λ before. CanSpell structs units k (activity_of structs before remember unit one)) before
                (spell k unit one remember keeps modest);
            rests = frame_some (activity_of structs earlier remember unit one)
                (counted structs units entry unit one keeps passes (contains_at units k unit there) active own);
          }

      -- what is listed of a unit and those behind it, an activity or a function
      abbrev Listed : Bool → Bool → List Bool → List InMachine → Type 0
      Listed active test needed machine =
          Where test (UnitWrites active structs units earlier remember unit machine)
          × AllWrite structs units (earlier ++ unit ∷ [])
          (remember ++ (if active then parts_of_next structs earlier remember unit machine else parts_of_function structs earlier unit).remember)
          rest needed (if active then drop 1 machine else machine)

      -- those behind it are
      abbrev Behind : Type 0
      Behind = (remember : List Bool) (needed : List Bool) (machine : List InMachine) → Told (suc k) needed →
          EachTwo IsActivityOf (activities rest) machine →
          AllWrite structs units (earlier ++ unit ∷ []) remember rest needed machine

      where_writes : (test : Bool) (A : Type 0) → (test ≡ true → A) → Where test A
      where_writes true A gives = gives refl
      where_writes false A gives = tt

      own_needed : (test : Bool) (needed : List Bool) → Told k (test ∷ needed) → test ≡ true → slice_get (needed_units units entry) k ≡ Some true
      own_needed test needed told is =
          subst (λ m. slice_get (needed_units units entry) m ≡ Some true) (omega arith) (told 0 (ap Some is))

      listed : (active test : Bool) (needed : List Bool) (machine : List InMachine) → is_activity unit.kind ≡ active → Told k (test ∷ needed) →
          EachTwo IsActivityOf (cond active (unit ∷ activities rest) (activities rest)) machine →
          Behind → Listed active test needed machine
      listed true test needed [] is told own behind = absurd own
      listed true test needed (one ∷ machine) is told own behind = (
        where_writes test (ActivityIsSpellable structs units k (activity_of structs earlier remember unit one))
            (λ yes. activity_writes one is (own_needed test needed told yes) own.0),
        behind _ needed machine (told_rest k test needed told) own.1,
      )
      listed false test needed machine is told own behind = (
        where_writes test (IsNumbered structs earlier unit)
            (λ yes. subst (λ before. IsNumbered structs before unit) before
            (numbered k unit keeps limits there (own_needed test needed told yes))),
        behind _ needed machine (told_rest k test needed told) own,
      )

    length_one : (earlier : List UnitDef) (unit : UnitDef) → length (earlier ++ unit ∷ []) ≡ suc (length earlier)
    length_one earlier unit = let all = length-append earlier (unit ∷ []) in omega arith

    all_write : (earlier : List UnitDef) (remember : List Bool) (rest : List UnitDef) (needed : List Bool) (machine : List InMachine) →
        earlier ++ rest ≡ units → Told (length earlier) needed → EachTwo IsActivityOf (activities rest) machine →
        AllWrite structs units earlier remember rest needed machine
    all_write earlier remember [] needed machine whole told own = tt
    all_write earlier remember (unit ∷ rest) [] machine whole told own = tt
    all_write earlier remember (unit ∷ rest) (test ∷ needed) machine whole told own =
        listed earlier unit rest whole remember (is_activity unit.kind) test needed machine refl told own
        (λ remember needed machine told own.
        all_write (earlier ++ unit ∷ []) remember rest needed machine (append_assoc earlier (unit ∷ []) rest ∙ whole)
        (subst (λ n. Told n needed) (sym (length_one earlier unit)) told) own)

pub programs_spelled : (program : Program) → ActivitiesCount → MachinesSpell program.structs program.units program.entry →
    NeededSmall program.structs program.units program.entry → NeededNumbered program.structs program.units program.entry → FilesSpelled program →
    ProgramsSpelled program
programs_spelled program counted spell small numbered files machine unit keeps passes limits agrees there =
    let needed : List Bool = needed_units program.units program.entry in
    files machine unit keeps there
    (all_write program.structs program.units program.entry keeps passes limits counted spell small numbered [] [] program.units needed machine refl
    (λ j is. behind_none needed (length {A = UnitDef} []) j refl is) agrees)
