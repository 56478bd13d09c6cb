-- The functions of the written file are those of the units that are needed.
use Rattle.std.proofs.Common.{◌≡◌, ℕ, zero, suc, ◌+◌, Bool, true, false, ◌&&◌, nat_eq, List, [], ◌∷◌, ◌++◌, drop, map, take, length}
use Rattle.std.proofs.Common.{Some, refl, sym, ap, ◌∙◌, arith, cond}
use Rattle.std.proofs.lemmas.List.{append-nil, map-append}
use Rattle.std.proofs.lemmas.List.Elements.{filter-append}
use Rattle.std.specs.Prelude.{filter, slice_get, unwrap_or, if◌then◌else◌}
use Rattle.bl_tree.proofs.Basics.{drop_at, push_length, take_next}
use Rattle.bl_tree.specs.declared.c.CFunc.{CFunc}
use Rattle.bl_tree.specs.declared.tree.StructDef.{StructDef}
use Rattle.bl_tree.specs.declared.tree.Unit.{Unit as UnitDef}
use Rattle.bl_tree.specs.Typing.{is_activity}
use Rattle.bl_cause.specs.Activities.{graph_position}
use Rattle.bl_machine.specs.declared.machine.Activity.{Activity as InMachine}
use Rattle.bl_machine.specs.Blocks.{up_to}
use Rattle.bl_machine.specs.Machines.{AreActivitiesOf}
use Rattle.bl_emit_functions.specs.Functions.{function_code}
use Rattle.bl_emit_spec.specs.Activities.{activity_function, remembers_any}
use Rattle.bl_emit_spec.specs.Lent.{lent_unit}
use Rattle.bl_emit_spec.specs.Programs.{ProgramParts, activity_of, init_function, needed_below, needed_units, needs_at, parts_from, parts_of_activity}
use Rattle.bl_emit_spec.specs.Programs.{parts_of_function, parts_of_next, parts_then, set_from, tick_function, where_needed}
use Rattle.bl_emit_spec_laws.specs.Calls.Built.{Activities}
use Rattle.bl_emit_spec_laws.specs.Tables.Laws.{WrittenIsKept}
use Rattle.bl_emit_spec_laws.specs.Tables.Tables.{activities_of, each_from, functions_of_all, kept_where, no_part, no_unit, remembered_before, unit_function}
use Rattle.bl_emit_spec_laws.proofs.OnTables.Built.{part_at}
use Rattle.bl_emit_spec_laws.proofs.OnTables.Lists.{drop_next, each_got}

-- ---- as many tests as units

set_many : (positions : List ℕ) (k : ℕ) (tests : List Bool) → length (set_from positions k tests) ≡ length tests
set_many positions k [] = refl
set_many positions k (test ∷ tests) = ap suc (set_many positions (suc k) tests)

pub below_many : (k : ℕ) (units : List UnitDef) (needed : List Bool) → length (needed_below k units needed) ≡ length needed
below_many zero units needed = refl
below_many (suc k) units needed = below_many k units _ ∙ by (unwrap_or (slice_get needed k) false)
  where
    by : (b : Bool) → length (if b then set_from (needs_at (slice_get units k)) 0 needed else needed) ≡ length needed
    by true = set_many (needs_at (slice_get units k)) 0 needed
    by false = refl

up_many : (test : ℕ → Bool) (n : ℕ) → length (map test (up_to n)) ≡ n
up_many test zero = refl
up_many test (suc n) =
    ap length (map-append test (up_to n) (n ∷ [])) ∙ (push_length (map test (up_to n)) (test n) ∙ ap suc (up_many test n))

pub needed_many : (units : List UnitDef) (entry : ℕ) → length (needed_units units entry) ≡ length units
needed_many units entry = below_many (length units) units _ ∙ up_many (λ k. nat_eq k entry) (length units)

-- ---- lists

pub drop_one : {A : Type 0} (xs : List A) (k : ℕ) → drop (suc k) xs ≡ drop 1 (drop k xs)
drop_one [] zero = refl
drop_one [] (suc k) = refl
drop_one (x ∷ xs) zero = refl
drop_one (x ∷ xs) (suc k) = drop_one xs k

-- parts of a unit before others
before_others : (test : Bool) (here rest : ProgramParts) (f : CFunc) (b : Bool) (tests flags : List Bool) (fs : List CFunc) → here.funcs ≡ f ∷ [] →
    here.remember ≡ b ∷ [] → rest.funcs ≡ kept_where tests fs →
    (length tests ≡ length flags → rest.remember ≡ flags) → ((parts_then (where_needed test here) rest).funcs ≡ kept_where (test ∷ tests) (f ∷ fs))
    × (suc (length tests) ≡ suc (length flags) → (parts_then (where_needed test here) rest).remember ≡ b ∷ flags)
before_others true here rest f b tests flags fs own told funcs remember = (
  λ i. own i ++ funcs i,
  λ many. let later = remember (let same : length tests ≡ length flags = omega (arith, many) in same) in λ i. told i ++ later i,
)
before_others false here rest f b tests flags fs own told funcs remember = (
  funcs,
  λ many. let later = remember (let same : length tests ≡ length flags = omega (arith, many) in same) in λ i. told i ++ later i,
)

module _ (structs : List StructDef) (units : List UnitDef) (machine : List InMachine) (agrees : AreActivitiesOf units machine) where
  abbrev activities : Activities
  activities = activities_of structs units machine

  abbrev code : ℕ → UnitDef → CFunc
  code k unit = unit_function structs units activities k unit

  abbrev told : ℕ → List Bool
  told k = remembered_before structs units machine k

  -- whether the unit remembers variables
  abbrev flag : ℕ → UnitDef → Bool
  flag k unit = is_activity unit.kind && remembers_any (activities k)

  abbrev left : ℕ → List InMachine
  left k = drop (graph_position units k) machine

  abbrev parts : ℕ → List UnitDef → List Bool → ProgramParts
  parts k xs tests = parts_from structs (take k units) (told k) xs tests (left k)

  module _ (k : ℕ) (unit : UnitDef) (there : slice_get units k ≡ Some unit) where
    abbrev here : Bool → ProgramParts
    here active = if active then parts_of_next structs (take k units) (told k) unit (left k) else parts_of_function structs (take k units) unit

    -- the activity that the machine has next
    next_is : is_activity unit.kind ≡ true → parts_of_next structs (take k units) (told k) unit (left k) ≡ parts_of_activity (activities k)
    next_is active =
        ap (parts_of_next structs (take k units) (told k) unit) (drop_at machine (graph_position units k) found.0 found.1)
        ∙ ap parts_of_activity (sym same)
      where
        found : (one : InMachine) × (slice_get machine (graph_position units k) ≡ Some one)
        found = part_at structs units machine agrees k unit there active

        same : activities k ≡ activity_of structs (take k units) (told k) unit found.0
        same = λ i. activity_of structs (take k units) (told k) (unwrap_or (there i) no_unit) (unwrap_or (found.1 i) no_part)

    own : (active : Bool) → is_activity unit.kind ≡ active →
        (here active).funcs ≡ (if active then activity_function (activities k) else function_code structs (take k units) unit) ∷ []
    own true is = ap (λ (p : ProgramParts). p.funcs) (next_is is)
    own false is = refl

    remembered : (active : Bool) → is_activity unit.kind ≡ active → (here active).remember ≡ (active && remembers_any (activities k)) ∷ []
    remembered true is = ap (λ (p : ProgramParts). p.remember) (next_is is)
    remembered false is = refl

    left_next : (active : Bool) → is_activity unit.kind ≡ active → left (suc k) ≡ (if active then drop 1 (left k) else left k)
    left_next active is = ap (λ n. drop n machine) counted ∙ by active
      where
        tested : UnitDef → Bool
        tested it = is_activity it.kind

        many_with : Bool → ℕ
        many_with b = length (filter tested (take k units) ++ cond b (unit ∷ []) [])

        finished : (active : Bool) → many_with active ≡ (if active then suc (graph_position units k) else graph_position units k)
        finished true = push_length (filter tested (take k units)) unit
        finished false = ap length (append-nil (filter tested (take k units)))

        counted : graph_position units (suc k) ≡ (if active then suc (graph_position units k) else graph_position units k)
        counted =
            ap (λ xs. length (filter tested xs)) (take_next units k unit there)
            ∙ (ap length (filter-append tested (take k units) (unit ∷ [])) ∙ (ap many_with is ∙ finished active))

        by : (active : Bool) →
            drop (if active then suc (graph_position units k) else graph_position units k) machine ≡ (if active then drop 1 (left k) else left k)
        by true = drop_one machine (graph_position units k)
        by false = refl

    told_next : told (suc k) ≡ told k ++ flag k unit ∷ []
    told_next = ap (λ o. told k ++ (is_activity (unwrap_or o no_unit).kind && remembers_any (activities k)) ∷ []) there

    step : (xs : List UnitDef) (test : Bool) (tests : List Bool) → ((parts (suc k) xs tests).funcs ≡ kept_where tests (each_from code (suc k) xs))
        × (length tests ≡ length (each_from flag (suc k) xs) → (parts (suc k) xs tests).remember ≡ each_from flag (suc k) xs) →
        ((parts k (unit ∷ xs) (test ∷ tests)).funcs ≡ kept_where (test ∷ tests) (each_from code k (unit ∷ xs)))
        × (suc (length tests) ≡ suc (length (each_from flag (suc k) xs)) →
        (parts k (unit ∷ xs) (test ∷ tests)).remember ≡ each_from flag k (unit ∷ xs))
    step xs test tests more =
        before_others test (here (is_activity unit.kind)) rest (code k unit) (flag k unit) tests (each_from flag (suc k) xs) (each_from code (suc k) xs)
        (own (is_activity unit.kind) refl) (remembered (is_activity unit.kind) refl) (ap (λ (p : ProgramParts). p.funcs) (sym rest_is) ∙ more.0)
        (λ many. ap (λ (p : ProgramParts). p.remember) (sym rest_is) ∙ more.1 many)
      where
        rest : ProgramParts
        rest =
            parts_from structs (take k units ++ unit ∷ []) (told k ++ (here (is_activity unit.kind)).remember) xs tests
            (if is_activity unit.kind then drop 1 (left k) else left k)

        told_so : told (suc k) ≡ told k ++ (here (is_activity unit.kind)).remember
        told_so = told_next ∙ ap (λ flags. told k ++ flags) (sym (remembered (is_activity unit.kind) refl))

        rest_is : parts (suc k) xs tests ≡ rest
        rest_is =
            λ i. parts_from structs (take_next units k unit there i) (told_so i) xs tests (left_next (is_activity unit.kind) refl i)

  walk : (xs : List UnitDef) (k : ℕ) (tests : List Bool) → drop k units ≡ xs → ((parts k xs tests).funcs ≡ kept_where tests (each_from code k xs))
      × (length tests ≡ length (each_from flag k xs) → (parts k xs tests).remember ≡ each_from flag k xs)
  walk [] k [] is = (refl, λ many. refl)
  walk [] k (test ∷ tests) is = (refl, λ many. refl)
  walk (unit ∷ xs) k [] is = (refl, λ many. absurd (omega (arith, many)))
  walk (unit ∷ xs) k (test ∷ tests) is =
      let found = drop_next units k unit xs is in step k unit found.0 xs test tests (walk xs (suc k) tests found.1)

each_many : {X : Type 0} (of : ℕ → UnitDef → X) (k : ℕ) (xs : List UnitDef) → length (each_from of k xs) ≡ length xs
each_many of k [] = refl
each_many of k (x ∷ xs) = ap suc (each_many of (suc k) xs)

pub all_kept : WrittenIsKept
all_kept program machine unit agrees there active = record {
  remembers = remembers;
  funcs = λ i. whole.0 i ++ init_function ∷ tick_function unit (remembers i) ∷ [];
}
  where
    activities : Activities
    activities = activities_of program.structs program.units machine

    needed : List Bool
    needed = needed_units program.units program.entry

    parts_all : ProgramParts
    parts_all = parts_from program.structs [] [] program.units needed machine

    flags : ℕ → UnitDef → Bool
    flags k unit = is_activity unit.kind && remembers_any (activities_of program.structs program.units machine k)

    whole : (parts_all.funcs ≡ kept_where needed (functions_of_all program.structs program.units (activities_of program.structs program.units machine)))
        × (length needed ≡ length (each_from flags 0 program.units) → parts_all.remember ≡ each_from flags 0 program.units)
    whole = walk program.structs program.units machine agrees program.units 0 needed refl

    many : length needed ≡ length (each_from flags 0 program.units)
    many = needed_many program.units program.entry ∙ sym (each_many flags 0 program.units)

    remembers : unwrap_or (slice_get parts_all.remember program.entry) false
        ≡ remembers_any (activities_of program.structs program.units machine program.entry)
    remembers =
        let same : 0 + program.entry ≡ program.entry = omega arith in
        ap (λ list. unwrap_or (slice_get list program.entry) false) (whole.1 many)
        ∙ (ap (λ o. unwrap_or o false) (each_got flags program.units 0 program.entry (lent_unit unit) there)
        ∙ (ap (λ n. flags n (lent_unit unit)) same ∙ ap (λ b. b && remembers_any (activities_of program.structs program.units machine program.entry)) active))
