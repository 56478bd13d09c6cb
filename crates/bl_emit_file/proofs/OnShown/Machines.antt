-- The part of a machine that shown units have, and what is written of it.
use Rattle.std.proofs.Common.{◌≡◌, ℕ, zero, suc, ◌≤◌, Bool, true, false, List, [], ◌∷◌, ◌++◌, cond, drop, take, length}
use Rattle.std.proofs.Common.{Some, refl, ap}
use Rattle.std.specs.Prelude.{slice_get, if◌then◌else◌}
use Rattle.bl_tree.specs.declared.tree.StructDef.{StructDef}
use Rattle.bl_tree.specs.declared.tree.Unit.{Unit as UnitDef}
use Rattle.bl_tree.specs.Typing.{is_activity}
use Rattle.bl_cause.specs.Activities.{EachTwo, activities, graph_position}
use Rattle.bl_machine.specs.declared.machine.Activity.{Activity as InMachine}
use Rattle.bl_machine.specs.Machines.{AreActivitiesOf, IsActivityOf}
use Rattle.bl_emit_spec.specs.Lent.{lent_unit}
use Rattle.bl_emit_spec.specs.Programs.{ProgramParts, parts_from, parts_of_function, parts_of_next, parts_then, where_needed}
use Rattle.bl_emit_file.proofs.OnShown.Units.{Shown, shown_front}

abbrev active : UnitDef → Bool
active unit = is_activity unit.kind

-- the activities of the machine that the units have
abbrev pub machine_of : List UnitDef → List InMachine → List InMachine
machine_of units machine = take (length (activities units)) machine

-- ---- activities

agree_first : {units shown : List UnitDef} {n : ℕ} → Shown units n shown → (machine : List InMachine) → EachTwo IsActivityOf (activities units) machine →
    EachTwo IsActivityOf (activities shown) (take (length (activities shown)) machine)
agree_first (Shown.entry {unit} {rest}) machine agrees = by (active unit) machine agrees
  where
    by : (b : Bool) (machine : List InMachine) →
        EachTwo IsActivityOf (cond b (unit ∷ activities rest) (activities rest)) machine →
        EachTwo IsActivityOf (cond b (lent_unit unit ∷ []) []) (take (length (cond b (lent_unit unit ∷ []) [])) machine)
    by true [] agrees = absurd agrees
    by true (one ∷ machine) agrees = (record { order = agrees.0.order; counters = agrees.0.counters; slots = agrees.0.slots }, tt)
    by false machine agrees = tt
agree_first (Shown.before {unit} {rest} {shown} more) machine agrees = by (active unit) machine agrees (agree_first more)
  where
    by : (b : Bool) (machine : List InMachine) →
        EachTwo IsActivityOf (cond b (unit ∷ activities rest) (activities rest)) machine →
        ((machine : List InMachine) → EachTwo IsActivityOf (activities rest) machine →
        EachTwo IsActivityOf (activities shown) (take (length (activities shown)) machine)) →
        EachTwo IsActivityOf (cond b (unit ∷ activities shown) (activities shown))
        (take (length (cond b (unit ∷ activities shown) (activities shown))) machine)
    by true [] agrees further = absurd agrees
    by true (one ∷ machine) agrees further = (agrees.0, further machine agrees.1)
    by false machine agrees further = further machine agrees

pub shown_agrees : {units shown : List UnitDef} {n : ℕ} → Shown units n shown → (machine : List InMachine) → AreActivitiesOf units machine →
    AreActivitiesOf shown (machine_of shown machine)
shown_agrees are machine agrees = agree_first are machine agrees

-- an activity stands where it stood
pub shown_position : {units shown : List UnitDef} {n : ℕ} → Shown units n shown → (k : ℕ) → k ≤ n → graph_position shown k ≡ graph_position units k
shown_position are k few = ap (λ (units : List UnitDef). length (activities units)) (shown_front are k few)

pub taken_there : {A : Type 0} (n : ℕ) (xs : List A) (k : ℕ) (x : A) → slice_get (take n xs) k ≡ Some x → slice_get xs k ≡ Some x
taken_there zero xs k x there = absurd (cc)
taken_there (suc n) [] k x there = absurd (cc)
taken_there (suc n) (y ∷ xs) zero x there = there
taken_there (suc n) (y ∷ xs) (suc k) x there = taken_there n xs k x there

-- ---- what is written

-- parts ask for no more of a machine than the units have
pub parts_of_machine : (structs : List StructDef) (earlier : List UnitDef) (remember : List Bool) (units : List UnitDef) (needed : List Bool)
    (machine : List InMachine) →
    parts_from structs earlier remember units needed machine ≡ parts_from structs earlier remember units needed (machine_of units machine)
parts_of_machine structs earlier remember [] needed machine = refl
parts_of_machine structs earlier remember (unit ∷ units) [] machine = refl
parts_of_machine structs earlier remember (unit ∷ units) (test ∷ needed) machine =
    by (active unit) machine (λ remember machine. parts_of_machine structs (earlier ++ unit ∷ []) remember units needed machine)
  where
    here : Bool → List InMachine → ProgramParts
    here b machine = if b then parts_of_next structs earlier remember unit machine else parts_of_function structs earlier unit

    whole : Bool → List InMachine → ProgramParts
    whole b machine =
        parts_then (where_needed test (here b machine))
        (parts_from structs (earlier ++ unit ∷ []) (remember ++ (here b machine).remember) units needed (if b then drop 1 machine else machine))

    by : (b : Bool) (machine : List InMachine) →
        ((remember : List Bool) (machine : List InMachine) → parts_from structs (earlier ++ unit ∷ []) remember units needed machine
        ≡ parts_from structs (earlier ++ unit ∷ []) remember units needed (machine_of units machine)) →
        whole b machine ≡ whole b (take (length (cond b (unit ∷ activities units) (activities units))) machine)
    by true [] further = refl
    by true (one ∷ machine) further =
        ap (parts_then (where_needed test (here true (one ∷ machine)))) (further (remember ++ (here true (one ∷ machine)).remember) machine)
    by false machine further = ap (parts_then (where_needed test (here false machine))) (further (remember ++ (here false machine).remember) machine)
