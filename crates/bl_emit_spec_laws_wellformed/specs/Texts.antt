-- The C file of a whole program is spelled.
use Rattle.std.specs.Prelude.{◌≡◌, ℕ, Bool, true, false, List, [], ◌∷◌, ◌++◌, drop, length, Some, slice_get, if◌then◌else◌}
use Rattle.bl_tree.specs.declared.program.Program.{Program}
use Rattle.bl_tree.specs.declared.tree.StructDef.{StructDef}
use Rattle.bl_tree.specs.declared.tree.Unit.{Unit as UnitDef}
use Rattle.bl_tree.specs.Program.{IsWellTyped}
use Rattle.bl_tree.specs.Typing.{is_activity}
use Rattle.bl_ctext.specs.Spellable.{has_any, is_spellable}
use Rattle.bl_machine.specs.declared.machine.Activity.{Activity as InMachine}
use Rattle.bl_emit_functions_laws_wellformed.specs.Formed.{IsNumbered}
use Rattle.bl_emit_spec.specs.Activities.{Activity, frame_struct}
use Rattle.bl_emit_spec.specs.Lent.{lent_unit}
use Rattle.bl_emit_spec.specs.Programs.{activity_of, needed_units, parts_of_function, parts_of_next, written_of}
use Rattle.bl_emit_spec_laws_wellformed.specs.Spelled.{CanSpell}

-- the C of an activity can be spelled, and the activity has a counter or runs another
pub record ActivityIsSpellable (structs : List StructDef) (units : List UnitDef) (k : ℕ) (a : Activity) : Type 0 where
  pub can : CanSpell structs units k a
  pub rests : has_any (frame_struct a).members ≡ true

-- the next activity of the machine, if there is one, is spellable
abbrev pub NextWrites : List StructDef → List UnitDef → List UnitDef → List Bool → UnitDef → List InMachine → Type 0
NextWrites structs units earlier remember unit [] = Unit {0}
NextWrites structs units earlier remember unit (one ∷ machine) =
    ActivityIsSpellable structs units (length earlier) (activity_of structs earlier remember unit one)

-- a unit is spellable: an activity is with its part of the machine, and 64 bits hold the numbers in the names of a function
abbrev pub UnitWrites : Bool → List StructDef → List UnitDef → List UnitDef → List Bool → UnitDef → List InMachine → Type 0
UnitWrites true structs units earlier remember unit machine = NextWrites structs units earlier remember unit machine
UnitWrites false structs units earlier remember unit machine = IsNumbered structs earlier unit

-- a statement, where the test is true
abbrev pub Where : Bool → Type 0 → Type 0
Where true A = A
Where false A = Unit {0}

-- each needed unit of the list is spellable, where earlier units stand in front, with what they remember
abbrev pub AllWrite : List StructDef → List UnitDef → List UnitDef → List Bool → List UnitDef → List Bool → List InMachine → Type 0
AllWrite structs units earlier remember [] needed machine = Unit {0}
AllWrite structs units earlier remember (unit ∷ rest) [] machine = Unit {0}
AllWrite structs units earlier remember (unit ∷ rest) (test ∷ needed) machine =
    Where test (UnitWrites (is_activity unit.kind) structs units earlier remember unit machine)
    × AllWrite structs units (earlier ++ unit ∷ [])
    (remember
    ++ (if is_activity unit.kind then parts_of_next structs earlier remember unit machine else parts_of_function structs earlier unit).remember)
    rest needed (if is_activity unit.kind then drop 1 machine else machine)

-- the C file that is written of a typed program, whose entry has the inputs of a unit lent, has a spelling, where each unit that its entry needs can be spelled
abbrev pub FilesSpelled : Program → Type 0
FilesSpelled program =
    (machine : List InMachine) (unit : UnitDef) → IsWellTyped program.structs program.units program.entry →
    slice_get program.units program.entry ≡ Some (lent_unit unit) →
    AllWrite program.structs program.units [] [] program.units (needed_units program.units program.entry) machine →
    is_spellable (written_of program unit machine).structs (written_of program unit machine).funcs ≡ true
