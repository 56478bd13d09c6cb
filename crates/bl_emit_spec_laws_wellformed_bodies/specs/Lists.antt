-- The C functions of the units that the entry of a program needs, one behind the other, as a text: no clause fails in them.
use Rattle.std.specs.Prelude.{◌≡◌, ℕ, ◌<◌, ◌≤◌, Bool, true, false, List, [], ◌∷◌, ◌++◌, codes, drop, is_some, length}
use Rattle.std.specs.Prelude.{None, Some, slice_get, unwrap_or, if◌then◌else◌, ⊤}
use Rattle.bl_tree.specs.declared.c.CFunc.{CFunc}
use Rattle.bl_tree.specs.declared.c.CMember.{CMember}
use Rattle.bl_tree.specs.declared.text.Text.{Text}
use Rattle.bl_tree.specs.declared.tree.StructDef.{StructDef}
use Rattle.bl_tree.specs.declared.tree.Unit.{Unit as UnitDef}
use Rattle.bl_tree.specs.Program.{IsWellTyped}
use Rattle.bl_tree.specs.Typing.{is_activity}
use Rattle.bl_limits.specs.Rules.{Passes}
use Rattle.bl_ctext_semantics.specs.Faults.{Signature, function_faults_after}
use Rattle.bl_ctext_semantics.specs.Tables.{Table, no_entries}
use Rattle.bl_machine.specs.declared.machine.Activity.{Activity as InMachine}
use Rattle.bl_emit_acts.specs.Types.{unit_name}
use Rattle.bl_emit_structs.specs.Structs.{structs_for}
use Rattle.bl_emit_acts_laws_wellformed.specs.Formed.Declared.{AreDeclared, signature_for}
use Rattle.bl_emit_functions_laws_wellformed.specs.Formed.{IsNumbered}
use Rattle.bl_emit_functions_laws_wellformed.specs.Files.Laws.{ChainsKnown}
use Rattle.bl_emit_spec.specs.Activities.{Activity}
use Rattle.bl_emit_spec.specs.Names.{frame_name}
use Rattle.bl_emit_spec.specs.Programs.{ProgramParts, activity_of, needed_units, parts_from, parts_of_function, parts_of_next}
use Rattle.bl_emit_spec_laws_wellformed.specs.Names.{NumbersDiffer}
use Rattle.bl_emit_spec_laws_wellformed.specs.Spelled.{CanSpell}
use Rattle.bl_emit_spec_laws_wellformed_bodies.specs.Bodies.{CopiesSuffice, OwnsRules, signature_of_activity}

-- ---- what is asked of the units that are needed

-- what is asked of the activity of the unit at a position
pub record ActivityConditions (structs : List StructDef) (units : List UnitDef) (k : ℕ) (a : Activity) : Type 0 where
  pub can : CanSpell structs units k a
  pub differ : NumbersDiffer a
  pub owns : OwnsRules a
  pub copies : CopiesSuffice a

-- a machine has a part for the next activity, which meets its conditions where the unit is needed
abbrev pub NextConditions : Bool → List StructDef → List UnitDef → List UnitDef → List Bool → UnitDef → List InMachine → Type 0
NextConditions test structs units earlier remember unit [] = ⊥
NextConditions true structs units earlier remember unit (one ∷ machine) =
    ActivityConditions structs units (length earlier) (activity_of structs earlier remember unit one)
NextConditions false structs units earlier remember unit (one ∷ machine) = ⊤

-- the conditions on a unit: those on an activity, and for a needed function that 64 bits hold the numbers in its names
abbrev pub UnitConditions : Bool → Bool → List StructDef → List UnitDef → List UnitDef → List Bool → UnitDef → List InMachine → Type 0
UnitConditions true test structs units earlier remember unit machine = NextConditions test structs units earlier remember unit machine
UnitConditions false true structs units earlier remember unit machine = IsNumbered structs earlier unit
UnitConditions false false structs units earlier remember unit machine = ⊤

-- what is made of a unit, where it is needed or not
abbrev pub parts_here : List StructDef → List UnitDef → List Bool → UnitDef → List InMachine → ProgramParts
parts_here structs earlier remember unit machine =
    if is_activity unit.kind then parts_of_next structs earlier remember unit machine else parts_of_function structs earlier unit

-- what is left of a machine behind a unit
abbrev pub machine_behind : UnitDef → List InMachine → List InMachine
machine_behind unit machine = if is_activity unit.kind then drop 1 machine else machine

-- the conditions hold for each unit of the list, where earlier units stand in front, with what they remember
abbrev pub AllConditions : List StructDef → List UnitDef → List UnitDef → List Bool → List UnitDef → List Bool → List InMachine → Type 0
AllConditions structs units earlier remember [] needed machine = ⊤
AllConditions structs units earlier remember (unit ∷ rest) [] machine = ⊤
AllConditions structs units earlier remember (unit ∷ rest) (test ∷ needed) machine =
    UnitConditions (is_activity unit.kind) test structs units earlier remember unit machine
    × AllConditions structs units (earlier ++ unit ∷ []) (remember ++ (parts_here structs earlier remember unit machine).remember) rest needed
    (machine_behind unit machine)

-- ---- what is known behind them

-- the parameters and the result of the C function of a unit; the test says whether an activity remembers anything
abbrev pub signature_by : Bool → List StructDef → UnitDef → Bool → Signature
signature_by true structs unit remembers = signature_of_activity structs unit remembers
signature_by false structs unit remembers = signature_for structs unit

-- the table has the C functions of the needed units before a position. It has none of a later unit, and none whose name begins as those of the prelude and the
-- interface do
pub record NeededKnown (structs : List StructDef) (units : List UnitDef) (needed remember : List Bool) (k : ℕ) (functions : Table Signature) : Type 0 where
  pub known : (f : ℕ) (unit : UnitDef) → slice_get units f ≡ Some unit → f < k → slice_get needed f ≡ Some true →
      functions (unit_name unit.name)
      ≡ Some (signature_by (is_activity unit.kind) structs unit (unwrap_or (slice_get remember f) false))
  pub free : (j : ℕ) (unit : UnitDef) → slice_get units j ≡ Some unit → k ≤ j → functions (unit_name unit.name) ≡ None
  pub prelude : (rest : Text) → functions (codes "bl_" ++ rest) ≡ None
  pub long : length remember ≡ k

-- what fails in functions behind these, where nothing fails in these
pub record FunctionsEnd (structs : List StructDef) (units : List UnitDef) (entry : ℕ) (table : Table (Table CMember)) (parts : ProgramParts)
    (rest : List CFunc) : Type 0 where
  pub functions : Table Signature
  pub depths : Table ℕ
  pub same : function_faults_after table no_entries no_entries (parts.funcs ++ rest) ≡ function_faults_after table functions depths rest
  pub known : NeededKnown structs units (needed_units units entry) parts.remember (length units) functions
  pub chains : ChainsKnown units depths
  -- the struct of where a needed activity rests stands before
  pub frames : (f : ℕ) (unit : UnitDef) → slice_get units f ≡ Some unit → slice_get (needed_units units entry) f ≡ Some true →
      is_activity unit.kind ≡ true → is_some (table (frame_name unit.name)) ≡ true

-- No clause fails in the C functions of the units that the entry needs, where their structs stand before them and neither rule Frames nor Cells fails
abbrev pub PartsWellFormed : List StructDef → List UnitDef → ℕ → Type 0
PartsWellFormed structs units entry =
    (machine : List InMachine) (table : Table (Table CMember)) (rest : List CFunc) → IsWellTyped structs units entry → Passes structs units entry →
    AllConditions structs units [] [] units (needed_units units entry) machine → AreDeclared table (structs_for structs units) →
    AreDeclared table (parts_from structs [] [] units (needed_units units entry) machine).structs → 2 ≤ length rest →
    FunctionsEnd structs units entry table (parts_from structs [] [] units (needed_units units entry) machine) rest
