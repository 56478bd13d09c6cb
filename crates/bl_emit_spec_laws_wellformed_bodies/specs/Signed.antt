-- The C functions of activities, as a text: no clause fails in them.
use Rattle.std.specs.Prelude.{◌≡◌, ℕ, ◌≤◌, true, false, List, [], None}
use Rattle.bl_tree.specs.declared.c.CMember.{CMember}
use Rattle.bl_tree.specs.declared.tree.StructDef.{StructDef}
use Rattle.bl_tree.specs.declared.tree.Unit.{Unit as UnitDef}
use Rattle.bl_tree.specs.Program.{IsWellTyped}
use Rattle.bl_tree.specs.Typing.{is_activity}
use Rattle.bl_ctext_semantics.specs.Faults.{Signature, depth_of_function, faults_in_function, signature_in}
use Rattle.bl_ctext_semantics.specs.Loops.{turns_in_block}
use Rattle.bl_ctext_semantics.specs.Tables.{Table}
use Rattle.bl_emit_acts.specs.Types.{unit_name}
use Rattle.bl_emit_spec.specs.Activities.{Activity, activity_code, activity_function, remembers_any}
use Rattle.bl_emit_spec_laws_wellformed.specs.Names.{NumbersDiffer}
use Rattle.bl_emit_spec_laws_wellformed.specs.Spelled.{CanSpell}
use Rattle.bl_emit_spec_laws_wellformed_bodies.specs.Bodies.{ActivityStands, CopiesSuffice, OwnsRules, signature_of_activity}

-- the C function of an activity has the parameters that are asked of it where it is called
abbrev pub ActivitiesSigned : Type 0
ActivitiesSigned = (a : Activity) → signature_in (activity_function a) ≡ signature_of_activity a.structs a.unit (remembers_any a)

-- the C function of an activity has no loops, and no counters of turns
abbrev pub NoneLoops : Type 0
NoneLoops = (a : Activity) → turns_in_block (activity_code a) ≡ []

-- no clause fails in the C function of an activity, if no earlier function has its name and its chain of calls isn't too long
abbrev pub ActivitiesWellFormed : List StructDef → List UnitDef → ℕ → Type 0
ActivitiesWellFormed structs units entry =
    (k : ℕ) (a : Activity) (table : Table (Table CMember)) (functions : Table Signature) (depths : Table ℕ) → IsWellTyped structs units entry →
    CanSpell structs units k a → is_activity a.unit.kind ≡ true → NumbersDiffer a → ActivityStands units a table functions → OwnsRules a →
    CopiesSuffice a → functions (unit_name a.unit.name) ≡ None → depth_of_function depths (activity_function a) ≤ 300 →
    faults_in_function table functions depths false (activity_function a) ≡ []
