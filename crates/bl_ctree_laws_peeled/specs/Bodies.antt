-- Programs in which loops that begin branches have first turns, in the bodies of some activities.
use Rattle.std.specs.Prelude.{ℕ, ℤ, List, ◌≡◌}
use Rattle.bl_tree.specs.declared.tree.Stmt.{Stmt}
use Rattle.bl_tree.specs.declared.tree.StructDef.{StructDef}
use Rattle.bl_tree.specs.declared.tree.Unit.{Unit as UnitDef}
use Rattle.bl_graph_nodes.specs.Plain.{plain_body}
use Rattle.bl_ctree.specs.Instances.{runs_of, setting_of}
use Rattle.bl_ctree.specs.Means.{Means, ShownTrace}
use Rattle.bl_ctree.specs.Reaches.{NeverStuck}
use Rattle.bl_ctree_laws.specs.Fitted.{Fitted}
use Rattle.bl_peel.specs.Peeled.{peeled}
use Rattle.bl_peel.specs.Units.{UnitsPeel}
use Rattle.bl_ctree_laws_peeled.specs.Settings.{SameProgram}
use Rattle.bl_ctree_laws_peeled.specs.Unrolls.{AnyHead, Unrolls}

-- a peeled body is the body with first turns of loops unrolled
abbrev pub PeeledUnrolls : Type 0
PeeledUnrolls = (i : ℕ) (body : List Stmt) → Unrolls (AnyHead i) (plain_body body) (plain_body (peeled body))

-- a unit with its body peeled has the `run`s of the unit, one for each place
abbrev pub PeeledRuns : Type 0
PeeledRuns = (unit : UnitDef) → runs_of (record unit { body = peeled unit.body }) ≡ runs_of unit

-- programs whose activities are peeled or not have one list of instances, the same homes and effects, and unrolled bodies
abbrev pub PeeledIsSameProgram : Type 0
PeeledIsSameProgram =
    (structs : List StructDef) (units peeled_units : List UnitDef) (entry : ℕ) → UnitsPeel units peeled_units →
    SameProgram AnyHead (setting_of structs units entry) (setting_of structs peeled_units entry)

-- what a program may show it may show with activities peeled
abbrev pub PeeledMeans : Type 0
PeeledMeans =
    (structs : List StructDef) (units peeled_units : List UnitDef) (entry : ℕ) (rows : List (List ℤ)) (shows : ShownTrace) → UnitsPeel units peeled_units →
    Fitted (setting_of structs units entry) → Fitted (setting_of structs peeled_units entry) → Means structs units entry rows shows →
    Means structs peeled_units entry rows shows

-- a program that is never stuck with activities peeled is never stuck
abbrev pub PeeledIsNeverStuck : Type 0
PeeledIsNeverStuck =
    (structs : List StructDef) (units peeled_units : List UnitDef) (entry : ℕ) → UnitsPeel units peeled_units → Fitted (setting_of structs units entry) →
    Fitted (setting_of structs peeled_units entry) → NeverStuck structs peeled_units entry → NeverStuck structs units entry
