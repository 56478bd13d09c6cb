-- How many cells the C of an activity needs.
use Rattle.std.specs.Prelude.{◌≡◌, ℕ, ◌+◌, ◌≤◌, true, false, List, length, map, is_some, Contains, Some, slice_get}
use Rattle.bl_tree.specs.declared.tree.StructDef.{StructDef}
use Rattle.bl_tree.specs.declared.tree.Unit.{Unit as UnitDef}
use Rattle.bl_tree.specs.Program.{IsWellTyped, parameters_of}
use Rattle.bl_tree.specs.Reduce.{greatest, total}
use Rattle.bl_tree.specs.Typing.{is_activity}
use Rattle.bl_limits_measures.specs.Calls.{calls_of}
use Rattle.bl_limits_measures.specs.Runs.{activities_by_place}
use Rattle.bl_limits_measures.specs.Types.{size}
use Rattle.bl_limits_measures.specs.Units.{cells_at}
use Rattle.bl_graph_nodes.specs.Plain.{plain_body}
use Rattle.bl_machine.specs.Layout.{width_in}
use Rattle.bl_ctext_semantics.specs.Sizes.{Sizes, own_cells, size_of_member}
use Rattle.bl_ctext_semantics.specs.Tables.{entry_or}
use Rattle.bl_emit_functions.specs.Functions.{memory_name}
use Rattle.bl_emit_functions_laws_wellformed.specs.Cells.{SizesKnown}
use Rattle.bl_emit_spec.specs.Activities.{Activity, activity_function, frame_struct, remembered, runs_in_body}
use Rattle.bl_emit_spec.specs.Names.{frame_name}
use Rattle.bl_emit_spec.specs.Programs.{needs_of}
use Rattle.bl_emit_spec_laws_wellformed.specs.Chains.{IsOfUnit}
use Rattle.bl_emit_spec_laws_wellformed.specs.Numbers.{EachStandsOnce}

-- the `run`s in the C of an activity of a typed program call what the activity runs, in order
abbrev pub BodiesRun : List StructDef → List UnitDef → ℕ → Type 0
BodiesRun structs units entry =
    (k : ℕ) (unit : UnitDef) (a : Activity) → IsWellTyped structs units entry → IsOfUnit units k unit a →
    map (λ run. run.unit) (runs_in_body a) ≡ activities_by_place unit

-- Give each unit a number of cells, enough for the chains of calls that its C function heads. What an activity rests at and remembers, and that
-- number, have at least four cells less than rule Cells counts for the activity
abbrev pub IsSized : List StructDef → List UnitDef → Sizes → (ℕ → ℕ) → ℕ → UnitDef → Type 0
IsSized structs units known reach k unit =
    entry_or 0 known (frame_name unit.name) + entry_or 0 known (memory_name unit.name) + reach k + 4 ≤ cells_at structs units k

-- how many scalars the parameters of a unit have
abbrev pub ports_of : List StructDef → UnitDef → ℕ
ports_of structs unit = total (map (λ var. size structs var.ty) (parameters_of unit))

-- the cells of the C function of an activity, and behind it the most that a unit reaches that it calls or runs
abbrev pub cells_reached : Sizes → (ℕ → ℕ) → Activity → ℕ
cells_reached known reach a = own_cells known (activity_function a) + greatest (map reach (needs_of a.unit))

-- what an activity rests at and remembers, and what its C function reaches
abbrev pub cells_of_activity : Sizes → (ℕ → ℕ) → Activity → ℕ
cells_of_activity known reach a =
    total (map (size_of_member known) (frame_struct a).members) + total (map (size_of_member known) (remembered a)) + cells_reached known reach a

-- the premises for counting the cells of an activity. The table and the reach of callees are within their counts, there are no more counters than the body
-- takes, and each node stands once in the blocks
pub record Sized (structs : List StructDef) (units : List UnitDef) (k : ℕ) (unit : UnitDef) (a : Activity) (known : Sizes) (reach : ℕ → ℕ) :
    Type 0 where
  pub of_unit : IsOfUnit units k unit a
  pub structures : a.structs ≡ structs
  pub active : is_activity unit.kind ≡ true
  pub counters : length a.sizes ≤ width_in (plain_body unit.body)
  pub once : EachStandsOnce a
  pub sizes : SizesKnown structs units known
  pub calls : (f : ℕ) → Contains (calls_of unit) f → reach f ≤ cells_at structs units f
  pub runs : (u : ℕ) (callee : UnitDef) → Contains (activities_by_place unit) u → slice_get units u ≡ Some callee → IsSized structs units known reach u callee

-- an activity has at least four fewer cells than rule Cells counts. Without a result, its parameters and six more fit too
pub record ActivityCells (structs : List StructDef) (units : List UnitDef) (entry : ℕ) : Type 0 where
  pub less : (k : ℕ) (unit : UnitDef) (a : Activity) (known : Sizes) (reach : ℕ → ℕ) → IsWellTyped structs units entry →
      Sized structs units k unit a known reach → cells_of_activity known reach a + 4 ≤ cells_at structs units k
  pub outermost : (k : ℕ) (unit : UnitDef) (a : Activity) (known : Sizes) (reach : ℕ → ℕ) → IsWellTyped structs units entry →
      Sized structs units k unit a known reach → is_some unit.result ≡ false →
      cells_of_activity known reach a + ports_of structs unit + 6 ≤ cells_at structs units k
