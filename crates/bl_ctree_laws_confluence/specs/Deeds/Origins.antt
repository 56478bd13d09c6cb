-- Who called an instance, and that homes lead out to callers.
use Rattle.std.specs.Prelude.{◌≡◌, ℕ, suc, ◌<◌, ◌≤◌, List, Contains, Option, Some, None, slice_get}
use Rattle.bl_tree.specs.declared.tree.StructDef.{StructDef}
use Rattle.bl_tree.specs.declared.tree.Unit.{Unit as UnitDef}
use Rattle.bl_ctree.specs.declared.instance.Instance.{Instance}
use Rattle.bl_ctree.specs.declared.instance.Origin.{Origin}
use Rattle.bl_ctree.specs.declared.instance.Run.{Run}
use Rattle.bl_ctree.specs.Instances.{Setting, instances_of, runs_of, setting_of}
use Rattle.bl_ctree.specs.Store.{Location, home, led}

-- a `run` of the caller's unit began the instance with this number; callers have lesser numbers and are one less deep
pub record CalledBy (units : List UnitDef) (instances : List Instance) (i : ℕ) (instance : Instance) (origin : Origin) : Type 0 where
  pub caller : Instance
  pub unit : UnitDef
  pub run : Run
  pub earlier : origin.caller < i
  pub there : slice_get instances origin.caller ≡ Some caller
  pub deeper : instance.depth ≡ suc caller.depth
  pub body : slice_get units caller.unit ≡ Some unit
  pub runs : Contains (runs_of unit) run
  pub place : origin.place ≡ run.place
  pub outputs : origin.outputs ≡ run.outputs
  pub names : instance.unit ≡ run.unit

-- the instance has a caller, or it is the first one, of the entry's unit
abbrev pub HasCaller : List UnitDef → ℕ → List Instance → ℕ → Instance → Option Origin → Type 0
HasCaller units entry instances i instance None = (i ≡ 0) × (instance.depth ≡ 0) × (instance.unit ≡ entry)
HasCaller units entry instances i instance (Some origin) = CalledBy units instances i instance origin

-- each instance of a program but the first, which is the entry's, has a caller
abbrev pub InstancesHaveCallers : Type 0
InstancesHaveCallers =
    (units : List UnitDef) (entry i : ℕ) (instance : Instance) → slice_get (instances_of units entry) i ≡ Some instance →
    HasCaller units entry (instances_of units entry) i instance instance.origin

-- a path that stands for a caller's path has the caller's home, any other its own; homes have no greater instance numbers
pub record HomesLeadOut : Type 0 where
  pub own : (w : Setting) (at : Location) → led w at ≡ None → home w at ≡ at
  pub out : (structs : List StructDef) (units : List UnitDef) (entry : ℕ) (at next : Location) → led (setting_of structs units entry) at ≡ Some next →
      home (setting_of structs units entry) at ≡ home (setting_of structs units entry) next
  pub earlier : (structs : List StructDef) (units : List UnitDef) (entry : ℕ) (at next : Location) →
      led (setting_of structs units entry) at ≡ Some next →
      next.instance < at.instance
  pub no_later : (structs : List StructDef) (units : List UnitDef) (entry : ℕ) (at : Location) →
      (home (setting_of structs units entry) at).instance ≤ at.instance
