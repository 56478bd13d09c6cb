-- What lies inside a call: the instances below it, and where their homes are.
use Rattle.std.specs.Prelude.{◌≡◌, ◌⊎◌, ℕ, ◌<◌, ◌≤◌, false, nat_eq, List, ◌++◌, Contains, Some, slice_get}
use Rattle.bl_tree.specs.declared.place.Place.{Place}
use Rattle.bl_tree.specs.declared.static_path.Static.{Static}
use Rattle.bl_tree.specs.declared.tree.StructDef.{StructDef}
use Rattle.bl_tree.specs.declared.tree.Unit.{Unit as UnitDef}
use Rattle.bl_ctree.specs.declared.instance.Instance.{Instance}
use Rattle.bl_ctree.specs.declared.instance.Origin.{Origin}
use Rattle.bl_ctree.specs.Instances.{Setting, callee_of, setting_of}
use Rattle.bl_ctree.specs.Store.{Location, home}

-- the instance is i, or one that it calls, or one below that
pub data Inside (w : Setting) (i : ℕ) : ℕ → Type 0 where
  itself : Inside w i i
  deeper : {k : ℕ} (j : ℕ) (place : Place) → Inside w i j → callee_of w j place ≡ Some k → Inside w i k

-- the home is that of an output of the callee c: of a path of its caller i
pub record IsOutput (w : Setting) (i c : ℕ) (at : Location) : Type 0 where
  pub instance : Instance
  pub origin : Origin
  pub there : slice_get w.instances c ≡ Some instance
  pub began : instance.origin ≡ Some origin
  pub output : Static
  pub is_output : Contains origin.outputs output
  pub fields : List ℕ
  pub leads : home w at ≡ home w (record { instance = i; path = record { root = output.root; fields = output.fields ++ fields } })

-- the `run` at the place of instance i begins instance c
abbrev pub BeginsInstance : List StructDef → List UnitDef → ℕ → ℕ → Place → ℕ → Type 0
BeginsInstance structs units entry i place c = callee_of (setting_of structs units entry) i place ≡ Some c

-- the instances of a program nest: callees come later, and each has one caller
pub record InstancesNest (structs : List StructDef) (units : List UnitDef) (entry : ℕ) : Type 0 where
  -- callees have greater numbers
  pub later : (i c : ℕ) (place : Place) → BeginsInstance structs units entry i place c → i < c
  -- what is inside an instance has no smaller number
  pub inside : (i j : ℕ) → Inside (setting_of structs units entry) i j → i ≤ j
  -- each instance has at most one caller
  pub one_caller : (i j c : ℕ) (place other : Place) → BeginsInstance structs units entry i place c → BeginsInstance structs units entry j other c → i ≡ j
  -- no instance is inside two calls of one instance
  pub apart : (i c d k : ℕ) (place other : Place) → BeginsInstance structs units entry i place c → BeginsInstance structs units entry i other d →
      Inside (setting_of structs units entry) c k → Inside (setting_of structs units entry) d k → c ≡ d
  -- no home of an instance is inside a call of it
  pub hidden : (i c k : ℕ) (place : Place) (path : Static) → BeginsInstance structs units entry i place c → Inside (setting_of structs units entry) c k →
      nat_eq k (home (setting_of structs units entry) (record { instance = i; path = path })).instance ≡ false
  -- a home of what is inside a call is inside, or is that of an output of the call
  pub homes : (i c k : ℕ) (place : Place) (path : Static) → BeginsInstance structs units entry i place c → Inside (setting_of structs units entry) c k →
      Inside (setting_of structs units entry) c (home (setting_of structs units entry) (record { instance = k; path = path })).instance
      ⊎ IsOutput (setting_of structs units entry) i c (record { instance = k; path = path })

-- the instances of every program nest
abbrev pub ProgramsNest : Type 0
ProgramsNest = (structs : List StructDef) (units : List UnitDef) (entry : ℕ) → InstancesNest structs units entry
