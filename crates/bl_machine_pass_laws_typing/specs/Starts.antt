-- The stores with which runs and ticks of a typed program begin are typed.
use Rattle.std.specs.Prelude.{◌≡◌, ℕ, ◌+◌, ◌≤◌, ℤ, true, List, Some, slice_get, take}
use Rattle.bl_tree.specs.declared.tree.StructDef.{StructDef}
use Rattle.bl_tree.specs.declared.tree.Unit.{Unit as UnitDef}
use Rattle.bl_tree.specs.Ports.{columns_of, row_fits}
use Rattle.bl_tree.specs.Program.{IsWellTyped}
use Rattle.bl_ctree.specs.Instances.{setting_of}
use Rattle.bl_ctree.specs.Store.{Store, first_store, woken_store}
use Rattle.bl_ctree_laws_typing.specs.Fits.{StoreFits}

-- the first store of a run is typed, and so is the store of a tick whose row fits the first parameters of the entry
pub record StartsFit (structs : List StructDef) (units : List UnitDef) (entry : ℕ) : Type 0 where
  pub first : StoreFits (setting_of structs units entry) (first_store (setting_of structs units entry))
  pub woken : (unit : UnitDef) (n : ℕ) (row : List ℤ) (store : Store) → slice_get units entry ≡ Some unit → n ≤ unit.inputs + unit.outputs →
      row_fits (columns_of (take n unit.vars)) row ≡ true → StoreFits (setting_of structs units entry) store →
      StoreFits (setting_of structs units entry) (woken_store row store)

-- the stores with which runs and ticks begin are typed, in each typed program
abbrev pub AllStartsFit : Type 0
AllStartsFit = (structs : List StructDef) (units : List UnitDef) (entry : ℕ) → IsWellTyped structs units entry → StartsFit structs units entry
