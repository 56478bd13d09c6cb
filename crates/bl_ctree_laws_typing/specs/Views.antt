-- What the statements of an instance see in a typed store.
use Rattle.std.specs.Prelude.{◌≡◌, ℕ, true, List, Some}
use Rattle.bl_tree.specs.declared.tree.StructDef.{StructDef}
use Rattle.bl_tree.specs.declared.tree.Unit.{Unit as UnitDef}
use Rattle.bl_tree.specs.Program.{IsWellTyped}
use Rattle.bl_eval.specs.Meaning.{View}
use Rattle.bl_eval.specs.Values.{values_fit}
use Rattle.bl_ctree.specs.Instances.{setting_of, unit_at}
use Rattle.bl_ctree.specs.Store.{Store, view_at}
use Rattle.bl_ctree_laws_typing.specs.Fits.{StoreFits}

-- a view has well-typed values of the unit's variables, now and before
pub record ViewTyped (structs : List StructDef) (unit : UnitDef) (view : View) : Type 0 where
  pub now : values_fit structs unit.vars view.now ≡ true
  pub before : values_fit structs unit.vars view.before ≡ true

-- in a typed program each instance sees well-typed values of its variables, wherever their homes are
abbrev pub ViewsAreTyped : Type 0
ViewsAreTyped =
    (structs : List StructDef) (units : List UnitDef) (entry i : ℕ) (unit : UnitDef) (store : Store) → IsWellTyped structs units entry →
    unit_at (setting_of structs units entry) i ≡ Some unit → StoreFits (setting_of structs units entry) store →
    ViewTyped structs unit (view_at (setting_of structs units entry) store i)
