-- What a pass of an instance leaves: all that isn't inside the instance, but for the homes of its outputs.
use Rattle.std.specs.Prelude.{◌≡◌, ◌<◌, ◌≤◌, ◌+◌, ℕ, false, option_map, slice_get}
use Rattle.bl_tree.specs.declared.tree.Unit.{Unit as UnitDef}
use Rattle.bl_ctree.specs.Actions.{result_at}
use Rattle.bl_ctree.specs.Instances.{Setting}
use Rattle.bl_ctree.specs.Store.{Location, Store, home, overlap, value_among, whole_of}
use Rattle.bl_ctree_laws_confluence.specs.Deeds.Nesting.{Inside}
use Rattle.bl_ctree_laws_confluence.specs.Stores.{before_of, now_of}

-- the location overlaps no home of an output of the instance, which is one of the unit
abbrev pub NoOutput : Setting → ℕ → UnitDef → Location → Type 0
NoOutput w j unit at =
    (k : ℕ) → unit.inputs ≤ k → k < unit.inputs + unit.outputs → overlap at (home w (whole_of j k)) ≡ false

-- what is done in the instance j, which is one of the unit, and in all that it calls leaves the rest of the store
pub record StoreKept (w : Setting) (j : ℕ) (unit : UnitDef) (store left : Store) : Type 0 where
  -- each frame that isn't inside the instance is there where it was there, with what was before
  pub before : (x : ℕ) → (Inside w j x → ⊥) → option_map before_of (slice_get left x) ≡ option_map before_of (slice_get store x)
  -- the result of each frame that isn't inside the instance is unchanged
  pub results : (x : ℕ) → (Inside w j x → ⊥) → result_at left x ≡ result_at store x
  -- current values are unchanged outside of the instance, at locations that overlap no home of an output
  pub now : (at : Location) → (Inside w j at.instance → ⊥) → NoOutput w j unit at →
      value_among now_of left at ≡ value_among now_of store at
