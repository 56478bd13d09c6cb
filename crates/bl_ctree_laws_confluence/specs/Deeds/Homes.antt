-- Two paths of an instance have homes that overlap only where they overlap themselves.
use Rattle.std.specs.Prelude.{◌≡◌, ℕ, true, List, Some, slice_get}
use Rattle.bl_tree.specs.declared.static_path.Static.{Static}
use Rattle.bl_tree.specs.declared.tree.StructDef.{StructDef}
use Rattle.bl_tree.specs.declared.tree.Unit.{Unit as UnitDef}
use Rattle.bl_tree.specs.Static.{overlaps}
use Rattle.bl_ctree.specs.declared.instance.Instance.{Instance}
use Rattle.bl_ctree.specs.declared.instance.Origin.{Origin}
use Rattle.bl_ctree.specs.Instances.{Setting, setting_of}
use Rattle.bl_ctree.specs.Store.{home, overlap}

-- no two of the paths overlap
abbrev pub AreApart : List Static → Type 0
AreApart paths = (j k : ℕ) (a b : Static) → slice_get paths j ≡ Some a → slice_get paths k ≡ Some b → overlaps a b ≡ true → j ≡ k

-- no two outputs of a call overlap
abbrev pub OutputsAreApart : Setting → Type 0
OutputsAreApart w =
    (i : ℕ) (instance : Instance) (origin : Origin) → slice_get w.instances i ≡ Some instance → instance.origin ≡ Some origin →
    AreApart origin.outputs

-- if no outputs of a call overlap, homes of paths of one instance overlap only where the paths do
abbrev pub HomesAreApart : Type 0
HomesAreApart =
    (structs : List StructDef) (units : List UnitDef) (entry i : ℕ) (p q : Static) → OutputsAreApart (setting_of structs units entry) →
    overlap (home (setting_of structs units entry) (record { instance = i; path = p }))
    (home (setting_of structs units entry) (record { instance = i; path = q })) ≡ true → overlaps p q ≡ true
