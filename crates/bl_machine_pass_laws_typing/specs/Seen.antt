-- What an instance sees once values are put at the homes of its paths.
use Rattle.std.specs.Prelude.{◌≡◌, ℕ, true, List, Option, Some, slice_get, take}
use Rattle.bl_tree.specs.declared.scalar.Scalar.{Scalar as ScalarType}
use Rattle.bl_tree.specs.declared.static_path.Static.{Static}
use Rattle.bl_tree.specs.declared.tree.Path.{Path}
use Rattle.bl_tree.specs.declared.tree.Stmt.{Stmt}
use Rattle.bl_tree.specs.declared.tree.StructDef.{StructDef}
use Rattle.bl_tree.specs.declared.tree.Unit.{Unit as UnitDef}
use Rattle.bl_tree.specs.declared.value.Value.{Value}
use Rattle.bl_tree.specs.Program.{IsWellTyped}
use Rattle.bl_tree.specs.Static.{static_of}
use Rattle.bl_tree.specs.Typing.{fits, site_of, target_fits}
use Rattle.bl_effects.specs.Rules.{Passes}
use Rattle.bl_eval.specs.Values.{put_at}
use Rattle.bl_ctree.specs.declared.instance.Instance.{Instance}
use Rattle.bl_ctree.specs.Actions.{acted_kind, outcome_there, target_gets}
use Rattle.bl_ctree.specs.Instances.{setting_of, unit_at}
use Rattle.bl_ctree.specs.Positions.{stmt_kind}
use Rattle.bl_ctree.specs.Store.{Store, home, put, view_at}
use Rattle.bl_ctree_laws_typing.specs.Fits.{StoreFits}

-- an instance sees a value that was put at the home of one of its paths, and all else as before. The store is typed, and the program passes the rules
abbrev pub PutsAreSeen : Type 0
PutsAreSeen =
    (structs : List StructDef) (units : List UnitDef) (entry i : ℕ) (unit : UnitDef) (path : Static) (value : Value) (store : Store)
    (seen : List Value) → let w = setting_of structs units entry in
    IsWellTyped structs units entry → Passes units → unit_at w i ≡ Some unit → StoreFits w store →
    put_at path.root path.fields value (view_at w store i).now ≡ Some seen →
    (view_at w (put (home w (record { instance = i; path = path })) value store) i).now ≡ seen

-- an instance sees the values that its act leaves, where the act fits
abbrev pub ActsAreSeen : Type 0
ActsAreSeen =
    (structs : List StructDef) (units : List UnitDef) (entry i : ℕ) (instance : Instance) (unit : UnitDef) (s : Stmt) (store left : Store)
    (values : List Value) → let w = setting_of structs units entry in
    IsWellTyped structs units entry → Passes units → slice_get w.instances i ≡ Some instance → slice_get units instance.unit ≡ Some unit →
    fits (site_of structs (take instance.unit units) unit) s ≡ true → StoreFits w store → outcome_there w store i s ≡ Some values →
    acted_kind w i s (stmt_kind s) store ≡ Some left → (view_at w left i).now ≡ values

-- a target of a `run` leads among the instance's variables, which sees there what the target gets, and all else as before
abbrev pub TargetsAreSeen : Type 0
TargetsAreSeen =
    (structs : List StructDef) (units : List UnitDef) (entry i : ℕ) (unit : UnitDef) (earlier : List UnitDef) (result : Option ScalarType)
    (path : Path) (value : Value) (store : Store) → let w = setting_of structs units entry in
    IsWellTyped structs units entry → Passes units → unit_at w i ≡ Some unit →
    target_fits (site_of structs earlier unit) result (Some path) ≡ true → StoreFits w store →
    put_at (static_of path).root (static_of path).fields value (view_at w store i).now ≡ Some (view_at w (target_gets w i store path value) i).now
