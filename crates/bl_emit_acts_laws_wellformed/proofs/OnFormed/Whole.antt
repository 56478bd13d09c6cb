-- The laws of a whole program.
use Rattle.std.proofs.Common.{◌≡◌, ℕ, true, List, Some, take}
use Rattle.std.specs.Prelude.{slice_get}
use Rattle.std.specs.List.{list_all}
use Rattle.bl_tree.specs.declared.tree.StructDef.{StructDef}
use Rattle.bl_tree.specs.declared.tree.Unit.{Unit as UnitDef}
use Rattle.bl_tree.specs.declared.tree.Var.{Var}
use Rattle.bl_tree.specs.Program.{IsWellTyped, is_input}
use Rattle.bl_tree.specs.Typing.{inputs_of, site_of}
use Rattle.bl_emit_acts.specs.Expressions.{made_of}
use Rattle.bl_emit_acts_laws_wellformed.specs.Formed.Laws.{ExpressionsTyped, PlacesTyped}
use Rattle.bl_emit_acts_laws_wellformed.proofs.OnFormed.Typed.{code_is, made_typed, place_typed}
use Rattle.bl_emit_acts_laws_wellformed.proofs.OnFormed.Units.{inputs_stand, taken_there}

earlier_inputs : (structs : List StructDef) (units : List UnitDef) (entry : ℕ) → IsWellTyped structs units entry → (k f : ℕ) (callee : UnitDef) →
    slice_get (take k units) f ≡ Some callee → list_all (λ (var : Var). is_input var.role) (inputs_of callee) ≡ true
earlier_inputs structs units entry keeps k f callee earlier = inputs_stand structs units entry keeps f callee (taken_there units k f callee earlier)

pub expressions : (structs : List StructDef) (units : List UnitDef) (entry : ℕ) → ExpressionsTyped structs units entry
expressions structs units entry k unit e ty copied context keeps there declared typed named =
    code_is (site_of structs (take k units) unit) copied context declared keeps.structs_stand
    (earlier_inputs structs units entry keeps k) ty (made_of (site_of structs (take k units) unit) e)
    (made_typed (site_of structs (take k units) unit) copied context declared keeps.structs_stand (earlier_inputs structs units entry keeps k) e named ty typed)

pub places : (structs : List StructDef) (units : List UnitDef) (entry : ℕ) → PlacesTyped structs units entry
places structs units entry k unit path ty copied context keeps there declared typed named =
    (place_typed (site_of structs (take k units) unit) copied context declared keeps.structs_stand
    (earlier_inputs structs units entry keeps k) path named ty typed).is
