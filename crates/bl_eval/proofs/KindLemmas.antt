-- What a unit of each kind leaves when it is called.
use Rattle.std.proofs.Common.{◌≡◌, true, false, List, None, ap}
use Rattle.std.specs.Prelude.{if◌then◌else◌}
use Rattle.bl_tree.specs.declared.tree.StructDef.{StructDef}
use Rattle.bl_tree.specs.declared.tree.Unit.{Unit as UnitDef}
use Rattle.bl_tree.specs.Typing.{is_function}
use Rattle.bl_eval.specs.Functions.{callable_of, callee_of}
use Rattle.bl_eval.specs.Meaning.{Callee}

pub function_is : (structs : List StructDef) (callees : List Callee) (unit : UnitDef) → is_function unit.kind ≡ true →
    callable_of structs callees unit ≡ callee_of structs callees unit
function_is structs callees unit function = ap (λ b. if b then callee_of structs callees unit else (λ arguments. None)) function

pub activity_is : (structs : List StructDef) (callees : List Callee) (unit : UnitDef) → is_function unit.kind ≡ false →
    callable_of structs callees unit ≡ (λ arguments. None)
activity_is structs callees unit activity = ap (λ b. if b then callee_of structs callees unit else (λ arguments. None)) activity
