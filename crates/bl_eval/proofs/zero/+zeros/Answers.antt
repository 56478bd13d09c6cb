use Rattle.std.proofs.Common.{◌+◌, ◌*◌, ◌<◌, arith, ap, sym, take}
use Rattle.bl_tree.specs.declared.tree.Ty.{size-Ty}
use Rattle.bl_eval.proofs.Weights.{field_depth, fields_depth, structs_weight, weight_before}
use Rattle.bl_eval.proofs.ZeroLemmas.{zero_made, zero_none}
use Rattle.bl_eval.proofs.zero.+zeros.Goals as goal

pub zero_fields-zero_value-requires : goal.zero_fields-zero_value-requires
zero_fields-zero_value-requires t c =
    let deep = field_depth c.args.fields.now c.loop-field.field-index c.field-item.result c.loop-field-test.true in
    let is = ap (λ field. size-Ty field.ty) c.field-item.is in
    let below : 3 * (structs_weight c.args.structs.now + size-Ty c.field-item.result.ty) + 2 < 3 *
    (structs_weight c.args.structs.now + fields_depth c.args.fields.now) + 3 = omega (arith, deep, is) in
    (omega (arith, c.decreases, below), tt)

pub zero_struct-zero_fields-requires : goal.zero_struct-zero_fields-requires
zero_struct-zero_fields-requires t c =
    let weighs = weight_before c.args.structs.now c.args.k c.in-Some.def.now (sym c.in-Some.ensures) in
    let is = ap fields_depth c.deref.ensures in
    let below : 3 * (structs_weight (take c.args.k c.args.structs.now) + fields_depth c.deref.result.now) + 3 < 3 * structs_weight
    c.args.structs.now + 1 = omega (arith, weighs, is) in
    (omega (arith, c.decreases, below), tt)

pub zero_struct-returns-in-None : goal.zero_struct-returns-in-None
zero_struct-returns-in-None t c = zero_none c.args.structs.now c.args.k c.new.result c.in-None.ensures c.new.ensures

pub zero_struct-returns-in_ok-zero_fields-in-Some : goal.zero_struct-returns-in_ok-zero_fields-in-Some
zero_struct-returns-in_ok-zero_fields-in-Some t c =
    zero_made c.args.structs.now c.args.k c.in-Some.def.now c.deref.result.now c.in_ok-zero_fields-in-Some.field-0 c.in-Some.ensures
    c.deref.ensures c.in_ok-zero_fields-in-Some.ensures
