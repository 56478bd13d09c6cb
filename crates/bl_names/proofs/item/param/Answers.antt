use Rattle.std.proofs.Common.{Some}
use Rattle.bl_names.proofs.ItemLemmas.{param_past}
use Rattle.bl_names.proofs.item.param.Goals as goal

pub returns : goal.returns
returns c =
    param_past c.args.state.now c.declare_variable.new.self c.args.role c.args.param.now
    (record { name = c.in_ok-copy_of.field-0; ty = Some c.in_ok-ty.field-0; role = c.args.role })
    c.in_ok-declare_variable.ensures.declares (λ i. record { name = c.in_ok-copy_of.ensures i; ty = Some (c.in_ok-ty.ensures i); role = c.args.role })
