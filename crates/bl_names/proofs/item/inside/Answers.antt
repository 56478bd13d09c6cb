use Rattle.std.proofs.Common.{◌≡◌, ◌∙◌, ap, length}
use Rattle.bl_names.specs.Named.{inside_piece, params_piece}
use Rattle.bl_names.specs.inner.Past.{past}
use Rattle.bl_names.proofs.ItemLemmas.{inside_made, inside_past, params_past}
use Rattle.bl_names.proofs.item.inside.Goals as goal

pub returns-clause-made : goal.returns-clause-made
returns-clause-made c =
    inside_made c.args.state.now c.params-2.new.state c.block.new.state c.args.def.now c.deref-3.result.now c.in_ok-copy_of.field-0 c.replace.result
    c.in_ok-number_of.field-0 c.in_ok-number_of-2.field-0 c.in_ok-result.result c.in_ok-body.body
    c.deref-3.ensures
    (params_past c.args.state.now c.params.new.state c.params-2.new.state c.args.def.now c.deref.result.now c.deref-2.result.now c.deref.ensures
    c.deref-2.ensures c.in_ok-params.ensures c.in_ok-params-2.ensures)
    c.in_ok-body.ensures.past c.requires c.in_ok-copy_of.ensures c.replace.ensures.value
    (c.in_ok-number_of.ensures ∙ ap length c.deref-4.ensures) (c.in_ok-number_of-2.ensures ∙ ap length c.deref-5.ensures) c.in_ok-result.ensures
    c.in_ok-body.ensures.made

pub returns-clause-past : goal.returns-clause-past
returns-clause-past c =
    let two : c.params-2.new.state ≡ past c.args.state.now (params_piece c.args.def.now) =
    params_past c.args.state.now c.params.new.state c.params-2.new.state c.args.def.now c.deref.result.now c.deref-2.result.now c.deref.ensures
    c.deref-2.ensures c.in_ok-params.ensures c.in_ok-params-2.ensures in
    let is : c.block.new.state ≡ past c.args.state.now (inside_piece c.args.def.now) =
    inside_past c.args.state.now c.params-2.new.state c.block.new.state c.args.def.now c.deref-3.result.now c.deref-3.ensures two c.in_ok-body.ensures.past in
    λ i. record (is i) { vars = (c.replace.ensures.after ∙ c.new.ensures) i }
