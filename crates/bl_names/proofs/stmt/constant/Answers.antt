use Rattle.std.proofs.Common.{◌≡◌, ◌∙◌}
use Rattle.bl_names.specs.Named.{constant_piece}
use Rattle.bl_names.specs.inner.Past.{past, with_constant}
use Rattle.bl_names.proofs.KindLemmas.{constant_past}
use Rattle.bl_names_scopes.proofs.WalkLemmas.{on_ok}
use Rattle.bl_names.proofs.stmt.constant.Goals as goal

pub returns-clause-past : goal.returns-clause-past
returns-clause-past c =
    on_ok (c.declare_constant.new.self ≡ with_constant c.args.state.now c.args.constant.now.name
    (record { name = c.in_ok-copy_of.field-0; ty = c.in_ok-optional_ty.field-0; value = c.in_ok-expr.field-0 }))
    (c.declare_constant.new.self ≡ past c.args.state.now (constant_piece c.args.constant.now)) c.declare_constant.result
    (λ h. constant_past c.args.state.now c.declare_constant.new.self c.args.constant.now
    (h ∙ (λ i. with_constant c.args.state.now c.args.constant.now.name
    (record { name = c.in_ok-copy_of.ensures i; ty = c.in_ok-optional_ty.ensures i; value = c.in_ok-expr.ensures i }))))
    c.declare_constant.ensures.declares
