use Rattle.std.proofs.Common.{ap, map, ◌∙◌, sym}
use Rattle.std.specs.Prelude.{string_bytes}
use Rattle.bl_emit_structs.specs.inner.Added.{added}
use Rattle.bl_emit_structs.proofs.Names.{taken_before, taken_new}
use Rattle.bl_emit_structs.proofs.collected.Collected.add.Goals as goal

pub returns-in_ok-push-in-Ok : goal.returns-in_ok-push-in-Ok
returns-in_ok-push-in-Ok c =
    ap (λ structs. record { structs = structs; taken = map string_bytes c.insert.new.self.keys }) c.in_ok-push-in-Ok.ensures.ok
    ∙ taken_new c.self.inside.structs c.self.inside.taken c.insert.new.self c.in_ok-name.name c.args.made
    (c.in_ok-name.ensures.ok ∙ c.as_str.ensures) c.in-Ok.ensures.keys (sym c.in-Ok.ensures.added ∙ c.if-is_new.true)
    ∙ ap (λ collected. added collected c.args.made) c.self.view_is

pub returns-else-is_new : goal.returns-else-is_new
returns-else-is_new c =
    taken_before c.self.inside.structs c.self.inside.taken c.insert.new.self c.in_ok-name.name c.args.made
    (c.in_ok-name.ensures.ok ∙ c.as_str.ensures) c.in-Ok.ensures.keys (sym c.in-Ok.ensures.added ∙ c.if-is_new.false)
    ∙ ap (λ collected. added collected c.args.made) c.self.view_is
