use Rattle.std.proofs.Common.{◌≡◌, IfOk, List, ap, subst, ◌∙◌}
use Rattle.bl_tree.specs.declared.c.CStmt.{CStmt}
use Rattle.bl_emit_acts.specs.Sites.{site_in}
use Rattle.bl_emit_functions.specs.Functions.{first_held}
use Rattle.bl_emit_functions.specs.inner.Again.{unread_again}
use Rattle.bl_emit_functions.proofs.Unread.{again-made}
use Rattle.bl_emit_functions.proofs.again.again.Goals as goal

pub returns : goal.returns
returns c =
    subst (λ (code : List CStmt). IfOk c.joined.result (λ made. made ≡ code))
    (again-made (site_in c.args.site.now) c.in_ok-names.names c.args.body.now c.in_ok-names.ensures c.args.unit.now c.in_ok-held.held c.has.result
    c.in_ok-memory.memory c.in_ok-locals_again.field-0
    (c.in_ok-held.ensures ∙ ap (first_held (site_in c.args.site.now) 0) c.deref.ensures) c.has.ensures c.in_ok-memory.ensures
    (c.in_ok-locals_again.ensures ∙ ap (unread_again (site_in c.args.site.now) c.in_ok-names.names 0) c.deref-2.ensures))
    c.joined.ensures
