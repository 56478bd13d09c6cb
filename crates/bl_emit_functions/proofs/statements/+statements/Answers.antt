use Rattle.bl_emit_acts.specs.Sites.{site_in}
use Rattle.bl_emit_functions.proofs.Choices.{two-made}
use Rattle.bl_emit_functions.proofs.statements.+statements.Goals as goal

pub chosen-returns-in_ok-inner-in-len2 : goal.chosen-returns-in_ok-inner-in-len2
chosen-returns-in_ok-inner-in-len2 t c =
    two-made (site_in c.args.site.now) c.args.free c.args.arms.now c.first-item.result c.second-item.result c.in_ok-test-in-len2.test
    c.in_ok-further-in-len2.further c.deref-in-len2.result.now c.deref-in-len2-2.result.now c.in_ok-body-in-len2.body c.in_ok-inner-in-len2.inner
    c.in-len2.len_at_least c.in-len2.len_below c.first-item.is c.second-item.is c.in_ok-test-in-len2.ensures c.deref-in-len2.ensures
    c.in_ok-body-in-len2.ensures c.in_ok-further-in-len2.ensures c.deref-in-len2-2.ensures c.in_ok-inner-in-len2.ensures
