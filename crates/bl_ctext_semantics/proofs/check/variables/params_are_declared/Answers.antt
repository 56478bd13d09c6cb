use Rattle.bl_ctext_semantics.specs.inner.Checked.{checked_structs}
use Rattle.bl_ctext_semantics.specs.Faults.{is_declared}
use Rattle.bl_ctext_semantics.proofs.NameLemmas.{all-next}
use Rattle.bl_ctext_semantics.proofs.check.variables.params_are_declared.Goals as goal

pub loop-param-preserved : goal.loop-param-preserved
loop-param-preserved c =
    rw (c.both-declared.ensures, c.is_declared.ensures)
    (all-next (λ p. is_declared (checked_structs c.args.structs.now) p.ty) c.args.params.now c.loop-param.param-index c.param-item.result c.loop-param.declared _
    c.loop-param-test.true c.param-item.is c.loop-param.invariant)
