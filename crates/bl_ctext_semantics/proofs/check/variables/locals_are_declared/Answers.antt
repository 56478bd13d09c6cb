use Rattle.bl_ctext_semantics.specs.inner.Checked.{checked_structs}
use Rattle.bl_ctext_semantics.specs.Faults.{is_declared}
use Rattle.bl_ctext_semantics.proofs.NameLemmas.{all-next}
use Rattle.bl_ctext_semantics.proofs.check.variables.locals_are_declared.Goals as goal

pub loop-local-preserved : goal.loop-local-preserved
loop-local-preserved c =
    rw (c.both-declared.ensures, c.is_declared.ensures)
    (all-next (λ p. is_declared (checked_structs c.args.structs.now) p.ty) c.args.locals.now c.loop-local.local-index c.local-item.result c.loop-local.declared _
    c.loop-local-test.true c.local-item.is c.loop-local.invariant)
