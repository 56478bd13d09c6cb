use Rattle.std.proofs.Common.{◌||◌}
use Rattle.bl_ctext_semantics.specs.Faults.{is_scalar}
use Rattle.bl_ctext_semantics.proofs.NameLemmas.{all-next}
use Rattle.bl_ctext_semantics.proofs.check.variables.params_are_scalar.Goals as goal

pub loop-param-preserved : goal.loop-param-preserved
loop-param-preserved c =
    rw (c.both-scalar.ensures, c.either.ensures, c.is_scalar.ensures, c.of.ensures)
    (all-next (λ p. p.pointer || is_scalar p.ty) c.args.params.now c.loop-param.param-index c.param-item.result c.loop-param.scalar _ c.loop-param-test.true
    c.param-item.is c.loop-param.invariant)
