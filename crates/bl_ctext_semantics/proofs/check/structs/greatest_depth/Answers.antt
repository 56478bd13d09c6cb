use Rattle.bl_ctext_semantics.specs.Faults.{depth_of_type}
use Rattle.bl_ctext_semantics.specs.inner.Maps.{text_at}
use Rattle.bl_ctext_semantics.proofs.NameLemmas.{greatest-next}
use Rattle.bl_ctext_semantics.proofs.check.structs.greatest_depth.Goals as goal

pub loop-member-preserved : goal.loop-member-preserved
loop-member-preserved c =
    rw (c.max-greatest.ensures, c.depth_of.ensures)
    (greatest-next (λ m. depth_of_type (text_at c.args.depths.now) m.ty) c.args.members.now c.loop-member.member-index c.member-item.result
    c.loop-member.greatest _ c.loop-member-test.true c.member-item.is c.loop-member.invariant)
