use Rattle.bl_ctext_semantics.specs.inner.Checked.{checked_structs}
use Rattle.bl_ctext_semantics.specs.Faults.{is_declared}
use Rattle.bl_ctext_semantics.proofs.NameLemmas.{all-next}
use Rattle.bl_ctext_semantics.proofs.check.structs.members_are_declared.Goals as goal

pub loop-member-preserved : goal.loop-member-preserved
loop-member-preserved c =
    rw (c.both-declared.ensures, c.is_declared.ensures)
    (all-next (λ m. is_declared (checked_structs c.args.structs.now) m.ty) c.args.members.now c.loop-member.member-index c.member-item.result c.loop-member.declared
    _ c.loop-member-test.true c.member-item.is c.loop-member.invariant)
