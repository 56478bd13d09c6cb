use Rattle.bl_ctext_semantics.specs.Faults.{is_port}
use Rattle.bl_ctext_semantics.proofs.NameLemmas.{all-next}
use Rattle.bl_ctext_semantics.proofs.check.structs.all_are_ports.Goals as goal

pub loop-member-preserved : goal.loop-member-preserved
loop-member-preserved c =
    rw (c.both-ports.ensures, c.is_port.ensures)
    (all-next (is_port c.args.prefix.now) c.args.members.now c.loop-member.member-index c.member-item.result c.loop-member.ports _ c.loop-member-test.true
    c.member-item.is c.loop-member.invariant)
