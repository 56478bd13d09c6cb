use Rattle.bl_crun_ports.proofs.PortLemmas.{boundary}
use Rattle.bl_crun_ports.proofs.ports.column.Goals as goal

pub range_from-requires : goal.range_from-requires
range_from-requires c = λ _. boundary c.args.member.now.name c.deref.result.now c.deref.ensures c.deref.utf8 c.requires
