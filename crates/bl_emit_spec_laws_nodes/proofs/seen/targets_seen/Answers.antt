use Rattle.bl_emit_spec_laws_nodes.proofs.OnSeen.{targets_seen_so}
use Rattle.bl_emit_spec_laws_nodes.proofs.seen.targets_seen.Goals as goal

pub returns : goal.returns
returns c = targets_seen_so c.targets_are_seen.ensures c.instances_nest.ensures c.puts_commute.ensures.others
