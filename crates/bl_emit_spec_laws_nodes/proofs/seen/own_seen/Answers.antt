use Rattle.bl_emit_spec_laws_nodes.proofs.OnSeen.{own_is_seen}
use Rattle.bl_emit_spec_laws_nodes.proofs.seen.own_seen.Goals as goal

pub returns : goal.returns
returns c = own_is_seen c.acts_are_seen.ensures
