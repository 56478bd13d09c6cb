use Rattle.bl_ctree_laws_confluence.proofs.OnApart.Seen.{writes_are_seen_so}
use Rattle.bl_ctree_laws_confluence.proofs.apart.writes_are_seen.Goals as goal

pub returns : goal.returns
returns c = writes_are_seen_so
