use Rattle.bl_ctree_laws_confluence.proofs.OnApart.Parted.{accepted_keeps_apart_so}
use Rattle.bl_ctree_laws_confluence.proofs.apart.accepted_programs_keep_apart.Goals as goal

pub returns : goal.returns
returns c = accepted_keeps_apart_so
