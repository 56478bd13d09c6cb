use Rattle.bl_ctree_laws_confluence.proofs.OnApart.Writing.{accepted_writes_apart_so}
use Rattle.bl_ctree_laws_confluence.proofs.apart.accepted_programs_write_apart.Goals as goal

pub returns : goal.returns
returns c = accepted_writes_apart_so
