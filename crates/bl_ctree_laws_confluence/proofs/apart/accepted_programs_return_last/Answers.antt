use Rattle.bl_ctree_laws_confluence.proofs.OnApart.Returns.{accepted_returns_last_so}
use Rattle.bl_ctree_laws_confluence.proofs.apart.accepted_programs_return_last.Goals as goal

pub returns : goal.returns
returns c = accepted_returns_last_so
