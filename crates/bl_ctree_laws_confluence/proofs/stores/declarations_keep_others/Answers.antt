use Rattle.bl_ctree_laws_confluence.proofs.OnStores.Remembering.{remembering_keeps_others}
use Rattle.bl_ctree_laws_confluence.proofs.stores.declarations_keep_others.Goals as goal

pub returns : goal.returns
returns c = remembering_keeps_others
