use Rattle.bl_ctree_laws_confluence.proofs.OnStores.Changes.{frames_keep_others}
use Rattle.bl_ctree_laws_confluence.proofs.stores.frames_keep_others.Goals as goal

pub returns : goal.returns
returns c = frames_keep_others
