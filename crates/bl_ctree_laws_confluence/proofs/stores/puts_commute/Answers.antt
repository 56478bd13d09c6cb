use Rattle.bl_ctree_laws_confluence.proofs.OnStores.Changes.{puts_commute, puts_keep_others}
use Rattle.bl_ctree_laws_confluence.proofs.stores.puts_commute.Goals as goal

pub returns : goal.returns
returns c = record { order = puts_commute; others = puts_keep_others }
