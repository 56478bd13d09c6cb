use Rattle.bl_ctree_enabled.proofs.ListingLemmas.{listed_moved}
use Rattle.bl_ctree_enabled.proofs.laws.replaced_branches_are_listed.Goals as goal

pub returns : goal.returns
returns c = listed_moved
