use Rattle.bl_ctree_enabled.specs.Listing.{enabled_view}
use Rattle.bl_ctree_enabled.proofs.CountLemmas.{counted}
use Rattle.bl_ctree_enabled.proofs.listing.Listing.count.Goals as goal

pub returns : goal.returns
returns c = counted (enabled_view c.args.self.now) c.requires c.total.result c.total.ensures
