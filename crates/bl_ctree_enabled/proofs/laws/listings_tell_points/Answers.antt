use Rattle.bl_ctree_enabled.proofs.ListingLemmas.{kept_right, listed_enabled, listed_points}
use Rattle.bl_ctree_enabled.proofs.laws.listings_tell_points.Goals as goal

pub returns-clause-right : goal.returns-clause-right
returns-clause-right c = kept_right

pub returns-clause-branches : goal.returns-clause-branches
returns-clause-branches c = listed_enabled

pub returns-clause-points : goal.returns-clause-points
returns-clause-points c = listed_points c.settled_trees_are_still.ensures
