use Rattle.bl_ctree.specs.Nodes.{control_of}
use Rattle.bl_ctree_enabled.specs.Listing.{enabled_view}
use Rattle.bl_ctree_enabled.specs.Spots.{spot_of}
use Rattle.bl_ctree_run.specs.Running.{setting}
use Rattle.bl_ctree_run.proofs.ListedLemmas.{lists_end}
use Rattle.bl_ctree_run.proofs.TreeLemmas.{chosen_some}
use Rattle.bl_ctree_run.proofs.tree.Tree.listed_point.Goals as goal

pub returns-in-Some : goal.returns-in-Some
returns-in-Some c =
    let tree = c.args.self.now in
    chosen_some c.listings_tell_points.ensures.points (setting tree) (control_of tree.node) (enabled_view c.in-Some.listing) c.args.n
    (lists_end (setting tree) (control_of tree.node) tree.listing c.in-Some.listing tree.lists c.in-Some.is) c.choose.result
    (λ point. spot_of point.now) c.choose.ensures
