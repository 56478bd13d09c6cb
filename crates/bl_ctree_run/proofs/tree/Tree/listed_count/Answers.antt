use Rattle.std.proofs.Common.{◌∙◌}
use Rattle.bl_ctree.specs.Nodes.{control_of}
use Rattle.bl_ctree_enabled.specs.Listing.{enabled_view}
use Rattle.bl_ctree_run.specs.Running.{setting}
use Rattle.bl_ctree_run.proofs.ListedLemmas.{lists_end}
use Rattle.bl_ctree_run.proofs.TreeLemmas.{count_listed, some_counted}
use Rattle.bl_ctree_run.proofs.tree.Tree.listed_count.Goals as goal

pub returns-then-count-gt0 : goal.returns-then-count-gt0
returns-then-count-gt0 c =
    let tree = c.args.self.now in
    c.in_ok-count-in-Some.ensures
    ∙ count_listed c.listings_tell_points.ensures.points (setting tree) (control_of tree.node) (enabled_view c.in-Some.listing)
    (lists_end (setting tree) (control_of tree.node) tree.listing c.in-Some.listing tree.lists c.in-Some.is)
    (some_counted (enabled_view c.in-Some.listing) c.in_ok-count-in-Some.count c.in_ok-count-in-Some.ensures c.if-count-gt0.true)
