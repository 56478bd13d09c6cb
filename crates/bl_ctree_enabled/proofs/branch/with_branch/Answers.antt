use Rattle.std.proofs.Common.{◌<◌, length, map, ap, ◌∙◌, subst}
use Rattle.bl_tree.proofs.Basics.{map_length}
use Rattle.bl_ctree.specs.Nodes.{seen_of}
use Rattle.bl_ctree_enabled.specs.Listing.{top_of}
use Rattle.bl_ctree_enabled.proofs.NodeLemmas.{each_of, par_is}
use Rattle.bl_ctree_enabled.proofs.branch.with_branch.Goals as goal

pub par-requires : goal.par-requires
par-requires c =
    let branches = c.in-Par.branches in
    subst (λ n. c.args.k < n)
    (ap length (ap top_of (par_is c.args.node c.in-Par.s c.in-Par.stood branches c.in-Par.is) ∙ each_of (map seen_of branches)) ∙ map_length seen_of branches)
    c.requires
