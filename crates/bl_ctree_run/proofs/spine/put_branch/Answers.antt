use Rattle.std.proofs.Common.{◌≤◌, length, ap, sym, arith}
use Rattle.bl_tree.proofs.Basics.{map_length}
use Rattle.bl_ctree.specs.Nodes.{control_of, seen_of}
use Rattle.bl_ctree_enabled.specs.Listing.{top_of}
use Rattle.bl_ctree_run.proofs.SpineLemmas.{none_put}
use Rattle.bl_ctree_run.proofs.spine.put_branch.Goals as goal

pub returns-else-k-top_of : goal.returns-else-k-top_of
returns-else-k-top_of c =
    let many : length (top_of (control_of c.args.node.now)) ≤ c.args.k =
    omega (arith, c.if-k-top_of.false, map_length seen_of c.top_of.result.now, ap length c.top_of.ensures) in
    sym (none_put (control_of c.args.node.now) c.args.k (control_of c.args.tree) many)
