use Rattle.std.proofs.Common.{ap, get_or, map}
use Rattle.bl_ctree.specs.Nodes.{control_of, seen_of}
use Rattle.bl_ctree_run.proofs.AfterLemmas.{parts_made}
use Rattle.bl_ctree_run.proofs.after.with_tree.Goals as goal

pub returns : goal.returns
returns c =
    let branches = c.args.branches.now in
    parts_made branches c.args.k (get_or branches c.args.k c.index-branches-k.result) (control_of c.args.tree)
    (map seen_of c.new-made.result) (map seen_of c.append_branches.new.into)
    (map seen_of c.append_branch.new.into) (map seen_of c.append_branches-2.new.into) c.requires
    (ap (get_or branches c.args.k) c.index-branches-k.is) (ap (map seen_of) c.new-made.ensures)
    c.in_ok-append_branches.ensures c.in_ok-append_branch.ensures c.in_ok-append_branches-2.ensures
