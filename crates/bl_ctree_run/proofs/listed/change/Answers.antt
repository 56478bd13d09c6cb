use Rattle.std.proofs.Common.{◌<◌, length, get_or, ap, ◌∙◌, arith}
use Rattle.bl_ctree.specs.Nodes.{control_of}
use Rattle.bl_ctree_store.specs.Seen.{setting_in}
use Rattle.bl_ctree_run.specs.inner.Spines.{with_fork}
use Rattle.bl_ctree_run.proofs.ListedLemmas.{change_leads}
use Rattle.bl_ctree_run.proofs.listed.change.Goals as goal

pub returns-clause-leads : goal.returns-clause-leads
returns-clause-leads c =
    let node = control_of c.args.node.now in
    let tree = control_of c.in_ok-tree.tree in
    let xs = c.fork_at-fork.result.branches.now in
    let k = c.in-Some.k.now in
    let within : k < length xs = omega (arith, c.if-k-fork.false) in
    ap (λ k. with_fork node k tree) c.in_ok-kept.ensures.branch
    ∙ change_leads (setting_in c.args.w.now) node c.args.path.now k c.in-Some.rest.now c.args.answer c.fork_at-fork.result.instance xs
    (get_or xs k c.index-fork-k.result) tree c.in-Some.ensures.cases.0 c.fork_at-fork.ensures within (ap (get_or xs k) c.index-fork-k.is)
    c.in_ok-tree.ensures
