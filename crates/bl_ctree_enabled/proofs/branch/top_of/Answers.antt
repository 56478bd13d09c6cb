use Rattle.std.proofs.Common.{map, ap, sym, ◌∙◌}
use Rattle.bl_ctree.specs.Nodes.{seen_of}
use Rattle.bl_ctree_enabled.specs.Listing.{top_of}
use Rattle.bl_ctree_enabled.proofs.NodeLemmas.{each_of, par_is}
use Rattle.bl_ctree_enabled.proofs.branch.top_of.Goals as goal

pub returns-in-Par : goal.returns-in-Par
returns-in-Par c =
    ap (map seen_of) c.as_slice.ensures
    ∙ sym (ap top_of (par_is c.args.node.now c.in-Par.field-0 c.in-Par.field-1 c.in-Par.branches c.in-Par.is) ∙ each_of (map seen_of c.in-Par.branches))
