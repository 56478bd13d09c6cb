use Rattle.std.proofs.Common.{Some, get_or, ap, ◌∙◌}
use Rattle.std.specs.Prelude.{option_map}
use Rattle.bl_ctree.specs.Nodes.{Seen, seen_of}
use Rattle.bl_ctree_enabled.proofs.ListLemmas.{map_here}
use Rattle.bl_ctree_enabled.proofs.NodeLemmas.{seen_out}
use Rattle.bl_ctree_enabled.proofs.branch.weak_at.Goals as goal

pub returns : goal.returns
returns c =
    let xs = c.args.branches.now in
    let x = get_or xs c.args.k c.index-branches-k.result in
    ap (option_map (λ (b : Seen). b.weak)) (map_here seen_of xs c.args.k x c.requires (ap (get_or xs c.args.k) c.index-branches-k.is))
    ∙ ap (λ (b : Seen). Some b.weak) (seen_out x)
