use Rattle.std.proofs.Common.{map, ap, sym, ◌∙◌}
use Rattle.std.specs.Prelude.{option_map, slice_get, slice_set}
use Rattle.bl_ctree.specs.Nodes.{Seen, control_of, seen_of}
use Rattle.bl_ctree_enabled.proofs.ListLemmas.{set_map}
use Rattle.bl_ctree_enabled.proofs.NodeLemmas.{moved_set}
use Rattle.bl_ctree_enabled.proofs.branch.put.Goals as goal

pub returns : goal.returns
returns c =
    let xs = c.args.branches.now in
    let k = c.args.k in
    ap (map seen_of) c.set.ensures ∙ set_map seen_of xs k c.branch-weak.result ∙ ap (slice_set (map seen_of xs) k) c.branch-weak.ensures
    ∙ moved_set (map seen_of xs) k c.weak_at-weak.result (control_of c.args.tree)
    (ap (λ xs. option_map (λ (b : Seen). b.weak) (slice_get (map seen_of xs) k)) (sym c.as_slice.ensures) ∙ c.weak_at-weak.ensures)
