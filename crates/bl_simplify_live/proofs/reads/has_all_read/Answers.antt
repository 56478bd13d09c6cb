use Rattle.std.proofs.Common.{◌≡◌, ◌∙◌, ◌++◌, List, ap, map, rules, subst}
use Rattle.bl_tree.specs.Reduce.{joined}
use Rattle.bl_ctext_places.specs.Lists.{path_names, path_of}
use Rattle.bl_ctext_semantics.specs.inner.Maps.{text_at}
use Rattle.bl_simplify_live.specs.Reads.{HasAll, reads_of}
use Rattle.bl_simplify_live.proofs.Names.{block_named}
use Rattle.bl_simplify_live.proofs.reads.has_all_read.Goals as goal

pub returns : goal.returns
returns c =
    let same : c.deref.result.now ≡ c.of_block.new.found.items = search rules in
    let listed : map (λ p. path_of p.now) c.deref.result.now ≡ joined (map reads_of c.args.block.now) =
    ap (λ (items : List _). map (λ p. path_of p.now) items) same ∙ c.in_ok-of_block.ensures
    ∙ ap (λ (items : List _). map (λ p. path_of p.now) items ++ joined (map reads_of c.args.block.now)) c.new-found.ensures.items in
    λ all. subst (HasAll (text_at c.args.names.now)) (ap path_names listed ∙ block_named c.args.block.now) (c.has_all.ensures all)
