use Rattle.std.proofs.Common.{map, ap, ◌∙◌, sym}
use Rattle.std.specs.List.{list_any}
use Rattle.bl_tree.proofs.Basics.{map_length}
use Rattle.bl_ctree_store.specs.Seen.{location_of}
use Rattle.bl_ctree_enabled.specs.inner.Asked.{is_hit}
use Rattle.bl_ctree_enabled.specs.inner.Tables.{near}
use Rattle.bl_ctree_enabled.proofs.TableLemmas.{near_taken}
use Rattle.bl_ctree_enabled.proofs.beside.is_taken.Goals as goal

pub returns : goal.returns
returns c =
    let all = map (map location_of) c.args.all.now in
    let at = location_of c.args.at.now in
    c.is_near_taken.ensures
    ∙ ap (λ n. list_any (is_hit all c.args.k at) (near c.args.writers.now at n)) (sym (map_length (map location_of) c.args.all.now))
    ∙ near_taken c.args.writers.now all c.args.k at c.requires
