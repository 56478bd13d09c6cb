use Rattle.std.proofs.Common.{not, map, ap, ◌∙◌}
use Rattle.std.specs.List.{list_any}
use Rattle.bl_ctree_store.specs.Seen.{location_of}
use Rattle.bl_ctree_enabled.specs.Spots.{spot_of}
use Rattle.bl_ctree_enabled.specs.inner.Asked.{is_taken}
use Rattle.bl_ctree_enabled.proofs.TableLemmas.{free_taken}
use Rattle.bl_ctree_enabled.proofs.beside.is_free.Goals as goal

pub returns : goal.returns
returns c =
    let all = map (map location_of) c.args.all.now in
    ap not (c.is_one_taken.ensures ∙ ap (λ reads. list_any (is_taken all c.args.k) (map location_of reads)) c.deref.ensures)
    ∙ free_taken all c.args.k (spot_of c.args.point.now)
