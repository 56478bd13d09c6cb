use Rattle.std.proofs.Common.{map, ap, ◌∙◌}
use Rattle.bl_ctree.specs.Store.{Frame}
use Rattle.bl_ctree_store.specs.Ageing.{as_number}
use Rattle.bl_ctree_store.specs.Seen.{frame_of}
use Rattle.bl_ctree_store.proofs.AgeLemmas.{plain_same}
use Rattle.bl_ctree_store.proofs.ticks.age.Goals as goal

pub returns : goal.returns
returns c =
    let f : Frame = frame_of c.args.frame.now in
    ap (λ before. record f { before = before })
    (c.renumber.ensures ∙ ap (map as_number) c.as_slice.ensures.value ∙ plain_same f c.requires)
