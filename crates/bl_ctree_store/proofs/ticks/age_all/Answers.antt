use Rattle.std.proofs.Common.{◌<◌, ◌≤◌, length, refl, ap, ◌∙◌, arith}
use Rattle.std.proofs.lemmas.Option.{slice_get_read}
use Rattle.std.specs.Prelude.{slice_set}
use Rattle.bl_ctree.specs.Store.{aged}
use Rattle.bl_ctree_store.specs.Seen.{frame_of, store_of}
use Rattle.bl_ctree_store.proofs.AgeLemmas.{aged_here, made_next, many_set, plain_at}
use Rattle.std.proofs.lemmas.List.{map-set}
use Rattle.bl_ctree_store.proofs.ticks.age_all.Goals as goal

pub age-requires : goal.age-requires
age-requires c =
    let f = c.index_mut.result.now in
    let within : c.loop-k.k < length c.loop-k.frames.items =
    omega (arith, c.loop-k-test.true, c.loop-k.auto.k-end, c.len-k-end.ensures, c.loop-k.invariant.long) in
    plain_at (store_of c.args.frames.now.items) c.loop-k.k (frame_of f) c.requires
    (aged_here c.args.frames.now.items c.loop-k.frames.items c.loop-k.k f c.loop-k.invariant.frames
    (slice_get_read c.loop-k.frames.items (length c.loop-k.frames.items) c.loop-k.k f refl within c.index_mut.ensures.value))

pub loop-k-preserved : goal.loop-k-preserved
loop-k-preserved c =
    let k = c.loop-k.k in
    let first = c.args.frames.now.items in
    let f = c.index_mut.result.now in
    let within : k < length c.loop-k.frames.items =
    omega (arith, c.loop-k-test.true, c.loop-k.auto.k-end, c.len-k-end.ensures, c.loop-k.invariant.long) in
    let here = aged_here first c.loop-k.frames.items k f c.loop-k.invariant.frames
    (slice_get_read c.loop-k.frames.items (length c.loop-k.frames.items) k f refl within c.index_mut.ensures.value) in
    let fits : length (store_of first) ≤ length (store_of first) = omega arith in record {
      frames = map-set frame_of c.loop-k.frames.items k c.age.new.frame
          ∙ ap (λ frames. slice_set frames k (frame_of c.age.new.frame)) c.loop-k.invariant.frames
          ∙ made_next aged (store_of first) (store_of first) k (frame_of f) (frame_of c.age.new.frame) fits here c.age.ensures;
      long = many_set c.loop-k.frames.items k c.age.new.frame ∙ c.loop-k.invariant.long;
    }
