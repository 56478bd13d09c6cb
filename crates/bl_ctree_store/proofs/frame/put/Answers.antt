use Rattle.std.proofs.Common.{◌<◌, refl, ap, sym, ◌∙◌, arith, length}
use Rattle.std.proofs.lemmas.Option.{slice_get_read}
use Rattle.bl_eval.specs.Changes.{with_element_at}
use Rattle.bl_ctree_store.specs.Seen.{frame_of, location_of, store_of}
use Rattle.bl_ctree_store.proofs.StoreLemmas.{at_frame, put_changes, put_in}
use Rattle.bl_ctree_store.proofs.frame.put.Goals as goal

pub returns-then-i-len : goal.returns-then-i-len
returns-then-i-len c =
    let within : c.args.at.now.instance < length c.args.frames.now.items = omega (arith, c.len.ensures, c.if-i-len.true) in
    let f = c.index_mut.result.now in
    let there = slice_get_read c.args.frames.now.items (length c.args.frames.now.items) c.args.at.now.instance f refl within c.index_mut.ensures.value in
    at_frame c.args.frames.now.items c.args.at.now.instance f (record f { now = c.put.new.values }) (put_in (location_of c.args.at.now) c.args.value) there
    (ap (λ now. record (frame_of f) { now = now }) (c.put.ensures
    ∙ ap (λ fs. with_element_at c.args.at.now.root fs c.args.value f.now.items) c.deref.ensures))
    ∙ sym (put_changes (location_of c.args.at.now) c.args.value (store_of c.args.frames.now.items))
