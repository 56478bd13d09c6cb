use Rattle.std.proofs.Common.{◌<◌, refl, ap, arith, length}
use Rattle.std.proofs.lemmas.Option.{slice_get_read}
use Rattle.bl_ctree_store.specs.Own.{with_before}
use Rattle.bl_ctree_store.specs.Seen.{frame_of}
use Rattle.bl_ctree_store.proofs.StoreLemmas.{at_frame}
use Rattle.bl_ctree_store.proofs.writing.set_before.Goals as goal

pub returns-then-i-len : goal.returns-then-i-len
returns-then-i-len c =
    let within : c.args.i < length c.args.frames.now.items = omega (arith, c.len.ensures, c.if-i-len.true) in
    let f = c.index_mut.result.now in
    let there = slice_get_read c.args.frames.now.items (length c.args.frames.now.items) c.args.i f refl within c.index_mut.ensures.value in
    at_frame c.args.frames.now.items c.args.i f (record f { before = c.set_element.new.values }) (with_before c.args.k c.args.value) there
    (ap (λ before. record (frame_of f) { before = before }) c.set_element.ensures)
