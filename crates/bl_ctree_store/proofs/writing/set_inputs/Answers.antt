use Rattle.std.proofs.Common.{◌<◌, ◌++◌, refl, ap, ◌∙◌, arith, drop, length}
use Rattle.std.proofs.lemmas.Option.{slice_get_read}
use Rattle.bl_ctree.specs.Store.{with_inputs}
use Rattle.bl_ctree_store.specs.Seen.{frame_of}
use Rattle.bl_ctree_store.proofs.StoreLemmas.{at_frame}
use Rattle.bl_ctree_store.proofs.writing.set_inputs.Goals as goal

pub returns-then-i-len : goal.returns-then-i-len
returns-then-i-len c =
    let within : c.args.i < length c.args.frames.now.items = omega (arith, c.len.ensures, c.if-i-len.true) in
    let f = c.index_mut.result.now in
    let there = slice_get_read c.args.frames.now.items (length c.args.frames.now.items) c.args.i f refl within c.index_mut.ensures.value in
    at_frame c.args.frames.now.items c.args.i f (record f { now = c.overwrite.new.values }) (with_inputs c.args.inputs) there
    (ap (λ now. record (frame_of f) { now = now }) (c.overwrite.ensures ∙ ap (λ xs. xs ++ drop (length xs) f.now.items) c.into_vec.ensures))
