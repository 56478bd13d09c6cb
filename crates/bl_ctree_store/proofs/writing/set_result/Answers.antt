use Rattle.std.proofs.Common.{◌<◌, refl, Some, arith, length}
use Rattle.std.proofs.lemmas.Option.{slice_get_read}
use Rattle.bl_ctree.specs.Actions.{with_result}
use Rattle.bl_ctree_store.proofs.StoreLemmas.{at_frame}
use Rattle.bl_ctree_store.proofs.writing.set_result.Goals as goal

pub returns-then-i-len : goal.returns-then-i-len
returns-then-i-len c =
    let within : c.args.i < length c.args.frames.now.items = omega (arith, c.len.ensures, c.if-i-len.true) in
    let f = c.index_mut.result.now in
    let there = slice_get_read c.args.frames.now.items (length c.args.frames.now.items) c.args.i f refl within c.index_mut.ensures.value in
    at_frame c.args.frames.now.items c.args.i f (record f { result = Some c.args.value }) (with_result c.args.value) there refl
