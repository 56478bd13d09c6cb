use Rattle.std.proofs.Common.{◌<◌, arith, length}
use Rattle.bl_ctree_store.proofs.FillLemmas.{fill_left, fill_long, fill_next}
use Rattle.bl_ctree_store.proofs.writing.fill.Goals as goal

pub loop-k-preserved : goal.loop-k-preserved
loop-k-preserved c = let within : c.loop-k.k < length c.args.inputs.items = omega (arith, c.len-k-end.ensures, c.loop-k-test.true) in record {
  values = fill_next c.args.inputs.items c.loop-k.inputs.items c.args.values.now.items c.loop-k.values.items
      c.set_element.new.values.items c.loop-k.k c.take_at-value.result
      c.loop-k.invariant.values c.loop-k.invariant.left within c.requires c.take_at-value.ensures.was c.set_element.ensures;
  left = fill_left c.args.inputs.items c.loop-k.inputs.items c.take_at-value.new.values.items c.loop-k.k _ c.loop-k.invariant.left c.take_at-value.ensures.left;
  long = fill_long c.loop-k.inputs.items c.take_at-value.new.values.items c.loop-k.k _ _ c.loop-k.invariant.long c.take_at-value.ensures.left;
}
