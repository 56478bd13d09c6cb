use Rattle.std.proofs.Common.{arith}
use Rattle.bl_io.proofs.Held.{Appends-more}
use Rattle.bl_io.proofs.pieces.write_all.Goals as goal

pub loop-written-preserved : goal.loop-written-preserved
loop-written-preserved g c = record {
  bound = omega (arith, c.in_ok-written.ensures.bound);
  front = Appends-more _ _ _ c.args.bytes.now _ _ _ c.loop-written.invariant.front c.in_ok-written.ensures.front (omega (arith, c.in_ok-written.ensures.bound));
  counts = omega arith;
}
