use Rattle.std.proofs.Common.{◌+◌, ◌-◌, ◌<◌, ◌≤◌, ◌^◌, arith, length, min}
use Rattle.bl_ctext_semantics_laws.specs.Flat.{zeroed}
use Rattle.bl_crun_code_vm.proofs.Frames.{zero-last, zero-more}
use Rattle.bl_crun_code_vm.proofs.frame.zero.Goals as goal

pub loop-k-preserved : goal.loop-k-preserved
loop-k-preserved c =
    let less : c.loop-k.k < c.args.at + c.args.size = omega arith in
    zero-more c.args.size c.args.at c.loop-k.k c.loop-k.cells (zeroed c.args.size c.args.at c.args.cells.now) less c.loop-k.invariant

pub returns : goal.returns
returns c =
    let small : length c.loop-k.cells < 2 ^ 64 = omega arith in
    let end : min (min (c.args.at + c.args.size) (2 ^ 64 - 1)) (length c.loop-k.cells) ≤ c.loop-k.k = omega arith in
    zero-last c.args.size c.args.at c.loop-k.k c.loop-k.cells (zeroed c.args.size c.args.at c.args.cells.now) end small c.loop-k.invariant
