use Rattle.std.proofs.Common.{◌<◌, ◌+◌, length, ap, ◌∙◌, arith, rules}
use Rattle.std.specs.Prelude.{slice_set}
use Rattle.std.proofs.lemmas.Int.{to_z-of_z}
use Rattle.std.specs.Int.{w128}
use Rattle.bl_crun.proofs.Loops.{cell-there, outs-next}
use Rattle.bl_crun.proofs.ports.read_outputs.Goals as goal

pub loop-k-preserved : goal.loop-k-preserved
loop-k-preserved c =
    let test = c.loop-k-test.true in
    let end = c.len-k-end.ensures in
    let long = c.loop-k.invariant.0 in
    let within : c.loop-k.k < length c.loop-k.outs = omega arith in
    let old : c.loop-k.k < length c.args.outs.now = omega arith in
    outs-next c.args.at c.loop-k.k c.loop-k.outs c.set.new.self c.args.outs.now c.args.machine.now.cells c.get.result
    (c.set.ensures ∙ ap (slice_set c.loop-k.outs c.loop-k.k) (to_z-of_z w128 c.get.result (search rules))) within
    (cell-there c.args.machine.now.cells (c.args.at + c.loop-k.k) c.get.result (c.requires.within c.loop-k.k old) c.get.ensures) long c.loop-k.invariant.1
