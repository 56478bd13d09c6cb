use Rattle.std.proofs.Common.{rules}
use Rattle.std.proofs.lemmas.Int.{to_z-of_z}
use Rattle.std.specs.Int.{w128}
use Rattle.bl_plant.proofs.Copies.{copy-step}
use Rattle.bl_plant.proofs.rows.write_row.Goals as goal

pub loop-k-preserved : goal.loop-k-preserved
loop-k-preserved c =
    let step = copy-step c.args.from.now c.loop-k.into c.set.new.self c.loop-k.k c.at.result _ c.set.ensures
    (to_z-of_z w128 c.at.result (search rules)) c.at.ensures c.loop-k.invariant.front c.loop-k.invariant.long in
    record { long = step.0; front = step.1 }
