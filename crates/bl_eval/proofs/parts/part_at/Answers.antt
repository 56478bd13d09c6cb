use Rattle.std.proofs.Common.{sym, ◌∙◌}
use Rattle.bl_eval.proofs.PartLemmas.{value_step, value_stop}
use Rattle.bl_eval.proofs.parts.part_at.Goals as goal

pub loop-k-preserved : goal.loop-k-preserved
loop-k-preserved c =
    sym (value_step c.args.positions.now c.loop-k.k-index c.loop-k.found.now c.in_ok-found.found.now c.loop-k-test.true
    (sym c.in_ok-found.ensures)) ∙ c.loop-k.invariant

pub returns-in_err-found : goal.returns-in_err-found
returns-in_err-found c =
    let stop = value_stop c.args.positions.now c.loop-k.k-index c.loop-k.found.now c.loop-k-test.true (sym c.in_err-found.ensures) in
    rw c.from_residual.ensures (sym stop ∙ c.loop-k.invariant)
