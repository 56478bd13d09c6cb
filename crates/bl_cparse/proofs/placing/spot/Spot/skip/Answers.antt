use Rattle.std.proofs.Common.{◌≡◌, ap, sym, ◌∙◌, arith}
use Rattle.bl_cparse.proofs.SpotLemmas.{times, past_times}
use Rattle.bl_cparse.proofs.placing.spot.Spot.skip.Goals as goal

pub returns : goal.returns
returns c = λ tokens e.
    let at_end : c.loop.counter ≡ c.args.count = omega (arith, c.loop.auto.counter-end, c.loop-test.false) in
    c.loop.invariant ∙ (ap (λ n. times n c.args.self.now) (at_end ∙ sym e) ∙ sym (past_times tokens c.args.self.now))
