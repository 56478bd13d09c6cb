use Rattle.std.proofs.Common.{◌≡◌}
use Rattle.bl_cparse.proofs.SpotLemmas.{times}
use Rattle.bl_cparse.proofs.placing.spot.Spot.skip.Given as goal

abbrev pub invariant-loop : goal.invariant-loop
invariant-loop l = l.self ≡ times l.counter l.fn.self
