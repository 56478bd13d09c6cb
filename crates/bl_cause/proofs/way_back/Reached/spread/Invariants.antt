use Rattle.std.proofs.Common.{◌≡◌, length, drop}
use Rattle.bl_cause.specs.inner.Steps.{gone_along}
use Rattle.bl_cause.proofs.way_back.Reached.spread.Given as goal

abbrev pub invariant-loop-edge : goal.invariant-loop-edge
invariant-loop-edge l = record {
  length_stays : length l.self.seen ≡ length l.fn.self.seen;
  goes_on : gone_along l.before (drop l.edge-index l.row) l.self ≡ gone_along l.before l.row l.fn.self;
}
