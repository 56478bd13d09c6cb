use Rattle.std.proofs.Common.{nat_lt, ◌&&◌}
use Rattle.std.specs.Prelude.{IsTrue}
use Rattle.std.specs.List.{list_all}
use Rattle.bl_cause_tests.proofs.graphs.controls.Given as goal

abbrev pub invariant-loop-edge : goal.invariant-loop-edge
invariant-loop-edge l = IsTrue (list_all (λ edge. nat_lt edge.from l.count && nat_lt edge.to l.count) l.kept)
