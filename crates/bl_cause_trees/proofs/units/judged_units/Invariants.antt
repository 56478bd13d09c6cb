use Rattle.std.proofs.Common.{take}
use Rattle.std.specs.Prelude.{IfErr, IfOk}
use Rattle.bl_tree.specs.Rules.{IsCause}
use Rattle.bl_cause_trees.specs.inner.Judging.{AreKept}
use Rattle.bl_cause_trees.specs.Rules.{Fails}
use Rattle.bl_cause_trees.proofs.units.judged_units.Given as goal

abbrev pub invariant-loop-unit : goal.invariant-loop-unit
invariant-loop-unit l =
    IfOk l.so_far (AreKept (take l.unit-index l.units)) × IfErr l.so_far (IsCause (Fails (take l.unit-index l.units)))
