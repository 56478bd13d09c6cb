use Rattle.std.proofs.Common.{subst, sym, ◌∙◌}
use Rattle.bl_plant.specs.Kinds.{AreWide}
use Rattle.bl_top_tests.proofs.Wide.{wide_fails, wide_more}
use Rattle.bl_top_tests.proofs.plants.turns_of.Goals as goal
use Rattle.bl_top_tests.proofs.plants.turns_of.Goals.{then-fails+in_ok-push-2, else-fails}

pub loop-numbers-preserved : goal.loop-numbers-preserved
loop-numbers-preserved c =
    subst (AreWide c.args.width) (sym c.in_ok-push.ensures.ok)
    (wide_more c.args.width c.loop-numbers.turns _ c.loop-numbers.invariant c.in_ok-row_of.ensures)

pub returns : goal.returns
returns c = elim c.if-fails.branch [
  | then-fails+in_ok-push-2 w ↦
      subst (AreWide c.args.width) (sym (w.turns-is ∙ w.in_ok-push-2.ensures.ok))
      (wide_fails c.args.width c.loop-numbers.turns c.loop-numbers.invariant)
  | else-fails w ↦ subst (AreWide c.args.width) (sym w.turns-is) c.loop-numbers.invariant
]
