use Rattle.bl_tree.proofs.Basics.{drop_next}
use Rattle.bl_names_scopes.specs.Marks.{item_marks}
use Rattle.bl_names_scopes.proofs.WalkLemmas.{judged-next}
use Rattle.bl_names_scopes.proofs.item.items.Goals as goal

pub loop-one-preserved : goal.loop-one-preserved
loop-one-preserved c =
    rw c.in_ok-item.ensures
    (judged-next item_marks _ _ c.one-item.result c.loop-one.judge _
    (drop_next c.args.all.now c.loop-one.one-index c.one-item.result c.loop-one-test.true c.one-item.is) c.loop-one.invariant)
