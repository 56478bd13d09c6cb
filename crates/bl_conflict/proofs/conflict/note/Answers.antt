use Rattle.std.proofs.Common.{[], ◌∷◌, sym, subst, take}
use Rattle.bl_conflict.specs.inner.Roots.{Knows}
use Rattle.bl_conflict.proofs.RootLemmas.{known_both, known_still, take_next}
use Rattle.bl_conflict.proofs.conflict.note.Goals as goal

pub loop-write-preserved : goal.loop-write-preserved
loop-write-preserved c =
    let x = c.write-item.result in
    let before = take c.loop-write.write-index c.args.writes.now in (
      subst (Knows c.add.new.self) (sym (take_next c.args.writes.now c.loop-write.write-index x c.loop-write-test.true c.write-item.is))
          (known_both c.add.new.self before (x ∷ []) (known_still c.loop-write.touched c.add.new.self before
          c.in_ok-add.ensures.keeps c.loop-write.invariant.0) (c.in_ok-add.ensures.has, tt)),
      λ earlier known. known_still c.loop-write.touched c.add.new.self earlier c.in_ok-add.ensures.keeps (c.loop-write.invariant.1 earlier known),
    )
