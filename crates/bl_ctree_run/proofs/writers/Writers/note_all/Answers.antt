use Rattle.bl_ctree_run.specs.inner.Writers.{writes_kept}
use Rattle.bl_ctree_run.proofs.WriterLemmas.{noted_more}
use Rattle.bl_ctree_run.proofs.writers.Writers.note_all.Goals as goal

pub loop-home-preserved : goal.loop-home-preserved
loop-home-preserved c at =
    noted_more at c.args.branch c.loop-home.yielded c.in-Some.home (writes_kept c.args.self.now at) (writes_kept c.loop-home.self at)
    (writes_kept c.note.new.self at) (c.loop-home.invariant at) (c.in_ok-note.ensures at)
