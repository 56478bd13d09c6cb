use Rattle.bl_emit.proofs.SeenLemmas.{kept_more}
use Rattle.bl_emit.proofs.runs.one_a_place.Goals as goal

pub loop-run-preserved : goal.loop-run-preserved
loop-run-preserved c = record {
  kept = kept_more c.loop-run.kept c.add.new.into c.loop-run.yielded c.in-Some.run' c.in_ok-add.ensures.kept c.loop-run.invariant.kept;
  seen = c.in_ok-add.ensures.seen;
}
