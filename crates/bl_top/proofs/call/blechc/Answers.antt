-- The job's end, and then that of its lines.
use Rattle.std.proofs.Common.{None}
use Rattle.bl_top_commands.specs.Calls.{output_of}
use Rattle.bl_top_commands.specs.inner.Outcomes.{lines_in}
use Rattle.bl_top.proofs.Plants.{answers_keep}
use Rattle.bl_top.proofs.call.blechc.Goals as goal

pub returns-clause-answered : goal.returns-clause-answered
returns-clause-answered g c = record {
  meant = c.answer-done.result.outcome.status;
  lines = lines_in c.answer-done.result;
  answers = c.answer-done.ensures.answers _;
  written = c.with_notes.ensures.written;
}

pub returns-clause-plant_counts : goal.returns-clause-plant_counts
returns-clause-plant_counts g c = answers_keep _ _ _ _ _ (c.answer-done.ensures.answers (output_of 0 0 None None)) c.answer-done.ensures.plants
