use Rattle.std.proofs.Common.{refl, subst}
use Rattle.bl_ctext_semantics_laws_places.specs.Behaviour.{behaviour_of}
use Rattle.bl_crun.specs.Running.{loaded}
use Rattle.bl_rows_stream.specs.Streams.{InStep, Reported}
use Rattle.bl_rows_stream.specs.declared.ticks.Report.TheVariants.{Counts}
use Rattle.bl_rows_stream_laws.specs.Counts.{counts_by}
use Rattle.bl_rows_stream_laws.proofs.Counting.{counts-text}
use Rattle.bl_top_commands.specs.Calls.{output_of}
use Rattle.bl_top_commands.proofs.Streams.{in_step, streams_end}
use Rattle.bl_top_commands.proofs.rows.count_over.Goals as goal

pub returns-clause-streams : goal.returns-clause-streams
returns-clause-streams g c =
    streams_end _ _ _ _ _ c.count-finish.result c.end_of.result c.end_of.ensures
    (c.counts_are_told.ensures _ _ _ _ _ _ _
    (subst (λ r. Reported Counts r (g.F.Files.left c.args.files.now c.args.rows.now)
    (g.F.Files.left c.count-finish.new.files c.args.rows.now) (g.O.Sink.held c.args.out.now)
    (g.O.Sink.held c.count-finish.new.out) c.count-finish.new.runner c.count-finish.result) c.requires.fresh c.count-finish.ensures.reported))
    c.count-finish.ensures.read_fault c.count-finish.ensures.write_fault

pub returns-clause-in_step : goal.returns-clause-in_step
returns-clause-in_step g c =
    let file = c.args.runner.parts in
    let left = g.F.Files.left c.args.files.now c.args.rows.now in
    let rest = g.F.Files.left c.count-finish.new.files c.args.rows.now in
    let out = output_of (g.O.Sink.faults c.args.out.now) (g.O.Sink.faults c.count-finish.new.out) (g.O.Sink.held c.args.out.now)
    (g.O.Sink.held c.count-finish.new.out) in
    in_step Counts (loaded file) (counts_by (behaviour_of file)) left rest out refl (counts-text file)
    (subst (λ r. InStep Counts r left rest out.before out.after) c.requires.fresh c.count-finish.ensures.in_step)
