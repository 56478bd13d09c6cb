use Rattle.bl_emit_file.proofs.Whole.{shows_program}
use Rattle.bl_emit_file.proofs.laws.programs_show.Goals as goal

pub returns : goal.returns
returns c program machine known =
    shows_program program machine known (record {
      built = c.activities_built.ensures;
      compile = c.programs_compile.ensures;
      come = c.compiled_simulate.ensures;
      rows = c.rows_suffice.ensures;
      runs = c.entry_runs.ensures;
      shows = c.written_shows.ensures;
      formed = c.programs_well_formed.ensures;
      count = c.files_count.ensures;
      small = c.files_small.ensures;
      own = c.files_own.ensures;
      ifs = c.files_have_ifs.ensures;
      wide = c.frames_have_width.ensures;
      earlier = c.units_use_earlier_ones.ensures;
      callers = c.instances_have_callers.ensures.callers;
    })
