use Rattle.bl_top.proofs.Builds.{built_course, built_ends, built_rejected, built_runs}
use Rattle.bl_top.proofs.laws.a_built_text_runs_as_its_source.Goals as goal

pub returns-clause-parts : goal.returns-clause-parts
returns-clause-parts c = built_course c.bytes_behave_as_their_file.ensures.one c.rows_of_bytes_fit.ensures c.rows_of_lines_fit.ensures

pub returns-clause-source : goal.returns-clause-source
returns-clause-source c = built_runs c.bytes_behave_as_their_file.ensures.one c.rows_of_bytes_fit.ensures c.rows_of_lines_fit.ensures

pub returns-clause-rejected : goal.returns-clause-rejected
returns-clause-rejected c = built_rejected c.bytes_behave_as_their_file.ensures.each

pub returns-clause-ends : goal.returns-clause-ends
returns-clause-ends c =
    built_ends c.bytes_behave_as_their_file.ensures.one c.bytes_behave_as_their_file.ensures.each c.rows_of_bytes_fit.ensures
    c.rows_of_lines_fit.ensures
