-- The file is loaded, unless memory is wanting, and has the program's trace.
use Rattle.bl_ctext_semantics.specs.Parts.{parts_of}
use Rattle.bl_top.proofs.Courses.{course_of_parts, wants_memory}
use Rattle.bl_top.proofs.Driven.{one_trace_of}
use Rattle.bl_top.proofs.run.runner_of.Goals as goal
use Rattle.bl_top_commands.proofs.Courses.{loaded_fresh, loaded_parts}

pub returns-in-Ok-clause-course : goal.returns-in-Ok-clause-course
returns-in-Ok-clause-course c =
    let program = c.args.accepted.now.program in
    course_of_parts program.structs program.units program.entry c.in_ok-file.file c.in-Ok.runner.parts
    (loaded_parts c.in-Ok.runner (parts_of c.in_ok-file.file) c.in-Ok.ensures.loaded) c.in_ok-file.ensures
    c.rows_of_bytes_fit.ensures c.rows_of_lines_fit.ensures

pub returns-in-Ok-clause-one_trace : goal.returns-in-Ok-clause-one_trace
returns-in-Ok-clause-one_trace c =
    let program = c.args.accepted.now.program in
    one_trace_of program.structs program.units program.entry (parts_of c.in_ok-file.file) c.in-Ok.runner.parts
    (loaded_parts c.in-Ok.runner (parts_of c.in_ok-file.file) c.in-Ok.ensures.loaded) c.in_ok-file.ensures.one_trace

pub returns-in-Ok-clause-fresh : goal.returns-in-Ok-clause-fresh
returns-in-Ok-clause-fresh c = loaded_fresh c.in-Ok.runner (parts_of c.in_ok-file.file) c.in-Ok.ensures.loaded

pub wanting-requires : goal.wanting-requires
wanting-requires c =
    let program = c.args.accepted.now.program in
    wants_memory c.in_ok-file.file program.structs program.units program.entry c.in-Err.fault
    c.in_ok-file.ensures c.in-Err.ensures.fault
