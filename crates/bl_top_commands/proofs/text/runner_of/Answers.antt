-- Why a job stops at its text, and what is known of one that is loaded.
use Rattle.bl_ctext_semantics.specs.Parts.{parts_of}
use Rattle.bl_top_commands.proofs.Courses.{loaded_fresh, loaded_parts}
use Rattle.bl_top_commands.proofs.Execs.{has_loaded, stops_at_load}
use Rattle.bl_top_commands.proofs.text.runner_of.Goals as goal

pub returns-in-Ok-load-clause-loads : goal.returns-in-Ok-load-clause-loads
returns-in-Ok-load-clause-loads g c =
    has_loaded _ c.in-Ok.file c.in-Ok-load.runner.parts c.in-Ok.ensures.file c.texts_are_bounded.ensures c.in-Ok-load.ensures.runs
    (loaded_parts c.in-Ok-load.runner (parts_of c.in-Ok.file) c.in-Ok-load.ensures.loaded)

pub returns-in-Ok-load-clause-fresh : goal.returns-in-Ok-load-clause-fresh
returns-in-Ok-load-clause-fresh g c = loaded_fresh c.in-Ok-load.runner (parts_of c.in-Ok.file) c.in-Ok-load.ensures.loaded

pub returns-clause-stopped : goal.returns-clause-stopped
returns-clause-stopped g c =
    stops_at_load _ _ c.in-Ok.file c.in-Err-load.fault c.end_at_load.result c.in-Ok.ensures.file c.in-Err-load.ensures.fault c.end_at_load.ensures
