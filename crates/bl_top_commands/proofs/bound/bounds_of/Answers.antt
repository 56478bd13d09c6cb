-- Why a job stops at its text, and what is told of one that is within the limits.
use Rattle.bl_top_commands.proofs.Execs.{has_bounds, stops_at_load, stops_wanting}
use Rattle.bl_top_commands.proofs.bound.bounds_of.Goals as goal

pub returns-in-Err-check-clause-stopped : goal.returns-in-Err-check-clause-stopped
returns-in-Err-check-clause-stopped g c =
    stops_at_load _ _ c.in-Ok.file c.in-Err-check.fault c.end_at_load.result c.in-Ok.ensures.file c.in-Err-check.ensures.fault c.end_at_load.ensures

pub returns-in-Ok-bound_text-clause-bounds : goal.returns-in-Ok-bound_text-clause-bounds
returns-in-Ok-bound_text-clause-bounds g c =
    has_bounds _ c.in-Ok.file c.in-Ok-bound_text.bounds.items c.in-Ok.ensures.file c.texts_are_bounded.ensures c.in-Ok-check.ensures.runs
    c.in-Ok-bound_text.ensures

pub returns-clause-stopped : goal.returns-clause-stopped
returns-clause-stopped g c = stops_wanting _ _ _ _ c.plain.ensures
