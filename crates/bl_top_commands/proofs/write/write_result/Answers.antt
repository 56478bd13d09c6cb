-- What stands on `out` at each end.
use Rattle.std.proofs.Common.{ap, refl, Err}
use Rattle.bl_top_commands.proofs.Ends.{wrote_all, wrote_less, wrote_part}
use Rattle.bl_top_commands.proofs.write.write_result.Goals as goal

pub returns-in-Ok-clause-writes : goal.returns-in-Ok-clause-writes
returns-in-Ok-clause-writes g c = wrote_all _ _ _ _ _ c.plain.ensures refl refl c.in-Ok.ensures.all

pub returns-in-Err-Failed-clause-writes : goal.returns-in-Err-Failed-clause-writes
returns-in-Err-Failed-clause-writes g c =
    wrote_part _ _ _ _ _ c.plain-in-Err-Failed.ensures refl refl c.in-Err-Failed.ensures.err
    (c.in-Err-Failed.ensures.failed (ap Err c.in-Err-Failed.field-0-is))

pub returns-in-Err-NoMemory-clause-writes : goal.returns-in-Err-NoMemory-clause-writes
returns-in-Err-NoMemory-clause-writes g c = wrote_less _ _ _ _ _ c.plain-in-Err-NoMemory.ensures refl refl c.in-Err-NoMemory.ensures.err
