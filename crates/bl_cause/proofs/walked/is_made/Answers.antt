use Rattle.std.proofs.Common.{sym}
use Rattle.bl_cause.proofs.walked.is_made.Goals as goal

pub is_made_by-requires : goal.is_made_by-requires
is_made_by-requires c = record { kind = c.requires; stands = sym c.in-Some.ensures }
