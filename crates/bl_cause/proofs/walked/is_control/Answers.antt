use Rattle.std.proofs.Common.{sym}
use Rattle.bl_cause.proofs.WalkedLemmas.{control_there}
use Rattle.bl_cause.proofs.walked.is_control.Goals as goal

pub returns-in-Some : goal.returns-in-Some
returns-in-Some c = control_there c.args.control.now c.args.at c.in-Some.found.now c.args.edge (sym c.in-Some.ensures) c.requires
