use Rattle.std.specs.Prelude.{codes}
use Rattle.bl_ctext_semantics.specs.Parts.{parts_of}
use Rattle.bl_crun.proofs.Calls.{steps_of}
use Rattle.bl_crun.proofs.prepared.do_tick.Given as goal

abbrev pub ghost-call : goal.ghost-call
ghost-call a = steps_of (parts_of a._file.now) (codes "bl_tick") a.args.now a.machine.now
